use Rattle.std.proofs.Common.{refl}
use lib.Utf8.{encode}
use Rattle.std.specs.Prelude.{string_bytes}
use Rattle.style_rules.specs.Blocks.{spaced}
use Rattle.style_rules.proofs.TextSteps.{spaced_pushed}
use Rattle.style_rules.proofs.comments.space_comments.Goals as goal

pub loop-front-init : goal.loop-front-init
loop-front-init c = record { utf8 = c.utf8.text; whole = rw c.in_ok-out.ensures.bytes refl }

pub loop-front-preserved : goal.loop-front-preserved
unfolding encode
loop-front-preserved c = record {
  utf8 = c.in-Some.ensures.2;
  whole = spaced_pushed (string_bytes c.loop-front.out) (string_bytes c.push_str.new.self) (string_bytes c.push.new.self) c.in-Some.front.now c.in-Some.after.now c.loop-front.rest.now (spaced c.args.text.now)
      c.in_ok-push_str.ensures.bytes (c.in_ok-push.ensures.bytes) c.in-Some.ensures.0 c.loop-front.invariant.whole;
}
