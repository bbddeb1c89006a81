use lib.Utf8.{encode}
use Rattle.std.proofs.Common.{sym, ap, ◌∙◌, true, false, arith}
use Rattle.std.specs.Prelude.{string_bytes}
use Rattle.std.proofs.lemmas.List.{append-nil}
use Rattle.flowed_text.proofs.Written.{line_written, mark_more}
use Rattle.flowed_text.proofs.writing.write_line.Goals as goal
use Rattle.flowed_text.proofs.writing.write_line.Goals.{then-is_stuffed+in_ok-push-2, else-is_stuffed}

pub loop-init : goal.loop-init
loop-init c = sym (append-nil (string_bytes c.args.out.now))

pub loop-preserved : goal.loop-preserved
unfolding encode
loop-preserved c = mark_more (string_bytes c.args.out.now) (string_bytes c.loop.out) _ c.loop.counter c.loop.invariant c.in_ok-push.ensures.bytes

pub returns : goal.returns
unfolding encode
returns c =
    elim c.if-is_stuffed.branch [
      | then-is_stuffed+in_ok-push-2 w ↦
          line_written c.push_str-2.result (string_bytes c.args.out.now) (string_bytes c.loop.out) (string_bytes c.if-is_stuffed.out) (string_bytes c.push_str.new.self) (string_bytes c.push_str-2.new.self)
          c.args.text.now c.args.depth c.loop.counter true c.loop.invariant (omega arith) (ap string_bytes w.out-is ∙ w.in_ok-push-2.ensures.bytes) w.if-is_stuffed.ensures c.in_ok-push_str.ensures.bytes c.push_str-2.ensures.bytes
      | else-is_stuffed w ↦
          line_written c.push_str-2.result (string_bytes c.args.out.now) (string_bytes c.loop.out) (string_bytes c.if-is_stuffed.out) (string_bytes c.push_str.new.self) (string_bytes c.push_str-2.new.self)
          c.args.text.now c.args.depth c.loop.counter false c.loop.invariant (omega arith) (ap string_bytes w.out-is ∙ sym (append-nil (string_bytes c.loop.out))) w.if-is_stuffed.ensures c.in_ok-push_str.ensures.bytes c.push_str-2.ensures.bytes
    ]
