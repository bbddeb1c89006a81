use Rattle.std.proofs.Common.{List, ℕ, sym, ap, ◌∙◌, chars}
use Rattle.html_syntax.specs.States.{same}
use Rattle.html_syntax.proofs.Texts.{same_text, same_sym}
use Rattle.html_syntax.proofs.Pairs.{has_name-found, has_name-passed}
use Rattle.html_tokens.proofs.attribute_list.is_among.Goals as goal

pub returns-then-eq : goal.returns-then-eq
returns-then-eq c =
    let compared = c.eq.ensures ∙ same_text c.as_str.result.now c.args.name.now c.as_str.utf8 c.utf8.name ∙ same_sym (chars c.args.name.now) (chars c.as_str.result.now) ∙ ap (λ (b : List ℕ). same (chars b) (chars c.args.name.now)) c.as_str.ensures.value in
    has_name-found _ _ _ _ c.loop-known-item.result c.loop-known-test.true c.loop-known-item.is (sym compared ∙ c.if-eq.true) c.loop-known.invariant

pub loop-known-preserved : goal.loop-known-preserved
loop-known-preserved c =
    let compared = c.eq.ensures ∙ same_text c.as_str.result.now c.args.name.now c.as_str.utf8 c.utf8.name ∙ same_sym (chars c.args.name.now) (chars c.as_str.result.now) ∙ ap (λ (b : List ℕ). same (chars b) (chars c.args.name.now)) c.as_str.ensures.value in
    has_name-passed _ _ _ _ c.loop-known-item.result c.loop-known-test.true c.loop-known-item.is (sym compared ∙ c.if-eq.false) c.loop-known.invariant
