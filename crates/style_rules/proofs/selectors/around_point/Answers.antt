use Rattle.std.proofs.Common.{◌≡◌, ◌+◌, true, take, drop, get_or, eq-eqb, sym, ap, ◌∙◌}
use Rattle.std.proofs.lemmas.List.{take_rest}
use Rattle.std.proofs.lemmas.List.Folds.{list_any_at}
use Rattle.style_wash.specs.Characters.{is_point}
use Rattle.style_rules.proofs.TextSteps.{first_at}
use Rattle.style_rules.proofs.selectors.around_point.Goals as goal

pub returns-then-c-eq46 : goal.returns-then-c-eq46
returns-then-c-eq46 c =
    let text = c.args.text.now in
    let i = c.loop-i.i in
    let here : is_point (get_or text i 0) ≡ true = eq-eqb _ 46 c.if-c-eq46.true in
    let at = first_at is_point text i c.loop-i-test.true c.loop-i.invariant here in
    (list_any_at is_point text i 0 c.loop-i-test.true here, ap (λ n. take n text) (sym at), take_rest text (i + 1) ∙ ap (λ n. drop (n + 1) text) (sym at))
