use Rattle.std.proofs.Common.{◌≡◌, true, not, sym, ap, get_or, eq-eqb, ◌∙◌}
use Rattle.std.specs.Prelude.{◌==◌}
use Rattle.std.proofs.lemmas.List.Folds.{list_any_at}
use Rattle.form_pages.proofs.identities.is_free.Goals as goal

pub returns-then-entry-number : goal.returns-then-entry-number
returns-then-entry-number c =
    let entry = c.entry-item.result in
    let same : (get_or c.args.kept.now c.loop-entry.entry-index entry).0 ≡ c.args.number = ap (λ e. e.0) (sym c.entry-item.is) ∙ c.if-entry-number.true in
    let found : ((get_or c.args.kept.now c.loop-entry.entry-index entry).0 == c.args.number) ≡ true = eq-eqb _ _ same in
    ap not (sym (list_any_at (λ e. e.0 == c.args.number) c.args.kept.now c.loop-entry.entry-index entry c.loop-entry-test.true found))
