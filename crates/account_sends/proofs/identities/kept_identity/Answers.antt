use Rattle.std.proofs.Common.{◌≡◌, ◌∙◌, ℕ, ◌+◌, ◌<◌, List, length, get_or, drop, sym, ap, cond, Bool}
use Rattle.std.specs.Prelude.{◌==◌, Some}
use Rattle.std.specs.Map.{lookup}
use Rattle.std.proofs.lemmas.Bool.{eq-eqb}
use Rattle.std.proofs.lemmas.List.{drop_more}
use Rattle.account_pictures.specs.declared.records.Identity.{Identity}
use Rattle.account_sends.specs.Sends.{has_number}
use Rattle.account_sends.proofs.identities.kept_identity.Goals as goal

at_place : (kept : List (ℕ × Identity)) (number i : ℕ) (d : ℕ × Identity) (one : ℕ × Identity) → i < length kept → one ≡ get_or kept i d → lookup (has_number number) (drop i kept) ≡ cond (one.0 == number) (Some one.1) (lookup (has_number number) (drop (i + 1) kept))
at_place kept number i d one within is =
    ap (lookup (has_number number)) (drop_more kept i d within) ∙ ap (λ (x : ℕ × Identity). cond (x.0 == number) (Some x.1) (lookup (has_number number) (drop (i + 1) kept))) (sym is)

pub returns-then-one-number-clause-some : goal.returns-then-one-number-clause-some
returns-then-one-number-clause-some c =
    c.loop-one.invariant ∙ at_place c.args.kept.now c.args.number c.loop-one.one-index c.one-item.result c.one-item.result c.loop-one-test.true c.one-item.is
    ∙ ap (λ (b : Bool). cond b (Some c.one-item.result.1) (lookup (has_number c.args.number) (drop (c.loop-one.one-index + 1) c.args.kept.now))) (eq-eqb c.one-item.result.0 c.args.number c.if-one-number.true)
