-- Worked examples of sections.
use Rattle.std.proofs.Common.{◌≡◌, [], ◌∷◌, refl, codes, arith, rules}
use Rattle.std.specs.Prelude.{replicate}
use Rattle.std.proofs.lemmas.List.Elements.{All-replicate}
use Rattle.std.specs.Fmt.{digits}
use Rattle.mail_values.specs.Section.{IsNumber, IsSection, spelling}

dots : spelling (2 ∷ 1 ∷ 65535 ∷ []) ≡ codes "2.1.65535"
unfolding digits
dots = refl

-- 40 numbers are a section, and no 41 are
forty : IsSection (replicate 40 1)
forty = record { nonempty = search rules; few = search rules; each = All-replicate IsNumber 40 1 (grind arith) }

forty_one : IsSection (replicate 41 1) → ⊥
forty_one section = grind (arith, section.few)

-- a number is 1 to 65,535
numbers : IsNumber 1 × IsNumber 65535
numbers = grind arith

zero_is_none : IsNumber 0 → ⊥
zero_is_none number = grind (arith, number.nonzero)

too_large : IsNumber 65536 → ⊥
too_large number = grind (arith, number.small)
