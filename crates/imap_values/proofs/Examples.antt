-- Worked examples of strings.
use Rattle.std.proofs.Common.{◌≡◌, ℕ, [], ◌∷◌, ◌++◌, Some, None, refl, codes}
use Rattle.imap_values.specs.Strings.{literal_at, longest_literal}
use Rattle.imap_values.specs.Words.{number_at, take_while1_at}

-- a literal has its octets, and what follows them is left
two_octets : literal_at (codes "2}" ++ 13 ∷ 10 ∷ codes "ab c") ≡ Some (codes "ab", codes " c")
unfolding literal_at number_at take_while1_at
two_octets = refl

missing_octets : literal_at (codes "2}" ++ 13 ∷ 10 ∷ codes "a") ≡ None
unfolding literal_at number_at take_while1_at
missing_octets = refl

longest : longest_literal ≡ 33_554_432
longest = refl
