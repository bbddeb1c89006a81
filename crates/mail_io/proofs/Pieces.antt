-- One more piece taken by a sink.
use Rattle.std.proofs.Common.{ℕ, ◌+◌, ◌≤◌, List, length, take, drop, subst, Option}
use Rattle.std.specs.Io.KnownBytes.{Appends}
use Rattle.std.proofs.KnownBytes.{Appends-trans}
use Rattle.mail_values.proofs.Prefixes.{take_further}

-- a sink that took the first i bytes takes n more of the rest
pub taken_further : (a b c : Option (List ℕ)) (xs : List ℕ) (i n : ℕ) → i ≤ length xs → Appends a b (take i xs) → Appends b c (take n (drop i xs)) → Appends a c (take (i + n) xs)
taken_further a b c xs i n h p q = subst (λ bs. Appends a c bs) (take_further xs i n h) (Appends-trans a b c (take i xs) (take n (drop i xs)) p q)
