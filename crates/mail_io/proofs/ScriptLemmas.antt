-- Bytes of the first chunk that were passed over.
use Rattle.std.proofs.Common.{◌≡◌, ℕ, ◌+◌, ◌-◌, ◌<◌, ◌≤◌, List, [], ◌∷◌, length, drop, refl, sym, ap, arith, length-drop}
use Rattle.std.proofs.lemmas.Bool.{lt-ltb, le-ltb}
use Rattle.std.proofs.lemmas.List.{drop-drop}
use Rattle.mail_io.specs.Scripts.{drop_front, front_chunk, chunks_after}

-- less than all of the first chunk
pub advanced : (at count : ℕ) (chunks : List (List ℕ)) → count < length (front_chunk chunks) - at → drop_front (at + count) chunks ≡ chunks_after count (drop_front at chunks)
advanced at count [] h = refl
advanced at count (chunk ∷ chunks) h =
    let less : count < length (drop at chunk) = omega (h, length-drop {A = ℕ}, arith) in
    rw (lt-ltb count (length (drop at chunk)) less) (ap (λ (c : List ℕ). c ∷ chunks) (sym (drop-drop count at chunk)))

pub drop_front-0 : (chunks : List (List ℕ)) → drop_front 0 chunks ≡ chunks
drop_front-0 [] = refl
drop_front-0 (chunk ∷ chunks) = refl

-- all of it
pub used_up : (at count : ℕ) (chunks rest : List (List ℕ)) → rest ≡ drop 1 chunks → length (front_chunk chunks) - at ≤ count → drop_front 0 rest ≡ chunks_after count (drop_front at chunks)
used_up at count [] rest split all = rw split refl
used_up at count (chunk ∷ chunks) rest split all =
    let gone : length (drop at chunk) ≤ count = omega (all, length-drop {A = ℕ}, arith) in
    rw (split, le-ltb count (length (drop at chunk)) gone) (drop_front-0 chunks)
