-- What one read from a list of bytes leaves.
use Rattle.std.proofs.Common.{◌≡◌, ℕ, ◌+◌, ◌<◌, ◌≤◌, List, [], ◌++◌, length, take, drop, min, sym, ap, ◌∙◌, arith, length-append, length-drop}
use Rattle.std.proofs.lemmas.List.{take-append-le, take-append-drop, drop-drop, length-take-le, drop_all}
use Rattle.std.proofs.Math.Seq.{take-length}

-- the first n bytes that were left were put at the front of the room
pub given_front : (bytes room got : List ℕ) (at n : ℕ) → got ≡ take n (drop at bytes) → n ≤ length (drop at bytes) → drop at bytes ≡ take n (got ++ drop n room) ++ drop (at + n) bytes
given_front bytes room got at n e h =
    let size : length got ≡ n = ap length e ∙ length-take-le n (drop at bytes) h in
    let le : n ≤ length got = omega arith in
    let whole : take n got ≡ got = ap (λ k. take k got) (sym size) ∙ take-length got in
    let front : take n (got ++ drop n room) ≡ take n (drop at bytes) = take-append-le n got (drop n room) le ∙ whole ∙ e in
    rw (front, ← drop-drop n at bytes) (sym (take-append-drop n (drop at bytes)))

-- where nothing was given though there was room, nothing is left
pub given_end : (bytes room got : List ℕ) (at n : ℕ) → got ≡ take n (drop at bytes) → n ≡ min (length (drop at bytes)) (length room) → n ≡ 0 → 0 < length (got ++ drop n room) → drop (at + n) bytes ≡ []
given_end bytes room got at n e m z some =
    let size : length got ≡ n = ap length e ∙ length-take-le n (drop at bytes) (omega arith) in
    let rest : length (drop at bytes) ≡ 0 = omega (arith, length-append {A = ℕ}, length-drop {A = ℕ}) in
    drop_all (at + n) bytes (omega (arith, length-drop {A = ℕ}))
