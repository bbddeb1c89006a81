-- Stretches of a tag, and how they are read.
use Rattle.std.proofs.Common.{◌≡◌, ◌≢◌, ℕ, zero, suc, ◌+◌, ◌-◌, ◌<◌, Bool, true, false, not, ◌||◌, ◌==◌, List, [], ◌∷◌, ◌++◌, length, map, take, drop, refl, sym, ap, subst, ◌∙◌, arith, inl, inr, IsUtf8, IsCharBoundary, get_or}
use Rattle.std.proofs.lemmas.Bool.{cases_Bool, cases_lt, and_parts, and_from, eqb-true, both_ways}
use Rattle.std.proofs.lemmas.Bool.Decides.{nat_tests}
use Rattle.std.proofs.lemmas.List.Sums.{prefix_len-le-length, prefix_len_passes, prefix_len_stops}
use Rattle.std.proofs.lemmas.List.{take_all, length-drop}
use Rattle.std.proofs.lemmas.Str.{IsUtf8-take, IsCharBoundary-start, IsCharBoundary-after_ascii}
use Rattle.std.specs.List.{list_all, prefix_len}
use Rattle.std.specs.Str.{chars}
use Rattle.html_syntax.specs.Token.{Token}
use Rattle.html_syntax.specs.States.{State}
use Rattle.html_syntax.specs.Tokenizer.{read, normalize_newlines}
use Rattle.html_references.specs.Input.{input}
use Rattle.html_tokens.specs.Tags.{BeginsOutside}
use Rattle.html_tokens.proofs.Runs.{Reader, Keeps, run}
use Rattle.html_references.proofs.Stretches.{PassesWide, input-first, input-cons, input-nil, input-return_feed, input-return_alone, input-cut_plain, all-input, boundary_at, utf8_tail}

-- ---- the leading bytes of a class

one : (n : ℕ) → 1 + n ≡ suc n
one n = omega arith

pub prefix_all : (p : ℕ → Bool) (bytes : List ℕ) → list_all p (take (prefix_len p bytes) bytes) ≡ true
prefix_all p [] = refl
prefix_all p (b ∷ bytes) = elim (cases_Bool (p b)) [
  | inl is ↦ rw (is, one (prefix_len p bytes)) (and_from (p b) (list_all p (take (prefix_len p bytes) bytes)) is (prefix_all p bytes))
  | inr other ↦ rw other refl
]

pub prefix_outside : (p : ℕ → Bool) (bytes : List ℕ) → BeginsOutside p (drop (prefix_len p bytes) bytes)
prefix_outside p [] = tt
prefix_outside p (b ∷ bytes) = elim (cases_Bool (p b)) [
  | inl is ↦ rw (is, one (prefix_len p bytes)) (prefix_outside p bytes)
  | inr other ↦ rw other other
]

-- a class that has every byte that is not ASCII
stop_small : (p : ℕ → Bool) → PassesWide p → (bytes : List ℕ) → prefix_len p bytes < length bytes → get_or bytes (prefix_len p bytes) 0 < 128
stop_small p wide bytes lt = elim (cases_lt (get_or bytes (prefix_len p bytes) 0) 128) [
  | inl small ↦ small
  | inr big ↦ absurd (both_ways (p (get_or bytes (prefix_len p bytes) 0)) (prefix_len_stops p bytes 0 lt) (wide (get_or bytes (prefix_len p bytes) 0) big))
]

pub wide_boundary : (p : ℕ → Bool) → PassesWide p → (bytes : List ℕ) → IsCharBoundary bytes (prefix_len p bytes)
wide_boundary p wide bytes = boundary_at (prefix_len p bytes) bytes (prefix_len-le-length p bytes) (stop_small p wide bytes)

-- the same after a byte that begins a character
pub next_boundary : (p : ℕ → Bool) → PassesWide p → (b : ℕ) (bytes : List ℕ) → IsCharBoundary (b ∷ bytes) (1 + prefix_len p bytes)
next_boundary p wide b bytes =
    let n = prefix_len p bytes in
    rw (one n) (boundary_at (suc n) (b ∷ bytes) (omega (arith, prefix_len-le-length p bytes)) (λ lt. stop_small p wide bytes (omega arith)))

-- a class that has none
abbrev pub IsSmall : (ℕ → Bool) → Type 0
IsSmall p = (b : ℕ) → p b ≡ true → b < 128

pub small_boundary : (p : ℕ → Bool) → IsSmall p → (bytes : List ℕ) → IsUtf8 bytes → IsCharBoundary bytes (prefix_len p bytes)
small_boundary p small bytes utf8 = from (prefix_len p bytes) refl
  where
    from : (n : ℕ) → prefix_len p bytes ≡ n → IsCharBoundary bytes (prefix_len p bytes)
    from zero e = rw e (IsCharBoundary-start bytes utf8)
    from (suc k) e =
        let within : k < length bytes = omega (arith, prefix_len-le-length p bytes, e) in
        let here : p (get_or bytes k 0) ≡ true = prefix_len_passes p bytes k 0 (omega (arith, e)) in
        let place : k + 1 ≡ prefix_len p bytes = omega (arith, e) in
        subst (IsCharBoundary bytes) place (IsCharBoundary-after_ascii bytes k utf8 within (small (get_or bytes k 0) here))

-- the rest of a slice from a place on
pub sliced : (n : ℕ) (l : List ℕ) → take (length l - n) (drop n l) ≡ drop n l
sliced n l = take_all (length l - n) (drop n l) (omega (arith, length-drop n l))

-- ---- characters that a state passes over

abbrev pub PassesOver : State → (ℕ → Bool) → Type 0
PassesOver s p = (c : ℕ) (text : List ℕ) → p c ≡ true → read s 0 (c ∷ text) ≡ read s 0 text

-- the bytes that are read as such characters
abbrev pub with_return : (ℕ → Bool) → ℕ → Bool
with_return p b = p b || b == 13

return_passed : (s : State) (p : ℕ → Bool) → PassesOver s p → p 10 ≡ true → (bytes : List ℕ) → IsUtf8 bytes → read s 0 (input (13 ∷ bytes)) ≡ read s 0 (input bytes)
return_passed s p over feed [] utf8 = rw (input-return_alone [] utf8 tt) (over 10 (input []) feed)
return_passed s p over feed (b ∷ bytes) utf8 = elim (cases_Bool (b == 10)) [
  | inl is ↦
      let e : b ≡ 10 = eqb-true b 10 is in
      rw (e, input-return_feed bytes, input-cons 10 bytes (omega arith) (λ (x : 10 ≡ 13). omega arith)) refl
  | inr other ↦
      let no_feed : b ≢ 10 = (λ (x : b ≡ 10). let y : (10 == 10) ≡ false = rw x at other in cc) in
      rw (input-return_alone (b ∷ bytes) utf8 no_feed) (over 10 (input (b ∷ bytes)) feed)
]

pub byte_passed : (s : State) (p : ℕ → Bool) → PassesOver s p → p 10 ≡ true → IsSmall p → (b : ℕ) (bytes : List ℕ) → IsUtf8 bytes → with_return p b ≡ true
    → read s 0 (input (b ∷ bytes)) ≡ read s 0 (input bytes)
byte_passed s p over feed small b bytes utf8 h = elim (cases_Bool (b == 13)) [
  | inl is ↦
      let e : b ≡ 13 = eqb-true b 13 is in
      rw e (return_passed s p over feed bytes utf8)
  | inr other ↦
      let here : p b ≡ true = (grind (arith, nat_tests)) in
      let no_return : b ≢ 13 = (λ (x : b ≡ 13). let y : (13 == 13) ≡ false = rw x at other in cc) in
      rw (input-cons b bytes (small b here) no_return) (over b (input bytes) here)
]

pub passed : (s : State) (p : ℕ → Bool) → PassesOver s p → p 10 ≡ true → IsSmall p → (bytes : List ℕ) → IsUtf8 bytes
    → read s 0 (input bytes) ≡ read s 0 (input (drop (prefix_len (with_return p) bytes) bytes))
passed s p over feed small [] utf8 = refl
passed s p over feed small (b ∷ bytes) utf8 = elim (cases_Bool (with_return p b)) [
  | inl is ↦
      let ascii : b < 128 = elim (cases_Bool (p b)) [
        | inl here ↦ small b here
        | inr other ↦ (let e : b ≡ 13 = eqb-true b 13 (rw other at is) in omega (arith, e))
      ] in
      let tail = utf8_tail b bytes ascii utf8 in
      rw (is, one (prefix_len (with_return p) bytes)) (byte_passed s p over feed small b bytes tail is ∙ passed s p over feed small bytes tail)
  | inr other ↦ rw other refl
]

-- ---- characters that a state keeps

pub weaker : (p q : ℕ → Bool) → ((b : ℕ) → p b ≡ true → q b ≡ true) → (bytes : List ℕ) → list_all p bytes ≡ true → list_all q bytes ≡ true
weaker p q gives [] h = refl
weaker p q gives (b ∷ bytes) h =
    let parts = and_parts (p b) (list_all p bytes) h in
    and_from (q b) (list_all q bytes) (gives b parts.0) (weaker p q gives bytes parts.1)

-- a class without the carriage return, which has every byte that is not ASCII
pub record IsWide (p : ℕ → Bool) : Type 0 where
  pub wide : PassesWide p
  pub no_return : p 13 ≡ false

plain_of : (p : ℕ → Bool) → p 13 ≡ false → (b : ℕ) → p b ≡ true → not (b == 13) ≡ true
plain_of p none b h = elim (cases_Bool (b == 13)) [
  | inl is ↦ absurd (both_ways (p 13) none (sym (ap p (eqb-true b 13 is)) ∙ h))
  | inr other ↦ rw other refl
]

pub record Cut (p : ℕ → Bool) (bytes : List ℕ) : Type 0 where
  pub is : input bytes ≡ input (take (prefix_len p bytes) bytes) ++ input (drop (prefix_len p bytes) bytes)
  pub all : list_all p (input (take (prefix_len p bytes) bytes)) ≡ true

pub cut : (p : ℕ → Bool) → IsWide p → (bytes : List ℕ) → IsUtf8 bytes → Cut p bytes
cut p w bytes utf8 =
    let n = prefix_len p bytes in
    let front : IsUtf8 (take n bytes) = IsUtf8-take bytes n utf8 (wide_boundary p w.wide bytes) in
    let all : list_all p (take n bytes) ≡ true = prefix_all p bytes in
    record {
      is = input-cut_plain n bytes front (weaker p (λ c. not (c == 13)) (plain_of p w.no_return) (take n bytes) all);
      all = all-input p w.wide (λ h. absurd (both_ways (p 13) w.no_return h)) (take n bytes) front all;
    }

pub kept : (F : Reader) (p : ℕ → Bool) (plain : ℕ → ℕ) → IsWide p → Keeps F p plain → (k bytes : List ℕ) → IsUtf8 bytes
    → F k 0 (input bytes) ≡ F (k ++ map plain (input (take (prefix_len p bytes) bytes))) 0 (input (drop (prefix_len p bytes) bytes))
kept F p plain w keeps k bytes utf8 =
    let c = cut p w bytes utf8 in
    ap (F k 0) c.is ∙ run F p plain keeps k (input (take (prefix_len p bytes) bytes)) (input (drop (prefix_len p bytes) bytes)) c.all

-- ---- the character at which a stretch ends

-- the first character of a text that begins with an ASCII byte
pub head_return : (bytes : List ℕ) → (more : List ℕ) × (input (13 ∷ bytes) ≡ 10 ∷ more)
unfolding input normalize_newlines chars
head_return [] = ([], refl)
head_return (b ∷ bytes) = (normalize_newlines true (chars (b ∷ bytes)), refl)

-- two readers that agree at the end of a text and at these characters
pub record Agree (A B : List ℕ → List Token) (q : ℕ → Bool) : Type 0 where
  pub ends : A [] ≡ B []
  pub here : (c : ℕ) (text : List ℕ) → q c ≡ true → A (c ∷ text) ≡ B (c ∷ text)

-- What does not belong to a class is ASCII, and passes a test.
pub record Leaves (p q : ℕ → Bool) : Type 0 where
  pub small : (b : ℕ) → p b ≡ false → b < 128
  pub passes : (b : ℕ) → p b ≡ false → (b == 13) ≡ false → q b ≡ true
  pub feed : q 10 ≡ true

pub at_stop : (A B : List ℕ → List Token) (p q : ℕ → Bool) → Agree A B q → Leaves p q → (bytes : List ℕ) → BeginsOutside p bytes → A (input bytes) ≡ B (input bytes)
at_stop A B p q agree leaves [] outside = rw input-nil agree.ends
at_stop A B p q agree leaves (b ∷ bytes) outside = elim (cases_Bool (b == 13)) [
  | inl is ↦
      let e : b ≡ 13 = eqb-true b 13 is in
      let head = head_return bytes in
      rw (e, head.1) (agree.here 10 head.0 leaves.feed)
  | inr other ↦
      let no_return : b ≢ 13 = (λ (x : b ≡ 13). let y : (13 == 13) ≡ false = rw x at other in cc) in
      rw (input-cons b bytes (leaves.small b outside) no_return) (agree.here b (input bytes) (leaves.passes b outside other))
]

-- two readers that agree at every character that is not ASCII
pub at_first : (A B : List ℕ → List Token) (q : ℕ → Bool) → Agree A B q → PassesWide q → q 13 ≡ false → (b : ℕ) (bytes : List ℕ) → IsUtf8 (b ∷ bytes) → q b ≡ true
    → A (input (b ∷ bytes)) ≡ B (input (b ∷ bytes))
at_first A B q agree wide no_return b bytes utf8 h =
    let f = input-first q wide (λ x. absurd (both_ways (q 13) no_return x)) b bytes utf8 h in
    rw f.is (agree.here f.char f.rest f.passes)
