-- The input stream of a text by stretches, and of a byte at a time.
use Rattle.std.proofs.Common.{◌≡◌, ◌≢◌, ℕ, ◌<◌, ◌≤◌, Bool, true, false, not, ◌&&◌, ◌==◌, List, [], ◌∷◌, ◌++◌, length, take, drop, refl, sym, ap, subst, ◌∙◌, append_assoc, arith, IsUtf8, IsCharBoundary, inl, inr, get_or}
use Rattle.std.proofs.lemmas.Bool.{cases_Bool, cases_lt, eqb-true, ne_eqb, and_parts, and_from, lt-ltb, not-true}
use Rattle.std.proofs.lemmas.List.{take-append-drop, drop_more, drop_all}
use Rattle.std.proofs.lemmas.Str.{encode_ascii, chars-append, chars-nil, encodes-chars, IsUtf8-drop, IsCharBoundary-after_ascii}
use Rattle.std.specs.List.{list_all}
use Rattle.std.specs.Str.{chars}
use lib.Utf8.{encode, encodes}
use Rattle.html_syntax.specs.Tokenizer.{normalize_newlines, normalize_char}
use Rattle.html_references.specs.Input.{input}

-- ---- a byte at a time

pub input-nil : input [] ≡ []
unfolding input normalize_newlines chars
input-nil = refl

-- an ASCII byte that is read as itself
pub input-cons : (b : ℕ) (bytes : List ℕ) → b < 128 → b ≢ 13 → input (b ∷ bytes) ≡ b ∷ input bytes
unfolding input normalize_newlines chars
input-cons b [] small other = rw (lt-ltb b 128 small, ne_eqb b 13 other) refl
input-cons b (d ∷ bytes) small other = rw (lt-ltb b 128 small, ne_eqb b 13 other) refl

-- CR LF
pub input-return_feed : (bytes : List ℕ) → input (13 ∷ 10 ∷ bytes) ≡ 10 ∷ input bytes
unfolding input normalize_newlines chars
input-return_feed [] = refl
input-return_feed (d ∷ bytes) = refl

-- ---- two stretches

-- The stretch before this text can be read alone: the text is empty or begins with an ASCII character other than LF.
abbrev pub IsMarked : List ℕ → Type 0
IsMarked [] = Unit {0}
IsMarked (b ∷ bytes) = (b < 128) × (b ≢ 10)

abbrev after : Bool → List ℕ → Bool
after flag [] = flag
after flag (c ∷ cs) = after (c == 13) cs

newlines-append : (flag : Bool) (xs ys : List ℕ) → normalize_newlines flag (xs ++ ys) ≡ normalize_newlines flag xs ++ normalize_newlines (after flag xs) ys
unfolding normalize_newlines
newlines-append flag [] ys = refl
newlines-append flag (c ∷ xs) ys = ap (λ (l : List ℕ). normalize_char flag c ++ l) (newlines-append (c == 13) xs ys) ∙ sym (append_assoc (normalize_char flag c) (normalize_newlines (c == 13) xs) (normalize_newlines (after (c == 13) xs) ys))

-- after a carriage return or not, this text is read alike
newlines-flag : (flag : Bool) (bytes : List ℕ) → IsMarked bytes → normalize_newlines flag (chars bytes) ≡ input bytes
unfolding normalize_newlines input chars
newlines-flag true [] m = refl
newlines-flag true (b ∷ []) m = rw (lt-ltb b 128 m.0, ne_eqb b 10 m.1) refl
newlines-flag true (b ∷ d ∷ bytes) m = rw (lt-ltb b 128 m.0, ne_eqb b 10 m.1) refl
newlines-flag false bytes m = refl

-- a carriage return before anything but a line feed
pub input-return : (bytes : List ℕ) → IsMarked bytes → input (13 ∷ bytes) ≡ 10 ∷ input bytes
unfolding normalize_newlines input chars
input-return [] m = refl
input-return (b ∷ []) m = rw (lt-ltb b 128 m.0, ne_eqb b 10 m.1) refl
input-return (b ∷ d ∷ bytes) m = rw (lt-ltb b 128 m.0, ne_eqb b 10 m.1) refl

pub input-append : (xs ys : List ℕ) → IsUtf8 xs → IsMarked ys → input (xs ++ ys) ≡ input xs ++ input ys
unfolding input
input-append xs ys utf8 m =
    ap (normalize_newlines false) (chars-append xs ys utf8)
    ∙ newlines-append false (chars xs) (chars ys)
    ∙ ap (λ (l : List ℕ). normalize_newlines false (chars xs) ++ l) (newlines-flag (after false (chars xs)) ys m)

-- ---- tests that every character of a stretch passes

all-append : (p : ℕ → Bool) (xs ys : List ℕ) → list_all p (xs ++ ys) ≡ true → (list_all p xs ≡ true) × (list_all p ys ≡ true)
all-append p [] ys h = (refl, h)
all-append p (x ∷ xs) ys h =
    let parts = and_parts (p x) (list_all p (xs ++ ys)) h in
    let rest = all-append p xs ys parts.1 in
    (and_from (p x) (list_all p xs) parts.0 rest.0, rest.1)

-- a test that every character passes that is not ASCII
abbrev pub PassesWide : (ℕ → Bool) → Type 0
PassesWide p = (c : ℕ) → 128 ≤ c → p c ≡ true

all-decoded : (p : ℕ → Bool) → PassesWide p → (cs : List ℕ) → list_all p (encodes cs) ≡ true → list_all p cs ≡ true
all-decoded p wide [] h = refl
all-decoded p wide (c ∷ cs) h =
    let parts = all-append p (encode c) (encodes cs) h in
    let here : p c ≡ true = elim (cases_lt c 128) [
      | inl small ↦ (and_parts (p c) true ((rw (encode_ascii c small) at parts.0))).0
      | inr big ↦ wide c big
    ] in
    and_from (p c) (list_all p cs) here (all-decoded p wide cs parts.1)

-- the characters of a stretch pass a test that its bytes pass
pub all-chars : (p : ℕ → Bool) → PassesWide p → (bytes : List ℕ) → IsUtf8 bytes → list_all p bytes ≡ true → list_all p (chars bytes) ≡ true
all-chars p wide bytes utf8 h = all-decoded p wide (chars bytes) (ap (list_all p) (encodes-chars bytes utf8) ∙ h)

all-newlines : (p : ℕ → Bool) → (p 13 ≡ true → p 10 ≡ true) → (flag : Bool) (cs : List ℕ) → list_all p cs ≡ true → list_all p (normalize_newlines flag cs) ≡ true
unfolding normalize_newlines
all-newlines p feed flag [] h = refl
all-newlines p feed flag (c ∷ cs) h =
    let parts = and_parts (p c) (list_all p cs) h in
    let rest = all-newlines p feed (c == 13) cs parts.1 in
    elim (cases_Bool (c == 13)) [
      | inl is ↦
          let e : c ≡ 13 = eqb-true c 13 is in
          rw is (and_from (p 10) (list_all p (normalize_newlines true cs)) (feed (sym (ap p e) ∙ parts.0)) (rw is at rest))
      | inr other ↦ elim (cases_Bool (flag && c == 10)) [
        | inl both ↦ rw (other, both) (rw other at rest)
        | inr none ↦ rw (other, none) (and_from (p c) (list_all p (normalize_newlines false cs)) parts.0 (rw other at rest))
      ]
    ]

-- so do those of its input stream, if the test lets a line feed pass whenever it lets a carriage return pass
pub all-input : (p : ℕ → Bool) → PassesWide p → (p 13 ≡ true → p 10 ≡ true) → (bytes : List ℕ) → IsUtf8 bytes → list_all p bytes ≡ true → list_all p (input bytes) ≡ true
unfolding input
all-input p wide feed bytes utf8 h = all-newlines p feed false (chars bytes) (all-chars p wide bytes utf8 h)

-- ---- a stretch without carriage returns

no_return : (cs : List ℕ) → list_all (λ c. not (c == 13)) cs ≡ true → after false cs ≡ false
no_return [] h = refl
no_return (c ∷ cs) h =
    let parts = and_parts (not (c == 13)) (list_all (λ c. not (c == 13)) cs) h in
    elim (cases_Bool (c == 13)) [
      | inl is ↦ absurd (let e : not true ≡ true = rw is at parts.0 in cc)
      | inr other ↦ rw other (no_return cs parts.1)
    ]

wide_return : PassesWide (λ c. not (c == 13))
wide_return c big = rw (ne_eqb c 13 (λ (e : c ≡ 13). omega arith)) refl

-- whatever comes after it
pub input-append_plain : (xs ys : List ℕ) → IsUtf8 xs → list_all (λ c. not (c == 13)) xs ≡ true → input (xs ++ ys) ≡ input xs ++ input ys
unfolding input
input-append_plain xs ys utf8 h =
    ap (normalize_newlines false) (chars-append xs ys utf8)
    ∙ newlines-append false (chars xs) (chars ys)
    ∙ ap (λ (b : Bool). normalize_newlines false (chars xs) ++ normalize_newlines b (chars ys)) (no_return (chars xs) (all-chars (λ c. not (c == 13)) wide_return xs utf8 h))

-- ---- a cut

pub input-cut : (n : ℕ) (bytes : List ℕ) → IsUtf8 (take n bytes) → IsMarked (drop n bytes) → input bytes ≡ input (take n bytes) ++ input (drop n bytes)
input-cut n bytes utf8 m = sym (ap input (take-append-drop n bytes)) ∙ input-append (take n bytes) (drop n bytes) utf8 m

pub input-cut_plain : (n : ℕ) (bytes : List ℕ) → IsUtf8 (take n bytes) → list_all (λ c. not (c == 13)) (take n bytes) ≡ true → input bytes ≡ input (take n bytes) ++ input (drop n bytes)
input-cut_plain n bytes utf8 h = sym (ap input (take-append-drop n bytes)) ∙ input-append_plain (take n bytes) (drop n bytes) utf8 h

-- a text that begins with an ASCII byte other than LF, or is empty
pub marked_at : (n : ℕ) (bytes : List ℕ) → (n < length bytes → (get_or bytes n 0 < 128) × (get_or bytes n 0 ≢ 10)) → IsMarked (drop n bytes)
marked_at n bytes h = elim (cases_lt n (length bytes)) [
  | inl lt ↦ subst IsMarked (sym (drop_more bytes n 0 lt)) (h lt)
  | inr past ↦ subst IsMarked (sym (drop_all n bytes past)) tt
]

pub boundary_at : (n : ℕ) (bytes : List ℕ) → n ≤ length bytes → (n < length bytes → get_or bytes n 0 < 128) → IsCharBoundary bytes n
boundary_at n bytes within h = (within, λ (lt : n < length bytes) (big : 128 ≤ get_or bytes n 0). absurd (omega (arith, h lt)))

-- ---- the first character

-- the first character of a text's input stream, which passes a test that the first byte passes
pub record First (bytes : List ℕ) (p : ℕ → Bool) : Type 0 where
  pub char : ℕ
  pub rest : List ℕ
  pub is : input bytes ≡ char ∷ rest
  pub passes : p char ≡ true

first_char : (p : ℕ → Bool) → PassesWide p → (b : ℕ) (bytes cs : List ℕ) → encodes cs ≡ b ∷ bytes → p b ≡ true → (c : ℕ) × (rest : List ℕ) × (cs ≡ c ∷ rest) × (p c ≡ true)
first_char p wide b bytes [] e h = absurd cc
first_char p wide b bytes (c ∷ cs) e h = elim (cases_lt c 128) [
  | inl small ↦
      let same : c ∷ encodes cs ≡ b ∷ bytes = (rw (encode_ascii c small) at e) in
      (c, cs, refl, ap p (ap (λ (l : List ℕ). get_or l 0 0) same) ∙ h)
  | inr big ↦ (c, cs, refl, wide c big)
]

pub input-first : (p : ℕ → Bool) → PassesWide p → (p 13 ≡ true → p 10 ≡ true) → (b : ℕ) (bytes : List ℕ) → IsUtf8 (b ∷ bytes) → p b ≡ true → First (b ∷ bytes) p
unfolding input normalize_newlines
input-first p wide feed b bytes utf8 h =
    let f = first_char p wide b bytes (chars (b ∷ bytes)) (encodes-chars (b ∷ bytes) utf8) h in
    let c = f.0 in
    let start : input (b ∷ bytes) ≡ normalize_newlines false (c ∷ f.1) = ap (normalize_newlines false) f.2 in
    elim (cases_Bool (c == 13)) [
      | inl is ↦ record {
        char = 10;
        rest = normalize_newlines true f.1;
        is = start ∙ (rw is refl);
        passes = feed (sym (ap p (eqb-true c 13 is)) ∙ f.3);
      }
      | inr other ↦ record {
        char = c;
        rest = normalize_newlines false f.1;
        is = start ∙ (rw other refl);
        passes = f.3;
      }
    ]

-- a text without its first character, which is ASCII
pub utf8_tail : (b : ℕ) (bytes : List ℕ) → b < 128 → IsUtf8 (b ∷ bytes) → IsUtf8 bytes
utf8_tail b bytes small utf8 = IsUtf8-drop (b ∷ bytes) 1 utf8 (IsCharBoundary-after_ascii (b ∷ bytes) 0 utf8 (omega arith) small)

-- ---- a carriage return alone

-- nothing, or another character than a line feed first
abbrev pub BeginsNoFeed : List ℕ → Type 0
BeginsNoFeed [] = Unit {0}
BeginsNoFeed (b ∷ bytes) = b ≢ 10

other_than_feed : ℕ → Bool
other_than_feed c = not (c == 10)

newlines-no_feed : (c : ℕ) (cs : List ℕ) → (c == 10) ≡ false → normalize_newlines true (c ∷ cs) ≡ normalize_newlines false (c ∷ cs)
unfolding normalize_newlines
newlines-no_feed c cs h = rw h refl

after_return : (bytes : List ℕ) → input (13 ∷ bytes) ≡ 10 ∷ normalize_newlines true (chars bytes)
unfolding normalize_newlines input chars
after_return [] = refl
after_return (b ∷ bytes) = refl

after_return_alone : (bytes : List ℕ) → IsUtf8 bytes → BeginsNoFeed bytes → normalize_newlines true (chars bytes) ≡ input bytes
unfolding normalize_newlines input other_than_feed
after_return_alone [] utf8 h = rw chars-nil refl
after_return_alone (b ∷ bytes) utf8 h =
    let f = first_char other_than_feed (λ c big. rw (ne_eqb c 10 (λ (e : c ≡ 10). omega arith)) refl) b bytes (chars (b ∷ bytes)) (encodes-chars (b ∷ bytes) utf8) (rw (ne_eqb b 10 h) refl) in
    rw f.2 (newlines-no_feed f.0 f.1 (let p = f.3 in not-true (f.0 == 10) p))

pub input-return_alone : (bytes : List ℕ) → IsUtf8 bytes → BeginsNoFeed bytes → input (13 ∷ bytes) ≡ 10 ∷ input bytes
input-return_alone bytes utf8 h = after_return bytes ∙ ap (λ (l : List ℕ). 10 ∷ l) (after_return_alone bytes utf8 h)

-- ---- a stretch without carriage returns is its characters

newlines-plain : (cs : List ℕ) → list_all (λ c. not (c == 13)) cs ≡ true → normalize_newlines false cs ≡ cs
unfolding normalize_newlines
newlines-plain [] h = refl
newlines-plain (c ∷ cs) h =
    let parts = and_parts (not (c == 13)) (list_all (λ c. not (c == 13)) cs) h in
    rw (not-true (c == 13) parts.0) (ap (λ (l : List ℕ). c ∷ l) (newlines-plain cs parts.1))

pub input-plain : (bytes : List ℕ) → IsUtf8 bytes → list_all (λ c. not (c == 13)) bytes ≡ true → input bytes ≡ chars bytes
unfolding input
input-plain bytes utf8 h = newlines-plain (chars bytes) (all-chars (λ c. not (c == 13)) wide_return bytes utf8 h)
