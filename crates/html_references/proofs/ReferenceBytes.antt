-- A reference is read alike in the bytes of a text and in its input stream.
use Rattle.std.proofs.Common.{◌≡◌, ◌≢◌, ℕ, zero, suc, ◌<◌, ◌≤◌, Bool, true, false, not, List, [], ◌∷◌, ◌++◌, length, drop, refl, sym, ap, ◌∙◌, arith, inl, inr, IsUtf8}
use Rattle.std.proofs.lemmas.Bool.{cases_Bool, not-true}
use Rattle.std.proofs.lemmas.Bool.Decides.{nat_tests}
use Rattle.std.proofs.lemmas.List.{drop-append-le, length-append}
use Rattle.html_syntax.specs.References.{Reference, reference}
use Rattle.html_references.specs.Input.{input}
use Rattle.html_references.proofs.Stops.{is_of_reference, Stops, reference-stop, reference-len}
use Rattle.html_references.proofs.Stretches.{input-cons, input-nil, input-first, utf8_tail}

-- the front of a text that a reference can read, and the rest
record Front (text : List ℕ) : Type 0 where
  pub front : List ℕ
  pub rest : List ℕ
  pub whole : text ≡ front ++ rest
  pub stops : Stops rest
  pub stream : input text ≡ front ++ input rest
  pub input_stops : Stops (input rest)
  pub utf8_from : (n : ℕ) → n ≤ length front → IsUtf8 (drop n text)
  pub stream_from : (n : ℕ) → n ≤ length front → input (drop n text) ≡ drop n front ++ input rest

small : (b : ℕ) → is_of_reference b ≡ true → b < 128
small b h = grind (arith, nat_tests)

no_return : (b : ℕ) → is_of_reference b ≡ true → b ≢ 13
no_return b h e = absurd (grind (arith, nat_tests))

stopping : (b : ℕ) (text : List ℕ) → IsUtf8 (b ∷ text) → is_of_reference b ≡ false → Stops (input (b ∷ text))
stopping b text utf8 h =
    let f = input-first (λ c. not (is_of_reference c)) (λ c big. grind (arith, nat_tests)) (λ _. refl) b text utf8 (rw h refl) in
    rw f.is (not-true (is_of_reference f.char) f.passes)

front_of : (text : List ℕ) → IsUtf8 text → Front text
front_of [] utf8 = record {
  front = [];
  rest = [];
  whole = refl;
  stops = tt;
  stream = refl;
  input_stops = rw input-nil tt;
  utf8_from = λ n le. none n utf8;
  stream_from = λ n le. empty n;
}
  where
    none : (n : ℕ) → IsUtf8 [] → IsUtf8 (drop n [])
    none zero u = u
    none (suc n) u = u

    empty : (n : ℕ) → input (drop n []) ≡ drop n [] ++ input []
    empty zero = refl
    empty (suc n) = refl
front_of (b ∷ text) utf8 = elim (cases_Bool (is_of_reference b)) [
  | inl is ↦
      let tail : IsUtf8 text = utf8_tail b text (small b is) utf8 in
      let f = front_of text tail in
      let stream : input (b ∷ text) ≡ b ∷ (f.front ++ input f.rest) = input-cons b text (small b is) (no_return b is) ∙ ap (λ (l : List ℕ). b ∷ l) f.stream in
      record {
        front = b ∷ f.front;
        rest = f.rest;
        whole = ap (λ (l : List ℕ). b ∷ l) f.whole;
        stops = f.stops;
        stream = stream;
        input_stops = f.input_stops;
        utf8_from = λ n. utf8_more f n;
        stream_from = λ n. stream_more f stream n;
      }
  | inr other ↦ record {
    front = [];
    rest = b ∷ text;
    whole = refl;
    stops = other;
    stream = refl;
    input_stops = stopping b text utf8 other;
    utf8_from = λ n le. at_once n le;
    stream_from = λ n le. at_once_stream n le;
  }
]
  where
    utf8_more : (f : Front text) (n : ℕ) → n ≤ length (b ∷ f.front) → IsUtf8 (drop n (b ∷ text))
    utf8_more f zero le = utf8
    utf8_more f (suc n) le = f.utf8_from n (omega arith)

    stream_more : (f : Front text) → input (b ∷ text) ≡ b ∷ (f.front ++ input f.rest) → (n : ℕ) → n ≤ length (b ∷ f.front) → input (drop n (b ∷ text)) ≡ drop n (b ∷ f.front) ++ input f.rest
    stream_more f s zero le = s
    stream_more f s (suc n) le = f.stream_from n (omega arith)

    at_once : (n : ℕ) → n ≤ 0 → IsUtf8 (drop n (b ∷ text))
    at_once zero le = utf8
    at_once (suc n) le = absurd (omega arith)

    at_once_stream : (n : ℕ) → n ≤ 0 → input (drop n (b ∷ text)) ≡ drop n [] ++ input (b ∷ text)
    at_once_stream zero le = refl
    at_once_stream (suc n) le = absurd (omega arith)

pub record Same (a : Bool) (text : List ℕ) : Type 0 where
  pub is : reference a (input text) ≡ reference a text
  pub rest : drop (reference a text).len (input text) ≡ input (drop (reference a text).len text)
  pub utf8 : IsUtf8 (drop (reference a text).len text)
  pub within : (reference a text).len ≤ length text

pub same_reference : (a : Bool) (text : List ℕ) → IsUtf8 text → Same a text
same_reference a text utf8 =
    let f = front_of text utf8 in
    let bytes : reference a text ≡ reference a f.front = ap (reference a) f.whole ∙ reference-stop a f.front f.rest f.stops in
    let stream : reference a (input text) ≡ reference a f.front = ap (reference a) f.stream ∙ reference-stop a f.front (input f.rest) f.input_stops in
    let len : (reference a text).len ≤ length f.front = omega (arith, reference-len a f.front, ap (λ (r : Reference). r.len) bytes) in
    record {
      is = stream ∙ sym bytes;
      rest = ap (drop (reference a text).len) f.stream ∙ drop-append-le (reference a text).len f.front (input f.rest) len ∙ sym (f.stream_from (reference a text).len len);
      utf8 = f.utf8_from (reference a text).len len;
      within = omega (arith, len, ap length f.whole, length-append f.front f.rest);
    }
