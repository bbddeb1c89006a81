-- The base subject of a text is a text: no character is cut.
use Rattle.std.proofs.Common.{◌≡◌, ℕ, zero, suc, ◌+◌, ◌-◌, ◌<◌, ◌≤◌, inl, inr, Bool, true, false, eqb, List, [], ◌∷◌, ◌++◌, length, take, drop, get_or, reverse, refl, sym, ap, ◌∙◌, subst, arith, codes, length-drop}
use Rattle.std.specs.Prelude.{nat_eq, nat_lt, ◌||◌, ◌&&◌, ◌==◌, slice_index, if◌then◌else◌}
use Rattle.std.specs.List.{position_or_len, starts_with, ends_with}
use Rattle.std.specs.Char.{to_ascii_lowercase}
use Rattle.std.specs.Cmp.Lexicographic.{pointwise}
use Rattle.std.specs.Str.{IsUtf8, str_to_ascii_lowercase}
use lib.Utf8.{encode, encodes, scalar, scalars}
use Rattle.std.specs.Str.Lossy.{utf8_lossy}
use Rattle.std.proofs.lemmas.Str.{IsUtf8-drop, IsUtf8-take, IsUtf8-append, IsUtf8-nil, IsUtf8-from_ascii, encode_ascii, inside_one, len_utf8_bounds, length-encode, utf8_lossy-IsUtf8, IsCharBoundary-after_ascii, IsCharBoundary-before_ascii}
use Rattle.std.proofs.lemmas.Bool.{cases_Bool, le-ltb, ltb-true, eqb-true, ne_eqb, cases_lt}
use Rattle.std.proofs.lemmas.List.{append-nil, get_or-drop, get_or-take, get_or-map, length-take, length-take-le, get_or-reverse, length-reverse, reverse-reverse}
use Rattle.std.proofs.lemmas.Slice.Eq.{bytes_eq-Decides}
use Rattle.header_words.specs.Fields.{is_white}
use Rattle.header_words.proofs.SubjectLemmas.{reverse_front, begins_len, opened_once, opened_done}
use Rattle.header_words.specs.BaseSubject.{Base, base, single_spaced, spaced_byte, is_forward, base_of, is_space, spaces_len, is_bracket, blob_len, closed_blob_len, blobs_len, before_colon_len, word_len, mark_len, marked_len, leader_len, front_len, without_front_from, is_trailer, back_len, without_back_from, without_back, without_last, inside_forward, trimmed, opened, begins_with}

-- the last of the first n bytes is an ASCII byte of the text
pub record EndsAscii (n : ℕ) (text : List ℕ) : Type 0 where
  pub within : n < length text
  pub ascii : get_or text n 0 < 128

cut_after : (n : ℕ) (text : List ℕ) → IsUtf8 text → EndsAscii n text → IsUtf8 (drop (suc n) text)
cut_after n text u a = let place : suc n ≡ n + 1 = omega arith in subst (λ k. IsUtf8 (drop k text)) (sym place) (IsUtf8-drop text (n + 1) u (IsCharBoundary-after_ascii text n u a.within a.ascii))

later : (k n : ℕ) (text : List ℕ) → EndsAscii n (drop k text) → EndsAscii (k + n) text
later k n text a =
    let size = length-drop k text in
    let within = a.within in
    record { within = omega arith; ascii = let e = get_or-drop k text n 0 in let h = a.ascii in omega arith }

-- spaces and brackets

space_more : (n x : ℕ) (xs : List ℕ) → x ≡ 32 → n ≡ spaces_len xs → ((m : ℕ) → suc m ≡ spaces_len xs → EndsAscii m xs) → EndsAscii n (x ∷ xs)
space_more zero x xs first e more = record { within = omega arith; ascii = omega arith }
space_more (suc n) x xs first e more = let rest = more n e in record { within = let h = rest.within in omega arith; ascii = rest.ascii }

spaces_ascii : (n : ℕ) (xs : List ℕ) → suc n ≡ spaces_len xs → EndsAscii n xs
spaces_ascii n [] e = absurd (omega arith)
spaces_ascii n (x ∷ xs) e =
    elim (cases_Bool (is_space x)) [
      | inl space ↦ space_more n x xs (eqb-true x 32 space) (let size : spaces_len (x ∷ xs) ≡ 1 + spaces_len xs = rw space refl in omega arith) (λ m e'. spaces_ascii m xs e')
      | inr other ↦ let none : spaces_len (x ∷ xs) ≡ 0 = rw other refl in absurd (omega arith)
    ]

closed_more : (k n p b : ℕ) (inside : List ℕ) (c : ℕ) (after : List ℕ) → c ∷ after ≡ drop p inside → c ≡ 93 → k ≡ spaces_len after → suc n ≡ p + 2 + k → EndsAscii n (b ∷ inside)
closed_more zero n p b inside c after e closes k is =
    let here : EndsAscii 0 (c ∷ after) = record { within = omega arith; ascii = omega arith } in
    let place : n ≡ suc p + 0 = omega arith in
    subst (λ m. EndsAscii m (b ∷ inside)) (sym place) (later (suc p) 0 (b ∷ inside) (subst (EndsAscii 0) e here))
closed_more (suc k) n p b inside c after e closes k_is is =
    let spaces = spaces_ascii k after k_is in
    let here : EndsAscii (suc k) (c ∷ after) = record { within = let h = spaces.within in omega arith; ascii = spaces.ascii } in
    let place : n ≡ suc p + suc k = omega arith in
    subst (λ m. EndsAscii m (b ∷ inside)) (sym place) (later (suc p) (suc k) (b ∷ inside) (subst (EndsAscii (suc k)) e here))

closed_ascii : (n p b : ℕ) (inside rest : List ℕ) → rest ≡ drop p inside → suc n ≡ closed_blob_len p rest → EndsAscii n (b ∷ inside)
closed_ascii n p b inside [] e is = absurd (omega arith)
closed_ascii n p b inside (c ∷ after) e is =
    elim (cases_Bool (c == 93)) [
      | inl closes ↦ closed_more (spaces_len after) n p b inside c after e (eqb-true c 93 closes) refl (is ∙ rw closes refl)
      | inr other ↦ let none : suc n ≡ 0 = is ∙ rw other refl in absurd (omega arith)
    ]

blob_ascii : (n : ℕ) (text : List ℕ) → suc n ≡ blob_len text → EndsAscii n text
unfolding blob_len
blob_ascii n [] e = absurd (omega arith)
blob_ascii n (b ∷ text) e =
    elim (cases_Bool (b == 91)) [
      | inl opens ↦ closed_ascii n (position_or_len is_bracket text) b text (drop (position_or_len is_bracket text) text) refl (e ∙ rw opens refl)
      | inr other ↦ let none : suc n ≡ 0 = e ∙ rw other refl in absurd (omega arith)
    ]

colon_first : (text : List ℕ) → starts_with nat_eq text (codes ":") ≡ true → EndsAscii 0 text
colon_first [] e = absurd (cc)
colon_first (x ∷ xs) e =
    elim (cases_Bool (nat_eq 58 x)) [
      | inl same ↦ let colon = eqb-true 58 x same in record { within = omega arith; ascii = omega arith }
      | inr other ↦ let none : starts_with nat_eq (x ∷ xs) (codes ":") ≡ false = rw other refl in absurd (cc)
    ]

and_right : (a b : Bool) → (a && b) ≡ true → b ≡ true
and_right true b e = e
and_right false b e = absurd (cc)

and_both : (a : Bool) → a ≡ true → (a && true) ≡ true
and_both a e = rw e refl

and_left : (a b : Bool) → (a && b) ≡ true → a ≡ true
and_left true b e = refl
and_left false b e = absurd (cc)

mark_ascii : (n : ℕ) (text : List ℕ) → suc n ≡ mark_len text → EndsAscii n text
unfolding mark_len
mark_ascii n text e =
    let at = before_colon_len text in
    elim (cases_Bool (nat_lt 0 (word_len text) && starts_with nat_eq (drop at text) (codes ":"))) [
      | inl marked ↦
          let place : n ≡ at + 0 = let q : suc n ≡ at + 1 = e ∙ rw marked refl in omega arith in
          subst (λ m. EndsAscii m text) (sym place) (later at 0 text (colon_first (drop at text) (and_right (nat_lt 0 (word_len text)) (starts_with nat_eq (drop at text) (codes ":")) marked)))
      | inr other ↦ let none : suc n ≡ 0 = e ∙ rw other refl in absurd (omega arith)
    ]

marked_ascii : (n : ℕ) (text : List ℕ) → suc n ≡ marked_len text → EndsAscii n text
unfolding marked_len
marked_ascii n text e =
    let at = blobs_len text in
    elim (cases_Bool (nat_lt 0 (mark_len (drop at text)))) [
      | inl marked ↦
          let some = ltb-true 0 (mark_len (drop at text)) marked in
          let sum : suc n ≡ at + mark_len (drop at text) = e ∙ rw marked refl in
          let size : suc (mark_len (drop at text) - 1) ≡ mark_len (drop at text) = omega arith in
          let place : n ≡ at + (mark_len (drop at text) - 1) = omega arith in
          subst (λ m. EndsAscii m text) (sym place) (later at (mark_len (drop at text) - 1) text (mark_ascii (mark_len (drop at text) - 1) (drop at text) size))
      | inr other ↦ let none : suc n ≡ 0 = e ∙ rw other refl in absurd (omega arith)
    ]

space_ascii : (text : List ℕ) → starts_with nat_eq text (codes " ") ≡ true → EndsAscii 0 text
space_ascii [] e = absurd (cc)
space_ascii (x ∷ xs) e =
    elim (cases_Bool (nat_eq 32 x)) [
      | inl same ↦ let space = eqb-true 32 x same in record { within = omega arith; ascii = omega arith }
      | inr other ↦ let none : starts_with nat_eq (x ∷ xs) (codes " ") ≡ false = rw other refl in absurd (cc)
    ]

leader_ascii : (n : ℕ) (text : List ℕ) → suc n ≡ leader_len text → EndsAscii n text
unfolding leader_len
leader_ascii n text e =
    elim (cases_Bool (starts_with nat_eq text (codes " "))) [
      | inl space ↦ let place : n ≡ 0 = (let q : suc n ≡ 1 = e ∙ rw space refl in omega arith) in subst (λ m. EndsAscii m text) (sym place) (space_ascii text space)
      | inr other ↦ marked_ascii n text (e ∙ rw other refl)
    ]

front_ascii : (n : ℕ) (text : List ℕ) → suc n ≡ front_len text → EndsAscii n text
unfolding front_len
front_ascii n text e =
    elim (cases_Bool (nat_lt 0 (leader_len text))) [
      | inl leads ↦ leader_ascii n text (e ∙ rw leads refl)
      | inr none ↦
          elim (cases_Bool (nat_lt (blob_len text) (length text))) [
            | inl spare ↦ blob_ascii n text (e ∙ rw none (rw spare refl))
            | inr last ↦ let nothing : suc n ≡ 0 = e ∙ rw none (rw last refl) in absurd (omega arith)
          ]
    ]

front_utf8_at : (n : ℕ) (reply : Bool) (b : ℕ) (text : List ℕ) → front_len (b ∷ text) ≡ n → IsUtf8 (b ∷ text) → ((skip : ℕ) (r : Bool) → IsUtf8 (drop skip text) → IsUtf8 (without_front_from skip r text).text) → IsUtf8 (without_front_from 0 reply (b ∷ text)).text
unfolding without_front_from
front_utf8_at zero reply b text e u more = rw (e, without_front_from) u
front_utf8_at (suc n) reply b text e u more = rw (e, without_front_from) (more n (reply || nat_lt 0 (marked_len (b ∷ text))) (cut_after n (b ∷ text) u (front_ascii n (b ∷ text) (sym e))))

front_utf8 : (skip : ℕ) (reply : Bool) (text : List ℕ) → IsUtf8 (drop skip text) → IsUtf8 (without_front_from skip reply text).text
unfolding without_front_from
front_utf8 skip reply [] u = IsUtf8-nil
front_utf8 zero reply (b ∷ text) u = front_utf8_at (front_len (b ∷ text)) reply b text refl u (λ skip r h. front_utf8 skip r text h)
front_utf8 (suc skip) reply (b ∷ text) u = front_utf8 skip reply text u

-- ---- the back

lower_ascii : (c : ℕ) → to_ascii_lowercase c < 128 → c < 128
lower_ascii c h =
    elim (cases_lt c 65) [
      | inl small ↦ omega arith
      | inr at_least ↦
          elim (cases_lt c 91) [
            | inl capital ↦ omega arith
            | inr above ↦
                let one : nat_lt c 65 ≡ false = le-ltb c 65 at_least in
                let other : nat_lt c 91 ≡ false = le-ltb c 91 above in
                let same : to_ascii_lowercase c ≡ c = rw one (rw other refl) in
                omega arith
          ]
    ]

begins_ascii : (word text : List ℕ) (i : ℕ) → begins_with word text ≡ true → i < length word → to_ascii_lowercase (get_or word i 0) < 128 → EndsAscii i text
begins_ascii word text i e within small =
    let same : str_to_ascii_lowercase (take (length word) text) ≡ str_to_ascii_lowercase word = (bytes_eq-Decides (str_to_ascii_lowercase (take (length word) text)) (str_to_ascii_lowercase word)).0 e in
    let long = begins_len word text e in
    let there : i < length text = omega arith in
    let taken : get_or (take (length word) text) i 0 ≡ get_or text i 0 = get_or-take (length word) text i 0 within in
    let size : length (take (length word) text) ≡ length word = length-take-le (length word) text long in
    let left : get_or (str_to_ascii_lowercase (take (length word) text)) i 0 ≡ to_ascii_lowercase (get_or (take (length word) text) i 0) = get_or-map to_ascii_lowercase (take (length word) text) i 0 0 (omega arith) in
    let right : get_or (str_to_ascii_lowercase word) i 0 ≡ to_ascii_lowercase (get_or word i 0) = get_or-map to_ascii_lowercase word i 0 0 within in
    let lowered : to_ascii_lowercase (get_or text i 0) ≡ to_ascii_lowercase (get_or word i 0) = ap to_ascii_lowercase (sym taken) ∙ sym left ∙ ap (λ l. get_or l i 0) same ∙ right in
    record { within = there; ascii = lower_ascii (get_or text i 0) (omega arith) }

back_ascii : (n : ℕ) (text : List ℕ) → suc n ≡ back_len text → EndsAscii n text
unfolding back_len is_trailer
back_ascii n text e =
    elim (cases_Bool (starts_with nat_eq text (codes " "))) [
      | inl space ↦ let place : n ≡ 0 = (let q : suc n ≡ 1 = e ∙ rw space refl in omega arith) in subst (λ m. EndsAscii m text) (sym place) (space_ascii text space)
      | inr other ↦
          elim (cases_Bool (begins_with (codes ")dwf(") text)) [
            | inl marked ↦ let place : n ≡ 4 = (let q : suc n ≡ 5 = e ∙ rw other (rw marked refl) in omega arith) in subst (λ m. EndsAscii m text) (sym place) (begins_ascii (codes ")dwf(") text 4 marked (omega arith) (omega arith))
            | inr unmarked ↦ let none : suc n ≡ 0 = e ∙ rw other (rw unmarked refl) in absurd (omega arith)
          ]
    ]

-- what is left of a text from whose end bytes are dropped
cut_before : (n : ℕ) (text : List ℕ) → IsUtf8 (reverse text) → EndsAscii n text → IsUtf8 (reverse (drop (suc n) text))
cut_before n text u a =
    let back : drop (suc n) (reverse (reverse text)) ≡ reverse (take (length (reverse text) - suc n) (reverse text)) = reverse_front (suc n) (reverse text) (let h = a.within in let k = length-reverse text in omega arith) in
    let front : reverse (drop (suc n) text) ≡ take (length (reverse text) - suc n) (reverse text) =
    ap (λ t. reverse (drop (suc n) t)) (sym (reverse-reverse text)) ∙ ap reverse back ∙ reverse-reverse (take (length (reverse text) - suc n) (reverse text)) in
    let size = length-reverse text in
    let within = a.within in
    let j = length (reverse text) - suc n in
    let at : get_or (reverse text) j 0 ≡ get_or text (length text - 1 - j) 0 = get_or-reverse text j 0 (omega arith) in
    let place : length text - 1 - j ≡ n = omega arith in
    let small : get_or (reverse text) j 0 < 128 = let same = at ∙ ap (λ k. get_or text k 0) place in let h = a.ascii in omega arith in
    subst IsUtf8 (sym front) (IsUtf8-take (reverse text) j u (IsCharBoundary-before_ascii (reverse text) j (omega arith) small))

back_utf8_at : (n : ℕ) (reply : Bool) (b : ℕ) (text : List ℕ) → back_len (b ∷ text) ≡ n → IsUtf8 (reverse (b ∷ text)) → ((skip : ℕ) (r : Bool) → IsUtf8 (reverse (drop skip text)) → IsUtf8 (reverse (without_back_from skip r text).text)) → IsUtf8 (reverse (without_back_from 0 reply (b ∷ text)).text)
unfolding without_back_from
back_utf8_at zero reply b text e u more = rw (e, without_back_from) u
back_utf8_at (suc n) reply b text e u more = rw (e, without_back_from) (more n (reply || is_trailer (b ∷ text)) (cut_before n (b ∷ text) u (back_ascii n (b ∷ text) (sym e))))

back_utf8 : (skip : ℕ) (reply : Bool) (text : List ℕ) → IsUtf8 (reverse (drop skip text)) → IsUtf8 (reverse (without_back_from skip reply text).text)
unfolding without_back_from
back_utf8 skip reply [] u = IsUtf8-nil
back_utf8 zero reply (b ∷ text) u = back_utf8_at (back_len (b ∷ text)) reply b text refl u (λ skip r h. back_utf8 skip r text h)
back_utf8 (suc skip) reply (b ∷ text) u = back_utf8 skip reply text u

trimmed_utf8 : (b : Base) → IsUtf8 b.text → IsUtf8 (trimmed b).text
trimmed_utf8 b u =
    front_utf8 0 (without_back b).reply (without_back b).text (back_utf8 0 b.reply (reverse b.text) (subst IsUtf8 (sym (reverse-reverse b.text)) u))

-- ---- forwards

last_one : (text : List ℕ) → 1 ≤ length text → ends_with nat_eq text (codes "]") ≡ true → get_or text (length text - 1) 0 < 128
last_one text some e =
    let k = length text - 1 in
    let size : length (drop k text) ≡ 1 = length-drop k text ∙ (let q : length text - k ≡ 1 = omega arith in q) in
    let at : get_or (drop k text) 0 0 ≡ get_or text (k + 0) 0 = get_or-drop k text 0 0 in
    let place : k + 0 ≡ k = omega arith in
    let same = at ∙ ap (λ j. get_or text j 0) place in
    let small = one_is (drop k text) size e in
    omega arith
  where
    one_is : (xs : List ℕ) → length xs ≡ 1 → pointwise nat_eq (codes "]") xs ≡ true → get_or xs 0 0 < 128
    one_is [] none p = absurd (omega arith)
    one_is (x ∷ []) one p = let same : 93 ≡ x = eqb-true 93 x (and_left (nat_eq 93 x) true p) in omega arith
    one_is (x ∷ y ∷ ys) more p = absurd (omega arith)

inside_utf8 : (text : List ℕ) → is_forward text ≡ true → IsUtf8 text → IsUtf8 (inside_forward text).text
unfolding is_forward
inside_utf8 text e u =
    let begins = and_left (begins_with (codes "[fwd:") (without_last text)) (ends_with nat_eq text (codes "]")) e in
    let ends = and_right (begins_with (codes "[fwd:") (without_last text)) (ends_with nat_eq text (codes "]")) e in
    let long = begins_len (codes "[fwd:") (without_last text) begins in
    let size = length-take (length text - 1) text in
    let some : 1 ≤ length text = omega arith in
    let last : IsUtf8 (without_last text) = IsUtf8-take text (length text - 1) u (IsCharBoundary-before_ascii text (length text - 1) (omega arith) (last_one text some ends)) in
    cut_after 4 (without_last text) last (begins_ascii (codes "[fwd:") (without_last text) 4 begins (omega arith) (omega arith))

opened_none : (b : Base) → opened 0 b ≡ b
unfolding opened
opened_none b = refl

opened_utf8 : (rounds : ℕ) (b : Base) → IsUtf8 b.text → IsUtf8 (opened rounds b).text
opened_utf8 zero b u = subst (λ c. IsUtf8 c.text) (sym (opened_none b)) u
opened_utf8 (suc rounds) b u =
    elim (cases_Bool (is_forward b.text)) [
      | inl e ↦ subst (λ c. IsUtf8 c.text) (sym (opened_once rounds b e)) (opened_utf8 rounds (trimmed (inside_forward b.text)) (trimmed_utf8 (inside_forward b.text) (inside_utf8 b.text e u)))
      | inr other ↦ subst (λ c. IsUtf8 c.text) (sym (opened_done (suc rounds) b other)) u
    ]

-- ---- white space

spaced_none : (after : Bool) → single_spaced after [] ≡ []
unfolding single_spaced
spaced_none after = refl

not_white : (x : ℕ) → 128 ≤ x → is_white x ≡ false
not_white x high =
    let space : eqb x 32 ≡ false = ne_eqb x 32 (λ e. absurd (omega arith)) in
    let tab : eqb x 9 ≡ false = ne_eqb x 9 (λ e. absurd (omega arith)) in
    let feed : eqb x 10 ≡ false = ne_eqb x 10 (λ e. absurd (omega arith)) in
    let carriage : eqb x 13 ≡ false = ne_eqb x 13 (λ e. absurd (omega arith)) in
    rw space (rw tab (rw feed (rw carriage refl)))

-- bytes of which none is white stay
unspaced_bytes : (after : Bool) (xs ys : List ℕ) → ((i : ℕ) → i < length xs → 128 ≤ get_or xs i 0) → 1 ≤ length xs → single_spaced after (xs ++ ys) ≡ xs ++ single_spaced false ys
unfolding single_spaced
unspaced_bytes after [] ys high some = absurd (omega arith)
unspaced_bytes after (x ∷ []) ys high some = let other = not_white x (high 0 (omega arith)) in rw other refl
unspaced_bytes after (x ∷ y ∷ xs) ys high some =
    let other = not_white x (high 0 (omega arith)) in
    rw other (ap (λ t. x ∷ t) (unspaced_bytes false (y ∷ xs) ys (λ i within. high (suc i) (omega arith)) (omega arith)))

one_ascii : (c : ℕ) → c < 128 → IsUtf8 (c ∷ [])
one_ascii c small = IsUtf8-from_ascii (c ∷ []) (λ i. each i)
  where
    each : (i : ℕ) → slice_index (c ∷ []) i < 128
    each zero = small
    each (suc i) = omega arith

spaced_byte_utf8 : (after : Bool) (c : ℕ) → c < 128 → IsUtf8 (spaced_byte after c)
spaced_byte_utf8 after c small =
    elim (cases_Bool (is_white c)) [
      | inl white ↦ rw white (blank after)
      | inr other ↦ rw other (one_ascii c small)
    ]
  where
    blank : (b : Bool) → IsUtf8 (if b then [] else 32 ∷ [])
    blank true = IsUtf8-nil
    blank false = one_ascii 32 (omega arith)

high_bytes : (c : ℕ) → 128 ≤ c → (i : ℕ) → i < length (encode c) → 128 ≤ get_or (encode c) i 0
high_bytes c high i within =
    elim (cases_lt (get_or (encode c) i 0) 128) [
      | inl small ↦ let same = inside_one c [] (encode c) i (sym (append-nil (encode c))) within small in absurd (omega arith)
      | inr large ↦ large
    ]

step_ascii : (after : Bool) (c : ℕ) (text : List ℕ) → single_spaced after (c ∷ text) ≡ spaced_byte after c ++ single_spaced (is_white c) text
unfolding single_spaced
step_ascii after c text = refl

spaced_utf8 : (after : Bool) (cs : List ℕ) → scalars cs ≡ true → IsUtf8 (single_spaced after (encodes cs))
spaced_utf8 after [] ok = subst IsUtf8 (sym (spaced_none after)) IsUtf8-nil
spaced_utf8 after (c ∷ cs) ok =
    let here = and_left (scalar c) (scalars cs) ok in
    let more = and_right (scalar c) (scalars cs) ok in
    elim (cases_lt c 128) [
      | inl small ↦
          let split : single_spaced after (encodes (c ∷ cs)) ≡ spaced_byte after c ++ single_spaced (is_white c) (encodes cs) =
          ap (λ t. single_spaced after (t ++ encodes cs)) (encode_ascii c small) ∙ step_ascii after c (encodes cs) in
          subst IsUtf8 (sym split) (IsUtf8-append (spaced_byte after c) (single_spaced (is_white c) (encodes cs)) (spaced_byte_utf8 after c small) (spaced_utf8 (is_white c) cs more))
      | inr high ↦
          let bounds = len_utf8_bounds c in
          let size = length-encode c in
          let some : 1 ≤ length (encode c) = let low = bounds.0 in omega arith in
          let split : single_spaced after (encodes (c ∷ cs)) ≡ encode c ++ single_spaced false (encodes cs) = unspaced_bytes after (encode c) (encodes cs) (high_bytes c high) some in
          let char : IsUtf8 (encode c) = (c ∷ [], (and_both (scalar c) here, append-nil (encode c))) in
          subst IsUtf8 (sym split) (IsUtf8-append (encode c) (single_spaced false (encodes cs)) char (spaced_utf8 false cs more))
    ]

pub base_utf8 : (subject : List ℕ) → IsUtf8 subject → IsUtf8 (base_of subject).text
base_utf8 subject u =
    let spaced : IsUtf8 (single_spaced false subject) = subst (λ t. IsUtf8 (single_spaced false t)) u.1.1 (spaced_utf8 false u.0 u.1.0) in
    opened_utf8 (length (single_spaced false subject)) (trimmed (base (single_spaced false subject) false)) (trimmed_utf8 (base (single_spaced false subject) false) spaced)

pub lossless : (subject text : List ℕ) → IsUtf8 subject → text ≡ utf8_lossy (base_of subject).text → text ≡ (base_of subject).text
lossless subject text u e = e ∙ utf8_lossy-IsUtf8 (base_of subject).text (base_utf8 subject u)
