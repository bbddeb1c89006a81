-- Removing what surrounds a base subject, a step at a time.
use Rattle.std.proofs.Common.{◌≡◌, ℕ, zero, suc, ◌+◌, ◌-◌, ◌<◌, ◌≤◌, inl, inr, Bool, true, false, eqb, List, [], ◌∷◌, ◌++◌, length, take, drop, get_or, reverse, refl, sym, ap, ◌∙◌, arith, codes, length-drop, append_assoc}
use Rattle.std.specs.Prelude.{nat_eq, nat_lt, ◌||◌, ◌&&◌, ◌==◌, min, if◌then◌else◌}
use Rattle.std.specs.List.{position_or_len, starts_with, ends_with}
use Rattle.std.specs.Cmp.Lexicographic.{pointwise}
use Rattle.std.specs.Char.{to_ascii_lowercase}
use Rattle.std.specs.Str.{str_eq_ignore_ascii_case, str_to_ascii_lowercase}
use Rattle.std.proofs.lemmas.Bool.{cases_Bool, eqb-false, ne_eqb, eqb-true, lt-ltb, ltb-true, ltb-false}
use Rattle.std.proofs.lemmas.List.{append-nil, take_min, take_rest, drop_all, take-append-drop, length-take, length-take-le, length-map, length-reverse, reverse-append, reverse-reverse, drop-drop, map-append}
use Rattle.std.proofs.Math.Seq.{drop-append_seam, take-append_seam}
use Rattle.std.proofs.lemmas.Slice.Eq.{bytes_eq-Decides}
use Rattle.header_words.specs.MessageIds.{ids_in, id_after}
use Rattle.header_words.specs.Fields.{is_white}
use Rattle.header_words.specs.BaseSubject.{Base, base, single_spaced, spaced_byte, begins_with, is_space, spaces_len, is_bracket, blob_len, closed_blob_len, blobs_len_from, blobs_len, word_len, mark_len, marked_len, leader_len, front_len, spare_blob_len, without_front_from, without_front, without_leader, is_trailer, back_len, without_back_from, without_back, without_trailer, turned, is_forward, without_last, inside_forward, trimmed, opened, unwrapped}

drop_none : (n : ℕ) → let none : List ℕ = [] in drop n none ≡ none
drop_none n = let none : List ℕ = [] in drop_all n none (omega arith)

-- ---- one byte more

pub ids_step : (text : List ℕ) → 1 ≤ length text → ids_in text ≡ (if get_or text 0 0 == 60 then id_after (drop 1 text) else []) ++ ids_in (drop 1 text)
unfolding ids_in
ids_step [] some = absurd (omega arith)
ids_step (b ∷ text) some = refl

pub spaced_step : (after : Bool) (text : List ℕ) → 1 ≤ length text → single_spaced after text ≡ spaced_byte after (get_or text 0 0) ++ single_spaced (is_white (get_or text 0 0)) (drop 1 text)
unfolding single_spaced
spaced_step after [] some = absurd (omega arith)
spaced_step after (b ∷ text) some = refl

rest_of : (rest : List ℕ) → take (length rest - 1) (drop 1 rest) ≡ drop 1 rest
rest_of rest = take_rest rest 1

pub ids_next : (rest : List ℕ) (before after total : List (List ℕ)) → 1 ≤ length rest → get_or rest 0 0 ≡ 60 → after ≡ before ++ id_after (take (length rest - 1) (drop 1 rest)) → before ++ ids_in rest ≡ total → after ++ ids_in (take (length rest - 1) (drop 1 rest)) ≡ total
ids_next rest before after total some opens e so_far =
    let step : ids_in rest ≡ id_after (drop 1 rest) ++ ids_in (drop 1 rest) = ids_step rest some ∙ rw opens refl in
    rw (e, rest_of rest) (append_assoc before (id_after (drop 1 rest)) (ids_in (drop 1 rest)) ∙ ap (λ l. before ++ l) (sym step) ∙ so_far)

pub ids_past : (rest : List ℕ) (before total : List (List ℕ)) → 1 ≤ length rest → (get_or rest 0 0 ≡ 60 → ⊥) → before ++ ids_in rest ≡ total → before ++ ids_in (take (length rest - 1) (drop 1 rest)) ≡ total
ids_past rest before total some other so_far =
    let step : ids_in rest ≡ ids_in (drop 1 rest) = ids_step rest some ∙ rw (ne_eqb (get_or rest 0 0) 60 other) refl in
    rw (rest_of rest) (ap (λ l. before ++ l) (sym step) ∙ so_far)

pub ids_done : (rest : List ℕ) (before total : List (List ℕ)) → length rest < 1 → before ++ ids_in rest ≡ total → before ≡ total
unfolding ids_in
ids_done [] before total none so_far = sym (append-nil before) ∙ so_far
ids_done (b ∷ rest) before total none so_far = absurd (omega arith)

pub spaced_next : (after : Bool) (rest before longer total : List ℕ) → 1 ≤ length rest → longer ≡ before ++ spaced_byte after (get_or rest 0 0) → before ++ single_spaced after rest ≡ total → longer ++ single_spaced (is_white (get_or rest 0 0)) (take (length rest - 1) (drop 1 rest)) ≡ total
spaced_next after rest before longer total some e so_far =
    rw (e, rest_of rest) (append_assoc before (spaced_byte after (get_or rest 0 0)) (single_spaced (is_white (get_or rest 0 0)) (drop 1 rest)) ∙ ap (λ l. before ++ l) (sym (spaced_step after rest some)) ∙ so_far)

pub spaced_done : (after : Bool) (rest before total : List ℕ) → length rest < 1 → before ++ single_spaced after rest ≡ total → before ≡ total
unfolding single_spaced
spaced_done after [] before total none so_far = sym (append-nil before) ∙ so_far
spaced_done after (b ∷ rest) before total none so_far = absurd (omega arith)

-- ---- blobs

skip_blobs : (n : ℕ) (text : List ℕ) → n ≤ length text → blobs_len_from n text ≡ n + blobs_len (drop n text)
unfolding blobs_len_from
skip_blobs zero text within = omega arith
skip_blobs (suc n) [] within = absurd (omega arith)
skip_blobs (suc n) (b ∷ text) within = let rest = skip_blobs n text (omega arith) in omega arith

pub blobs_step : (n : ℕ) (text : List ℕ) → n ≡ blob_len text → 0 < n → n ≤ length text → blobs_len text ≡ n + blobs_len (drop n text)
unfolding blobs_len_from
blobs_step n [] e some within = absurd (omega arith)
blobs_step zero (b ∷ text) e some within = absurd (omega arith)
blobs_step (suc n) (b ∷ text) e some within = let rest = skip_blobs n text (omega arith) in rw (sym e, blobs_len_from) (omega arith)

pub blobs_none : (text : List ℕ) → blob_len text ≡ 0 → blobs_len text ≡ 0
unfolding blobs_len_from
blobs_none [] e = refl
blobs_none (b ∷ text) e = rw (e, blobs_len_from) refl

pub blobs_next : (text : List ℕ) (len next after : ℕ) → len + next ≤ length text → next ≡ blob_len (drop len text) → blobs_len text ≡ len + blobs_len (drop len text) → 0 < next
    → after ≡ blob_len (take (length text - (len + next)) (drop (len + next) text)) → after ≤ length (take (length text - (len + next)) (drop (len + next) text))
    → (len + next + after ≤ length text) × ((after ≡ blob_len (drop (len + next) text)) × (blobs_len text ≡ len + next + blobs_len (drop (len + next) text)))
blobs_next text len next after within e counted some e' within' =
    let rest = take_rest text (len + next) in
    let size : length (take (length text - (len + next)) (drop (len + next) text)) ≡ length text - (len + next) = ap length rest ∙ length-drop (len + next) text in
    let left : length (drop len text) ≡ length text - len = length-drop len text in
    let step : blobs_len (drop len text) ≡ next + blobs_len (drop next (drop len text)) = blobs_step next (drop len text) e some (omega arith) in
    let same : blobs_len (drop next (drop len text)) ≡ blobs_len (drop (len + next) text) = ap blobs_len (drop-drop next len text) in
    (omega arith, (e' ∙ ap blob_len rest, omega arith))

pub blobs_end : (text : List ℕ) (len next : ℕ) → next ≡ blob_len (drop len text) → blobs_len text ≡ len + blobs_len (drop len text) → next ≤ 0 → len ≡ blobs_len text
blobs_end text len next e counted none =
    let over : blobs_len (drop len text) ≡ 0 = blobs_none (drop len text) (omega arith) in
    omega arith

-- ---- the front

pub skip_front : (n : ℕ) (reply : Bool) (text : List ℕ) → without_front_from n reply text ≡ without_front_from 0 reply (drop n text)
unfolding without_front_from
skip_front n reply [] = rw (drop_none n) refl
skip_front zero reply (b ∷ text) = refl
skip_front (suc n) reply (b ∷ text) = skip_front n reply text

step_front : (n : ℕ) (reply : Bool) (text : List ℕ) → n ≡ front_len text → 0 < n → 1 ≤ length text → without_front_from 0 reply text ≡ without_front_from 0 (reply || nat_lt 0 (marked_len text)) (drop n text)
unfolding without_front_from
step_front n reply [] e some filled = absurd (omega arith)
step_front zero reply (b ∷ text) e some filled = absurd (omega arith)
step_front (suc n) reply (b ∷ text) e some filled = rw (sym e, without_front_from) (skip_front n (reply || nat_lt 0 (marked_len (b ∷ text))) text)

front_done : (reply : Bool) (text : List ℕ) → front_len text ≡ 0 → without_front_from 0 reply text ≡ base text reply
unfolding without_front_from
front_done reply [] e = refl
front_done reply (b ∷ text) e = rw (e, without_front_from) refl

-- a leader or a blob is at a filled text
filled : (n : ℕ) (text : List ℕ) → n < length text → 1 ≤ length text
filled n text h = omega arith

front_len_leader : (text : List ℕ) → 0 < leader_len text → front_len text ≡ leader_len text
unfolding front_len
front_len_leader text some = rw (lt-ltb 0 (leader_len text) some) refl

front_len_blob : (text : List ℕ) → leader_len text ≡ 0 → front_len text ≡ spare_blob_len text
unfolding front_len
front_len_blob text none = rw none refl

no_leader_of_none : leader_len [] ≡ 0
unfolding leader_len marked_len mark_len word_len blobs_len_from
no_leader_of_none = refl

leader_filled : (text : List ℕ) → 0 < leader_len text → 1 ≤ length text
leader_filled [] some = absurd (omega (arith, no_leader_of_none))
leader_filled (b ∷ text) some = omega arith

pub leader_step : (b : Base) (rest : Base) → 0 < leader_len b.text → rest ≡ without_leader b → without_front rest ≡ without_front b
leader_step b rest some e =
    let len = front_len_leader b.text some in
    ap without_front e ∙ sym (step_front (leader_len b.text) b.reply b.text (sym len) some (leader_filled b.text some))

pub leader_shortens : (b : Base) (rest : Base) → 0 < leader_len b.text → rest ≡ without_leader b → length rest.text < length b.text
leader_shortens b rest some e =
    let filled = leader_filled b.text some in
    let shorter : length rest.text ≡ length b.text - leader_len b.text = ap (λ r. length r.text) e ∙ length-drop (leader_len b.text) b.text in
    omega arith

not_marked : (text : List ℕ) → leader_len text ≡ 0 → marked_len text ≡ 0
unfolding leader_len
not_marked text none =
    elim (cases_Bool (starts_with nat_eq text (codes " "))) [
      | inl space ↦ let one : leader_len text ≡ 1 = rw space refl in absurd (omega arith)
      | inr other ↦ let same : leader_len text ≡ marked_len text = rw other refl in omega arith
    ]

-- `marked_len` is decided after the blobs
mark_after : List ℕ → ℕ
mark_after text = mark_len (drop (blobs_len text) text)

unmarked : (text : List ℕ) → marked_len text ≡ 0 → mark_len (drop (blobs_len text) text) ≡ 0
unfolding marked_len
unmarked text none =
    elim (cases_Bool (nat_lt 0 (mark_len (drop (blobs_len text) text)))) [
      | inl some ↦ let sum : marked_len text ≡ blobs_len text + mark_len (drop (blobs_len text) text) = rw some refl in omega arith
      | inr no_mark ↦ omega (arith, ltb-false)
    ]

unmarked_back : (text : List ℕ) → mark_len (drop (blobs_len text) text) ≡ 0 → marked_len text ≡ 0
unfolding marked_len
unmarked_back text none = rw none refl

unspaced : (x : ℕ) (xs : List ℕ) → is_space x ≡ false → starts_with nat_eq (x ∷ xs) (codes " ") ≡ false
unspaced x xs other =
    let apart : x ≡ 32 → ⊥ = eqb-false x 32 other in
    let turned_apart : eqb 32 x ≡ false = ne_eqb 32 x (λ e. apart (sym e)) in
    rw turned_apart refl

no_space_after : (xs : List ℕ) → starts_with nat_eq (drop (spaces_len xs) xs) (codes " ") ≡ false
no_space_after [] = refl
no_space_after (x ∷ xs) =
    elim (cases_Bool (is_space x)) [
      | inl space ↦
          let n : spaces_len (x ∷ xs) ≡ suc (spaces_len xs) = rw space (omega arith) in
          ap (λ k. starts_with nat_eq (drop k (x ∷ xs)) (codes " ")) n ∙ no_space_after xs
      | inr other ↦
          let n : spaces_len (x ∷ xs) ≡ 0 = rw other refl in
          ap (λ k. starts_with nat_eq (drop k (x ∷ xs)) (codes " ")) n ∙ unspaced x xs other
    ]

-- ---- letters in either case

same_len : (xs ys : List ℕ) → str_eq_ignore_ascii_case xs ys ≡ true → length xs ≡ length ys
same_len xs ys e =
    let same : str_to_ascii_lowercase xs ≡ str_to_ascii_lowercase ys = (bytes_eq-Decides (str_to_ascii_lowercase xs) (str_to_ascii_lowercase ys)).0 e in
    sym (length-map xs to_ascii_lowercase) ∙ ap length same ∙ length-map ys to_ascii_lowercase

pub begins_len : (word text : List ℕ) → begins_with word text ≡ true → length word ≤ length text
begins_len word text e =
    let same = same_len (take (length word) text) word e in
    let taken : length (take (length word) text) ≡ min (length word) (length text) = length-take (length word) text in
    omega arith

pub begins_is : (n : ℕ) (word text : List ℕ) → n ≡ min (length word) (length text) → str_eq_ignore_ascii_case (take n text) word ≡ begins_with word text
begins_is n word text e = ap (λ t. str_eq_ignore_ascii_case t word) (ap (λ k. take k text) e ∙ take_min (length word) text)

pub not_begun : (word text : List ℕ) → length text < length word → begins_with word text ≡ false
not_begun word text short =
    elim (cases_Bool (begins_with word text)) [
      | inl begun ↦ let long = begins_len word text begun in absurd (omega arith)
      | inr other ↦ other
    ]

-- ---- a text from its end

-- the reverse of a text's last bytes, and of the bytes before them
reverse_back : (n : ℕ) (text : List ℕ) → n ≤ length text → take n (reverse text) ≡ reverse (drop (length text - n) text)
reverse_back n text within =
    let k = length text - n in
    let size : length (reverse (drop k text)) ≡ n = length-reverse (drop k text) ∙ (let d = length-drop k text in omega arith) in
    let split : reverse text ≡ reverse (drop k text) ++ reverse (take k text) = sym (ap reverse (take-append-drop k text)) ∙ reverse-append (take k text) (drop k text) in
    ap (λ m. take m (reverse text)) (sym size) ∙ ap (λ t. take (length (reverse (drop k text))) t) split ∙ take-append_seam (reverse (drop k text)) (reverse (take k text))

pub reverse_front : (n : ℕ) (text : List ℕ) → n ≤ length text → drop n (reverse text) ≡ reverse (take (length text - n) text)
reverse_front n text within =
    let k = length text - n in
    let size : length (reverse (drop k text)) ≡ n = length-reverse (drop k text) ∙ (let d = length-drop k text in omega arith) in
    let split : reverse text ≡ reverse (drop k text) ++ reverse (take k text) = sym (ap reverse (take-append-drop k text)) ∙ reverse-append (take k text) (drop k text) in
    ap (λ m. drop m (reverse text)) (sym size) ∙ ap (λ t. drop (length (reverse (drop k text))) t) split ∙ drop-append_seam (reverse (drop k text)) (reverse (take k text))

lower_reverse : (xs : List ℕ) → str_to_ascii_lowercase (reverse xs) ≡ reverse (str_to_ascii_lowercase xs)
lower_reverse [] = refl
lower_reverse (x ∷ xs) =
    ap str_to_ascii_lowercase (reverse-append (x ∷ []) xs) ∙ map-append to_ascii_lowercase (reverse xs) (x ∷ []) ∙ ap (λ t. t ++ to_ascii_lowercase x ∷ []) (lower_reverse xs)
    ∙ sym (reverse-append (to_ascii_lowercase x ∷ []) (str_to_ascii_lowercase xs))

same_reverse : (xs ys : List ℕ) → str_eq_ignore_ascii_case xs ys ≡ true → str_eq_ignore_ascii_case (reverse xs) (reverse ys) ≡ true
same_reverse xs ys e =
    let same : str_to_ascii_lowercase xs ≡ str_to_ascii_lowercase ys = (bytes_eq-Decides (str_to_ascii_lowercase xs) (str_to_ascii_lowercase ys)).0 e in
    (bytes_eq-Decides (str_to_ascii_lowercase (reverse xs)) (str_to_ascii_lowercase (reverse ys))).1 (lower_reverse xs ∙ ap reverse same ∙ sym (lower_reverse ys))

pub turned_same : (xs ys : List ℕ) → str_eq_ignore_ascii_case xs ys ≡ str_eq_ignore_ascii_case (reverse xs) (reverse ys)
turned_same xs ys =
    elim (cases_Bool (str_eq_ignore_ascii_case xs ys)) [
      | inl same ↦ same ∙ sym (same_reverse xs ys same)
      | inr other ↦
          elim (cases_Bool (str_eq_ignore_ascii_case (reverse xs) (reverse ys))) [
            | inl turned_is ↦
                let back = same_reverse (reverse xs) (reverse ys) turned_is in
                let same : str_eq_ignore_ascii_case xs ys ≡ true = sym (ap (λ l. str_eq_ignore_ascii_case l (reverse (reverse ys))) (reverse-reverse xs) ∙ ap (str_eq_ignore_ascii_case xs) (reverse-reverse ys)) ∙ back in
                absurd (cc)
            | inr turned_other ↦ other ∙ sym turned_other
          ]
    ]

pub trailer_is : (text last : List ℕ) → 5 ≤ length text → last ≡ take (length text - (length text - 5)) (drop (length text - 5) text) → str_eq_ignore_ascii_case last (codes "(fwd)") ≡ is_trailer (reverse text)
unfolding is_trailer
trailer_is text last long e =
    let all : last ≡ drop (length text - 5) text = e ∙ take_rest text (length text - 5) in
    ap (λ t. str_eq_ignore_ascii_case t (codes "(fwd)")) all ∙ turned_same (drop (length text - 5) text) (codes "(fwd)") ∙ ap (λ t. str_eq_ignore_ascii_case t (codes ")dwf(")) (sym (reverse_back 5 text long))

pub no_trailer : (text : List ℕ) → length text < 5 → is_trailer (reverse text) ≡ false
unfolding is_trailer
no_trailer text short = not_begun (codes ")dwf(") (reverse text) (omega (arith, length-reverse {A = ℕ}))

-- ---- leaders and blobs

or_false : (b : Bool) → (b || false) ≡ b
or_false true = refl
or_false false = refl

or_true : (b : Bool) → (b || true) ≡ true
or_true true = refl
or_true false = refl

and_true : (b : Bool) → (b && true) ≡ b
and_true true = refl
and_true false = refl

and_false : (b : Bool) → (b && false) ≡ false
and_false true = refl
and_false false = refl

space_unmarked : (text : List ℕ) → marked_len (32 ∷ text) ≡ 0
unfolding marked_len mark_len word_len blobs_len_from blob_len
space_unmarked text = refl

space_first : (x : ℕ) (xs : List ℕ) → starts_with nat_eq (x ∷ xs) (codes " ") ≡ true → x ≡ 32
space_first x xs e =
    elim (cases_Bool (is_space x)) [
      | inl space ↦ eqb-true x 32 space
      | inr other ↦ let none = unspaced x xs other in absurd (cc)
    ]

pub leader_space : (reply : Bool) (text : List ℕ) → starts_with nat_eq text (codes " ") ≡ true → (0 < leader_len text) × (base (take (length text - 1) (drop 1 text)) reply ≡ without_leader (base text reply))
unfolding leader_len
leader_space reply [] e = absurd (cc)
leader_space reply (x ∷ xs) e =
    let first = space_first x xs e in
    let one : leader_len (x ∷ xs) ≡ 1 = rw e refl in
    let unmarked : marked_len (x ∷ xs) ≡ 0 = ap (λ b. marked_len (b ∷ xs)) first ∙ space_unmarked xs in
    let flag : reply ≡ (reply || nat_lt 0 (marked_len (x ∷ xs))) = sym (ap (λ n. reply || nat_lt 0 n) unmarked ∙ or_false reply) in
    let text : take (length (x ∷ xs) - 1) (drop 1 (x ∷ xs)) ≡ drop (leader_len (x ∷ xs)) (x ∷ xs) = take_rest (x ∷ xs) 1 ∙ ap (λ n. drop n (x ∷ xs)) (sym one) in
    (omega arith, ap (λ t. base t reply) text ∙ ap (base (drop (leader_len (x ∷ xs)) (x ∷ xs))) flag)

pub no_leader : (text : List ℕ) → starts_with nat_eq text (codes " ") ≡ false → marked_len text ≡ 0 → leader_len text ≡ 0
unfolding leader_len
no_leader text other none = rw other none

pub leader_mark : (n : ℕ) (reply : Bool) (text : List ℕ) → starts_with nat_eq text (codes " ") ≡ false → n ≡ marked_len text → 0 < n → (0 < leader_len text) × (base (take (length text - n) (drop n text)) true ≡ without_leader (base text reply))
unfolding leader_len
leader_mark n reply text other e some =
    let len : leader_len text ≡ marked_len text = rw other refl in
    let flag : (reply || nat_lt 0 (marked_len text)) ≡ true = ap (λ k. reply || nat_lt 0 k) (sym e) ∙ ap (λ b. reply || b) (lt-ltb 0 n some) ∙ or_true reply in
    let text_is : take (length text - n) (drop n text) ≡ drop (leader_len text) text = take_rest text n ∙ ap (λ k. drop k text) (e ∙ sym len) in
    (omega arith, ap (λ t. base t true) text_is ∙ ap (base (drop (leader_len text) text)) (sym flag))

closed_no_space : (n p b : ℕ) (inside rest : List ℕ) → rest ≡ drop p inside → n ≡ closed_blob_len p rest → 0 < n → starts_with nat_eq (drop n (b ∷ inside)) (codes " ") ≡ false
closed_no_space n p b inside [] e is some = absurd (omega arith)
closed_no_space n p b inside (c ∷ after) e is some =
    elim (cases_Bool (c == 93)) [
      | inl closes ↦
          let size : n ≡ suc (p + suc (spaces_len after)) = is ∙ rw closes (omega arith) in
          let rest : drop n (b ∷ inside) ≡ drop (spaces_len after) after =
          ap (λ k. drop k (b ∷ inside)) size ∙ sym (drop-drop (suc (spaces_len after)) p inside) ∙ ap (drop (suc (spaces_len after))) (sym e) in
          ap (λ t. starts_with nat_eq t (codes " ")) rest ∙ no_space_after after
      | inr open_still ↦ let none : n ≡ 0 = is ∙ rw open_still refl in absurd (omega arith)
    ]

after_blob : (n : ℕ) (text : List ℕ) → n ≡ blob_len text → 0 < n → starts_with nat_eq (drop n text) (codes " ") ≡ false
unfolding blob_len
after_blob n [] e some = absurd (omega arith)
after_blob n (b ∷ text) e some =
    elim (cases_Bool (b == 91)) [
      | inl opens ↦
          let p = position_or_len is_bracket text in
          closed_no_space n p b text (drop p text) refl (e ∙ rw opens refl) some
      | inr other ↦ let none : n ≡ 0 = e ∙ rw other refl in absurd (omega arith)
    ]

blob_leads_nowhere : (n : ℕ) (text : List ℕ) → leader_len text ≡ 0 → n ≡ blob_len text → 0 < n → n < length text → leader_len (drop n text) ≡ 0
blob_leads_nowhere n text none e some within =
    let same : drop (blobs_len (drop n text)) (drop n text) ≡ drop (blobs_len text) text =
    drop-drop (blobs_len (drop n text)) n text ∙ ap (λ k. drop k text) (sym (blobs_step n text e some (omega arith))) in
    no_leader (drop n text) (after_blob n text e some) (unmarked_back (drop n text) (ap mark_len same ∙ unmarked text (not_marked text none)))

spare_is : (text more : List ℕ) → more ≡ drop (spare_blob_len text) text → length more < length text → (spare_blob_len text ≡ blob_len text) × ((0 < blob_len text) × (blob_len text < length text))
spare_is text more e shorter =
    let left : length more ≡ length text - spare_blob_len text = ap length e ∙ length-drop (spare_blob_len text) text in
    elim (cases_Bool (nat_lt (blob_len text) (length text))) [
      | inl within ↦ let same : spare_blob_len text ≡ blob_len text = rw within refl in (same, (omega arith, ltb-true (blob_len text) (length text) within))
      | inr over ↦ let none : spare_blob_len text ≡ 0 = rw over refl in absurd (omega arith)
    ]

pub blob_turn : (text more : List ℕ) → leader_len text ≡ 0 → more ≡ drop (spare_blob_len text) text → length more < length text → (leader_len more ≡ 0) × ((reply : Bool) → without_front_from 0 reply more ≡ without_front_from 0 reply text)
blob_turn text more none e shorter =
    let spare = spare_is text more e shorter in
    let more_is : more ≡ drop (blob_len text) text = e ∙ ap (λ k. drop k text) spare.0 in
    let len : blob_len text ≡ front_len text = sym (front_len_blob text none ∙ spare.0) in
    let unmarked : marked_len text ≡ 0 = not_marked text none in (
      ap leader_len more_is ∙ blob_leads_nowhere (blob_len text) text none refl spare.1.0 spare.1.1,
      λ reply. ap (without_front_from 0 reply) more_is
          ∙ ap (λ r. without_front_from 0 r (drop (blob_len text) text)) (sym (ap (λ n. reply || nat_lt 0 n) unmarked ∙ or_false reply))
          ∙ sym (step_front (blob_len text) reply text len spare.1.0 (omega arith)),
    )

pub blobs_done : (text : List ℕ) → leader_len text ≡ 0 → spare_blob_len text ≡ 0 → (reply : Bool) → without_front_from 0 reply text ≡ base text reply
blobs_done text none spare reply = front_done reply text (front_len_blob text none ∙ spare)

-- ---- the back

skip_back : (n : ℕ) (reply : Bool) (text : List ℕ) → without_back_from n reply text ≡ without_back_from 0 reply (drop n text)
unfolding without_back_from
skip_back n reply [] = rw (drop_none n) refl
skip_back zero reply (b ∷ text) = refl
skip_back (suc n) reply (b ∷ text) = skip_back n reply text

step_back : (n : ℕ) (reply : Bool) (text : List ℕ) → n ≡ back_len text → 0 < n → 1 ≤ length text → without_back_from 0 reply text ≡ without_back_from 0 (reply || is_trailer text) (drop n text)
unfolding without_back_from
step_back n reply [] e some filled = absurd (omega arith)
step_back zero reply (b ∷ text) e some filled = absurd (omega arith)
step_back (suc n) reply (b ∷ text) e some filled = rw (sym e, without_back_from) (skip_back n (reply || is_trailer (b ∷ text)) text)

back_done : (reply : Bool) (text : List ℕ) → back_len text ≡ 0 → without_back_from 0 reply text ≡ base text reply
unfolding without_back_from
back_done reply [] e = refl
back_done reply (b ∷ text) e = rw (e, without_back_from) refl

no_trailer_of_none : back_len [] ≡ 0
unfolding back_len is_trailer
no_trailer_of_none = refl

trailer_filled : (text : List ℕ) → 0 < back_len text → 1 ≤ length text
trailer_filled [] some = absurd (omega (arith, no_trailer_of_none))
trailer_filled (b ∷ text) some = omega arith

-- a trailer is removed
pub trailer_step : (text rest : List ℕ) (reply marked : Bool) → 0 < back_len (reverse text) → base (reverse rest) marked ≡ without_trailer (base (reverse text) reply) → without_back (base rest marked) ≡ without_back (base text reply)
trailer_step text rest reply marked some e =
    ap (λ b. turned (without_back_from 0 b.reply b.text)) e
    ∙ ap turned (sym (step_back (back_len (reverse text)) reply (reverse text) refl some (trailer_filled (reverse text) some)))

pub trailer_shortens : (text rest : List ℕ) (reply marked : Bool) → 0 < back_len (reverse text) → base (reverse rest) marked ≡ without_trailer (base (reverse text) reply) → length rest < length text
trailer_shortens text rest reply marked some e =
    let filled = trailer_filled (reverse text) some in
    let shorter : length (reverse rest) ≡ length (reverse text) - back_len (reverse text) = ap (λ b. length b.text) e ∙ length-drop (back_len (reverse text)) (reverse text) in
    let a = length-reverse rest in
    let b = length-reverse text in
    omega arith

pub trailers_done : (text : List ℕ) (reply : Bool) → back_len (reverse text) ≡ 0 → without_back (base text reply) ≡ base text reply
trailers_done text reply none = ap turned (back_done reply (reverse text) none) ∙ ap (λ t. base t reply) (reverse-reverse text)

reverse_one : (xs : List ℕ) → length xs ≡ 1 → reverse xs ≡ xs
reverse_one [] e = absurd (omega arith)
reverse_one (x ∷ []) e = refl
reverse_one (x ∷ y ∷ ys) e = absurd (omega arith)

last_space : (text : List ℕ) → starts_with nat_eq (reverse text) (codes " ") ≡ ends_with nat_eq text (codes " ")
last_space [] = refl
last_space (x ∷ xs) =
    let last = drop (length (x ∷ xs) - 1) (x ∷ xs) in
    let size : length last ≡ 1 = length-drop (length (x ∷ xs) - 1) (x ∷ xs) ∙ (let q : length (x ∷ xs) - (length (x ∷ xs) - 1) ≡ 1 = omega arith in q) in
    ap (λ t. pointwise nat_eq (codes " ") t) (reverse_back 1 (x ∷ xs) (omega arith) ∙ reverse_one last size)

space_no_trailer : (text : List ℕ) → is_trailer (32 ∷ text) ≡ false
unfolding is_trailer
space_no_trailer text = refl

unspaced_by_first : (text : List ℕ) → starts_with nat_eq text (codes " ") ≡ true → is_trailer text ≡ false
unspaced_by_first [] e = absurd (cc)
unspaced_by_first (x ∷ xs) e = ap (λ b. is_trailer (b ∷ xs)) (space_first x xs e) ∙ space_no_trailer xs

pub trailing_space : (reply : Bool) (text : List ℕ) → 1 ≤ length text → ends_with nat_eq text (codes " ") ≡ true → (0 < back_len (reverse text)) × (base (reverse (take (length text - 1) text)) reply ≡ without_trailer (base (reverse text) reply))
unfolding back_len
trailing_space reply text some e =
    let first : starts_with nat_eq (reverse text) (codes " ") ≡ true = last_space text ∙ e in
    let one : back_len (reverse text) ≡ 1 = rw first refl in
    let unmarked = unspaced_by_first (reverse text) first in
    let flag : reply ≡ (reply || is_trailer (reverse text)) = sym (ap (λ b. reply || b) unmarked ∙ or_false reply) in
    let text_is : reverse (take (length text - 1) text) ≡ drop (back_len (reverse text)) (reverse text) = sym (reverse_front 1 text some) ∙ ap (λ n. drop n (reverse text)) (sym one) in
    (omega arith, ap (λ t. base t reply) text_is ∙ ap (base (drop (back_len (reverse text)) (reverse text))) flag)

pub trailing_mark : (reply : Bool) (text : List ℕ) → 5 ≤ length text → ends_with nat_eq text (codes " ") ≡ false → is_trailer (reverse text) ≡ true → (0 < back_len (reverse text)) × (base (reverse (take (length text - 5) text)) true ≡ without_trailer (base (reverse text) reply))
unfolding back_len
trailing_mark reply text long other marked =
    let first : starts_with nat_eq (reverse text) (codes " ") ≡ false = last_space text ∙ other in
    let five : back_len (reverse text) ≡ 5 = rw first (rw marked refl) in
    let flag : true ≡ (reply || is_trailer (reverse text)) = sym (ap (λ b. reply || b) marked ∙ or_true reply) in
    let text_is : reverse (take (length text - 5) text) ≡ drop (back_len (reverse text)) (reverse text) = sym (reverse_front 5 text long) ∙ ap (λ n. drop n (reverse text)) (sym five) in
    (omega arith, ap (λ t. base t true) text_is ∙ ap (base (drop (back_len (reverse text)) (reverse text))) flag)

pub no_back : (text : List ℕ) → ends_with nat_eq text (codes " ") ≡ false → is_trailer (reverse text) ≡ false → back_len (reverse text) ≡ 0
unfolding back_len
no_back text other unmarked =
    let first : starts_with nat_eq (reverse text) (codes " ") ≡ false = last_space text ∙ other in
    rw first (rw unmarked refl)

-- ---- forwards

pub forward_if : (text : List ℕ) → ends_with nat_eq text (codes "]") ≡ true → is_forward text ≡ begins_with (codes "[fwd:") (without_last text)
unfolding is_forward
forward_if text e = ap (λ b. begins_with (codes "[fwd:") (without_last text) && b) e ∙ and_true (begins_with (codes "[fwd:") (without_last text))

pub no_forward : (text : List ℕ) → ends_with nat_eq text (codes "]") ≡ false → is_forward text ≡ false
unfolding is_forward
no_forward text e = ap (λ b. begins_with (codes "[fwd:") (without_last text) && b) e ∙ and_false (begins_with (codes "[fwd:") (without_last text))

-- ---- rounds

front_short_at : (n : ℕ) (reply : Bool) (b : ℕ) (text : List ℕ) → front_len (b ∷ text) ≡ n → ((skip : ℕ) (r : Bool) → length (without_front_from skip r text).text ≤ length text) → length (without_front_from 0 reply (b ∷ text)).text ≤ suc (length text)
unfolding without_front_from
front_short_at zero reply b text e more = rw (e, without_front_from) (omega arith)
front_short_at (suc n) reply b text e more = rw (e, without_front_from) (let h = more n (reply || nat_lt 0 (marked_len (b ∷ text))) in omega arith)

front_short : (skip : ℕ) (reply : Bool) (text : List ℕ) → length (without_front_from skip reply text).text ≤ length text
unfolding without_front_from
front_short skip reply [] = omega arith
front_short zero reply (b ∷ text) = front_short_at (front_len (b ∷ text)) reply b text refl (λ skip r. front_short skip r text)
front_short (suc skip) reply (b ∷ text) = let h = front_short skip reply text in omega arith

back_short_at : (n : ℕ) (reply : Bool) (b : ℕ) (text : List ℕ) → back_len (b ∷ text) ≡ n → ((skip : ℕ) (r : Bool) → length (without_back_from skip r text).text ≤ length text) → length (without_back_from 0 reply (b ∷ text)).text ≤ suc (length text)
unfolding without_back_from
back_short_at zero reply b text e more = rw (e, without_back_from) (omega arith)
back_short_at (suc n) reply b text e more = rw (e, without_back_from) (let h = more n (reply || is_trailer (b ∷ text)) in omega arith)

back_short : (skip : ℕ) (reply : Bool) (text : List ℕ) → length (without_back_from skip reply text).text ≤ length text
unfolding without_back_from
back_short skip reply [] = omega arith
back_short zero reply (b ∷ text) = back_short_at (back_len (b ∷ text)) reply b text refl (λ skip r. back_short skip r text)
back_short (suc skip) reply (b ∷ text) = let h = back_short skip reply text in omega arith

trimmed_short : (b : Base) → length (trimmed b).text ≤ length b.text
trimmed_short b =
    let front = front_short 0 (without_back b).reply (without_back b).text in
    let back = back_short 0 b.reply (reverse b.text) in
    let turned_len : length (without_back b).text ≡ length (without_back_from 0 b.reply (reverse b.text)).text = length-reverse (without_back_from 0 b.reply (reverse b.text)).text in
    let whole = length-reverse b.text in
    omega arith

no_forward_of_none : is_forward [] ≡ false
unfolding is_forward
no_forward_of_none = refl

forward_filled : (text : List ℕ) → is_forward text ≡ true → 1 ≤ length text
forward_filled [] e = let none = no_forward_of_none in absurd (cc)
forward_filled (b ∷ text) e = omega arith

inside_short : (text : List ℕ) → is_forward text ≡ true → length (trimmed (inside_forward text)).text < length text
inside_short text e =
    let some = forward_filled text e in
    let trim_len = trimmed_short (inside_forward text) in
    let front = length-drop 5 (without_last text) in
    let last = length-take-le (length text - 1) text (omega arith) in
    omega arith

pub opened_once : (n : ℕ) (b : Base) → is_forward b.text ≡ true → opened (suc n) b ≡ opened n (trimmed (inside_forward b.text))
unfolding opened
opened_once n b e = rw (e, opened) refl

pub opened_done : (n : ℕ) (b : Base) → is_forward b.text ≡ false → opened n b ≡ b
unfolding opened
opened_done zero b e = refl
opened_done (suc n) b e = rw (e, opened) refl

no_forward_none : (b : Base) → length b.text ≤ 0 → is_forward b.text ≡ false
no_forward_none b none =
    elim (cases_Bool (is_forward b.text)) [
      | inl e ↦ let some = forward_filled b.text e in absurd (omega arith)
      | inr other ↦ other
    ]

pub opened_enough : (n m : ℕ) (b : Base) → length b.text ≤ n → length b.text ≤ m → opened n b ≡ opened m b
opened_enough zero m b few more = opened_done zero b (no_forward_none b few) ∙ sym (opened_done m b (no_forward_none b few))
opened_enough (suc n) zero b few more = opened_done (suc n) b (no_forward_none b more) ∙ sym (opened_done zero b (no_forward_none b more))
opened_enough (suc n) (suc m) b few more =
    elim (cases_Bool (is_forward b.text)) [
      | inl e ↦
          let short = inside_short b.text e in
          opened_once n b e ∙ opened_enough n m (trimmed (inside_forward b.text)) (omega arith) (omega arith) ∙ sym (opened_once m b e)
      | inr other ↦ opened_done (suc n) b other ∙ sym (opened_done (suc m) b other)
    ]

pub unwrapped_first : (text : List ℕ) (b : Base) → b ≡ trimmed (base text false) → opened (length b.text) b ≡ unwrapped text
unwrapped_first text b e =
    let short = trimmed_short (base text false) in
    ap (λ c. opened (length c.text) c) e ∙ opened_enough (length (trimmed (base text false)).text) (length text) (trimmed (base text false)) (omega arith) short

pub unwrapped_next : (b inside next : Base) → is_forward b.text ≡ true → inside ≡ inside_forward b.text → next ≡ trimmed inside → (opened (length next.text) next ≡ opened (length b.text) b) × (length next.text < length b.text)
unwrapped_next b inside next forward i e =
    let is : next ≡ trimmed (inside_forward b.text) = e ∙ ap trimmed i in
    let short = inside_short b.text forward in
    let size : length next.text ≡ length (trimmed (inside_forward b.text)).text = ap (λ c. length c.text) is in
    let some = forward_filled b.text forward in
    let k : length b.text ≡ suc (length b.text - 1) = omega arith in (
      ap (λ c. opened (length c.text) c) is
          ∙ opened_enough (length (trimmed (inside_forward b.text)).text) (length b.text - 1) (trimmed (inside_forward b.text)) (omega arith) (omega arith)
          ∙ sym (opened_once (length b.text - 1) b forward) ∙ ap (λ n. opened n b) (sym k),
      omega arith,
    )
