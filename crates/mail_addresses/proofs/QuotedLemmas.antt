-- A quoted string, a run and a mark at a time.
use Rattle.std.proofs.Common.{◌≡◌, ℕ, zero, suc, ◌+◌, ◌-◌, ◌<◌, ◌≤◌, inl, inr, Bool, true, false, eqb, List, [], ◌∷◌, ◌++◌, length, take, drop, get_or, refl, sym, ap, subst, ◌∙◌, arith, append_assoc, Option, Some, None, Result, Ok, Err}
use Rattle.std.specs.List.{prefix_len}
use Rattle.std.proofs.lemmas.Bool.{cases_Bool, eqb-true, ne_eqb}
use Rattle.std.proofs.lemmas.Bool.Decides.{nat_tests}
use Rattle.std.proofs.lemmas.List.{append-nil, length-drop}
use Rattle.mail_addresses.specs.declared.reading.Stop.{Stop}
use Rattle.mail_addresses.specs.declared.reading.Stop.TheVariants as faults
use Rattle.mail_addresses.specs.Runs.{StopsAs, byte_at, in_class, is_quoted, or_stop, strip_at, take_while_at}
use Rattle.mail_addresses.specs.Boxes.{escaped_len, prepend, quoted_at}
use Rattle.mail_addresses.specs.declared.runs.Class.TheVariants as classes

-- a text in front of one that is read
abbrev pub prepend_all : List ℕ → Result (List ℕ × List ℕ) ℕ → Result (List ℕ × List ℕ) ℕ
prepend_all front (Ok x) = Ok (front ++ x.0, x.1)
prepend_all front (Err left) = Err left

none : (q : Result (List ℕ × List ℕ) ℕ) → prepend_all [] q ≡ q
none (Ok x) = refl
none (Err left) = refl

twice : (a b : List ℕ) (q : Result (List ℕ × List ℕ) ℕ) → prepend_all a (prepend_all b q) ≡ prepend_all (a ++ b) q
twice a b (Ok x) = ap (λ (xs : List ℕ). Ok (xs, x.1)) (sym (append_assoc a b x.0))
twice a b (Err left) = refl

one : (c : ℕ) (text : List ℕ) (q : Result (List ℕ × List ℕ) ℕ) → prepend c (prepend_all text q) ≡ prepend_all (c ∷ text) q
one c text (Ok x) = refl
one c text (Err left) = refl

single : (c : ℕ) (q : Result (List ℕ × List ℕ) ℕ) → prepend c q ≡ prepend_all (c ∷ []) q
single c (Ok x) = refl
single c (Err left) = refl

-- ---- one byte

plain : (c : ℕ) (rest : List ℕ) → eqb c 34 ≡ false → eqb c 92 ≡ false → quoted_at (c ∷ rest) ≡ prepend c (quoted_at rest)
unfolding quoted_at
plain c [] e f = rw e refl
plain c (d ∷ rest) e f = rw (e, f) refl

quote_ends : (rest : List ℕ) → quoted_at (34 ∷ rest) ≡ Ok ([], rest)
unfolding quoted_at
quote_ends [] = refl
quote_ends (d ∷ rest) = refl

kept : (c : ℕ) (rest : List ℕ) → is_quoted c ≡ true → quoted_at (c ∷ rest) ≡ prepend c (quoted_at rest)
kept c rest e =
    let no34 : eqb c 34 ≡ false = grind (arith, nat_tests) in
    let no92 : eqb c 92 ≡ false = grind (arith, nat_tests) in
    plain c rest no34 no92

-- ---- a run

more : (n : ℕ) → 1 + n ≡ suc n
more n = omega arith

run : (rest : List ℕ) → quoted_at rest ≡ prepend_all (take (prefix_len is_quoted rest) rest) (quoted_at (drop (prefix_len is_quoted rest) rest))
run [] = sym (none (quoted_at []))
run (c ∷ rest) = elim (cases_Bool (is_quoted c)) [
  | inl e ↦ rw (e, more (prefix_len is_quoted rest)) (kept c rest e ∙ ap (prepend c) (run rest) ∙ one c (take (prefix_len is_quoted rest) rest) (quoted_at (drop (prefix_len is_quoted rest) rest)))
  | inr e ↦ rw e (sym (none (quoted_at (c ∷ rest))))
]

-- the byte after a run is a quote or a `\`
abbrev pub BeginsWithMark : List ℕ → Type 0
BeginsWithMark [] = Unit {0}
BeginsWithMark (c ∷ text) = is_quoted c ≡ false

after_run : (rest : List ℕ) → BeginsWithMark (drop (prefix_len is_quoted rest) rest)
after_run [] = tt
after_run (c ∷ rest) = elim (cases_Bool (is_quoted c)) [
  | inl e ↦ rw (e, more (prefix_len is_quoted rest)) (after_run rest)
  | inr e ↦ rw e e
]

-- ---- a mark

abbrev left_of : {A : Type 0} → Result A ℕ → ℕ
left_of (Ok x) = 0
left_of (Err left) = left

abbrev tag : {A : Type 0} → Result A ℕ → ℕ
tag (Ok x) = 1
tag (Err left) = 0

abbrev value_of : Result (List ℕ) ℕ → List ℕ
value_of (Ok x) = x
value_of (Err left) = []

abbrev found : Option (List ℕ) → ℕ
found None = 0
found (Some x) = 1

abbrev found_text : Option (List ℕ) → List ℕ
found_text None = []
found_text (Some x) = x

refused : {A B : Type 0} (x : A) (left : ℕ) → Ok x ≡ Err left → B
refused x left e = absurd (let z : 1 ≡ 0 = ap tag e in omega arith)

stripped : (b : ℕ) (text rest : List ℕ) → Some rest ≡ strip_at b text → text ≡ b ∷ rest
stripped b [] rest e = absurd (let z : 1 ≡ 0 = ap found e in omega arith)
stripped b (c ∷ text) rest e = elim (cases_Bool (eqb c b)) [
  | inl same ↦
      let e' = rw same at e in
      let r : rest ≡ text = ap found_text e' in
      ap (λ k. k ∷ text) (eqb-true c b same) ∙ ap (λ t. b ∷ t) (sym r)
  | inr other ↦ let e' = rw other at e in absurd (let z : 1 ≡ 0 = ap found e' in omega arith)
]

expected : (b : ℕ) (text rest : List ℕ) → byte_at b text ≡ Ok rest → text ≡ b ∷ rest
expected b [] rest e = refused rest 0 (sym e)
expected b (c ∷ text) rest e = elim (cases_Bool (eqb c b)) [
  | inl same ↦
      let e' = rw same at e in
      let r : text ≡ rest = ap value_of e' in
      ap (λ k. k ∷ text) (eqb-true c b same) ∙ ap (λ t. b ∷ t) r
  | inr other ↦ let e' = rw other at e in refused rest (length (c ∷ text)) (sym e')
]

escape : (after : List ℕ) → quoted_at (92 ∷ after) ≡ prepend_all (take (escaped_len after) after) (quoted_at (drop (escaped_len after) after))
unfolding quoted_at
escape [] = refl
escape (d ∷ text) = elim (cases_Bool (eqb d 34)) [
  | inl e ↦ rw e (single d (quoted_at text))
  | inr e ↦ elim (cases_Bool (eqb d 92)) [
    | inl f ↦ rw (e, f) (single d (quoted_at text))
    | inr f ↦ rw (e, f) (sym (plain d text e f) ∙ sym (none (quoted_at (d ∷ text))))
  ]
]

-- ---- the loop

pub ends : (front rest text mark after : List ℕ) (total : Result (List ℕ × List ℕ) ℕ) → text ≡ (take_while_at classes.Quoted rest).0 → mark ≡ (take_while_at classes.Quoted rest).1 → Some after ≡ strip_at 34 mark
    → prepend_all front (quoted_at rest) ≡ total → total ≡ Ok (front ++ text, after)
ends front rest text mark after total t m e so =
    let read : quoted_at rest ≡ prepend_all text (quoted_at mark) = run rest ∙ ap (λ (x : List ℕ). prepend_all x (quoted_at (drop (prefix_len is_quoted rest) rest))) (sym t) ∙ ap (λ (x : List ℕ). prepend_all text (quoted_at x)) (sym m) in
    let closed : quoted_at mark ≡ Ok ([], after) = ap quoted_at (stripped 34 mark after e) ∙ quote_ends after in
    sym so ∙ ap (prepend_all front) (read ∙ ap (prepend_all text) closed) ∙ ap (λ (x : List ℕ). Ok (front ++ x, after)) (append-nil text)

pub goes_on : (front rest text mark after escaped more longer : List ℕ) (total : Result (List ℕ × List ℕ) ℕ) → text ≡ (take_while_at classes.Quoted rest).0 → mark ≡ (take_while_at classes.Quoted rest).1 → byte_at 92 mark ≡ Ok after
    → escaped ≡ take (escaped_len after) after → more ≡ drop (escaped_len after) after → longer ≡ (front ++ text) ++ escaped
    → prepend_all front (quoted_at rest) ≡ total → prepend_all longer (quoted_at more) ≡ total
goes_on front rest text mark after escaped more longer total t m e x y l so =
    let read : quoted_at rest ≡ prepend_all text (quoted_at mark) = run rest ∙ ap (λ (x : List ℕ). prepend_all x (quoted_at (drop (prefix_len is_quoted rest) rest))) (sym t) ∙ ap (λ (x : List ℕ). prepend_all text (quoted_at x)) (sym m) in
    let marked : quoted_at mark ≡ prepend_all escaped (quoted_at more) = ap quoted_at (expected 92 mark after e) ∙ escape after ∙ ap (λ (z : List ℕ). prepend_all z (quoted_at (drop (escaped_len after) after))) (sym x) ∙ ap (λ (z : List ℕ). prepend_all escaped (quoted_at z)) (sym y) in
    rw l (sym (twice (front ++ text) escaped (quoted_at more)) ∙ sym (twice front text (prepend_all escaped (quoted_at more))) ∙ ap (λ (q : Result (List ℕ × List ℕ) ℕ). prepend_all front (prepend_all text q)) (sym marked) ∙ ap (prepend_all front) (sym read) ∙ so)

stop_at : (mark : List ℕ) (left : ℕ) → BeginsWithMark mark → None ≡ strip_at 34 mark → byte_at 92 mark ≡ Err left → quoted_at mark ≡ Err left
unfolding quoted_at
stop_at [] left marked e f = ap (λ (n : ℕ). Err n) (ap left_of f)
stop_at (c ∷ text) left marked e f = elim (cases_Bool (eqb c 34)) [
  | inl same ↦ let e' = rw same at e in absurd (let z : 0 ≡ 1 = ap found e' in omega arith)
  | inr other ↦ elim (cases_Bool (eqb c 92)) [
    | inl same ↦ let f' = rw same at f in refused text left f'
    | inr other' ↦ absurd (grind (arith, nat_tests))
  ]
]

stops_before : (front rest text mark : List ℕ) (left : ℕ) (total : Result (List ℕ × List ℕ) ℕ) → text ≡ (take_while_at classes.Quoted rest).0 → mark ≡ (take_while_at classes.Quoted rest).1 → None ≡ strip_at 34 mark → byte_at 92 mark ≡ Err left
    → prepend_all front (quoted_at rest) ≡ total → total ≡ Err left
stops_before front rest text mark left total t m e f so =
    let read : quoted_at rest ≡ prepend_all text (quoted_at mark) = run rest ∙ ap (λ (x : List ℕ). prepend_all x (quoted_at (drop (prefix_len is_quoted rest) rest))) (sym t) ∙ ap (λ (x : List ℕ). prepend_all text (quoted_at x)) (sym m) in
    let marked : BeginsWithMark mark = rw m (after_run rest) in
    sym so ∙ ap (prepend_all front) (read ∙ ap (prepend_all text) (stop_at mark left marked e f))

pub stops : (s : Stop) (front rest text mark : List ℕ) (total : Result (List ℕ × List ℕ) ℕ) → text ≡ (take_while_at classes.Quoted rest).0 → mark ≡ (take_while_at classes.Quoted rest).1 → None ≡ strip_at 34 mark → StopsAs s (byte_at 92 mark)
    → prepend_all front (quoted_at rest) ≡ total → StopsAs s total
stops faults.Memory front rest text mark total t m e f so = tt
stops (faults.Before left) front rest text mark total t m e f so = stops_before front rest text mark left total t m e f so

pub shorter : (rest mark after more : List ℕ) (k : ℕ) → mark ≡ (take_while_at classes.Quoted rest).1 → byte_at 92 mark ≡ Ok after → more ≡ drop k after → length more < length rest
shorter rest mark after more k m e y =
    let a : length mark ≡ length (92 ∷ after) = ap length (expected 92 mark after e) in
    let b : length mark ≡ length rest - prefix_len is_quoted rest = ap length m ∙ length-drop (prefix_len is_quoted rest) rest in
    let d : length more ≡ length after - k = ap length y ∙ length-drop k after in
    omega arith
