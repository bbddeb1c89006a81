-- The addresses of boxes have neither CR nor LF.
use Rattle.std.proofs.Common.{◌≡◌, ℕ, zero, suc, inl, inr, Bool, true, false, List, [], ◌∷◌, length, take, refl, ap, subst, ◌∙◌, arith, Ok, Err}
use Rattle.std.specs.Prelude.{◌&&◌, ◌==◌, nat_le, nat_lt, Option, Some, None, Result, IfOk}
use Rattle.std.specs.List.{list_all, prefix_len}
use Rattle.std.proofs.lemmas.Bool.{and_parts, cases_Bool, eqb-true}
use Rattle.std.proofs.lemmas.List.{take_all, take-append-drop}
use Rattle.mail_addresses.specs.declared.Mailbox.{Mailbox}
use Rattle.mail_addresses.specs.declared.runs.Class.{Class}
use Rattle.mail_addresses.specs.declared.runs.Class.TheVariants as classes
use Rattle.mail_addresses.specs.Runs.{◌>>=◌, begins_with, byte_at, in_class, is_local, is_run, run_at, skip_spaces, strip_at, take_while_at, trim_end}
use Rattle.mail_addresses.specs.Boxes.{address_at, angle_at, bare_at, box_after, box_at, boxes_of, boxes_within, continue_list, domain_at, is_address, is_domain_part, next_at, quoted_at, quoted_box_at, spaced_box_at, unquoted_box_at, with_offset}
use Rattle.compose_drafts.specs.Lines.{is_line, is_unbroken}
use Rattle.compose_drafts.proofs.Unbroken.{all_append, all_prefix, all_weaker, both}

-- ---- reading

pub read_then : {A B : Type 0} (Q : A → Type 0) (P : B → Type 0) (r : Result A ℕ) (f : A → Result B ℕ) → IfOk r Q → ((a : A) → Q a → IfOk (f a) P) → IfOk (r >>= f) P
read_then Q P (Ok a) f q h = h a q
read_then Q P (Err left) f q h = tt

read_any : {A : Type 0} (r : Result A ℕ) → IfOk r (λ _. Unit {0})
read_any (Ok a) = tt
read_any (Err left) = tt

-- ---- classes

pub class_unbroken : (p : ℕ → Bool) → p 13 ≡ false → p 10 ≡ false → (c : ℕ) → p c ≡ true → is_unbroken c ≡ true
class_unbroken p r l c e = elim (cases_Bool (c == 13)) [
  | inl f ↦ cc (e, r, ap p (eqb-true c 13 f))
  | inr f ↦ elim (cases_Bool (c == 10)) [
    | inl g ↦ cc (e, l, ap p (eqb-true c 10 g))
    | inr g ↦ rw (f, g) refl
  ]
]

local_unbroken : (text : List ℕ) → list_all (in_class classes.Local) text ≡ true → is_line text ≡ true
unfolding is_local
local_unbroken text h = all_weaker (in_class classes.Local) is_unbroken (class_unbroken (in_class classes.Local) refl refl) text h

domain_unbroken : (text : List ℕ) → list_all (in_class classes.Domain) text ≡ true → is_line text ≡ true
domain_unbroken text h = all_weaker (in_class classes.Domain) is_unbroken (class_unbroken (in_class classes.Domain) refl refl) text h

run_all : (class : Class) (most : ℕ) (text : List ℕ) → IfOk (run_at class most text) (λ r. list_all (in_class class) r.0 ≡ true)
run_all class most text = elim (cases_Bool (prefix_len (in_class class) text == 0)) [
  | inl e ↦ rw e tt
  | inr e ↦ elim (cases_Bool (nat_lt most (prefix_len (in_class class) text))) [
    | inl f ↦ rw (e, f) tt
    | inr f ↦ rw (e, f) (all_prefix (in_class class) text)
  ]
]

is_run_all : (class : Class) (most : ℕ) (text : List ℕ) → is_run class most text ≡ true → list_all (in_class class) text ≡ true
is_run_all class most text e =
    let n : ℕ = prefix_len (in_class class) text in
    let whole : n ≡ length text = eqb-true n (length text) (and_parts (nat_lt 0 n && nat_le n most) (n == length text) e).1 in
    subst (λ t. list_all (in_class class) t ≡ true) (ap (λ k. take k text) whole ∙ take_all (length text) text (omega arith)) (all_prefix (in_class class) text)

-- ---- addresses

domain_lines : (local text : List ℕ) → is_line local ≡ true → IfOk (domain_at local text) (λ r. is_line r.0 ≡ true)
unfolding domain_at
domain_lines local text h =
    read_then (λ _. Unit {0}) _ (byte_at 64 text) _ (read_any (byte_at 64 text)) (λ after _. read_then (λ r. list_all (in_class classes.Domain) r.0 ≡ true) _ (run_at classes.Domain 255 after) _ (run_all classes.Domain 255 after)
    (λ domain d. all_append is_unbroken local (64 ∷ domain.0) h (domain_unbroken domain.0 d)))

address_lines : (text : List ℕ) → IfOk (address_at text) (λ r. is_line r.0 ≡ true)
unfolding address_at
address_lines text =
    read_then (λ r. list_all (in_class classes.Local) r.0 ≡ true) _ (run_at classes.Local 64 text) _ (run_all classes.Local 64 text) (λ local l. domain_lines local.0 local.1 (local_unbroken local.0 l))

-- ---- boxes

abbrev HasLine : Mailbox × List ℕ → Type 0
HasLine box = is_line box.0.address ≡ true

angle_lines : (name text : List ℕ) → IfOk (angle_at name text) HasLine
unfolding angle_at
angle_lines name text =
    read_then (λ _. Unit {0}) HasLine (byte_at 60 text) _ (read_any (byte_at 60 text)) (λ inner _. read_then (λ r. is_line r.0 ≡ true) HasLine (address_at inner) _ (address_lines inner)
    (λ address a. read_then (λ _. Unit {0}) HasLine (byte_at 62 address.1) _ (read_any (byte_at 62 address.1)) (λ after _. a)))

bare_lines : (local text : List ℕ) → IfOk (bare_at local text) HasLine
unfolding bare_at
bare_lines local text = elim (cases_Bool (is_run classes.Local 64 local)) [
  | inl e ↦ rw e (read_then (λ r. is_line r.0 ≡ true) HasLine (domain_at local text) _ (domain_lines local text (local_unbroken local (is_run_all classes.Local 64 local e))) (λ address a. a))
  | inr e ↦ rw e tt
]

unquoted_lines : (text : List ℕ) → IfOk (unquoted_box_at text) HasLine
unfolding unquoted_box_at
unquoted_lines text = elim (cases_Bool (begins_with 64 (take_while_at classes.Name text).1)) [
  | inl e ↦ rw e (bare_lines (take_while_at classes.Name text).0 (take_while_at classes.Name text).1)
  | inr e ↦ rw e (angle_lines (trim_end (take_while_at classes.Name text).0) (take_while_at classes.Name text).1)
]

quoted_lines : (text : List ℕ) → IfOk (quoted_box_at text) HasLine
unfolding quoted_box_at
quoted_lines text = read_then (λ _. Unit {0}) HasLine (quoted_at text) _ (read_any (quoted_at text)) (λ name _. angle_lines name.0 (skip_spaces name.1))

after_lines : (text : List ℕ) (quoted : Option (List ℕ)) → IfOk (box_after text quoted) HasLine
after_lines text None = unquoted_lines text
after_lines text (Some quoted) = quoted_lines quoted

spaced_lines : (text : List ℕ) → IfOk (spaced_box_at text) HasLine
unfolding spaced_box_at box_at
spaced_lines text = read_then HasLine HasLine (box_at (skip_spaces text)) _ (after_lines (skip_spaces text) (strip_at 34 (skip_spaces text))) (λ box b. b)

-- ---- lists

abbrev pub HaveLines : List Mailbox → Type 0
HaveLines boxes = list_all (λ box. is_line box.address) boxes ≡ true

continued : (more : List ℕ → Result (List Mailbox) ℕ) → ((text : List ℕ) → IfOk (more text) HaveLines) → (box : Mailbox) → is_line box.address ≡ true → (rest : Option (List ℕ)) → IfOk (continue_list box more rest) HaveLines
continued more each box b None = both (is_line box.address) true b refl
continued more each box b (Some text) = read_then HaveLines HaveLines (more text) _ (each text) (λ boxes h. both (is_line box.address) (list_all (λ one. is_line one.address) boxes) b h)

within_lines : (n : ℕ) (text : List ℕ) → IfOk (boxes_within n text) HaveLines
unfolding boxes_within
within_lines zero text = tt
within_lines (suc n) text =
    read_then HasLine HaveLines (spaced_box_at text) _ (spaced_lines text) (λ box b. read_then (λ _. Unit {0}) HaveLines (next_at box.1) _ (read_any (next_at box.1)) (λ more _. continued (boxes_within n) (within_lines n) box.0 b more))

offset_lines : (size : ℕ) (r : Result (List Mailbox) ℕ) → IfOk r HaveLines → IfOk (with_offset size r) HaveLines
offset_lines size (Ok boxes) h = h
offset_lines size (Err left) h = tt

pub boxes_lines : (text : List ℕ) → IfOk (boxes_of text) HaveLines
unfolding boxes_of
boxes_lines text = offset_lines (length text) (boxes_within (length text) text) (within_lines (length text) text)

-- ---- one address

part_lines : (domain : Option (List ℕ)) (text : List ℕ) → domain ≡ strip_at 64 text → is_domain_part domain ≡ true → is_line text ≡ true
part_lines None text s e = cc e
part_lines (Some domain) [] s e = cc
part_lines (Some domain) (c ∷ rest) s e = elim (cases_Bool (c == 64)) [
  | inl f ↦
      let here : strip_at 64 (c ∷ rest) ≡ Some rest = rw f refl in
      let same : domain ≡ rest = cc (s, here) in
      let d : is_line rest ≡ true = domain_unbroken rest (is_run_all classes.Domain 255 rest (subst (λ t. is_run classes.Domain 255 t ≡ true) same e)) in
      both (is_unbroken c) (is_line rest) (ap is_unbroken (eqb-true c 64 f)) d
  | inr f ↦
      let none : strip_at 64 (c ∷ rest) ≡ None = rw f refl in
      cc (s, none)
]

pub address_unbroken : (text : List ℕ) → is_address text ≡ true → is_line text ≡ true
unfolding is_address
address_unbroken text e =
    let local : List ℕ = (take_while_at classes.Local text).0 in
    let rest : List ℕ = (take_while_at classes.Local text).1 in
    let parts = and_parts (is_domain_part (strip_at 64 rest)) (is_run classes.Local 64 local) e in
    subst (λ t. is_line t ≡ true) (take-append-drop _ text) (all_append is_unbroken local rest (local_unbroken local (is_run_all classes.Local 64 local parts.1)) (part_lines (strip_at 64 rest) rest refl parts.0))
