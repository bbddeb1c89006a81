-- A set that holds the names of some attributes.
use Rattle.std.proofs.Common.{◌≡◌, ℕ, suc, ◌+◌, ◌<◌, Bool, true, false, not, ◌||◌, List, [], ◌∷◌, ◌++◌, length, take, map, chars, slice_index_or, string_bytes, String, IsUtf8, refl, sym, ap, subst, ◌∙◌, inl, inr, arith}
use Rattle.std.proofs.Math.Seq.{take-suc}
use Rattle.std.proofs.lemmas.Bool.{cases_Bool}
use Rattle.std.proofs.lemmas.List.Folds.{list_any-append}
use Rattle.std.proofs.lemmas.Slice.Eq.{bytes_eq-Decides}
use Rattle.std.proofs.lemmas.Str.{IsUtf8-string_bytes}
use Rattle.std.specs.Str.{bytes_eq}
use Rattle.html_tokens.specs.declared.name_set.NameSet.{NameSet}
use Rattle.html_tokens.specs.Kept.{has_pair_named, HoldsNames}
use Rattle.html_tokens.specs.NameSets.{contains_name}
use Rattle.html_syntax.specs.States.{has_name, same}
use Rattle.html_tokens.specs.Tags.{add_attribute}
use Rattle.html_syntax.specs.Token.{Attribute, attribute_of}
use Rattle.html_syntax.proofs.Texts.{same_text, same_sym}

-- The set has this name and those of another.
abbrev pub HasMore : List ℕ → NameSet → NameSet → Type 0
HasMore name old new = (q : List ℕ) → contains_name new q ≡ (bytes_eq name q || contains_name old q)

named_texts : {Z : Type 0} (q : List ℕ) → IsUtf8 q → (ps : List (String Z × String Z)) → has_pair_named q ps ≡ has_name (chars q) (map attribute_of ps)
named_texts q utf8 [] = refl
named_texts q utf8 (p ∷ ps) =
    ap (λ (b : Bool). b || has_pair_named q ps) (same_text q (string_bytes p.0) utf8 (IsUtf8-string_bytes p.0)) ∙ ap (λ (b : Bool). same (chars (string_bytes p.0)) (chars q) || b) (named_texts q utf8 ps)

last_first : (x y : Bool) → (x || y) ≡ (y || (x || false))
last_first true true = refl
last_first true false = refl
last_first false true = refl
last_first false false = refl

-- whether the set has a text's name
pub held_name : {Z : Type 0} (names : NameSet) (pairs : List (String Z × String Z)) (q : List ℕ) → IsUtf8 q → HoldsNames names pairs → contains_name names q ≡ has_name (chars q) (map attribute_of pairs)
held_name names pairs q utf8 holds = holds q ∙ named_texts q utf8 pairs

-- what `insert` answers
pub held_new : {Z : Type 0} (names : NameSet) (pairs : List (String Z × String Z)) (q : List ℕ) (is_new : Bool) → IsUtf8 q → HoldsNames names pairs → is_new ≡ not (contains_name names q)
    → is_new ≡ not (has_name (chars q) (map attribute_of pairs))
held_new names pairs q is_new utf8 holds told = told ∙ ap not (held_name names pairs q utf8 holds)

-- one name more
pub held_more : {Z : Type 0} (old new : NameSet) (pairs : List (String Z × String Z)) (p : String Z × String Z) (key : List ℕ) → key ≡ string_bytes p.0 → HasMore key old new
    → HoldsNames old pairs → HoldsNames new (pairs ++ p ∷ [])
held_more old new pairs p key is more holds = λ q.
    more q
    ∙ last_first (bytes_eq key q) (contains_name old q)
    ∙ ap (λ (b : Bool). b || (bytes_eq key q || false)) (holds q)
    ∙ ap (λ (b : Bool). has_pair_named q pairs || (b || false)) (ap (λ (k : List ℕ). bytes_eq k q) is ∙ same_sym q (string_bytes p.0))
    ∙ sym (list_any-append (λ (x : String _ × String _). bytes_eq q (string_bytes x.0)) pairs (p ∷ []))

-- the same name again
pub held_again : {Z : Type 0} (old new : NameSet) (pairs : List (String Z × String Z)) (key : List ℕ) (is_new : Bool) → is_new ≡ not (contains_name old key) → is_new ≡ false → HasMore key old new
    → HoldsNames old pairs → HoldsNames new pairs
held_again old new pairs key is_new told again more holds = λ q.
    let was : contains_name old key ≡ true = elim (cases_Bool (contains_name old key)) [
      | inl had ↦ had
      | inr lacked ↦ let clash = sym again ∙ told ∙ ap not lacked in cc
    ] in
    more q ∙ (elim (cases_Bool (bytes_eq key q)) [
      | inl equal ↦ let e = (bytes_eq-Decides key q).0 equal in ap (λ (b : Bool). b || contains_name old q) equal ∙ sym was ∙ ap (contains_name old) e
      | inr other ↦ ap (λ (b : Bool). b || contains_name old q) other
    ]) ∙ holds q

-- one pair more of a list
pub held_next : {Z : Type 0} (old new : NameSet) (pairs : List (String Z × String Z)) (i : ℕ) (p : String Z × String Z) (key : List ℕ) → i < length pairs → p ≡ slice_index_or pairs i p
    → key ≡ string_bytes p.0 → HasMore key old new → HoldsNames old (take i pairs) → HoldsNames new (take (i + 1) pairs)
held_next old new pairs i p key lt is named more holds =
    let one : i + 1 ≡ suc i = omega arith in
    let front : take (i + 1) pairs ≡ take i pairs ++ p ∷ [] =
    ap (λ (n : ℕ). take n pairs) one ∙ take-suc pairs i p lt ∙ ap (λ (x : String _ × String _). take i pairs ++ x ∷ []) (sym is) in
    subst (HoldsNames new) (sym front) (held_more old new (take i pairs) p key named more holds)

-- ---- the attributes that are kept

pub kept_one : (attributes : List Attribute) (a : Attribute) (name : List ℕ) (is_new : Bool) → name ≡ a.name → is_new ≡ not (has_name name attributes) → is_new ≡ true
    → attributes ++ a ∷ [] ≡ add_attribute attributes a
kept_one attributes a name is_new same told new = elim (cases_Bool (has_name a.name attributes)) [
  | inl had ↦ let clash = sym new ∙ told ∙ ap (λ (n : List ℕ). not (has_name n attributes)) same ∙ ap not had in cc
  | inr lacked ↦ rw lacked refl
]

pub kept_none : (attributes : List Attribute) (a : Attribute) (name : List ℕ) (is_new : Bool) → name ≡ a.name → is_new ≡ not (has_name name attributes) → is_new ≡ false
    → attributes ≡ add_attribute attributes a
kept_none attributes a name is_new same told again = elim (cases_Bool (has_name a.name attributes)) [
  | inl had ↦ rw had refl
  | inr lacked ↦ let clash = sym again ∙ told ∙ ap (λ (n : List ℕ). not (has_name n attributes)) same ∙ ap not lacked in cc
]

pub attribute_is : {Z : Type 0} (name value : String Z) (a : Attribute) → chars (string_bytes name) ≡ a.name → chars (string_bytes value) ≡ a.value → attribute_of (name, value) ≡ a
attribute_is name value a named valued =
    ap (λ (n : List ℕ). let x : Attribute = record { name = n; value = chars (string_bytes value) } in x) named
    ∙ ap (λ (v : List ℕ). let x : Attribute = record { name = a.name; value = v } in x) valued
