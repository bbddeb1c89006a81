-- A set of names: whether it has a name, and after one more.
use Rattle.std.proofs.Common.{◌≡◌, ℕ, suc, ◌<◌, ◌≤◌, Bool, true, false, not, ◌||◌, ◌==◌, nat_lt, nat_le, cond, List, [], ◌∷◌, length, get_or, refl, sym, ap, ◌∙◌, arith, inl, inr}
use Rattle.std.proofs.lemmas.Bool.{cases_Bool, and_from, and_parts, lt-ltb, ltb-true, le-leb, leb-true, false_from_ne_true}
use Rattle.std.proofs.lemmas.Bool.Decides.{Decides-eqb, Decides-like, same_from_decides}
use Rattle.std.proofs.lemmas.Slice.Eq.{bytes_eq-Decides}
use Rattle.std.proofs.lemmas.Map.Text.{btree_set_updates_text}
use Rattle.std.specs.List.{list_all}
use Rattle.std.specs.Ordering.{nat_cmp}
use Rattle.std.specs.Cmp.Lexicographic.{slice_cmp}
use Rattle.std.specs.Str.{bytes_eq}
use Rattle.std.specs.String.{string_cmp, string_bytes}
use Rattle.std.specs.BTreeSet.{UpdatesBy, IsEmpty, contains_text}
use Rattle.html_tokens.specs.declared.name_set.NameSet.{NameSet}
use Rattle.html_tokens.specs.NameSets.{contains_name, contains_number}
use Rattle.html_tokens.specs.PackedNames.{pack, is_short}
use Rattle.html_tokens.proofs.PackedNames.{AreBytes, packed_apart}

bytes_pass : (xs : List ℕ) → ((i : ℕ) → get_or xs i 0 < 256) → list_all (λ b. nat_lt b 256) xs ≡ true
bytes_pass [] _ = refl
bytes_pass (x ∷ xs) h = and_from (nat_lt x 256) (list_all (λ b. nat_lt b 256) xs) (lt-ltb x 256 (h 0)) (bytes_pass xs (λ i. h (suc i)))

bytes_passed : (xs : List ℕ) → list_all (λ b. nat_lt b 256) xs ≡ true → AreBytes xs
bytes_passed [] _ = tt
bytes_passed (x ∷ xs) e =
    let both = and_parts (nat_lt x 256) (list_all (λ b. nat_lt b 256) xs) e in
    (ltb-true x 256 both.0, bytes_passed xs both.1)

pub short_name : (name : List ℕ) → length name ≤ 15 → ((i : ℕ) → get_or name i 0 < 256) → is_short name ≡ true
unfolding is_short
short_name name len bytes = and_from (nat_le (length name) 15) (list_all (λ b. nat_lt b 256) name) (le-leb (length name) 15 len) (bytes_pass name bytes)

pub long_name : (name : List ℕ) → 15 < length name → is_short name ≡ false
unfolding is_short
long_name name len = false_from_ne_true (is_short name) (λ e.
    let le = leb-true (length name) 15 (and_parts (nat_le (length name) 15) (list_all (λ b. nat_lt b 256) name) e).0 in omega (arith, le, len))

short_bytes : (name : List ℕ) → is_short name ≡ true → AreBytes name
unfolding is_short
short_bytes name e = bytes_passed name (and_parts (nat_le (length name) 15) (list_all (λ b. nat_lt b 256) name) e).1

-- two short names are equal if their numbers are
same_number : (xs ys : List ℕ) → is_short xs ≡ true → is_short ys ≡ true → (pack xs == pack ys) ≡ bytes_eq xs ys
same_number xs ys p q =
    same_from_decides (pack xs == pack ys) (bytes_eq xs ys)
    (Decides-like (pack xs == pack ys) (packed_apart xs ys (short_bytes xs p) (short_bytes ys q)) (λ e. ap pack e) (Decides-eqb (pack xs) (pack ys)))
    (bytes_eq-Decides xs ys)

-- a short name is none of the others
other_kind : (xs ys : List ℕ) (b c : Bool) → is_short xs ≡ b → is_short ys ≡ c → not b ≡ c → bytes_eq xs ys ≡ false
other_kind xs ys true c p q e = false_from_ne_true (bytes_eq xs ys) (λ t. let same = ap is_short ((bytes_eq-Decides xs ys).0 t) in cc)
other_kind xs ys false c p q e = false_from_ne_true (bytes_eq xs ys) (λ t. let same = ap is_short ((bytes_eq-Decides xs ys).0 t) in cc)

cond_or : (a b : Bool) → cond a true b ≡ (a || b)
cond_or true b = refl
cond_or false b = refl

-- whether a set has a short name
pub has_short : (names : NameSet) (q : List ℕ) → is_short q ≡ true → contains_name names q ≡ contains_number names (pack q)
unfolding contains_name
has_short names q e = ap (λ (b : Bool). cond b (contains_number names (pack q)) (contains_text names.long q)) e

-- and another
pub has_long : (names : NameSet) (q : List ℕ) → is_short q ≡ false → contains_name names q ≡ contains_text names.long q
unfolding contains_name
has_long names q e = ap (λ (b : Bool). cond b (contains_number names (pack q)) (contains_text names.long q)) e

pub has_none : (names : NameSet) → names.rising.items ≡ [] → IsEmpty names.short → IsEmpty names.long → (q : List ℕ) → contains_name names q ≡ false
has_none names rising short long q = elim (cases_Bool (is_short q)) [
  | inl here ↦ has_short names q here ∙ rw (rising, short) refl
  | inr away ↦ has_long names q away ∙ rw long refl
]

-- one short name more
pub has_more_short : (old new : NameSet) (name : List ℕ) → is_short name ≡ true → new.long ≡ old.long
    → ((n : ℕ) → contains_number new n ≡ (pack name == n || contains_number old n)) → (q : List ℕ) → contains_name new q ≡ (bytes_eq name q || contains_name old q)
has_more_short old new name short others more q = elim (cases_Bool (is_short q)) [
  | inl here ↦
      has_short new q here
      ∙ more (pack q)
      ∙ ap (λ (b : Bool). b || contains_number old (pack q)) (same_number name q short here)
      ∙ ap (λ (b : Bool). bytes_eq name q || b) (sym (has_short old q here))
  | inr away ↦
      has_long new q away
      ∙ ap (λ s. contains_text s q) others
      ∙ sym (has_long old q away)
      ∙ ap (λ (b : Bool). b || contains_name old q) (sym (other_kind name q true false short away refl))
]

-- the same names still
pub has_same_short : (old new : NameSet) → new.long ≡ old.long → ((n : ℕ) → contains_number new n ≡ contains_number old n) → (q : List ℕ) → contains_name new q ≡ contains_name old q
has_same_short old new others same q = elim (cases_Bool (is_short q)) [
  | inl here ↦ has_short new q here ∙ same (pack q) ∙ sym (has_short old q here)
  | inr away ↦ has_long new q away ∙ ap (λ s. contains_text s q) others ∙ sym (has_long old q away)
]

-- one longer name more
pub has_more_long : (old new : NameSet) (name : List ℕ) → is_short name ≡ false → ((n : ℕ) → contains_number new n ≡ contains_number old n)
    → UpdatesBy string_cmp (λ k. slice_cmp nat_cmp name (string_bytes k)) old.long new.long true → (q : List ℕ) → contains_name new q ≡ (bytes_eq name q || contains_name old q)
has_more_long old new name long others updates q = elim (cases_Bool (is_short q)) [
  | inl here ↦
      has_short new q here
      ∙ others (pack q)
      ∙ sym (has_short old q here)
      ∙ ap (λ (b : Bool). b || contains_name old q) (sym (other_kind name q false true long here refl))
  | inr away ↦
      has_long new q away
      ∙ btree_set_updates_text name old.long new.long true updates q
      ∙ cond_or (bytes_eq name q) (contains_text old.long q)
      ∙ ap (λ (b : Bool). bytes_eq name q || b) (sym (has_long old q away))
]
