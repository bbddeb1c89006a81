-- Attributes whose names differ, as the tokenizer meets them one after the other.
use Rattle.std.proofs.Common.{◌≡◌, ℕ, true, false, not, List, [], ◌∷◌, ◌++◌, IsTrue, refl, sym, ap, ◌∙◌, append_assoc}
use Rattle.std.specs.List.{AllByRecursion}
use Rattle.html_syntax.specs.Token.{Attribute}
use Rattle.html_syntax.specs.Tokenizer.{has_name, same}
use Rattle.html_rules.specs.Tables.{is_attribute_name}
use Rattle.page_writer.specs.Page.{IsWritable, are_attributes, are_distinct}
use Rattle.html_rules.proofs.Facts.{and_true, no_of, or_false, same-true, same-refl}

-- listed attributes with writable values and names that differ from those before
abbrev pub AreAttributes : List Attribute → List Attribute → Type 0
AreAttributes earlier [] = Unit {0}
AreAttributes earlier (a ∷ rest) =
    IsTrue (is_attribute_name a.name) × IsTrue (not (has_name a.name earlier)) × AllByRecursion IsWritable a.value × AreAttributes (earlier ++ a ∷ []) rest

same-sym : (xs ys : List ℕ) → same xs ys ≡ false → same ys xs ≡ false
same-sym xs ys h =
    elim (same ys xs) as (λ b. same ys xs ≡ b → b ≡ false) [
      | true ↦ λ e. let k : true ≡ false = sym (same-refl xs) ∙ ap (λ (l : List ℕ). same xs l) (sym (same-true ys xs e)) ∙ h in cc
      | false ↦ λ e. refl
    ] refl

-- a name that none of these have, the one between them neither
not_named : (name : List ℕ) (earlier : List Attribute) (a : Attribute) (rest : List Attribute) → has_name name (earlier ++ a ∷ rest) ≡ false → same a.name name ≡ false
not_named name [] a rest h = (or_false (same a.name name) (has_name name rest) h).0
not_named name (e ∷ earlier) a rest h = not_named name earlier a rest (or_false (same e.name name) (has_name name (earlier ++ a ∷ rest)) h).1

-- an attribute that no earlier one names
none_before : (earlier : List Attribute) (a : Attribute) (rest : List Attribute) → are_distinct (earlier ++ a ∷ rest) ≡ true → not (has_name a.name earlier) ≡ true
none_before [] a rest h = refl
none_before (e ∷ earlier) a rest h =
    let both = and_true (not (has_name e.name (earlier ++ a ∷ rest))) (are_distinct (earlier ++ a ∷ rest)) h in
    let apart : same e.name a.name ≡ false = same-sym a.name e.name (not_named e.name earlier a rest (no_of (has_name e.name (earlier ++ a ∷ rest)) both.0)) in
    rw apart (none_before earlier a rest both.1)

pub attributes_of : (earlier more : List Attribute) → are_attributes more ≡ true → are_distinct (earlier ++ more) ≡ true → AllByRecursion (λ a. AllByRecursion IsWritable a.value) more → AreAttributes earlier more
attributes_of earlier [] known distinct shown = tt
attributes_of earlier (a ∷ rest) known distinct shown =
    let both = and_true (is_attribute_name a.name) (are_attributes rest) known in (
      both.0,
      none_before earlier a rest distinct,
      shown.0,
      attributes_of (earlier ++ a ∷ []) rest both.1 (ap are_distinct (append_assoc earlier (a ∷ []) rest) ∙ distinct) shown.1,
    )
