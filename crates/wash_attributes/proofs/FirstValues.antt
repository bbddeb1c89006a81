-- The first attribute of a name is the same among the attributes of a tag's token.
use Rattle.std.proofs.Common.{◌≡◌, ℕ, Bool, true, false, not, cond, if◌then◌else◌, Option, Some, List, [], ◌∷◌, refl, sym, ap, ◌∙◌}
use Rattle.std.specs.List.{filter}
use Rattle.html_syntax.specs.Token.{Attribute}
use Rattle.html_syntax.specs.Tokenizer.{same}
use Rattle.html_tokens.specs.Attributes.{first_of_each}
use Rattle.html_rules.specs.Tables.{Name}
use Rattle.html_rules.proofs.Facts.{same-true}
use Rattle.wash_attributes.specs.FirstValues.{first_value, text_or_empty, attribute_text}

first_left : (name other : Name) (xs : List Attribute) → same name other ≡ false → first_value name (filter (λ b. not (same other b.name)) xs) ≡ first_value name xs
first_left name other [] h = refl
first_left name other (a ∷ xs) h =
    elim (same other a.name) as (λ (t : Bool). same other a.name ≡ t → first_value name (cond (not t) (a ∷ filter (λ b. not (same other b.name)) xs) (filter (λ b. not (same other b.name)) xs)) ≡ first_value name (a ∷ xs)) [
      | true ↦ λ e. let others : same name a.name ≡ false = ap (same name) (sym (same-true other a.name e)) ∙ h in rw others (first_left name other xs h)
      | false ↦ λ e. ap (λ (rest : Option (List ℕ)). if same name a.name then Some a.value else rest) (first_left name other xs h)
    ] refl

pub first_of_first : (name : Name) (xs : List Attribute) → first_value name (first_of_each xs) ≡ first_value name xs
first_of_first name [] = refl
first_of_first name (a ∷ xs) =
    elim (same name a.name) as (λ (t : Bool). same name a.name ≡ t → (if t then Some a.value else first_value name (filter (λ b. not (same a.name b.name)) (first_of_each xs))) ≡ (if t then Some a.value else first_value name xs)) [
      | true ↦ λ e. refl
      | false ↦ λ e. first_left name a.name (first_of_each xs) e ∙ first_of_first name xs
    ] refl

pub text_of_first : (name : Name) (xs : List Attribute) → attribute_text name (first_of_each xs) ≡ attribute_text name xs
unfolding attribute_text
text_of_first name xs = ap text_or_empty (first_of_first name xs)
