-- Names and characters as the tokenizer reads them.
use Rattle.std.proofs.Common.{◌≡◌, ℕ, ◌<◌, Bool, true, false, ◌&&◌, ◌||◌, eqb, inl, inr, List, [], ◌∷◌, ◌++◌, refl, arith, ne_eqb}
use Rattle.std.proofs.lemmas.Bool.{cases_eq}
use Rattle.std.proofs.lemmas.Bool.Decides.{nat_tests}
use Rattle.std.specs.List.{list_all, flat_map}
use Rattle.html_syntax.specs.References.{is_between, is_letter, is_digit}
use Rattle.html_syntax.specs.Tokenizer.{is_space, lower}
use Rattle.html_rules.specs.Tables.{is_element, message_elements, frame_elements, is_attribute_name, common_attributes, attribute_rows, link_attributes, frame_attributes}
use Rattle.html_rules.proofs.Facts.{among_all}

abbrev pub is_name_char : ℕ → Bool
is_name_char c = is_digit c || is_between 97 122 c

-- what the tokenizer asks of a character in a name
pub record NameChar (c : ℕ) : Type 0 where
  pub space : is_space c ≡ false
  pub slash : eqb c 47 ≡ false
  pub gt : eqb c 62 ≡ false
  pub equals : eqb c 61 ≡ false
  pub lowered : lower c ≡ c
  pub nul : eqb c 0 ≡ false
  pub scalar : c < 128

pub name_char : (c : ℕ) → is_name_char c ≡ true → NameChar c
name_char c e = record { space = grind (arith, nat_tests); slash = grind (arith, nat_tests); gt = grind (arith, nat_tests); equals = grind (arith, nat_tests); lowered = grind (arith, nat_tests); nul = grind (arith, nat_tests); scalar = grind (arith, nat_tests) }

-- and of the first one
pub record Letter (c : ℕ) : Type 0 where
  pub in_name : NameChar c
  pub letter : is_letter c ≡ true
  pub bang : eqb c 33 ≡ false

pub letter_char : (c : ℕ) → is_between 97 122 c ≡ true → Letter c
letter_char c e = record { in_name = name_char c (grind (arith, nat_tests)); letter = grind (arith, nat_tests); bang = grind (arith, nat_tests) }

abbrev pub name_chars : List ℕ → Bool
name_chars cs = list_all is_name_char cs

abbrev pub is_name : List ℕ → Bool
is_name [] = false
is_name (c ∷ cs) = is_between 97 122 c && name_chars cs

pub element_name : (name : List ℕ) → is_element name ≡ true → is_name name ≡ true
unfolding is_element message_elements frame_elements
element_name name h = among_all is_name (message_elements ++ frame_elements) name refl h

pub attribute_name : (name : List ℕ) → is_attribute_name name ≡ true → is_name name ≡ true
unfolding is_attribute_name common_attributes attribute_rows link_attributes frame_attributes
attribute_name name h =
    among_all is_name (common_attributes ++ flat_map (λ r. r.attributes) attribute_rows ++ link_attributes ++ frame_attributes) name refl h

-- a character that spells itself, or one of those that don't
pub data Spelled (c : ℕ) : Type 0 where
  is_lt : c ≡ 60 → Spelled c
  is_gt : c ≡ 62 → Spelled c
  is_amp : c ≡ 38 → Spelled c
  is_quot : c ≡ 34 → Spelled c
  is_cr : c ≡ 13 → Spelled c
  itself : eqb c 60 ≡ false → eqb c 62 ≡ false → eqb c 38 ≡ false → eqb c 34 ≡ false → eqb c 13 ≡ false → Spelled c

pub spelled : (c : ℕ) → Spelled c
spelled c =
    elim (cases_eq c 60) [
      | inl e ↦ is_lt e
      | inr lt ↦
          elim (cases_eq c 62) [
            | inl e ↦ is_gt e
            | inr gt ↦
                elim (cases_eq c 38) [
                  | inl e ↦ is_amp e
                  | inr amp ↦
                      elim (cases_eq c 34) [
                        | inl e ↦ is_quot e
                        | inr quot ↦
                            elim (cases_eq c 13) [
                              | inl e ↦ is_cr e
                              | inr cr ↦
                                  itself (ne_eqb c 60 lt) (ne_eqb c 62 gt) (ne_eqb c 38 amp) (ne_eqb c 34 quot) (ne_eqb c 13 cr)
                            ]
                      ]
                ]
          ]
    ]
