-- The tokens of tags.
use Rattle.std.proofs.Common.{◌≡◌, ℕ, ◌-◌, Bool, List, [], ◌∷◌, take, drop, map, true, false, refl, sym, ap, ◌∙◌, arith, ◌⊎◌, inl, inr}
use Rattle.html_syntax.specs.Token.{Attribute, Token}
use Rattle.html_syntax.specs.Token.Token.{Start, End}
use Rattle.html_syntax.specs.Characters.{lower}
use Rattle.html_syntax.specs.States.{Tag, new_tag, replace_null, state_after_start}
use Rattle.html_syntax.specs.States.State.{Data, TagName, BeforeName}
use Rattle.html_syntax.specs.Tokenizer.{read}
use Rattle.html_references.specs.Input.{input}
use Rattle.html_tokens.specs.Scanned.{GivesToken}
use Rattle.html_tokens.specs.Tags.{ReadsAttributes, extend_name, with_attributes, tokens_after_tag}

-- the name of the tag whose first bytes these are
abbrev pub name_in : ℕ → List ℕ → List ℕ
name_in len inside = map lower (map replace_null (input (take len inside)))

abbrev pub tag_in : Bool → ℕ → List ℕ → Tag
tag_in is_end len inside = extend_name (new_tag is_end) (input (take len inside))

pub first_token : (all : List Token) (t : Token) (more : List Token) → all ≡ t ∷ more → t ∷ [] ≡ take 1 all
first_token all t more e = rw e refl

pub some_token : (rest : List ℕ) → GivesToken rest → read Data 0 (input rest) ≡ [] → ⊥
some_token rest gives none = absurd (nothing (sym none ∙ gives.2))
  where
    nothing : [] ≡ gives.0 ∷ gives.1 → ⊥
    nothing e = cc

-- the tokens after the name of a tag that begins at an offset
pub after_name : (is_end : Bool) (rest inside after : List ℕ) (k len : ℕ) → inside ≡ drop k rest → after ≡ drop len inside → read Data 0 (input rest) ≡ read (TagName (new_tag is_end)) 0 (input (drop k rest))
    → ((tag : Tag) → read (TagName tag) 0 (input inside) ≡ read (BeforeName (extend_name tag (input (take len inside)))) 0 (input (drop len inside)))
    → read Data 0 (input rest) ≡ read (BeforeName (tag_in is_end len (drop k rest))) 0 (input after)
after_name is_end rest inside after k len inside_is after_is opens named =
    opens
    ∙ ap (λ (l : List ℕ). read (TagName (new_tag is_end)) 0 (input l)) (sym inside_is)
    ∙ named (new_tag is_end)
    ∙ ap (λ (l : List ℕ). read (BeforeName (tag_in is_end len l)) 0 (input (drop len inside))) inside_is
    ∙ ap (λ (l : List ℕ). read (BeforeName (tag_in is_end len (drop k rest))) 0 (input l)) (sym after_is)

pub name_read : (name : List ℕ) (rest inside front : List ℕ) (k len : ℕ) → inside ≡ drop k rest → front ≡ take (len - 0) inside → name ≡ map lower (map replace_null (input front)) → name ≡ name_in len (drop k rest)
name_read name rest inside front k len inside_is front_is is =
    let whole : len - 0 ≡ len = omega arith in
    is ∙ ap (λ (l : List ℕ). map lower (map replace_null (input l))) (front_is ∙ ap (λ (x : ℕ). take x inside) whole ∙ ap (take len) inside_is)

-- the first token of a tag that is given
pub tag_token : (rest after : List ℕ) (name : List ℕ) (attributes : List Attribute) (tag : Tag) → GivesToken rest → tag.is_end ≡ false → tag.name ≡ name → tag.attributes ≡ []
    → read Data 0 (input rest) ≡ read (BeforeName tag) 0 (input after) → ReadsAttributes after attributes → Start name attributes ∷ [] ≡ take 1 (read Data 0 (input rest))
tag_token rest after name attributes tag gives start named none reads found = given (found tag none)
  where
    given : (read (BeforeName tag) 0 (input after) ≡ []) ⊎ ((n : ℕ) × (read (BeforeName tag) 0 (input after) ≡ tokens_after_tag (with_attributes tag attributes) (input (drop n after)))) → Start name attributes ∷ [] ≡ take 1 (read Data 0 (input rest))
    given (inl nothing) = absurd (some_token rest gives (reads ∙ nothing))
    given (inr some) =
        let more : List Token = read (state_after_start name) 0 (input (drop some.0 after)) in
        let closes : tokens_after_tag (with_attributes tag attributes) (input (drop some.0 after)) ≡ Start name attributes ∷ more = rw (start, named) refl in
        first_token (read Data 0 (input rest)) (Start name attributes) more (reads ∙ some.1 ∙ closes)

-- the same of an end tag
pub end_tag_token : (rest after : List ℕ) (name : List ℕ) (attributes : List Attribute) (tag : Tag) → GivesToken rest → tag.is_end ≡ true → tag.name ≡ name → tag.attributes ≡ []
    → read Data 0 (input rest) ≡ read (BeforeName tag) 0 (input after) → ReadsAttributes after attributes → End name ∷ [] ≡ take 1 (read Data 0 (input rest))
end_tag_token rest after name attributes tag gives end named none reads found = given (found tag none)
  where
    given : (read (BeforeName tag) 0 (input after) ≡ []) ⊎ ((n : ℕ) × (read (BeforeName tag) 0 (input after) ≡ tokens_after_tag (with_attributes tag attributes) (input (drop n after)))) → End name ∷ [] ≡ take 1 (read Data 0 (input rest))
    given (inl nothing) = absurd (some_token rest gives (reads ∙ nothing))
    given (inr some) =
        let more : List Token = read Data 0 (input (drop some.0 after)) in
        let closes : tokens_after_tag (with_attributes tag attributes) (input (drop some.0 after)) ≡ End name ∷ more = rw (end, named) refl in
        first_token (read Data 0 (input rest)) (End name) more (reads ∙ some.1 ∙ closes)
