-- The tag, comment or DOCTYPE that a `<` opens (13.2.5.6, 13.2.5.7 and 13.2.5.42).
use Rattle.std.specs.Prelude.{◌≡◌, ℕ, Bool, true, false, ◌&&◌, ◌==◌, if◌then◌else◌, List, [], ◌∷◌, codes}
use Rattle.html_syntax.specs.Characters.{exclamation_mark, less_than, solidus, greater_than, question_mark, is_letter}
use Rattle.html_syntax.specs.References.{begins_with}
use Rattle.html_references.specs.Prefixes.{begins_ignore_case}
use Rattle.html_tokens.specs.Scanned.{opens_start, opens_end}
use Rattle.html_syntax.specs.States.{State, new_tag}
use Rattle.html_syntax.specs.States.State.{TagName, Bogus, CommentStart, DoctypeBody}
use Rattle.html_tokens.specs.declared.markup.Opening.{Opening}
use Rattle.html_tokens.specs.declared.markup.Opening.TheVariants as opening

-- the number of characters that open it
abbrev pub opening_len : Opening → ℕ
opening_len opening.StartTag = 1
opening_len opening.EndTag = 2
opening_len opening.Comment = 4
opening_len opening.Question = 1
opening_len opening.Bogus = 2
opening_len opening.Doctype = 9

-- the state after these characters
abbrev pub state_after_opening : Opening → State
state_after_opening opening.StartTag = TagName (new_tag false)
state_after_opening opening.EndTag = TagName (new_tag true)
state_after_opening opening.Comment = CommentStart []
state_after_opening opening.Question = Bogus []
state_after_opening opening.Bogus = Bogus []
state_after_opening opening.Doctype = DoctypeBody

-- the text begins with `</>`, which gives no token
abbrev pub begins_empty_tag : List ℕ → Bool
begins_empty_tag (a ∷ b ∷ c ∷ text) = a == less_than && b == solidus && c == greater_than
begins_empty_tag (a ∷ b ∷ []) = false
begins_empty_tag (a ∷ []) = false
begins_empty_tag [] = false

abbrev pub opening_after_bang : List ℕ → Opening
opening_after_bang text =
    if begins_with (codes "--") text then opening.Comment
    else (if begins_ignore_case (codes "doctype") text then opening.Doctype
    else opening.Bogus)

abbrev pub opening_after_solidus : List ℕ → Opening
opening_after_solidus [] = opening.Bogus
opening_after_solidus (c ∷ text) = if is_letter c then opening.EndTag else opening.Bogus

-- the opening of a text that begins with markup
abbrev pub opening_of : List ℕ → Opening
opening_of (a ∷ b ∷ text) =
    if b == exclamation_mark then opening_after_bang text
    else (if b == question_mark then opening.Question
    else (if b == solidus then opening_after_solidus text
    else opening.StartTag))
opening_of (a ∷ []) = opening.StartTag
opening_of [] = opening.StartTag

-- if the opening is a tag, a letter follows
abbrev pub OpensTag : List ℕ → Opening → Type 0
OpensTag text opening.StartTag = opens_start text ≡ true
OpensTag text opening.EndTag = opens_end text ≡ true
OpensTag text opening.Comment = Unit {0}
OpensTag text opening.Question = Unit {0}
OpensTag text opening.Bogus = Unit {0}
OpensTag text opening.Doctype = Unit {0}
