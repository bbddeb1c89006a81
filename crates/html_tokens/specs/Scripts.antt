-- The text of a script (13.2.5.4, and 13.2.5.15 to 13.2.5.31).
use Rattle.std.specs.Prelude.{◌≡◌, ℕ, ◌⊎◌, Bool, true, false, not, ◌||◌, ◌==◌, List, [], ◌∷◌, ◌++◌, take, drop, map, codes}
use Rattle.std.specs.List.{list_all}
use Rattle.html_syntax.specs.Characters.{less_than, hyphen}
use Rattle.html_syntax.specs.States.{State, replace_null}
use Rattle.html_syntax.specs.States.RawTextKind.{Script, Escaped}
use Rattle.html_syntax.specs.States.State.{Raw, DoubleEscaped}
use Rattle.html_syntax.specs.Tokenizer.{read, chars}
use Rattle.html_references.specs.Input.{input}
use Rattle.html_tokens.specs.Contents.{begins_end_tag}
use Rattle.html_tokens.specs.declared.mode.Content.TheVariants as content
use Rattle.html_tokens.specs.declared.script.Phase.{Phase}
use Rattle.html_tokens.specs.declared.script.Phase.TheVariants as phase

abbrev pub script_state : Phase → State
script_state phase.Plain = Raw Script (codes "script")
script_state phase.Escaped = Raw Escaped (codes "script")
script_state phase.DoubleEscaped = DoubleEscaped (codes "script")

-- The first `len` bytes of a script are text, and the rest is read in phase `after`.
abbrev pub ReadsPassage : Phase → List ℕ → ℕ → Phase → Type 0
ReadsPassage before text len after = read (script_state before) 0 (input text) ≡ chars (map replace_null (input (take len text))) ++ read (script_state after) 0 (input (drop len text))

-- The text begins with the end of the script. In a double escape no end tag is one.
abbrev pub ends_script : Phase → List ℕ → Bool
ends_script phase.Plain text = begins_end_tag content.Script text
ends_script phase.Escaped text = begins_end_tag content.Script text
ends_script phase.DoubleEscaped text = false

-- the text is empty, or begins with `<` or `-`, which may change the phase
abbrev pub BeginsWithMark : List ℕ → Type 0
BeginsWithMark [] = Unit {0}
BeginsWithMark (b ∷ text) = (b ≡ less_than) ⊎ (b ≡ hyphen)

-- the bytes have neither `<` nor `-`
abbrev pub LacksMarks : List ℕ → Type 0
LacksMarks bytes = list_all (λ b. not (b == less_than || b == hyphen)) bytes ≡ true
