-- The value that is written for the value of an attribute.
use Rattle.std.specs.Prelude.{ℕ, Bool, if◌then◌else◌, Option, Some, None, List, []}
use Rattle.html_rules.specs.Values.{is_empty, is_number, is_word}
use Rattle.html_rules.specs.declared.ValueKind.{ValueKind}
use Rattle.html_rules.specs.declared.ValueKind.TheVariants as kind
use Rattle.style_wash.specs.Characters.{trimmed}
use Rattle.wash_attributes.specs.Given.{Target, Given}
use Rattle.wash_attributes.specs.Given.Target.{Part, Remote, Link, Nothing}

-- the value if it passes
abbrev pub some_if : Bool → List ℕ → Option (List ℕ)
some_if passes value = if passes then Some value else None

-- the text unless it is empty
abbrev pub unless_empty : List ℕ → Option (List ℕ)
unless_empty text = if is_empty text then None else Some text

-- the address that a link to the target has
abbrev pub link_address : Target → Option (List ℕ)
link_address (Part address) = None
link_address (Remote address) = Some address
link_address (Link address) = Some address
link_address Nothing = None

-- the address that a picture of the target has
abbrev pub picture_address : Bool → Target → Option (List ℕ)
picture_address images (Part address) = Some address
picture_address images (Remote address) = some_if images address
picture_address images (Link address) = None
picture_address images Nothing = None

-- The value that is written for a value of the kind, if any. A number or a word loses the white space around it, a flag is
-- written empty, and a text is any text.
unfoldable pub written_value : Given → ValueKind → List ℕ → Option (List ℕ)
written_value given kind.Number value = some_if (is_number (trimmed value)) (trimmed value)
written_value given kind.Word value = some_if (is_word (trimmed value)) (trimmed value)
written_value given kind.Flag value = Some []
written_value given kind.Text value = Some value
written_value given kind.Link value = link_address (given.refer value)
written_value given kind.Source value = picture_address given.images (given.refer value)
written_value given kind.Style value = unless_empty (given.stylewash value)
