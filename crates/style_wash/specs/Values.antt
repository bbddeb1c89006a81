-- Values: items with separators between them.
use Rattle.std.specs.Prelude.{ℕ, zero, suc, ◌==◌, Bool, true, false, ◌&&◌, if◌then◌else◌, List, [], ◌∷◌, ◌++◌, Option, Some, None}
use Rattle.std.specs.List.{flat_map}
use Rattle.style_wash.specs.Characters.{space, left_parenthesis, right_parenthesis, comma, solidus, is_quote, is_separator, trimmed}
use Rattle.style_wash.specs.Items.{Item, item_of, written_item}

-- ---- quotes and brackets

-- where a character is: outside of quotes and brackets, or inside, up to the character that ends them
pub data Nesting : Type 0 where
  Outside : Nesting
  Until : ℕ → Nesting

-- the nesting after a character outside; brackets count only if `brackets` is true
abbrev pub nesting_from_outside : Bool → ℕ → Nesting
nesting_from_outside brackets c = if is_quote c then Until c else if brackets && (c == left_parenthesis) then Until right_parenthesis else Outside

abbrev pub nesting_after : Bool → Nesting → ℕ → Nesting
nesting_after brackets Outside c = nesting_from_outside brackets c
nesting_after brackets (Until end) c = if c == end then Outside else Until end

-- ---- the texts of items, and the gaps between them

-- a gap, and the text up to the next gap
pub record Gapped : Type 0 where
  pub gap : List ℕ
  pub text : List ℕ

-- a text cut into gaps and texts that have none
pub record Parts : Type 0 where
  pub first : List ℕ
  pub more : List Gapped

-- a text with one more character at its front
abbrev pub with_text : ℕ → Parts → Parts
with_text c parts = record { first = c ∷ parts.first; more = parts.more }

-- a gap with one more character at its front, or a new one
abbrev pub with_gap : ℕ → List ℕ → List Gapped → Parts
with_gap c [] [] = record { first = []; more = record { gap = c ∷ []; text = [] } ∷ [] }
with_gap c [] (next ∷ more) = record { first = []; more = record { gap = c ∷ next.gap; text = next.text } ∷ more }
with_gap c (d ∷ text) more = record { first = []; more = record { gap = c ∷ []; text = d ∷ text } ∷ more }

-- white space, `,` and `/` separate items outside of quotes and brackets
abbrev pub is_item_end : Nesting → ℕ → Bool
is_item_end Outside c = is_separator c
is_item_end (Until end) c = false

abbrev pub parts_with : Bool → ℕ → Parts → Parts → Parts
parts_with separating c after within =
    if separating then with_gap c after.first after.more else with_text c within

-- the parts of a text from a nesting on
unfoldable pub parts : Nesting → List ℕ → Parts
parts place [] = record { first = []; more = [] }
parts place (c ∷ more) = parts_with (is_item_end place c) c (parts Outside more) (parts (nesting_after true place c) more)

-- ---- values

pub data Separator : Type 0 where
  Space : Separator
  Comma : Separator
  Slash : Separator

abbrev pub separator_in : List ℕ → Option Separator
separator_in [] = Some Space
separator_in (c ∷ []) = if c == comma then Some Comma else if c == solidus then Some Slash else None
separator_in (c ∷ d ∷ more) = None

-- the separator that a gap is: white space alone, or one `,` or `/` with white space around
unfoldable pub separator_of : List ℕ → Option Separator
separator_of gap = separator_in (trimmed gap)

abbrev pub written_separator : Separator → List ℕ
written_separator Space = space ∷ []
written_separator Comma = comma ∷ space ∷ []
written_separator Slash = solidus ∷ []

-- an item with the separator before it
pub record Step : Type 0 where
  pub separator : Separator
  pub item : Item

pub record Value : Type 0 where
  pub first : Item
  pub more : List Step

abbrev pub step_onto : Option Separator → Option Item → Option (List Step) → Option (List Step)
step_onto (Some separator) (Some item) (Some more) = Some (record { separator = separator; item = item } ∷ more)
step_onto (Some separator) (Some item) None = None
step_onto (Some separator) None more = None
step_onto None item more = None

-- the items after the first, of which there are at most n
unfoldable pub steps_of : ℕ → List Gapped → Option (List Step)
steps_of n [] = Some []
steps_of zero (part ∷ more) = None
steps_of (suc n) (part ∷ more) = step_onto (separator_of part.gap) (item_of part.text) (steps_of n more)

abbrev pub value_onto : Option Item → Option (List Step) → Option Value
value_onto (Some first) (Some more) = Some (record { first = first; more = more })
value_onto (Some first) None = None
value_onto None more = None

-- the value that parts are, with at most n items after the first
unfoldable pub value_in : ℕ → Parts → Option Value
value_in n parts = value_onto (item_of parts.first) (steps_of n parts.more)

-- the value that a text is, without white space around: 1 to 16 items
unfoldable pub value_of : List ℕ → Option Value
value_of text = value_in 15 (parts Outside text)

abbrev pub written_step : Step → List ℕ
written_step step = written_separator step.separator ++ written_item step.item

abbrev pub written_value : Value → List ℕ
written_value value = written_item value.first ++ flat_map written_step value.more
