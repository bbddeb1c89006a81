-- The rules of a style sheet.
use Rattle.std.specs.Prelude.{ℕ, ◌==◌, nat_eq, nat_le, Bool, not, ◌&&◌, ◌||◌, if◌then◌else◌, List, [], ◌∷◌, ◌++◌, ◌-◌, length, map, take, codes, Option, Some, None}
use Rattle.std.specs.Option.{option_map}
use Rattle.std.specs.List.{filter_map, flat_map, list_any, slice_split, starts_with, after_last}
use Rattle.style_wash.specs.Characters.{semicolon, is_comma, without_front}
use Rattle.style_wash.specs.Declarations.{Declaration, declarations, stylewash, written}
use Rattle.style_rules.specs.Blocks.{Block, is_left_brace, blocks, spaced}
use Rattle.style_rules.specs.Selectors.{Selector, selector_of}

-- a declaration by its property, and its written form
pub record Entry : Type 0 where
  pub property : List ℕ
  pub text : List ℕ

abbrev pub entry_of : Declaration → Entry
entry_of declaration = record { property = declaration.property; text = written declaration }

-- which elements a rule is for, and its declarations
pub record Rule : Type 0 where
  pub selector : Selector
  pub entries : List Entry

abbrev pub is_semicolon : ℕ → Bool
is_semicolon c = c == semicolon

-- what counts of a prelude: the text after its last `;`
abbrev pub last_statement : List ℕ → List ℕ
last_statement prelude = after_last is_semicolon prelude

-- a text begins with `@` after white space
unfoldable pub is_at_rule : List ℕ → Bool
is_at_rule text = starts_with nat_eq (without_front text) (codes "@")

-- the most bytes that the washed style of a rule may have
abbrev pub style_limit : ℕ
style_limit = 512

-- a washed style that a rule may have
abbrev pub is_rule_style : List ℕ → Bool
is_rule_style style = nat_le 1 (length style) && nat_le (length style) style_limit

-- the declarations that a text has
unfoldable pub entries_in : List ℕ → List Entry
entries_in text = map entry_of (declarations text)

-- the rule of a selector, if the text is one
abbrev pub rule_with : List Entry → List ℕ → Option Rule
rule_with entries text = option_map (λ selector. record { selector = selector; entries = entries }) (selector_of text)

abbrev pub option_list : Option Rule → List Rule
option_list None = []
option_list (Some rule) = rule ∷ []

-- the rules of a block: one for each of its selectors, between commas
unfoldable pub rules_of_block : Block → List Rule
rules_of_block block =
    if is_at_rule (last_statement block.prelude) || list_any is_left_brace block.body || not (is_rule_style (stylewash block.body)) then []
    else filter_map (rule_with (entries_in block.body)) (slice_split is_comma (last_statement block.prelude))

-- the rules of a text, in order
unfoldable pub rules : List ℕ → List Rule
rules text = flat_map rules_of_block (blocks (spaced text))

-- the most rules of a message
abbrev pub rules_limit : ℕ
rules_limit = 200

-- rules with more of them after them, as long as there are not too many
abbrev pub with_rules : List Rule → List Rule → List Rule
with_rules kept more = kept ++ take (rules_limit - length kept) more
