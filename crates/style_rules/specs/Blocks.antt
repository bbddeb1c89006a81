-- The blocks of a style sheet.
use Rattle.std.specs.Prelude.{ℕ, zero, suc, ◌+◌, ◌-◌, ◌==◌, nat_eq, Bool, ◌&&◌, if◌then◌else◌, List, [], ◌∷◌, length, take, drop, codes, Option, Some, None}
use Rattle.std.specs.Option.{option_map}
use Rattle.std.specs.List.{starts_with, before_first, after_first}
use Rattle.style_wash.specs.Characters.{space}

-- ---- comments

-- the length of the rest of a comment: up to the first `*/` and with it, or else up to the end
unfoldable pub comment_rest : List ℕ → ℕ
comment_rest [] = 0
comment_rest (c ∷ more) = if starts_with nat_eq (c ∷ more) (codes "*/") then 2 else suc (comment_rest more)

-- the length of a comment, of a `<!--` or of a `-->` at the front of a text; 0 if there is none
unfoldable pub comment_len : List ℕ → ℕ
comment_len text =
    if starts_with nat_eq text (codes "/*") then comment_rest (drop 2 text) + 2
    else if starts_with nat_eq text (codes "<!--") then 4
    else if starts_with nat_eq text (codes "-->") then 3
    else 0

-- what follows the first `skipped` characters of a text, with a space in place of each comment, `<!--` and `-->`
unfoldable pub spaced_after : ℕ → List ℕ → List ℕ
spaced_after skipped [] = []
spaced_after (suc skipped) (c ∷ more) = spaced_after skipped more
spaced_after zero (c ∷ more) =
    if comment_len (c ∷ more) == 0 then c ∷ spaced_after 0 more else space ∷ spaced_after (comment_len (c ∷ more) - 1) more

-- a text with a space in place of each comment, `<!--` and `-->`
abbrev pub spaced : List ℕ → List ℕ
spaced text = spaced_after 0 text

-- ---- blocks

abbrev pub is_left_brace : ℕ → Bool
is_left_brace c = c == 123

abbrev pub is_right_brace : ℕ → Bool
is_right_brace c = c == 125

-- A prelude, and the body between the `{` after it and the `}` that closes that.
pub record Block : Type 0 where
  pub prelude : List ℕ
  pub body : List ℕ

-- the number of open braces inside a body after a character
abbrev pub depth_after : ℕ → ℕ → ℕ
depth_after depth c = if is_left_brace c then depth + 1 else if is_right_brace c then depth - 1 else depth

-- the length of the rest of a body, inside of which `depth` braces are open; None if it isn't closed
unfoldable pub body_len : ℕ → List ℕ → Option ℕ
body_len depth [] = None
body_len depth (c ∷ more) = if is_right_brace c && (depth == 0) then Some 0 else option_map suc (body_len (depth_after depth c) more)

-- a block, and the text after it
pub record BlockAndRest : Type 0 where
  pub block : Block
  pub rest : List ℕ

abbrev pub block_with : List ℕ → List ℕ → Option ℕ → Option BlockAndRest
block_with prelude after None = None
block_with prelude after (Some size) = Some (record { block = record { prelude = prelude; body = take size after }; rest = drop (size + 1) after })

-- the first block of a text, if it is whole
unfoldable pub first_block : List ℕ → Option BlockAndRest
first_block text = block_with (before_first is_left_brace text) (after_first is_left_brace text) (body_len 0 (after_first is_left_brace text))

abbrev pub onto_blocks : (List ℕ → List Block) → Option BlockAndRest → List Block
onto_blocks after None = []
onto_blocks after (Some first) = first.block ∷ after first.rest

-- the whole blocks of a text, at most `most`
unfoldable pub blocks_within : ℕ → List ℕ → List Block
blocks_within zero text = []
blocks_within (suc most) text = onto_blocks (blocks_within most) (first_block text)

-- the whole blocks of a text, each of which has a `{` at least
abbrev pub blocks : List ℕ → List Block
blocks text = blocks_within (length text) text
