-- Washed tokens are nested, are those of a message, and have the characters that are shown.
use Rattle.std.proofs.Common.{◌≡◌, ℕ, Bool, true, false, not, ◌&&◌, ◌==◌, nat_lt, cond, if◌then◌else◌, Some, List, [], ◌∷◌, ◌++◌, codes, chars, encode_utf8_all, length, drop, IsTrue, refl, sym, ap, ◌∙◌, append-nil}
use Rattle.html_syntax.specs.Token.{Attribute, Token}
use Rattle.html_syntax.specs.Token.Token.{Start, End, Char, Comment, Doctype}
use Rattle.html_syntax.specs.Tokenizer.{same, replace_null}
use Rattle.html_rules.specs.Tables.{Name, is_message_element, is_dropped_element}
use Rattle.html_rules.specs.Tokens.{replace_nulls}
use Rattle.html_rules.specs.Nesting.{open_elements_after}
use Rattle.html_rules.specs.MessageTokens.{is_message_token, is_message}
use Rattle.html_rules.proofs.Parts.{both_true, is_message-append}
use Rattle.style_wash.specs.Characters.{trimmed}
use Rattle.style_wash.specs.Declarations.{is_style}
use Rattle.style_rules.specs.Rules.{Rule}
use Rattle.style_rules.specs.Cascade.{declared}
use Rattle.style_rules.specs.Law.{AreWritten}
use Rattle.style_rules.proofs.Written.{read_written, declared_is}
use Rattle.wash_attributes.specs.Given.{Given}
use Rattle.wash_attributes.specs.FirstValues.{attribute_text}
use Rattle.wash_attributes.specs.Attributes.{washed_attributes}
use Rattle.wash_attributes.specs.Soundness.{as_written, IsSound}
use Rattle.wash_attributes.proofs.Allowed.{washed_allowed}
use Rattle.wash_attributes.proofs.JoinedStyles.{empty_style}
use Rattle.wash_attributes.proofs.Sound.{written_style}
use Rattle.html_wash.specs.Styling.{Styling, Following, is_dropping, with_following, is_screen, rules_after, settled, following_of, taken_limit, declared_for, counted}
use Rattle.html_wash.specs.Styling.Following.{Keeps, Drops, Reads}
use Rattle.html_wash.specs.Closings.{After, none_closed, closed_by, lookups_of}
use Rattle.html_wash.specs.Wash.{State, Step, step_with, washed_tag, after_start, step_at_element, step_at_start, step_at_char, settled_state, wash_token, wash_part, close_all, wash_from}
use Rattle.html_wash.specs.Law.{are_openable, characters, shown_characters, IsWashed}
use Rattle.html_wash.proofs.Nesting.{Follows, none_follows, then_follows, close_follows, close_characters, closed_by_follows, closed_by_characters, open_follows, open_characters, after_end_follows, after_end_characters, characters-append}

abbrev after_of : Step → After
after_of step = record { opened = step.state.opened; tokens = step.tokens }

-- ---- the rules that were read

rules_written : (f : Following) (kept : List Rule) → AreWritten kept → AreWritten (rules_after f kept)
rules_written Keeps kept w = w
rules_written Drops kept w = w
rules_written (Reads text) kept w = read_written kept (encode_utf8_all text) w

settled_written : (s : Styling) → AreWritten s.rules → AreWritten (settled s).rules
unfolding settled
settled_written s w = rules_written s.following s.rules w

start_written : (given : Given) (s : State) (name : Name) (attributes : List Attribute) → AreWritten s.styling.rules → AreWritten (step_at_start given s name attributes).state.styling.rules
unfolding counted
start_written given s name attributes w =
    elim (is_dropped_element name) as (λ d. AreWritten (if d then step_with (with_following (following_of name attributes) s.styling) (none_closed s.opened) else (if is_message_element name then step_at_element given s name attributes else step_with s.styling (none_closed s.opened))).state.styling.rules) [
      | true ↦ w
      | false ↦ elim (is_message_element name) as (λ b. AreWritten (if b then step_at_element given s name attributes else step_with s.styling (none_closed s.opened)).state.styling.rules) [ true ↦ w | false ↦ w ]
    ]

token_written : (given : Given) (s : State) (t : Token) → AreWritten s.styling.rules → AreWritten (wash_token given s t).state.styling.rules
unfolding wash_token
token_written given s (Start name attributes) w = start_written given (settled_state s) name attributes (settled_written s.styling w)
token_written given s (End name) w = settled_written s.styling w
token_written given s (Char c) w = w
token_written given s (Comment text) w = settled_written s.styling w
token_written given s Doctype w = settled_written s.styling w

-- ---- what rules declare

declared_style : (s : Styling) (name : Name) (attributes : List Attribute) → AreWritten s.rules → is_style (as_written (declared_for s name attributes)) ≡ true
unfolding declared_for
declared_style s name attributes w =
    let classes = encode_utf8_all (attribute_text (codes "class") attributes) in
    elim (nat_lt s.count taken_limit) as (λ b. is_style (as_written (if b then chars (declared s.rules name classes) else [])) ≡ true) [
      | true ↦ written_style (declared s.rules name classes) (declared_is s.rules name classes w)
      | false ↦ empty_style
    ]

-- ---- one token

tag_is_message : (given : Given) (own : List ℕ → Bool) (declared : List ℕ) (name : Name) (attributes : List Attribute) → IsSound given own → is_style (as_written declared) ≡ true → is_message_element name ≡ true → is_message_token given.images own (washed_tag given declared name attributes) ≡ true
unfolding is_message_token
tag_is_message given own declared name attributes sound style element =
    let allowed = washed_allowed given own declared name attributes sound style in
    both_true _ _ (both_true _ _ element allowed.listed) allowed.protected

element_follows : (given : Given) (own : List ℕ → Bool) (s : State) (name : Name) (attributes : List Attribute) → IsSound given own → are_openable s.opened ≡ true → AreWritten s.styling.rules → is_message_element name ≡ true → Follows given.images own s.opened (after_of (step_at_element given s name attributes))
unfolding after_start
element_follows given own s name attributes sound h w element =
    let style = declared_for s.styling name attributes in
    open_follows given.images own s.opened name (replace_nulls (washed_attributes given style name attributes)) (closed_by (lookups_of name) s.opened) (closed_by_follows given.images own (lookups_of name) s.opened h) element
    (tag_is_message given own style name attributes sound (declared_style s.styling name attributes w) element)

start_follows : (given : Given) (own : List ℕ → Bool) (s : State) (name : Name) (attributes : List Attribute) → IsSound given own → are_openable s.opened ≡ true → AreWritten s.styling.rules → Follows given.images own s.opened (after_of (step_at_start given s name attributes))
start_follows given own s name attributes sound h w =
    elim (is_dropped_element name) as (λ d. Follows given.images own s.opened (after_of (if d then step_with (with_following (following_of name attributes) s.styling) (none_closed s.opened) else (if is_message_element name then step_at_element given s name attributes else step_with s.styling (none_closed s.opened))))) [
      | true ↦ none_follows given.images own s.opened h
      | false ↦
          elim (is_message_element name) as (λ b. is_message_element name ≡ b → Follows given.images own s.opened (after_of (if b then step_at_element given s name attributes else step_with s.styling (none_closed s.opened)))) [
            | true ↦ λ e. element_follows given own s name attributes sound h w e
            | false ↦ λ e. none_follows given.images own s.opened h
          ] refl
    ]

not_null : (c : ℕ) → not (replace_null c == 0) ≡ true
not_null c = elim (c == 0) as (λ b. (c == 0) ≡ b → not (cond b 0xFFFD c == 0) ≡ true) [ true ↦ λ e. refl | false ↦ λ e. rw e refl ] refl

char_follows : (images : Bool) (own : List ℕ → Bool) (s : State) (c : ℕ) → are_openable s.opened ≡ true → Follows images own s.opened (after_of (step_at_char s c))
unfolding open_elements_after is_message_token
char_follows images own s c h =
    elim (is_dropping s.styling.following) as (λ b. Follows images own s.opened (record { opened = s.opened; tokens = (if b then [] else Char (replace_null c) ∷ []) })) [
      | true ↦ none_follows images own s.opened h
      | false ↦ record { openable = h; nested = λ ts. refl; message = both_true _ true (not_null c) refl }
    ]

token_follows : (given : Given) (own : List ℕ → Bool) (s : State) (t : Token) → IsSound given own → are_openable s.opened ≡ true → AreWritten s.styling.rules → Follows given.images own s.opened (after_of (wash_token given s t))
unfolding wash_token
token_follows given own s (Start name attributes) sound h w = start_follows given own (settled_state s) name attributes sound h (settled_written s.styling w)
token_follows given own s (End name) sound h w = after_end_follows given.images own s.opened name h
token_follows given own s (Char c) sound h w = char_follows given.images own s c h
token_follows given own s (Comment text) sound h w = none_follows given.images own s.opened h
token_follows given own s Doctype sound h w = none_follows given.images own s.opened h

-- ---- all tokens

part_follows : (given : Given) (own : List ℕ → Bool) (s : State) (ts : List Token) → IsSound given own → are_openable s.opened ≡ true → AreWritten s.styling.rules → Follows given.images own s.opened (after_of (wash_part given s ts))
unfolding wash_part
part_follows given own s [] sound h w = none_follows given.images own s.opened h
part_follows given own s (t ∷ ts) sound h w =
    let first = wash_token given s t in
    let f = token_follows given own s t sound h w in
    then_follows given.images own s.opened (after_of first) (after_of (wash_part given first.state ts)) f (part_follows given own first.state ts sound f.openable (token_written given s t w))

drop_length : (names : List Name) → drop (length names) names ≡ []
drop_length [] = refl
drop_length (name ∷ names) = drop_length names

from_nested : (given : Given) (own : List ℕ → Bool) (s : State) (ts : List Token) → Follows given.images own s.opened (after_of (wash_part given s ts)) → open_elements_after s.opened (wash_from given s ts) ≡ Some []
unfolding wash_from open_elements_after
from_nested given own s ts f =
    let opened = (wash_part given s ts).state.opened in
    let last = (close_follows given.images own (length opened) opened f.openable).nested [] in
    f.nested (close_all opened) ∙ ap (open_elements_after opened) (sym (append-nil (close_all opened))) ∙ last ∙ ap (λ (names : List Name). open_elements_after names []) (drop_length opened)

from_message : (given : Given) (own : List ℕ → Bool) (s : State) (ts : List Token) → Follows given.images own s.opened (after_of (wash_part given s ts)) → is_message given.images own (wash_from given s ts) ≡ true
unfolding wash_from
from_message given own s ts f =
    let part = wash_part given s ts in
    let opened = part.state.opened in
    is_message-append given.images own part.tokens (close_all opened) f.message (close_follows given.images own (length opened) opened f.openable).message

-- ---- characters

element_characters : (given : Given) (s : State) (name : Name) (attributes : List Attribute) → characters (step_at_element given s name attributes).tokens ≡ []
unfolding after_start
element_characters given s name attributes =
    open_characters name (replace_nulls (washed_attributes given (declared_for s.styling name attributes) name attributes)) (closed_by (lookups_of name) s.opened) (closed_by_characters (lookups_of name) s.opened)

-- the characters of a step, and those of what follows
record HasCharacters (step : Step) (following : Following) (t : Token) : Type 0 where
  shown : (ts : List Token) → characters step.tokens ++ shown_characters (is_dropping step.state.styling.following) ts ≡ shown_characters (is_dropping following) (t ∷ ts)

settled_keeps : (s : Styling) → is_dropping (settled s).following ≡ false
unfolding settled
settled_keeps s = refl

drops_after : (name : Name) (attributes : List Attribute) → is_dropping (following_of name attributes) ≡ true
unfolding following_of
drops_after name attributes =
    elim (same (codes "style") name && is_screen (trimmed (encode_utf8_all (attribute_text (codes "media") attributes)))) as (λ b. is_dropping (if b then Reads [] else Drops) ≡ true) [ true ↦ refl | false ↦ refl ]

step_at_start_characters : (given : Given) (s : State) (following : Following) (name : Name) (attributes : List Attribute) → is_dropping s.styling.following ≡ false → HasCharacters (step_at_start given s name attributes) following (Start name attributes)
unfolding shown_characters characters counted
step_at_start_characters given s following name attributes keeps = record {
  shown = λ ts. elim (is_dropped_element name) as (λ d. characters (if d then step_with (with_following (following_of name attributes) s.styling) (none_closed s.opened) else (if is_message_element name then step_at_element given s name attributes else step_with s.styling (none_closed s.opened))).tokens ++ shown_characters (is_dropping (if d then step_with (with_following (following_of name attributes) s.styling) (none_closed s.opened) else (if is_message_element name then step_at_element given s name attributes else step_with s.styling (none_closed s.opened))).state.styling.following) ts ≡ shown_characters d ts) [
    | true ↦ ap (λ (b : Bool). shown_characters b ts) (drops_after name attributes)
    | false ↦
        elim (is_message_element name) as (λ b. characters (if b then step_at_element given s name attributes else step_with s.styling (none_closed s.opened)).tokens ++ shown_characters (is_dropping (if b then step_at_element given s name attributes else step_with s.styling (none_closed s.opened)).state.styling.following) ts ≡ shown_characters false ts) [
          | true ↦ rw (element_characters given s name attributes, keeps) refl
          | false ↦ rw keeps refl
        ]
  ];
}

step_at_char_characters : (s : State) (c : ℕ) (f : Following) → f ≡ s.styling.following → HasCharacters (step_at_char s c) f (Char c)
unfolding shown_characters characters
step_at_char_characters s c Keeps e = rw (sym e) (record { shown = λ ts. refl })
step_at_char_characters s c Drops e = rw (sym e) (record { shown = λ ts. refl })
step_at_char_characters s c (Reads text) e = rw (sym e) (record { shown = λ ts. refl })

token_characters : (given : Given) (s : State) (t : Token) → HasCharacters (wash_token given s t) s.styling.following t
unfolding wash_token shown_characters characters settled
token_characters given s (Start name attributes) = step_at_start_characters given (settled_state s) s.styling.following name attributes (settled_keeps s.styling)
token_characters given s (End name) = record { shown = λ ts. rw (after_end_characters s.opened name) refl }
token_characters given s (Char c) = step_at_char_characters s c s.styling.following refl
token_characters given s (Comment text) = record { shown = λ ts. refl }
token_characters given s Doctype = record { shown = λ ts. refl }

part_characters : (given : Given) (s : State) (ts : List Token) → characters (wash_part given s ts).tokens ≡ shown_characters (is_dropping s.styling.following) ts
unfolding wash_part shown_characters characters
part_characters given s [] = refl
part_characters given s (t ∷ ts) =
    let first = wash_token given s t in
    characters-append first.tokens (wash_part given first.state ts).tokens
    ∙ ap (λ (cs : List ℕ). characters first.tokens ++ cs) (part_characters given first.state ts)
    ∙ (token_characters given s t).shown ts

from_characters : (given : Given) (s : State) (ts : List Token) → characters (wash_from given s ts) ≡ shown_characters (is_dropping s.styling.following) ts
unfolding wash_from
from_characters given s ts =
    let part = wash_part given s ts in
    characters-append part.tokens (close_all part.state.opened)
    ∙ rw (close_characters (length part.state.opened) part.state.opened) (append-nil (characters part.tokens))
    ∙ part_characters given s ts

-- ---- the law

pub washed_is_allowed : (given : Given) (own : List ℕ → Bool) (s : State) (ts : List Token) → IsSound given own → IsTrue (are_openable s.opened) → AreWritten s.styling.rules → IsWashed given own s ts (wash_from given s ts)
washed_is_allowed given own s ts sound h w =
    let f = part_follows given own s ts sound h w in
    record {
      nested = from_nested given own s ts f;
      message = from_message given own s ts f;
      shown = from_characters given s ts;
    }
