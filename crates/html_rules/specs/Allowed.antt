-- The pages that may be shown to a member, and what they load.
use Rattle.std.specs.Prelude.{◌≡◌, ◌≤◌, ℕ, Bool, ◌&&◌, ◌||◌, if◌then◌else◌, ◌⊎◌, List, [], ◌∷◌, ◌++◌, codes, IsTrue}
use Rattle.std.specs.List.{list_all, flat_map, count_by, AllByRecursion}
use Rattle.html_syntax.specs.Token.{Attribute, Token}
use Rattle.html_syntax.specs.Token.Token.{Start, End}
use Rattle.html_syntax.specs.Tokenizer.{same}
use Rattle.html_rules.specs.Tables.{Name}
use Rattle.html_rules.specs.Values.{is_source}
use Rattle.html_rules.specs.MessageTokens.{is_message_token, is_message}
use Rattle.html_rules.specs.FrameTokens.{is_frame_token, is_frame, opens_mail, style_sheet}
use Rattle.html_rules.specs.Nesting.{IsNested}

-- a page with a message in the one `div` of class `mail`, and a frame around it
pub record HasMail (page : List Token) (images : Bool) (own : List ℕ → Bool) : Type 0 where
  pub before : List Token
  pub mail : Token
  pub message : List Token
  pub after : List Token
  pub equals : page ≡ before ++ (mail ∷ message ++ (End (codes "div") ∷ after))
  pub before_is_frame : IsTrue (is_frame before)
  pub opens : IsTrue (is_frame_token mail && opens_mail mail)
  pub is_a_message : IsTrue (is_message images own message)
  pub is_nested : IsNested message
  pub after_is_frame : IsTrue (is_frame after)

-- A page is a frame alone, or a frame with a message in it. `images` tells whether remote pictures were requested, `own` which
-- addresses are the site's own pictures.
abbrev pub IsAllowed : List Token → Bool → (List ℕ → Bool) → Type 0
IsAllowed page images own = IsTrue (is_frame page) ⊎ HasMail page images own

-- ---- what a page loads by itself

-- a picture, or what a `link` names
abbrev pub is_loading_attribute : Name → Attribute → Bool
is_loading_attribute element a = same (codes "src") a.name || (same (codes "link") element && same (codes "href") a.name)

abbrev pub addresses_loaded_by : Token → List (List ℕ)
addresses_loaded_by (Start name attributes) = flat_map (λ a. if is_loading_attribute name a then a.value ∷ [] else []) attributes
addresses_loaded_by _ = []

-- the addresses that a browser loads when it shows the page, without a click
unfoldable pub loads : List Token → List (List ℕ)
loads tokens = flat_map addresses_loaded_by tokens

-- the addresses that an allowed page may load
abbrev pub may_load : Bool → (List ℕ → Bool) → List ℕ → Bool
may_load images own address = same style_sheet address || is_source images own address

-- an allowed page loads its style sheet, the site's own pictures and, if requested, remote pictures
abbrev pub AllowedPagesLoad : Type 0
AllowedPagesLoad =
    (page : List Token) (images : Bool) (own : List ℕ → Bool) → IsAllowed page images own
    → AllByRecursion (λ address. IsTrue (may_load images own address)) (loads page)

-- each of its tokens is a frame token or a message token
abbrev pub AllowedPagesAreKnown : Type 0
AllowedPagesAreKnown =
    (page : List Token) (images : Bool) (own : List ℕ → Bool) → IsAllowed page images own
    → IsTrue (list_all (λ t. is_frame_token t || is_message_token images own t) page)

-- at most one of its tokens opens a message
abbrev pub AllowedPagesHaveOneMail : Type 0
AllowedPagesHaveOneMail =
    (page : List Token) (images : Bool) (own : List ℕ → Bool) → IsAllowed page images own → count_by opens_mail page ≤ 1
