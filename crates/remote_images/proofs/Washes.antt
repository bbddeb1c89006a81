-- Texts are washed otherwise with remote pictures if and only if they have one.
use Rattle.std.proofs.Common.{◌≡◌, ℕ, Bool, true, false, ◌&&◌, ◌||◌, if◌then◌else◌, List, [], ◌∷◌, ◌++◌, codes, refl, sym, ap, subst, ◌∙◌, append_assoc}
use Rattle.std.specs.List.{list_any, filter_map}
use Rattle.html_syntax.specs.Token.{Attribute, Token}
use Rattle.html_syntax.specs.Token.Token.{Start, End, Char, Comment, Doctype}
use Rattle.html_syntax.specs.Tokenizer.{same}
use Rattle.html_tokens.specs.Attributes.{first_of_each}
use Rattle.html_rules.specs.Tables.{Name, is_message_element, message_elements, is_dropped_element, dropped_elements, is_void, message_void_elements, frame_void_elements}
use Rattle.html_rules.specs.Tokens.{replace_nulls}
use Rattle.html_rules.proofs.Facts.{and_true, or_false, same-true}
use Rattle.wash_attributes.specs.Given.{Target, Given}
use Rattle.wash_attributes.specs.Attributes.{kept_attribute, kept_attributes, join_styles, with_declared, with_style, protect_link, washed_attributes}
use Rattle.html_wash.specs.Closings.{none_closed, closed_by, lookups_of, closing_rows}
use Rattle.html_wash.specs.Styling.{with_following, settled, following_of, declared_for, counted}
use Rattle.html_wash.specs.Wash.{State, Step, step_with, open_element, after_start, step_at_start, settled_state, wash_token, wash_part, close_all, wash_from}
use Rattle.remote_images.proofs.Sources.{washing, is_remote_source, all_alike_elsewhere, all_alike}
use Rattle.remote_images.proofs.Counts.{no_remote_source}

-- ---- one token

abbrev pub is_remote_img : (List ℕ → Target) → Token → Bool
is_remote_img to (Start name attributes) = same (codes "img") name && list_any (is_remote_source to) (first_of_each attributes)
is_remote_img to (End name) = false
is_remote_img to (Char c) = false
is_remote_img to (Comment text) = false
is_remote_img to Doctype = false

washed_alike : (to : List ℕ → Target) (style : List ℕ → List ℕ) (declared : List ℕ) (name : Name) (xs : List Attribute) → let joined : List ℕ → List ℕ = λ text. join_styles declared (style text) in filter_map (kept_attribute (washing to joined true) name) (first_of_each xs) ≡ filter_map (kept_attribute (washing to joined false) name) (first_of_each xs) → washed_attributes (washing to style true) declared name xs ≡ washed_attributes (washing to style false) declared name xs
unfolding washed_attributes kept_attributes with_declared
washed_alike to style declared name xs h = ap (λ (kept : List Attribute). protect_link (with_style declared kept)) h

attributes_alike : (to : List ℕ → Target) (style : List ℕ → List ℕ) (declared : List ℕ) (name : Name) (xs : List Attribute) → is_remote_img to (Start name xs) ≡ false → washed_attributes (washing to style true) declared name xs ≡ washed_attributes (washing to style false) declared name xs
attributes_alike to style declared name xs h =
    let joined : List ℕ → List ℕ = λ text. join_styles declared (style text) in
    washed_alike to style declared name xs
    (elim (same (codes "img") name) as (λ (b : Bool). same (codes "img") name ≡ b → (b && list_any (is_remote_source to) (first_of_each xs)) ≡ false → filter_map (kept_attribute (washing to joined true) name) (first_of_each xs) ≡ filter_map (kept_attribute (washing to joined false) name) (first_of_each xs)) [
      | true ↦ λ e g. all_alike to joined name (first_of_each xs) g
      | false ↦ λ e g. all_alike_elsewhere to joined name (first_of_each xs) e
    ] refl h)

start_alike : (given other : Given) (s : State) (name : Name) (xs : List Attribute) → washed_attributes given (declared_for s.styling name xs) name xs ≡ washed_attributes other (declared_for s.styling name xs) name xs → step_at_start given s name xs ≡ step_at_start other s name xs
unfolding after_start
start_alike given other s name xs h =
    ap (λ (ys : List Attribute). if is_dropped_element name then step_with (with_following (following_of name xs) s.styling) (none_closed s.opened) else (if is_message_element name then step_with (counted (declared_for s.styling name xs) s.styling) (open_element name (Start name (replace_nulls ys)) (closed_by (lookups_of name) s.opened)) else step_with s.styling (none_closed s.opened))) h

token_alike : (to : List ℕ → Target) (style : List ℕ → List ℕ) (s : State) (t : Token) → is_remote_img to t ≡ false → wash_token (washing to style true) s t ≡ wash_token (washing to style false) s t
unfolding wash_token
token_alike to style s (Start name xs) h = start_alike (washing to style true) (washing to style false) (settled_state s) name xs (attributes_alike to style (declared_for (settled s.styling) name xs) name xs h)
token_alike to style s (End name) h = refl
token_alike to style s (Char c) h = refl
token_alike to style s (Comment text) h = refl
token_alike to style s Doctype h = refl

-- an image is written, whatever is open
image_written : (given : Given) (s : State) (xs : List Attribute) → (step_at_start given s (codes "img") xs).tokens ≡ Start (codes "img") (replace_nulls (washed_attributes given (declared_for s.styling (codes "img") xs) (codes "img") xs)) ∷ []
unfolding after_start closed_by lookups_of closing_rows is_dropped_element dropped_elements is_message_element message_elements is_void message_void_elements frame_void_elements
image_written given s xs = refl

same_attributes : (name : Name) (xs ys : List Attribute) (ts us : List Token) → Start name xs ∷ ts ≡ Start name ys ∷ us → xs ≡ ys
same_attributes name xs ys ts us h = cc

image_differs : (to : List ℕ → Target) (style : List ℕ → List ℕ) (s : State) (name : Name) (xs : List Attribute) (ts us : List Token) → is_remote_img to (Start name xs) ≡ true → (step_at_start (washing to style true) s name xs).tokens ++ ts ≡ (step_at_start (washing to style false) s name xs).tokens ++ us → ⊥
image_differs to style s name xs ts us h same_tokens =
    let both = and_true (same (codes "img") name) (list_any (is_remote_source to) (first_of_each xs)) h in
    let image : codes "img" ≡ name = same-true (codes "img") name both.0 in
    let declared = declared_for s.styling (codes "img") xs in
    let of_image = subst (λ (n : Name). (step_at_start (washing to style true) s n xs).tokens ++ ts ≡ (step_at_start (washing to style false) s n xs).tokens ++ us) (sym image) same_tokens in
    let tags : Start (codes "img") (replace_nulls (washed_attributes (washing to style true) declared (codes "img") xs)) ∷ ts ≡ Start (codes "img") (replace_nulls (washed_attributes (washing to style false) declared (codes "img") xs)) ∷ us =
    ap (λ (first : List Token). first ++ ts) (sym (image_written (washing to style true) s xs)) ∙ of_image ∙ ap (λ (first : List Token). first ++ us) (image_written (washing to style false) s xs) in
    let none : list_any (is_remote_source to) (first_of_each xs) ≡ false = no_remote_source to style declared xs (same_attributes (codes "img") _ _ ts us tags) in
    let no : true ≡ false = sym both.1 ∙ none in
    cc

token_differs : (to : List ℕ → Target) (style : List ℕ → List ℕ) (s : State) (t : Token) (ts us : List Token) → is_remote_img to t ≡ true → (wash_token (washing to style true) s t).tokens ++ ts ≡ (wash_token (washing to style false) s t).tokens ++ us → ⊥
unfolding wash_token
token_differs to style s (Start name xs) ts us h e = image_differs to style (settled_state s) name xs ts us h e
token_differs to style s (End name) ts us h e = absurd cc
token_differs to style s (Char c) ts us h e = absurd cc
token_differs to style s (Comment text) ts us h e = absurd cc
token_differs to style s Doctype ts us h e = absurd cc

-- ---- all tokens

from_first : (given : Given) (s : State) (t : Token) (ts : List Token) → wash_from given s (t ∷ ts) ≡ (wash_token given s t).tokens ++ wash_from given (wash_token given s t).state ts
unfolding wash_from wash_part
from_first given s t ts =
    let first = wash_token given s t in
    let rest = wash_part given first.state ts in
    append_assoc first.tokens rest.tokens (close_all rest.state.opened)

cancel : (xs ys zs : List Token) → xs ++ ys ≡ xs ++ zs → ys ≡ zs
cancel [] ys zs h = h
cancel (x ∷ xs) ys zs h = let tails : xs ++ ys ≡ xs ++ zs = cc in cancel xs ys zs tails

pub washed_same : (to : List ℕ → Target) (style : List ℕ → List ℕ) (s : State) (ts : List Token) → list_any (is_remote_img to) ts ≡ false → wash_from (washing to style true) s ts ≡ wash_from (washing to style false) s ts
unfolding wash_from wash_part
washed_same to style s [] h = refl
washed_same to style s (t ∷ ts) h =
    let both = or_false (is_remote_img to t) (list_any (is_remote_img to) ts) h in
    let alike = token_alike to style s t both.0 in
    let first = wash_token (washing to style true) s t in
    from_first (washing to style true) s t ts
    ∙ ap (λ (us : List Token). first.tokens ++ us) (washed_same to style first.state ts both.1)
    ∙ ap (λ (step : Step). step.tokens ++ wash_from (washing to style false) step.state ts) alike
    ∙ sym (from_first (washing to style false) s t ts)

pub washed_otherwise : (to : List ℕ → Target) (style : List ℕ → List ℕ) (s : State) (ts : List Token) → list_any (is_remote_img to) ts ≡ true → wash_from (washing to style true) s ts ≡ wash_from (washing to style false) s ts → ⊥
washed_otherwise to style s [] h e = absurd cc
washed_otherwise to style s (t ∷ ts) h e =
    let first = wash_token (washing to style true) s t in
    let split = sym (from_first (washing to style true) s t ts) ∙ e ∙ from_first (washing to style false) s t ts in
    elim (is_remote_img to t) as (λ (b : Bool). is_remote_img to t ≡ b → (b || list_any (is_remote_img to) ts) ≡ true → ⊥) [
      | true ↦ λ remote any. token_differs to style s t _ _ remote split
      | false ↦ λ near any.
          washed_otherwise to style first.state ts any
          (cancel first.tokens _ _ (split ∙ ap (λ (step : Step). step.tokens ++ wash_from (washing to style false) step.state ts) (sym (token_alike to style s t near))))
    ] refl h
