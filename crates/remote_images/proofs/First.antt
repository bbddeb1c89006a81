-- The first `src` of a tag, and the law of remote pictures.
use Rattle.std.proofs.Common.{◌≡◌, ℕ, Bool, true, false, not, cond, ◌&&◌, ◌||◌, if◌then◌else◌, Option, Some, None, List, [], ◌∷◌, codes, encode_utf8_all, refl, sym, ap, subst, ◌∙◌}
use Rattle.std.specs.List.{list_any, filter}
use Rattle.html_syntax.specs.Token.{Attribute, Token}
use Rattle.html_syntax.specs.Token.Token.{Start, End, Char, Comment, Doctype}
use Rattle.html_syntax.specs.Tokenizer.{same}
use Rattle.html_tokens.specs.Attributes.{first_of_each}
use Rattle.html_rules.specs.Tables.{Name}
use Rattle.html_rules.proofs.Facts.{same-true}
use Rattle.style_wash.specs.Declarations.{stylewash}
use Rattle.cid_parts.specs.declared.refs.Ref.{Ref}
use Rattle.cid_parts.specs.declared.refs.Ref.TheVariants as ref
use Rattle.cid_parts.specs.Located.{ReferencesValue}
use Rattle.cid_parts.specs.Refer.{refer}
use Rattle.wash_attributes.specs.declared.place.Place.{Place}
use Rattle.wash_attributes.specs.Addresses.{target_of, given_of}
use Rattle.wash_attributes.specs.Given.{Target}
use Rattle.html_wash.specs.Wash.{State, wash_from}
use Rattle.wash_attributes.specs.FirstValues.{first_value}
use Rattle.remote_images.specs.Remote.{is_remote, refers_to_web, is_remote_image, has_remote_images}
use Rattle.remote_images.specs.Decides.{RemoteImagesDecide}
use Rattle.remote_images.proofs.Sources.{is_remote_target}
use Rattle.remote_images.proofs.Washes.{is_remote_img, washed_same, washed_otherwise}

abbrev is_source_that : (List ℕ → Bool) → Attribute → Bool
is_source_that q a = same (codes "src") a.name && q a.value

abbrev on_value : (List ℕ → Bool) → Option (List ℕ) → Bool
on_value q None = false
on_value q (Some value) = q value

-- ---- later attributes of a name

no_source_left : (q : List ℕ → Bool) (xs : List Attribute) → list_any (is_source_that q) (filter (λ b. not (same (codes "src") b.name)) xs) ≡ false
no_source_left q [] = refl
no_source_left q (a ∷ xs) =
    elim (same (codes "src") a.name) as (λ (t : Bool). same (codes "src") a.name ≡ t → list_any (is_source_that q) (cond (not t) (a ∷ filter (λ b. not (same (codes "src") b.name)) xs) (filter (λ b. not (same (codes "src") b.name)) xs)) ≡ false) [
      | true ↦ λ e. no_source_left q xs
      | false ↦ λ e. rw e (no_source_left q xs)
    ] refl

sources_left : (q : List ℕ → Bool) (name : Name) (xs : List Attribute) → same (codes "src") name ≡ false → list_any (is_source_that q) (filter (λ b. not (same name b.name)) xs) ≡ list_any (is_source_that q) xs
sources_left q name [] h = refl
sources_left q name (a ∷ xs) h =
    elim (same name a.name) as (λ (t : Bool). same name a.name ≡ t → list_any (is_source_that q) (cond (not t) (a ∷ filter (λ b. not (same name b.name)) xs) (filter (λ b. not (same name b.name)) xs)) ≡ list_any (is_source_that q) (a ∷ xs)) [
      | true ↦ λ e. let other : same (codes "src") a.name ≡ false = ap (same (codes "src")) (sym (same-true name a.name e)) ∙ h in rw other (sources_left q name xs h)
      | false ↦ λ e. ap (λ (b : Bool). is_source_that q a || b) (sources_left q name xs h)
    ] refl

or_none : (b : Bool) → (b || false) ≡ b
or_none true = refl
or_none false = refl

first_source : (q : List ℕ → Bool) (xs : List Attribute) → list_any (is_source_that q) (first_of_each xs) ≡ on_value q (first_value (codes "src") xs)
first_source q [] = refl
first_source q (a ∷ xs) =
    let later = first_of_each xs in
    elim (same (codes "src") a.name) as (λ (t : Bool). same (codes "src") a.name ≡ t → ((t && q a.value) || list_any (is_source_that q) (filter (λ b. not (same a.name b.name)) later)) ≡ on_value q (if t then Some a.value else first_value (codes "src") xs)) [
      | true ↦ λ e.
          let none : list_any (is_source_that q) (filter (λ b. not (same a.name b.name)) later) ≡ false =
          subst (λ (name : Name). list_any (is_source_that q) (filter (λ b. not (same name b.name)) later) ≡ false) (same-true (codes "src") a.name e) (no_source_left q later) in
          rw none (or_none (q a.value))
      | false ↦ λ e. sources_left q a.name later e ∙ first_source q xs
    ] refl

-- ---- the law

abbrev target : ReferencesValue → Place → List ℕ → Target
target references place address = target_of place (refer references (encode_utf8_all address))

abbrev washed_style : List ℕ → List ℕ
washed_style style = stylewash (encode_utf8_all style)

target_is_remote : (place : Place) (to : Ref) → is_remote_target (target_of place to) ≡ is_remote to
target_is_remote place (ref.Part section) = refl
target_is_remote place (ref.Remote text) = refl
target_is_remote place (ref.Link text) = refl
target_is_remote place ref.Nothing = refl

value_is_remote : (references : ReferencesValue) (place : Place) (value : Option (List ℕ)) → on_value (λ v. is_remote_target (target references place v)) value ≡ refers_to_web references value
value_is_remote references place None = refl
value_is_remote references place (Some value) = target_is_remote place (refer references (encode_utf8_all value))

token_is_remote : (references : ReferencesValue) (place : Place) (t : Token) → is_remote_img (target references place) t ≡ is_remote_image references t
unfolding is_remote_image
token_is_remote references place (Start name xs) =
    ap (λ (b : Bool). same (codes "img") name && b)
    (first_source (λ v. is_remote_target (target references place v)) xs ∙ value_is_remote references place (first_value (codes "src") xs))
token_is_remote references place (End name) = refl
token_is_remote references place (Char c) = refl
token_is_remote references place (Comment text) = refl
token_is_remote references place Doctype = refl

any_is_remote : (references : ReferencesValue) (place : Place) (ts : List Token) → list_any (is_remote_img (target references place)) ts ≡ has_remote_images references ts
unfolding has_remote_images
any_is_remote references place [] = refl
any_is_remote references place (t ∷ ts) = rw (token_is_remote references place t, any_is_remote references place ts) refl

otherwise : (references : ReferencesValue) (place : Place) (s : State) (ts : List Token) → has_remote_images references ts ≡ true → wash_from (given_of references place true) s ts ≡ wash_from (given_of references place false) s ts → ⊥
unfolding given_of
otherwise references place s ts h e = washed_otherwise (target references place) washed_style s ts (any_is_remote references place ts ∙ h) e

alike : (references : ReferencesValue) (place : Place) (s : State) (ts : List Token) → has_remote_images references ts ≡ false → wash_from (given_of references place true) s ts ≡ wash_from (given_of references place false) s ts
unfolding given_of
alike references place s ts h = washed_same (target references place) washed_style s ts (any_is_remote references place ts ∙ h)

pub decides : RemoteImagesDecide
decides references place s ts = (
  λ h. otherwise references place s ts h,
  λ differ. elim (has_remote_images references ts) as (λ (b : Bool). has_remote_images references ts ≡ b → b ≡ true) [
    | true ↦ λ e. refl
    | false ↦ λ e. absurd (differ (alike references place s ts e))
  ] refl,
)
