-- Remote pictures among the tokens of spans.
use Rattle.std.proofs.Common.{◌≡◌, ℕ, Bool, true, false, ◌&&◌, ◌||◌, ◌↔◌, List, [], ◌∷◌, ◌++◌, codes, Result, Ok, Err, IfOk, IsTrue, refl, sym, ap, subst, ◌∙◌}
use Rattle.std.specs.List.{list_any}
use Rattle.html_syntax.specs.Token.{Attribute, Token}
use Rattle.html_syntax.specs.Token.Token.{Start, End}
use Rattle.html_syntax.specs.Tokenizer.{same, chars as char_tokens}
use Rattle.html_tokens.specs.Attributes.{first_of_each}
use Rattle.html_references.specs.Input.{input, read_as}
use Rattle.html_tokens.specs.Scanned.{part_tokens, slice_between}
use Rattle.html_tokens.specs.declared.span.Part.{Part}
use Rattle.html_tokens.specs.declared.span.Part.TheVariants as part
use Rattle.cid_parts.specs.declared.refs.Ref.{Ref}
use Rattle.cid_parts.specs.declared.refs.Ref.TheVariants as ref
use Rattle.cid_parts.specs.Located.{ReferencesValue}
use Rattle.wash_attributes.specs.declared.place.Place.{Place}
use Rattle.html_wash.specs.Wash.{start, wash}
use Rattle.remote_images.specs.Remote.{is_remote, refers_to_web, is_remote_image, has_remote_images}
use Rattle.remote_images.specs.Decides.{ImagesChange}
use Rattle.wash_attributes.proofs.FirstValues.{first_of_first}
use Rattle.remote_images.proofs.First.{decides}

pub not_remote : (to : Ref) → ((text : List ℕ) → to ≡ ref.Remote text → ⊥) → is_remote to ≡ false
not_remote (ref.Part section) other = refl
not_remote (ref.Remote text) other = absurd (other text refl)
not_remote (ref.Link text) other = refl
not_remote ref.Nothing other = refl

-- ---- spans

or_none : (b : Bool) → b ≡ (b || false)
or_none true = refl
or_none false = refl

pub tag_has : (references : ReferencesValue) (name : List ℕ) (xs : List Attribute) (ts : List Token) → ts ≡ Start name (first_of_each xs) ∷ [] → is_remote_image references (Start name xs) ≡ has_remote_images references ts
unfolding has_remote_images is_remote_image
tag_has references name xs ts is =
    ap (λ value. same (codes "img") name && refers_to_web references value) (sym (first_of_first (codes "src") xs))
    ∙ or_none (is_remote_image references (Start name (first_of_each xs)))
    ∙ ap (has_remote_images references) (sym is)

pub end_has : (references : ReferencesValue) (name : List ℕ) (ts : List Token) → ts ≡ End name ∷ [] → false ≡ has_remote_images references ts
unfolding has_remote_images is_remote_image
end_has references name ts is = ap (has_remote_images references) (sym is)

chars_have : (references : ReferencesValue) (cs : List ℕ) → false ≡ has_remote_images references (char_tokens cs)
unfolding has_remote_images is_remote_image
chars_have references [] = refl
chars_have references (c ∷ cs) = chars_have references cs

pub other_has : (references : ReferencesValue) (text : List ℕ) (from to : ℕ) (p : Part) → (p ≡ part.StartTag → ⊥) → (p ≡ part.EndTag → ⊥) → false ≡ has_remote_images references (part_tokens text from to p)
unfolding has_remote_images is_remote_image
other_has references text from to (part.Run r) s e = chars_have references (read_as r (input (slice_between from to text)))
other_has references text from to part.StartTag s e = absurd (s refl)
other_has references text from to part.EndTag s e = absurd (e refl)
other_has references text from to (part.Comment a b) s e = refl
other_has references text from to part.Doctype s e = refl

-- ---- all tokens

has-append : (references : ReferencesValue) (ts us : List Token) → has_remote_images references (ts ++ us) ≡ (has_remote_images references ts || has_remote_images references us)
unfolding has_remote_images
has-append references [] us = refl
has-append references (t ∷ ts) us = elim (is_remote_image references t) as (λ (b : Bool). (b || list_any (is_remote_image references) (ts ++ us)) ≡ ((b || list_any (is_remote_image references) ts) || list_any (is_remote_image references) us)) [ true ↦ refl | false ↦ has-append references ts us ]

pub goes_on : (references : ReferencesValue) (left taken rest : List Token) (found goal : Bool) → left ≡ taken ++ rest → found ≡ has_remote_images references taken → found ≡ false → has_remote_images references left ≡ goal → has_remote_images references rest ≡ goal
goes_on references left taken rest found goal split here none whole =
    ap (λ (b : Bool). b || has_remote_images references rest) (sym none ∙ here)
    ∙ sym (has-append references taken rest)
    ∙ ap (has_remote_images references) (sym split)
    ∙ whole

pub found_here : (references : ReferencesValue) (left taken rest : List Token) (found goal : Bool) → left ≡ taken ++ rest → found ≡ has_remote_images references taken → found ≡ true → has_remote_images references left ≡ goal → true ≡ goal
found_here references left taken rest found goal split here some whole =
    ap (λ (b : Bool). b || has_remote_images references rest) (sym some ∙ here)
    ∙ sym (has-append references taken rest)
    ∙ ap (has_remote_images references) (sym split)
    ∙ whole

pub none_left : (references : ReferencesValue) (left : List Token) (goal : Bool) → left ≡ [] → has_remote_images references left ≡ goal → false ≡ goal
unfolding has_remote_images
none_left references left goal none whole = ap (has_remote_images references) (sym none) ∙ whole

-- ---- the washing of a whole text

pub found_decides : (references : ReferencesValue) (ts : List Token) (found : Bool) → found ≡ has_remote_images references ts → (place : Place) → IsTrue found ↔ ImagesChange references place ts
unfolding wash
found_decides references ts found is place = subst (λ (b : Bool). IsTrue b ↔ ImagesChange references place ts) (sym is) (decides references place start ts)

pub if_ok_map : {T E : Type 0} (r : Result T E) (P Q : T → Type 0) → ((x : T) → P x → Q x) → IfOk r P → IfOk r Q
if_ok_map (Ok x) P Q f h = f x h
if_ok_map (Err e) P Q f h = tt
