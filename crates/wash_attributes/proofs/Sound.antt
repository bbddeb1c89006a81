-- What references and the washing of styles return may be written into a page.
use Rattle.std.proofs.Common.{◌≡◌, ℕ, Bool, true, false, ◌&&◌, eqb, if◌then◌else◌, List, [], ◌∷◌, codes, chars, encode_utf8_all, refl, ap, subst, ◌∙◌, arith, Some, None}
use Rattle.std.proofs.lemmas.Bool.Decides.{nat_tests}
use Rattle.std.proofs.lemmas.Slice.Eq.{bytes_eq-Decides}
use Rattle.std.specs.List.{list_all}
use Rattle.std.specs.Option.{option_map_or}
use Rattle.std.specs.Prelude.{find, option_map}
use Rattle.html_syntax.specs.References.{begins_with}
use Rattle.html_syntax.specs.Tokenizer.{same}
use Rattle.html_rules.specs.Values.{is_address_char, is_remote, is_link}
use Rattle.html_rules.proofs.Facts.{and_true, same-refl}
use Rattle.html_rules.proofs.Parts.{or_left, or_right}
use Rattle.style_wash.specs.Characters.{is_style_char}
use Rattle.style_wash.specs.Declarations.{stylewash, is_style}
use Rattle.style_wash.proofs.Facts.{bytes_eq-true}
use Rattle.style_wash.proofs.Styles.{washing_is_idempotent, washed_characters}
use Rattle.cid_parts.specs.declared.refs.Ref.{Ref}
use Rattle.cid_parts.specs.declared.refs.Ref.TheVariants as ref
use Rattle.cid_parts.specs.Located.{LocatedPart, ReferencesValue, url_of}
use Rattle.cid_parts.specs.Refer.{is_cid, cid_of, has_id, has_address, first_part, ref_of_text, refer_to_text, refer_to_url, refer_to_id, refer}
use Rattle.wash_attributes.specs.declared.place.Place.{Place}
use Rattle.wash_attributes.specs.Given.{Target}
use Rattle.wash_attributes.specs.Given.Target.{Part, Remote, Link, Nothing}
use Rattle.wash_attributes.specs.Addresses.{part_address, target_of, given_of}
use Rattle.wash_attributes.specs.Soundness.{as_written, is_sound_target, IsSound, is_part_address}
use Rattle.wash_attributes.proofs.AsciiValues.{style_chars_same}
use Rattle.wash_attributes.proofs.ListedNames.{or_true}
use Rattle.wash_attributes.proofs.WrittenValues.{as_written_same}

-- ---- texts are written as they are

address_char : (c : ℕ) → is_address_char c ≡ true → eqb c 0 ≡ false
address_char c h = grind (arith, nat_tests)

style_char : (c : ℕ) → is_style_char c ≡ true → eqb c 0 ≡ false
style_char c h = grind (arith, nat_tests)

remote_chars : (text : List ℕ) → is_remote text ≡ true → list_all is_address_char text ≡ true
unfolding is_remote
remote_chars text h = (and_true _ (list_all is_address_char text) h).1

link_chars : (text : List ℕ) → is_link text ≡ true → list_all is_address_char text ≡ true
unfolding is_link
link_chars text h =
    or_true (is_remote text) (begins_with (codes "mailto:") text && list_all is_address_char text) (list_all is_address_char text ≡ true) h
    (λ e. remote_chars text e)
    (λ e. (and_true _ (list_all is_address_char text) e).1)

remote_written : (text : List ℕ) → is_remote text ≡ true → is_remote (as_written text) ≡ true
remote_written text h = rw (as_written_same is_address_char address_char text (remote_chars text h)) h

link_written : (text : List ℕ) → is_link text ≡ true → is_link (as_written text) ≡ true
link_written text h = rw (as_written_same is_address_char address_char text (link_chars text h)) h

-- ---- targets

abbrev sound : Place → (List ℕ → Bool) → Ref → Bool
sound place own reference = is_sound_target own (target_of place reference)

text_sound : (place : Place) (own : List ℕ → Bool) (text : List ℕ) → sound place own (ref_of_text text) ≡ true
unfolding is_sound_target ref_of_text
text_sound place own text =
    elim (is_remote text) as (λ b. is_remote text ≡ b → sound place own (if b then ref.Remote text else if is_link text then ref.Link text else ref.Nothing) ≡ true) [
      | true ↦ λ e. remote_written text e
      | false ↦ λ e. elim (is_link text) as (λ b. is_link text ≡ b → sound place own (if b then ref.Link text else ref.Nothing) ≡ true) [
        | true ↦ λ l. link_written text l
        | false ↦ λ l. refl
      ] refl
    ] refl

-- what is sound stays so if there are more parts
wider : (place : Place) (p : LocatedPart) (ps : List LocatedPart) (t : Target) → is_sound_target (is_part_address place ps) t ≡ true → is_sound_target (is_part_address place (p ∷ ps)) t ≡ true
unfolding is_sound_target
wider place p ps (Part address) h = or_right (same (as_written (chars (part_address place p.section))) (as_written address)) _ h
wider place p ps (Remote address) h = h
wider place p ps (Link address) h = h
wider place p ps Nothing h = h

here : (place : Place) (p : LocatedPart) (ps : List LocatedPart) → sound place (is_part_address place (p ∷ ps)) (ref.Part p.section) ≡ true
unfolding is_sound_target
here place p ps = or_left _ _ (same-refl (as_written (chars (part_address place p.section))))

part_sound : (place : Place) (passes : LocatedPart → Bool) (parts : List LocatedPart) (otherwise : Ref) → ((own : List ℕ → Bool) → sound place own otherwise ≡ true) → sound place (is_part_address place parts) (option_map_or ref.Part (first_part passes parts) otherwise) ≡ true
part_sound place passes [] otherwise h = h (is_part_address place [])
part_sound place passes (p ∷ ps) otherwise h =
    elim (passes p) as (λ b. sound place (is_part_address place (p ∷ ps)) (option_map_or ref.Part (option_map (λ (q : LocatedPart). q.section) (if b then Some p else find passes ps)) otherwise) ≡ true) [
      | true ↦ here place p ps
      | false ↦ wider place p ps _ (part_sound place passes ps otherwise h)
    ]

nothing_sound : (place : Place) (own : List ℕ → Bool) → sound place own ref.Nothing ≡ true
unfolding is_sound_target
nothing_sound place own = refl

to_text_sound : (r : ReferencesValue) (place : Place) (text : List ℕ) → sound place (is_part_address place r.parts) (refer_to_text r text) ≡ true
unfolding refer_to_text
to_text_sound r place text =
    elim (list_all is_address_char text) as (λ b. sound place (is_part_address place r.parts) (if b then option_map_or ref.Part (first_part (has_address r.base text) r.parts) (ref_of_text text) else ref.Nothing) ≡ true) [
      | true ↦ part_sound place (has_address r.base text) r.parts (ref_of_text text) (λ own. text_sound place own text)
      | false ↦ nothing_sound place (is_part_address place r.parts)
    ]

refer_sound : (r : ReferencesValue) (place : Place) (address : List ℕ) → sound place (is_part_address place r.parts) (refer r address) ≡ true
unfolding refer
refer_sound r place address =
    elim (is_cid address) as (λ b. sound place (is_part_address place r.parts) (if b then refer_to_id r (cid_of address) else refer_to_url r (url_of r.base address)) ≡ true) [
      | true ↦ part_sound place (has_id (cid_of address)) r.parts ref.Nothing (λ own. nothing_sound place own)
      | false ↦ elim (url_of r.base address) as (λ url. sound place (is_part_address place r.parts) (refer_to_url r url) ≡ true) [
        | None ↦ nothing_sound place (is_part_address place r.parts)
        | Some url ↦ to_text_sound r place _
      ]
    ]

-- ---- both

washed_passes : (text : List ℕ) → is_style (stylewash text) ≡ true
unfolding is_style
washed_passes text = (bytes_eq-Decides (stylewash (stylewash text)) (stylewash text)).1 (washing_is_idempotent text)

style_sound : (text : List ℕ) → is_style (as_written (stylewash text)) ≡ true
style_sound text = rw (as_written_same is_style_char style_char (stylewash text) (washed_characters text)) (washed_passes text)

pub references_sound : (r : ReferencesValue) (place : Place) (images : Bool) → IsSound (given_of r place images) (is_part_address place r.parts)
unfolding given_of
references_sound r place images = record {
  targets = λ address. refer_sound r place (encode_utf8_all address);
  styles = λ style. style_sound (encode_utf8_all style);
}

-- ---- what rules declare

style_is : (style : List ℕ) → is_style style ≡ true → stylewash style ≡ style
unfolding is_style
style_is style h = bytes_eq-true (stylewash style) style h

-- a style is one as it is written
pub written_style : (style : List ℕ) → is_style style ≡ true → is_style (as_written (chars style)) ≡ true
written_style style h =
    let all : list_all is_style_char style ≡ true = subst (λ (t : List ℕ). list_all is_style_char t ≡ true) (style_is style h) (washed_characters style) in
    ap (λ (t : List ℕ). is_style (as_written t)) (style_chars_same style all) ∙ ap is_style (as_written_same is_style_char style_char style all) ∙ h
