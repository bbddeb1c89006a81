-- A page offers remote images if and only if they would change what is shown.
use Rattle.std.proofs.Common.{◌≡◌, ◌≢◌, ◌↔◌, ℕ, Bool, true, false, List, Option, Some, None, refl}
use Rattle.html_syntax.specs.Tokenizer.{tokens}
use Rattle.std.specs.Str.{chars}
use Rattle.mime_tree.specs.declared.choice.Shown.{Shown}
use Rattle.mime_tree.specs.declared.choice.Shown.TheVariants.{Plain, Flowed, Html, Unread, Nothing}
use Rattle.mime_tree.specs.Best.{part_at}
use Rattle.mime_tree.specs.Opening.{tree_of}
use Rattle.mime_tree.specs.Tree.{PartValue}
use Rattle.wash_attributes.specs.declared.place.Place.{Place}
use Rattle.html_wash.specs.Wash.{start, wash}
use Rattle.remote_images.proofs.First.{decides}
use Rattle.mail_pages.specs.declared.frame.Frame.{Frame}
use Rattle.mail_pages.specs.declared.frame.Frame.TheVariants as frame
use Rattle.mail_pages.specs.Place.{site_place}
use Rattle.mail_pages.specs.Mail.{choice, decoded_text, references_in, washed_html, html_part, mail_of, mail_or_none}
use Rattle.mail_pages.specs.Offer.{html_has_images, part_has_images, has_images, has_images_or_none}
use Rattle.mail_pages.specs.ShowPage.{shown_of, OffersChangeWhatIsShown}

html_changes : (place : Place) (parts : List PartValue) (p : Option PartValue) → (part_has_images parts p ≡ true) ↔ (html_part place parts true p ≢ html_part place parts false p)
unfolding washed_html wash html_has_images
html_changes place parts None = (λ h. absurd cc, λ differ. absurd (differ refl))
html_changes place parts (Some p) = decides (references_in parts p) place start (tokens (chars (decoded_text p)))

mail_changes : (place : Place) (parts : List PartValue) (shown : Shown) → (has_images parts shown ≡ true) ↔ (mail_of place parts true shown ≢ mail_of place parts false shown)
unfolding mail_of
mail_changes place parts (Plain section) = (λ h. absurd cc, λ differ. absurd (differ refl))
mail_changes place parts (Flowed section del_sp) = (λ h. absurd cc, λ differ. absurd (differ refl))
mail_changes place parts (Html section) = html_changes place parts (part_at section parts)
mail_changes place parts (Unread section) = (λ h. absurd cc, λ differ. absurd (differ refl))
mail_changes place parts Nothing = (λ h. absurd cc, λ differ. absurd (differ refl))

shown_changes : (place : Place) (parts : List PartValue) (shown : Option Shown) → (has_images_or_none parts shown ≡ true) ↔ (mail_or_none place parts true shown ≢ mail_or_none place parts false shown)
shown_changes place parts None = (λ h. absurd cc, λ differ. absurd (differ refl))
shown_changes place parts (Some shown) = mail_changes place parts shown

pub offers_change : (f : Frame) (message : List ℕ) (part : Option (List ℕ)) (images : Bool) → OffersChangeWhatIsShown f message part images
unfolding shown_of
offers_change frame.Plain message part images = (λ h. absurd cc, λ h. absurd cc)
offers_change (frame.Session at key) message part true = (λ h. absurd cc, λ h. absurd cc)
offers_change (frame.Session at key) message part false =
    let changes = shown_changes (site_place (frame.Session at key)) (tree_of message).parts (choice (tree_of message) part) in
    (λ h. (refl, refl, changes.0 h), λ h. changes.1 h.2)
