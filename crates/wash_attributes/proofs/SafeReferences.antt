-- The addresses of safe references.
use Rattle.std.proofs.Common.{◌≡◌, ℕ, Bool, true, List, Some, chars, ap, subst, ◌∙◌}
use Rattle.std.proofs.lemmas.Str.{chars-IsAscii}
use Rattle.cid_parts.specs.declared.refs.Ref.{Ref}
use Rattle.cid_parts.specs.declared.refs.Ref.TheVariants as ref
use Rattle.cid_parts.specs.Refer.{IsSafe}
use Rattle.wash_attributes.specs.declared.place.Place.{Place}
use Rattle.wash_attributes.specs.Values.{link_address, picture_address}
use Rattle.wash_attributes.specs.Addresses.{target_of}

remote_same : (reference : Ref) (text written : List ℕ) → reference ≡ ref.Remote text → IsSafe reference → written ≡ text → chars written ≡ text
remote_same reference text written e safe w = let safe_text = subst IsSafe e safe in ap chars w ∙ chars-IsAscii text safe_text.1

link_same : (reference : Ref) (text written : List ℕ) → reference ≡ ref.Link text → IsSafe reference → written ≡ text → chars written ≡ text
link_same reference text written e safe w = let safe_text = subst IsSafe e safe in ap chars w ∙ chars-IsAscii text safe_text.1

pub remote_link : (place : Place) (reference : Ref) (text written : List ℕ) → reference ≡ ref.Remote text → IsSafe reference → written ≡ text → Some (chars written) ≡ link_address (target_of place reference)
remote_link place reference text written e safe w = rw e (ap Some (remote_same reference text written e safe w))

pub other_link : (place : Place) (reference : Ref) (text written : List ℕ) → reference ≡ ref.Link text → IsSafe reference → written ≡ text → Some (chars written) ≡ link_address (target_of place reference)
other_link place reference text written e safe w = rw e (ap Some (link_same reference text written e safe w))

pub remote_picture : (place : Place) (images : Bool) (reference : Ref) (text written : List ℕ) → images ≡ true → reference ≡ ref.Remote text → IsSafe reference → written ≡ text → Some (chars written) ≡ picture_address images (target_of place reference)
remote_picture place images reference text written asked e safe w = rw (e, asked) (ap Some (remote_same reference text written e safe w))
