-- When the washed tokens of a text depend on whether remote pictures are requested.
use Rattle.std.specs.Prelude.{◌≢◌, ◌↔◌, true, false, List, IsTrue}
use Rattle.html_syntax.specs.Token.{Token}
use Rattle.cid_parts.specs.Located.{ReferencesValue}
use Rattle.wash_attributes.specs.declared.place.Place.{Place}
use Rattle.wash_attributes.specs.Addresses.{given_of}
use Rattle.html_wash.specs.Wash.{State, wash_from, wash}
use Rattle.remote_images.specs.Remote.{has_remote_images}

-- the tokens are washed otherwise if remote pictures are requested
abbrev pub ImagesChange : ReferencesValue → Place → List Token → Type 0
ImagesChange references place ts = wash (given_of references place true) ts ≢ wash (given_of references place false) ts

-- in every state of the washer, and wherever the site has the parts
abbrev pub RemoteImagesDecide : Type 0
RemoteImagesDecide =
    (references : ReferencesValue) (place : Place) (s : State) (ts : List Token)
    → IsTrue (has_remote_images references ts) ↔ (wash_from (given_of references place true) s ts ≢ wash_from (given_of references place false) s ts)
