-- How a turn goes on part by part, whatever the parts are. `grow` adds a part to what is told, `after` is the turn after a part, and
-- `IsDue` says which part may come.
use Rattle.std.specs.Prelude.{◌≡◌, List, [], ◌∷◌, Option, Some, None}
use Rattle.std.specs.List.{fold}

-- each part is due when it comes
abbrev pub AreDue : {T P : Type 0} → (T → P → T) → (T → P → Type 0) → T → List P → Type 0
AreDue after IsDue t [] = Unit {0}
AreDue after IsDue t (part ∷ parts) = IsDue t part × AreDue after IsDue (after t part) parts

-- what is told has these parts more; what isn't told is told neither before nor after
abbrev pub GrowsBy : {S P : Type 0} → (S → P → S) → Option S → Option S → List P → Type 0
GrowsBy grow None None parts = Unit {0}
GrowsBy grow None (Some new) parts = ⊥
GrowsBy grow (Some old) None parts = ⊥
GrowsBy grow (Some old) (Some new) parts = new ≡ fold grow old parts

-- A turn went on by parts that were due, to a turn that is some way. If these are told, what is told grew by them.
pub record GoesOn {S T P : Type 0} (grow : S → P → S) (after : T → P → T) (IsDue : T → P → Type 0) (old new : Option S) (t : T) (Is : T → Type 0) : Type 0 where
  pub parts : List P
  pub grown : GrowsBy grow old new parts
  pub due : AreDue after IsDue t parts
  pub holds : Is (fold after t parts)
