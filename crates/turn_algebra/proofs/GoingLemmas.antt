-- A turn goes on part by part, whatever the parts are.
use Rattle.std.proofs.Common.{◌≡◌, List, [], ◌∷◌, ◌++◌, refl, sym, ap, ◌∙◌, subst, Option, Some, None}
use Rattle.std.specs.List.{fold}
use Rattle.turn_algebra.specs.Going.{AreDue, GrowsBy, GoesOn}

pub folded_append : {S P : Type 0} (step : S → P → S) (s : S) (ps qs : List P) → fold step s (ps ++ qs) ≡ fold step (fold step s ps) qs
folded_append step s [] qs = refl
folded_append step s (p ∷ ps) qs = folded_append step (step s p) ps qs

due_append : {T P : Type 0} (after : T → P → T) (IsDue : T → P → Type 0) (t : T) (ps qs : List P) → AreDue after IsDue t ps → AreDue after IsDue (fold after t ps) qs → AreDue after IsDue t (ps ++ qs)
due_append after IsDue t [] qs p q = q
due_append after IsDue t (x ∷ ps) qs p q = (p.0, due_append after IsDue (after t x) ps qs p.1 q)

grows_append : {S P : Type 0} (grow : S → P → S) (a b c : Option S) (ps qs : List P) → GrowsBy grow a b ps → GrowsBy grow b c qs → GrowsBy grow a c (ps ++ qs)
grows_append grow None None None ps qs g h = tt
grows_append grow None None (Some z) ps qs g h = absurd h
grows_append grow None (Some y) c ps qs g h = absurd g
grows_append grow (Some x) None c ps qs g h = absurd g
grows_append grow (Some x) (Some y) None ps qs g h = absurd h
grows_append grow (Some x) (Some y) (Some z) ps qs g h = h ∙ ap (λ s. fold grow s qs) g ∙ sym (folded_append grow x ps qs)

grows_none : {S P : Type 0} (grow : S → P → S) (a : Option S) → GrowsBy grow a a []
grows_none grow None = tt
grows_none grow (Some x) = refl

-- one part of a turn after another
pub then_on : {S T P : Type 0} (grow : S → P → S) (after : T → P → T) (IsDue : T → P → Type 0) (a b c : Option S) (t : T) (Q R : T → Type 0) →
    GoesOn grow after IsDue a b t Q → ((u : T) → Q u → GoesOn grow after IsDue b c u R) → GoesOn grow after IsDue a c t R
then_on grow after IsDue a b c t Q R g k =
    let h = k (fold after t g.parts) g.holds in
    record {
      parts = g.parts ++ h.parts;
      grown = grows_append grow a b c g.parts h.parts g.grown h.grown;
      due = due_append after IsDue t g.parts h.parts g.due h.due;
      holds = subst R (sym (folded_append after t g.parts h.parts)) h.holds;
    }

-- parts came that were due
pub parts_on : {S T P : Type 0} (grow : S → P → S) (after : T → P → T) (IsDue : T → P → Type 0) (a b : Option S) (t : T) (ps : List P) (Q : T → Type 0) →
    GrowsBy grow a b ps → AreDue after IsDue t ps → Q (fold after t ps) → GoesOn grow after IsDue a b t Q
parts_on grow after IsDue a b t ps Q g h q = record { parts = ps; grown = g; due = h; holds = q }

-- nothing at all came
pub rest_on : {S T P : Type 0} (grow : S → P → S) (after : T → P → T) (IsDue : T → P → Type 0) (a : Option S) (t : T) (Q : T → Type 0) → Q t → GoesOn grow after IsDue a a t Q
rest_on grow after IsDue a t Q q = record { parts = []; grown = grows_none grow a; due = tt; holds = q }

pub weaker_on : {S T P : Type 0} (grow : S → P → S) (after : T → P → T) (IsDue : T → P → Type 0) (a b : Option S) (t : T) (Q R : T → Type 0) →
    GoesOn grow after IsDue a b t Q → ((u : T) → Q u → R u) → GoesOn grow after IsDue a b t R
weaker_on grow after IsDue a b t Q R g k = record { parts = g.parts; grown = g.grown; due = g.due; holds = k (fold after t g.parts) g.holds }
