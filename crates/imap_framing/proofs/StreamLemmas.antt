-- Units taken one after another.
use Rattle.std.proofs.Common.{◌≡◌, ℕ, ◌+◌, ◌<◌, Bool, true, List, [], ◌∷◌, ◌++◌, length, take, drop, get_or, refl, sym, ap, subst, ◌∙◌, arith, append_assoc, Result, Ok, Err, length-append}
use Rattle.std.specs.List.{concat, AllByRecursion}
use Rattle.std.specs.Global.{Vec}
use Rattle.std.proofs.lemmas.List.{append-nil, take-append-drop, take_more}
use Rattle.std.proofs.lemmas.List.Folds.{concat-append}
use Rattle.imap_framing.specs.declared.stream.StreamFault.{StreamFault}
use Rattle.imap_framing.specs.declared.stream.StreamFault.TheVariants as faults
use Rattle.imap_framing.specs.declared.reader.TooLong as fault
use Rattle.imap_framing.specs.Units.{FrameState, frame_state_from, IsUnit, HasTooLongLiteral}
use Rattle.imap_framing.specs.Cuts.{Cut, with_bytes, GivesUnit, AdvancesCut}
use Rattle.imap_framing.specs.Streams.{SplitsStream, TakesParts, TakesAllUnits, ReadsUnits, bytes_of_vecs}
use Rattle.imap_framing.proofs.StateLemmas.{frame_state-append, too_long_on}

pub each_append : (P : List ℕ → Type 0) (xs ys : List (List ℕ)) → AllByRecursion P xs → AllByRecursion P ys → AllByRecursion P (xs ++ ys)
each_append P [] ys p q = q
each_append P (x ∷ xs) ys p q = (p.0, each_append P xs ys p.1 q)

pub concat_push : (xs : List (List ℕ)) (x : List ℕ) → concat (xs ++ x ∷ []) ≡ concat xs ++ x
concat_push xs x = concat-append xs (x ∷ []) ∙ ap (λ (ys : List ℕ). concat xs ++ ys) (append-nil x)

pub took_none : (P : List ℕ → Type 0) (cut : Cut) (before : List (List ℕ)) → TakesParts P cut before cut before
took_none P cut before = record { more = []; added = sym (append-nil before); splits = record { whole = refl; each = tt }; at = omega arith }

pub took_more : (P : List ℕ → Type 0) (old mid new : Cut) (before after : List (List ℕ)) → TakesParts P old before mid after → GivesUnit mid new → P new.given → TakesParts P old before new (after ++ new.given ∷ [])
took_more P old mid new before after t g part = record {
  more = t.more ++ new.given ∷ [];
  added = ap (λ (xs : List (List ℕ)). xs ++ new.given ∷ []) t.added ∙ append_assoc before t.more (new.given ∷ []);
  splits = record {
    whole = t.splits.whole ∙ ap (λ (xs : List ℕ). concat t.more ++ xs) g.whole ∙ sym (append_assoc (concat t.more) new.given new.rest) ∙ ap (λ (xs : List ℕ). xs ++ new.rest) (sym (concat_push t.more new.given));
    each = each_append P t.more (new.given ∷ []) t.splits.each (part, tt);
  };
  at = omega (arith, t.at, g.at, ap length (concat_push t.more new.given), length-append (concat t.more) new.given);
}

pub unit_some : (unit : List ℕ) → IsUnit unit → 0 < length unit
unfolding frame_state_from
unit_some [] is = absurd cc
unit_some (x ∷ xs) is = omega arith

pub gives_less : (old new : Cut) → GivesUnit old new → length new.rest < length old.rest
gives_less old new g = omega (arith, unit_some new.given g.unit, ap length g.whole, length-append new.given new.rest)

abbrev is_ok : Bool → Result Bool fault.TooLong
is_ok more = Ok more

pub gives_of : (old new : Cut) (answer : Result Bool fault.TooLong) (more : Bool) → answer ≡ Ok more → more ≡ true → AdvancesCut old answer new → GivesUnit old new
gives_of old new answer more is test a = subst (λ (r : Result Bool fault.TooLong). AdvancesCut old r new) (is ∙ ap (λ (b : Bool). is_ok b) test) a

bytes_of_vecs-append : (xs ys : List (Vec ℕ)) → bytes_of_vecs (xs ++ ys) ≡ bytes_of_vecs xs ++ bytes_of_vecs ys
bytes_of_vecs-append [] ys = refl
bytes_of_vecs-append (x ∷ xs) ys = ap (λ (zs : List (List ℕ)). x.items ∷ zs) (bytes_of_vecs-append xs ys)

pub bytes_of_vecs-push : (xs : List (Vec ℕ)) (x : Vec ℕ) → bytes_of_vecs (xs ++ x ∷ []) ≡ bytes_of_vecs xs ++ x.items ∷ []
bytes_of_vecs-push xs x = bytes_of_vecs-append xs (x ∷ [])

pub joined_more : (pieces : List (Vec ℕ)) (i : ℕ) (p : Vec ℕ) → i < length pieces → p ≡ get_or pieces i p → concat (bytes_of_vecs (take (i + 1) pieces)) ≡ concat (bytes_of_vecs (take i pieces)) ++ p.items
joined_more pieces i p lt is =
    ap (λ (xs : List (Vec ℕ)). concat (bytes_of_vecs xs)) (take_more pieces i p lt ∙ ap (λ (x : Vec ℕ). take i pieces ++ x ∷ []) (sym is))
    ∙ ap concat (bytes_of_vecs-push (take i pieces) p) ∙ concat_push (bytes_of_vecs (take i pieces)) p.items

pub joined_all : (pieces : List (Vec ℕ)) (i : ℕ) → concat (bytes_of_vecs pieces) ≡ concat (bytes_of_vecs (take i pieces)) ++ concat (bytes_of_vecs (drop i pieces))
joined_all pieces i =
    ap (λ (xs : List (Vec ℕ)). concat (bytes_of_vecs xs)) (sym (take-append-drop i pieces))
    ∙ ap concat (bytes_of_vecs-append (take i pieces) (drop i pieces)) ∙ concat-append (bytes_of_vecs (take i pieces)) (bytes_of_vecs (drop i pieces))

-- parts taken after a piece came
pub record Goes (P : List ℕ → Type 0) (stream : List ℕ) (parts : List (List ℕ)) (cut : Cut) : Type 0 where
  pub splits : SplitsStream P stream parts cut.rest
  pub at : cut.at ≡ length (concat parts)

pub goes_on : (P : List ℕ → Type 0) (s p : List ℕ) (r0 r1 r2 : Cut) (units0 units1 : List (List ℕ)) → SplitsStream P s units0 r0.rest → r0.at ≡ length (concat units0) → r1 ≡ with_bytes r0 p → TakesParts P r1 units0 r2 units1 → Goes P (s ++ p) units1 r2
goes_on P s p r0 r1 r2 units0 units1 split at is t =
    let joined : concat units1 ≡ concat units0 ++ concat t.more = ap concat t.added ∙ concat-append units0 t.more in
    let rest : r0.rest ++ p ≡ concat t.more ++ r2.rest = sym (ap (λ (r : Cut). r.rest) is) ∙ t.splits.whole in
    let at1 : r1.at ≡ r0.at = ap (λ (r : Cut). r.at) is in
    record {
      splits = record {
        whole = ap (λ (xs : List ℕ). xs ++ p) split.whole ∙ append_assoc (concat units0) r0.rest p ∙ ap (λ (xs : List ℕ). concat units0 ++ xs) rest
            ∙ sym (append_assoc (concat units0) (concat t.more) r2.rest) ∙ ap (λ (xs : List ℕ). xs ++ r2.rest) (sym joined);
        each = subst (λ (us : List (List ℕ)). AllByRecursion P us) (sym t.added) (each_append P units0 t.more split.each t.splits.each);
      };
      at = omega (arith, t.at, at, at1, ap length joined, length-append (concat units0) (concat t.more));
    }

-- the pieces to come follow the rest
pub ends_before : (P : List ℕ → Type 0) (pieces : List (Vec ℕ)) (i : ℕ) (p : Vec ℕ) (parts : List (List ℕ)) (cut : Cut) → i < length pieces → p ≡ get_or pieces i p
    → Goes P (concat (bytes_of_vecs (take i pieces)) ++ p.items) parts cut → SplitsStream P (concat (bytes_of_vecs pieces)) parts (cut.rest ++ concat (bytes_of_vecs (drop (i + 1) pieces)))
ends_before P pieces i p parts cut lt is g =
    let later = concat (bytes_of_vecs (drop (i + 1) pieces)) in
    record { whole = joined_all pieces (i + 1) ∙ ap (λ (xs : List ℕ). xs ++ later) (joined_more pieces i p lt is ∙ g.splits.whole) ∙ append_assoc (concat parts) cut.rest later; each = g.splits.each }

pub too_long_more : (rest later : List ℕ) → HasTooLongLiteral rest → HasTooLongLiteral (rest ++ later)
too_long_more rest later long = frame_state-append rest later ∙ ap (λ (p : FrameState). frame_state_from p later) long ∙ too_long_on later

pub stream_fails : (pieces : List (Vec ℕ)) (i : ℕ) (p : Vec ℕ) (r0 r1 r2 : Cut) (units0 units1 : List (List ℕ)) (e : StreamFault) → i < length pieces → p ≡ get_or pieces i p
    → SplitsStream IsUnit (concat (bytes_of_vecs (take i pieces))) units0 r0.rest → r0.at ≡ length (concat units0) → r1 ≡ with_bytes r0 p.items → TakesAllUnits r1 units0 (Err e) r2 units1 → ReadsUnits (concat (bytes_of_vecs pieces)) (Err e)
stream_fails pieces i p r0 r1 r2 units0 units1 faults.Memory lt is split at was t = tt
stream_fails pieces i p r0 r1 r2 units0 units1 (faults.TooLong there) lt is split at was t =
    let later = concat (bytes_of_vecs (drop (i + 1) pieces)) in
    let g = goes_on IsUnit (concat (bytes_of_vecs (take i pieces))) p.items r0 r1 r2 units0 units1 split at was t.0 in
    (units1, r2.rest ++ later, ends_before IsUnit pieces i p units1 r2 lt is g, too_long_more r2.rest later t.1, t.2 ∙ g.at)
