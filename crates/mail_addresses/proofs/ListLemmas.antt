-- The boxes of a list, one after another.
use Rattle.std.proofs.Common.{◌≡◌, ℕ, zero, suc, ◌+◌, ◌-◌, ◌<◌, ◌≤◌, List, [], ◌∷◌, ◌++◌, length, refl, sym, ap, ◌∙◌, arith, append_assoc, Option, Some, None, Result, Ok, Err}
use Rattle.mail_addresses.specs.declared.Mailbox.{Mailbox}
use Rattle.mail_addresses.specs.declared.reading.Stop.{Stop}
use Rattle.mail_addresses.specs.declared.reading.Stop.TheVariants as stops
use Rattle.mail_addresses.specs.Runs.{StopsAs}
use Rattle.mail_addresses.specs.Boxes.{boxes_within, continue_list, next_at, prepend_box, spaced_box_at}

-- boxes in front of those that are read after them
abbrev pub prepend_boxes : List Mailbox → Result (List Mailbox) ℕ → Result (List Mailbox) ℕ
prepend_boxes front (Ok boxes) = Ok (front ++ boxes)
prepend_boxes front (Err left) = Err left

pub none : (q : Result (List Mailbox) ℕ) → prepend_boxes [] q ≡ q
none (Ok boxes) = refl
none (Err left) = refl

pub at_start : (n : ℕ) (text : List ℕ) → prepend_boxes [] (boxes_within (n - 0) text) ≡ boxes_within n text
at_start n text = let same : n - 0 ≡ n = omega arith in rw same (none (boxes_within n text))

regroup : (front : List Mailbox) (box : Mailbox) (q : Result (List Mailbox) ℕ) → prepend_boxes front (prepend_box box q) ≡ prepend_boxes (front ++ box ∷ []) q
regroup front box (Ok boxes) = ap (λ (bs : List Mailbox). Ok bs) (sym (append_assoc front (box ∷ []) boxes))
regroup front box (Err left) = refl

one_less : (count k : ℕ) → k < count → count - k ≡ suc (count - (k + 1))
one_less count k lt = omega arith

pub no_box : (s : Stop) (front : List Mailbox) (count k : ℕ) (text : List ℕ) (total : Result (List Mailbox) ℕ) → k < count → StopsAs s (spaced_box_at text) → prepend_boxes front (boxes_within (count - k) text) ≡ total → StopsAs s total
unfolding boxes_within
no_box stops.Memory front count k text total lt e so = tt
no_box (stops.Before left) front count k text total lt e so = sym so ∙ (rw (one_less count k lt, e) refl)

pub no_next : (s : Stop) (front : List Mailbox) (count k : ℕ) (text after : List ℕ) (box : Mailbox) (total : Result (List Mailbox) ℕ) → k < count → spaced_box_at text ≡ Ok (box, after) → StopsAs s (next_at after)
    → prepend_boxes front (boxes_within (count - k) text) ≡ total → StopsAs s total
unfolding boxes_within
no_next stops.Memory front count k text after box total lt e f so = tt
no_next (stops.Before left) front count k text after box total lt e f so = sym so ∙ (rw (one_less count k lt, e, f) refl)

pub ends_here : (front : List Mailbox) (count k : ℕ) (text after : List ℕ) (box : Mailbox) (total : Result (List Mailbox) ℕ) → k < count → spaced_box_at text ≡ Ok (box, after) → next_at after ≡ Ok None
    → prepend_boxes front (boxes_within (count - k) text) ≡ total → total ≡ Ok (front ++ box ∷ [])
unfolding boxes_within
ends_here front count k text after box total lt e f so = sym so ∙ (rw (one_less count k lt, e, f) refl)

next_boxes : (m n : ℕ) (text after more : List ℕ) (box : Mailbox) → m ≡ suc n → spaced_box_at text ≡ Ok (box, after) → next_at after ≡ Ok (Some more) → boxes_within m text ≡ prepend_box box (boxes_within n more)
unfolding boxes_within
next_boxes m n text after more box s e f = rw (s, e, f) refl

pub goes_on : (front : List Mailbox) (count k : ℕ) (text after more : List ℕ) (box : Mailbox) (total : Result (List Mailbox) ℕ) → k < count → spaced_box_at text ≡ Ok (box, after) → next_at after ≡ Ok (Some more)
    → prepend_boxes front (boxes_within (count - k) text) ≡ total → prepend_boxes (front ++ box ∷ []) (boxes_within (count - (k + 1)) more) ≡ total
goes_on front count k text after more box total lt e f so =
    let step : boxes_within (count - k) text ≡ prepend_box box (boxes_within (count - (k + 1)) more) = next_boxes (count - k) (count - (k + 1)) text after more box (one_less count k lt) e f in
    sym (regroup front box (boxes_within (count - (k + 1)) more)) ∙ ap (prepend_boxes front) (sym step) ∙ so

pub none_left : (front : List Mailbox) (count k : ℕ) (text : List ℕ) (total : Result (List Mailbox) ℕ) → count ≤ k → prepend_boxes front (boxes_within (count - k) text) ≡ total → total ≡ Err (length text)
unfolding boxes_within
none_left front count k text total le so = let n : count - k ≡ 0 = omega arith in sym so ∙ (rw n refl)
