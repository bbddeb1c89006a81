-- One step of the listing.
use Rattle.std.proofs.Common.{◌≡◌, ℕ, suc, ◌+◌, ◌-◌, ◌<◌, List, [], ◌∷◌, ◌++◌, get_or, refl, sym, ap, ◌∙◌, arith, append_assoc}
use Rattle.std.specs.Prelude.{reverse}
use Rattle.std.proofs.lemmas.List.{reverse-append, reverse-reverse, append-nil, map_push}
use Rattle.thread_references.specs.Listing.{Waiting, at_depth, rows_of, list_from}

-- the last that waits is listed, and its children wait after the others
pub list_turn : (uids : List ℕ) (children : List (List ℕ)) (total step : ℕ) (rows : List (ℕ × ℕ)) (stack rest : List Waiting) (w : Waiting) → stack ≡ rest ++ w ∷ [] → step < total
    → rows ++ list_from uids children (total - step) (reverse stack)
    ≡ (rows ++ rows_of uids w) ++ list_from uids children (total - (step + 1)) (reverse (rest ++ reverse (at_depth (w.1 + 1) (get_or children w.0 []))))
unfolding list_from
list_turn uids children total step rows stack rest w is less =
    let steps : total - step ≡ suc (total - (step + 1)) = omega arith in
    let below : List Waiting = at_depth (w.1 + 1) (get_or children w.0 []) in
    let front : reverse stack ≡ w ∷ reverse rest = ap reverse is ∙ reverse-append rest (w ∷ []) in
    let after : reverse (rest ++ reverse below) ≡ below ++ reverse rest = reverse-append rest (reverse below) ∙ ap (λ l. l ++ reverse rest) (reverse-reverse below) in
    ap (λ n. rows ++ list_from uids children n (reverse stack)) steps
    ∙ ap (λ l. rows ++ list_from uids children (suc (total - (step + 1))) l) front
    ∙ sym (append_assoc rows (rows_of uids w) (list_from uids children (total - (step + 1)) (below ++ reverse rest)))
    ∙ ap (λ l. (rows ++ rows_of uids w) ++ list_from uids children (total - (step + 1)) l) (sym after)

pub list_nothing : (uids : List ℕ) (children : List (List ℕ)) (steps : ℕ) (rows : List (ℕ × ℕ)) (stack : List Waiting) → stack ≡ [] → rows ++ list_from uids children steps (reverse stack) ≡ rows
unfolding list_from
list_nothing uids children steps rows stack is = ap (λ l. rows ++ list_from uids children steps (reverse l)) is ∙ append-nil rows

pub list_no_steps : (uids : List ℕ) (children : List (List ℕ)) (rows : List (ℕ × ℕ)) (waiting : List Waiting) → rows ++ list_from uids children 0 waiting ≡ rows
unfolding list_from
list_no_steps uids children rows [] = append-nil rows
list_no_steps uids children rows (w ∷ more) = append-nil rows

pub reverse_waiting : (depth : ℕ) (nodes : List ℕ) → reverse (at_depth depth nodes) ≡ at_depth depth (reverse nodes)
reverse_waiting depth [] = refl
reverse_waiting depth (x ∷ xs) =
    let one : reverse (x ∷ xs) ≡ reverse xs ++ x ∷ [] = reverse-append (x ∷ []) xs in
    let many : reverse ((x, depth) ∷ at_depth depth xs) ≡ reverse (at_depth depth xs) ++ (x, depth) ∷ [] = reverse-append ((x, depth) ∷ []) (at_depth depth xs) in
    many ∙ ap (λ l. l ++ (x, depth) ∷ []) (reverse_waiting depth xs) ∙ sym (ap (at_depth depth) one ∙ map_push (λ v. (v, depth)) (reverse xs) x)
