-- Steps that are gone through one after another.
use Rattle.std.proofs.Common.{◌≡◌, ℕ, ◌+◌, ◌<◌, List, [], ◌∷◌, ◌++◌, length, drop, get_or, refl, sym, ap, ◌∙◌, subst, append_assoc, append-nil}
use Rattle.std.specs.Prelude.{Option, Result, Ok, Err, IsErrAnd}
use Rattle.std.proofs.lemmas.List.{drop_more}
use Rattle.account_pictures.specs.declared.talk.Piece.{Piece}
use Rattle.submission.specs.declared.fault.SubmitFault.{SubmitFault}
use Rattle.submission.specs.declared.steps.Step.{Step}
use Rattle.submission.specs.declared.fault.Stop.{Stop}
use Rattle.submission.specs.Replies.{Hearing, dialled}
use Rattle.submission.specs.Stops.{StepsTo, followed, finished}
use Rattle.submission.specs.Submits.{GrowsBy, onward, Follows, Submits, fault_seen}
use Rattle.submission.proofs.Growing.{grows_none, grows_then, grows_weaker}

-- what is left of the steps leads to what all of them lead to
abbrev pub LeadsTo : List Step → Hearing → List Step → Hearing → List Piece → Type 0
LeadsTo steps h left u pieces = (rest : List Piece) (result : Result Hearing SubmitFault) → Follows left u rest result → Follows steps h (pieces ++ rest) result

one_more : (step : Step) (steps : List Step) (u v : Hearing) (first rest : List Piece) (result : Result Hearing SubmitFault) → StepsTo step u first (Ok v) → Follows steps v rest result → Follows (step ∷ steps) u (first ++ rest) result
one_more step steps u v first rest result (ending, exchange, is) follows =
    (first, rest, ending, refl, exchange, subst (λ (o : Result Hearing SubmitFault). onward o (λ after rest result. Follows steps after rest result) rest result) is follows)

one_last : (step : Step) (steps : List Step) (u : Hearing) (first : List Piece) (fault : SubmitFault) → StepsTo step u first (Err fault) → Follows (step ∷ steps) u first (Err fault)
one_last step steps u first fault (ending, exchange, is) =
    (first, [], ending, sym (append-nil first), exchange, subst (λ (o : Result Hearing SubmitFault). onward o (λ after rest result. Follows steps after rest result) [] (Err fault)) is (refl, refl))

pub leads_first : (a : Option (List Piece)) (steps : List Step) (h : Hearing) → GrowsBy a a (LeadsTo steps h steps h)
leads_first a steps h = grows_none a (LeadsTo steps h steps h) (λ rest result follows. follows)

pub leads_on : (a b c : Option (List Piece)) (steps : List Step) (i : ℕ) (d : Step) (h u v : Hearing) (step : Step) → i < length steps → step ≡ get_or steps i d → GrowsBy a b (LeadsTo steps h (drop i steps) u) → GrowsBy b c (λ pieces. StepsTo step u pieces (Ok v)) → GrowsBy a c (LeadsTo steps h (drop (i + 1) steps) v)
leads_on a b c steps i d h u v step within is grows one =
    grows_then a b c (LeadsTo steps h (drop i steps) u) (LeadsTo steps h (drop (i + 1) steps) v) grows
    (λ first leads. grows_weaker b c (λ pieces. StepsTo step u pieces (Ok v)) (λ rest. LeadsTo steps h (drop (i + 1) steps) v (first ++ rest)) one
    (λ pieces steps_to. λ rest result follows.
    subst (λ (l : List Piece). Follows steps h l result) (sym (append_assoc first pieces rest))
    (leads (pieces ++ rest) result (subst (λ (l : List Step). Follows l u (pieces ++ rest) result) (ap (λ (s : Step). s ∷ drop (i + 1) steps) is ∙ sym (drop_more steps i d within)) (one_more step (drop (i + 1) steps) u v pieces rest result steps_to follows)))))

pub leads_fault : (a b c : Option (List Piece)) (steps : List Step) (i : ℕ) (d : Step) (h u : Hearing) (step : Step) (fault : SubmitFault) → i < length steps → step ≡ get_or steps i d → GrowsBy a b (LeadsTo steps h (drop i steps) u) → GrowsBy b c (λ pieces. StepsTo step u pieces (Err fault)) → GrowsBy a c (λ pieces. Follows steps h pieces (Err fault))
leads_fault a b c steps i d h u step fault within is grows one =
    grows_then a b c (LeadsTo steps h (drop i steps) u) (λ pieces. Follows steps h pieces (Err fault)) grows
    (λ first leads. grows_weaker b c (λ pieces. StepsTo step u pieces (Err fault)) (λ rest. Follows steps h (first ++ rest) (Err fault)) one
    (λ pieces steps_to. leads pieces (Err fault) (subst (λ (l : List Step). Follows l u pieces (Err fault)) (ap (λ (s : Step). s ∷ drop (i + 1) steps) is ∙ sym (drop_more steps i d within)) (one_last step (drop (i + 1) steps) u pieces fault steps_to))))

pub leads_end : (a b : Option (List Piece)) (steps left : List Step) (h u : Hearing) → left ≡ [] → GrowsBy a b (LeadsTo steps h left u) → GrowsBy a b (λ pieces. Follows steps h pieces (Ok u))
leads_end a b steps left h u none grows =
    grows_weaker a b (LeadsTo steps h left u) (λ pieces. Follows steps h pieces (Ok u)) grows
    (λ pieces leads. subst (λ (l : List Piece). Follows steps h l (Ok u)) (append-nil pieces) (leads [] (Ok u) (subst (λ (l : List Step). Follows l u [] (Ok u)) (sym none) (refl, refl))))

-- ---- faults that are handed on

pub err_followed : (a b : Option (List Piece)) (steps : List Step) (h u : Hearing) (result : Result (Unit {0}) Stop) (e : Stop) → IsErrAnd result (λ x. x ≡ e)
    → GrowsBy a b (λ pieces. Follows steps h pieces (Err (fault_seen e u))) → GrowsBy a b (λ pieces. Follows steps h pieces (followed result u))
err_followed a b steps h u (Ok done) e is grows = absurd is
err_followed a b steps h u (Err x) e is grows = subst (λ (f : Stop). GrowsBy a b (λ pieces. Follows steps h pieces (Err (fault_seen f u)))) (sym is) grows

submits_fault : (steps : List Step) (body : List ℕ) (h : Hearing) (fault : SubmitFault) (pieces : List Piece) → h ≡ dialled → Follows steps h pieces (Err fault) → Submits steps body pieces (Err fault)
submits_fault steps body h fault pieces new follows = (pieces, [], Err fault, sym (append-nil pieces), subst (λ (x : Hearing). Follows steps x pieces (Err fault)) new follows, (refl, refl))

pub err_submits : (a b : Option (List Piece)) (steps : List Step) (body : List ℕ) (h u : Hearing) (result : Result (Unit {0}) Stop) (e : Stop) → h ≡ dialled → IsErrAnd result (λ x. x ≡ e)
    → GrowsBy a b (λ pieces. Follows steps h pieces (Err (fault_seen e u))) → GrowsBy a b (λ pieces. Submits steps body pieces (finished result u))
err_submits a b steps body h u (Ok done) e new is grows = absurd is
err_submits a b steps body h u (Err x) e new is grows =
    subst (λ (f : Stop). GrowsBy a b (λ pieces. Submits steps body pieces (Err (fault_seen f u)))) (sym is)
    (grows_weaker a b (λ pieces. Follows steps h pieces (Err (fault_seen e u))) (λ pieces. Submits steps body pieces (Err (fault_seen e u))) grows (λ pieces. submits_fault steps body h (fault_seen e u) pieces new))
