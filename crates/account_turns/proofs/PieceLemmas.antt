-- What each piece makes of a turn.
use Rattle.std.proofs.Common.{◌≡◌, ℕ, ◌+◌, ◌≤◌, List, [], length, refl, sym, ap, ◌∙◌, subst, Option, Bool, true, false}
use Rattle.std.specs.Prelude.{Result, IfOk}
use Rattle.account_pictures.specs.declared.talk.Piece.{Piece}
use Rattle.account_pictures.specs.declared.talk.Piece.TheVariants.{Dialled, Heard}
use Rattle.mail_io.specs.Talks.{AppendsPiece}
use Rattle.mail_talk.specs.Talks.{after_dialled}
use Rattle.mail_talk.specs.Units.{TalkState, after_heard, heard_count, heard_limit}
use Rattle.account_script.specs.declared.steps.Progress.{Progress}
use Rattle.account_script.specs.declared.steps.Step.{Step}
use Rattle.account_turns.specs.declared.endings.Ending.{Ending}
use Rattle.account_turns.specs.declared.endings.Last.{Last}
use Rattle.account_turns.specs.declared.endings.Last.TheVariants as lasts
use Rattle.account_turns.specs.Causes.{is_open}
use Rattle.account_turns.specs.Exchanges.{Begun, Hearing, Seen, Spoken, IsDueAfter, ending_of}
use Rattle.account_turns.specs.Turns.{Continues, Due, Errand, IsAllowed, IsDue, Turn, after, down, due, last_after, left_after, progress_after, steps_after}
use Rattle.account_turns.specs.Turns.Due.{Dials}
use Rattle.account_turns.proofs.TurnLemmas.{and_then, weaker, one_piece, due_open, due_closed}

-- ---- bytes that are heard

waits : (t u : Turn) (ear : TalkState) (bytes : List ℕ) → Hearing t ear u → is_open ear ≡ true → heard_count ear + length bytes ≤ heard_limit → IsDue u (Heard bytes)
waits t u ear bytes h o le = subst (λ (d : Due). IsAllowed d (Heard bytes) u) (sym (due_open t u ear h o)) (subst (λ (s : TalkState). heard_count s + length bytes ≤ heard_limit) (sym h.state) le)

heard_then : (t u : Turn) (ear new : TalkState) (bytes : List ℕ) → Hearing t ear u → is_open ear ≡ true → new ≡ after_heard bytes ear → Hearing t new (after u (Heard bytes))
heard_then t u ear new bytes h o e = record {
  errand = h.errand;
  state = ap (after_heard bytes) h.state ∙ sym e;
  said = h.said;
  steps = ap (λ (d : Due). steps_after d (Heard bytes) u.steps) (due_open t u ear h o) ∙ h.steps;
  progress = ap (λ (d : Due). progress_after d (Heard bytes) u.progress) (due_open t u ear h o) ∙ h.progress;
  fresh = h.fresh;
  last = ap (λ (d : Due). last_after d (Heard bytes) u.last) (due_open t u ear h o) ∙ h.last;
  left = ap (λ (d : Due). left_after d (Heard bytes) u.left) (due_open t u ear h o) ∙ h.left;
  begun = refl;
  cut = h.cut;
}

-- bytes were heard while an answer is awaited
pub heard_one : (a b : Option (List Piece)) (t u : Turn) (ear new : TalkState) (bytes : List ℕ) → Hearing t ear u → is_open ear ≡ true → heard_count ear + length bytes ≤ heard_limit → AppendsPiece a b (Heard bytes) → new ≡ after_heard bytes ear → Continues a b u (λ w. Hearing t new w)
heard_one a b t u ear new bytes h o le add e = one_piece a b u (Heard bytes) (λ w. Hearing t new w) add (waits t u ear bytes h o le) (heard_then t u ear new bytes h o e)

-- the same if nothing was kept of them
pub heard_lost : (a b : Option (List Piece)) (t u : Turn) (ear : TalkState) (bytes : List ℕ) → Hearing t ear u → is_open ear ≡ true → heard_count ear + length bytes ≤ heard_limit → AppendsPiece a b (Heard bytes) → Continues a b u (λ w. Unit {0})
heard_lost a b t u ear bytes h o le add = one_piece a b u (Heard bytes) (λ w. Unit {0}) add (waits t u ear bytes h o le) tt

-- ---- a dial

same_dialled : (fresh : Bool) (s ear : TalkState) → (fresh ≡ false → s ≡ ear) → after_dialled fresh s ≡ after_dialled fresh ear
same_dialled true s ear h = refl
same_dialled false s ear h = ap (after_dialled false) (h refl)

-- a dial that was due begins a part of the turn
pub dialled_one : (a b : Option (List Piece)) (t : Turn) (more : List Step) (fresh : Bool) (ear new : TalkState) → Seen fresh ear t → due t ≡ Dials fresh more → AppendsPiece a b (Dialled fresh) → new ≡ after_dialled fresh ear → Continues a b t (λ u. Begun t.errand new lasts.Dial [] [] more false down u)
dialled_one a b t more fresh ear new seen d add e = one_piece a b t (Dialled fresh) (λ u. Begun t.errand new lasts.Dial [] [] more false down u) add (subst (λ (x : Due). IsAllowed x (Dialled fresh) t) (sym d) refl) (record {
  errand = refl;
  hearing = record { errand = refl; state = same_dialled fresh t.talk.state ear seen.state ∙ sym e; said = refl; steps = refl; progress = refl; fresh = refl; last = refl; left = refl; begun = refl; cut = refl };
  last = ap (λ (x : Due). last_after x (Dialled fresh) t.last) d;
  left = ap (λ (x : Due). left_after x (Dialled fresh) t.left) d;
  said = refl;
  steps = ap (λ (x : Due). steps_after x (Dialled fresh) t.steps) d;
  fresh = refl;
  progress = ap (λ (x : Due). progress_after x (Dialled fresh) t.progress) d;
})

-- the steps left, the next dial and the progress, by other names
pub spoken_same : {E : Type 0} (r : Result Ending E) (a e : Errand) (m n : List Step) (f h : Bool) (p q : Progress) (ear : TalkState) (u : Turn) → a ≡ e → m ≡ n → f ≡ h → p ≡ q → IfOk r (λ x. Spoken a x m f p ear u) → IfOk r (λ x. Spoken e x n h q ear u)
spoken_same r a e m n f h p q ear u i j k l x = subst (λ (y : Progress). IfOk r (λ z. Spoken e z n h y ear u)) l (subst (λ (y : Bool). IfOk r (λ z. Spoken e z n y p ear u)) k (subst (λ (y : List Step). IfOk r (λ z. Spoken e z y f p ear u)) j (subst (λ (y : Errand). IfOk r (λ z. Spoken y z m f p ear u)) i x)))

-- a dial that was begun goes on to the greeting
pub goes_through : {E : Type 0} (a b c : Option (List Piece)) (t : Turn) (e : Errand) (ear : TalkState) (more : List Step) (fresh : Bool) (p : Progress) (new : TalkState) (r : Result Ending E) → Continues a b t (λ u. Begun e ear lasts.Dial [] [] more fresh p u)
    → ((u : Turn) → Hearing u ear u → u.last ≡ lasts.Dial → u.left ≡ [] → Continues b c u (λ w. IfOk r (λ x. Spoken u.errand x u.steps u.fresh u.progress new w))) → Continues a c t (λ w. IfOk r (λ x. Spoken e x more fresh p new w))
goes_through a b c t e ear more fresh p new r g n = and_then a b c t (λ u. Begun e ear lasts.Dial [] [] more fresh p u) (λ w. IfOk r (λ x. Spoken e x more fresh p new w)) g
    (λ u x. weaker b c u (λ w. IfOk r (λ y. Spoken u.errand y u.steps u.fresh u.progress new w)) (λ w. IfOk r (λ y. Spoken e y more fresh p new w)) (n u x.hearing x.last x.left) (λ w y. spoken_same r u.errand e u.steps more u.fresh fresh u.progress p new w x.errand x.steps x.fresh x.progress y))

-- the greeting has come
pub greeted_end : (t u : Turn) (ear : TalkState) → t.last ≡ lasts.Dial → t.left ≡ [] → Hearing t ear u → is_open ear ≡ false → Spoken t.errand (ending_of lasts.Dial ear) t.steps t.fresh t.progress ear u
greeted_end t u ear l m h o = record {
  errand = h.errand;
  seen = record { state = λ _. h.state; same = h.fresh };
  next = subst (λ (x : Last). IsDueAfter t.errand (ending_of x ear) t.fresh t.progress t.steps ear u) l (due_closed t u ear h o (λ e. m));
}
