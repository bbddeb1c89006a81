-- A turn goes on piece by piece.
use Rattle.std.proofs.Common.{◌≡◌, ℕ, List, [], ◌∷◌, refl, ap, ◌∙◌, Option, Some, None, Bool, true, false, cond}
use Rattle.account_pictures.specs.declared.talk.Piece.{Piece}
use Rattle.mail_io.specs.Talks.{AppendsPiece, KeepsTalk}
use Rattle.mail_talk.specs.States.{is_piece}
use Rattle.mail_talk.specs.Units.{TalkState}
use Rattle.account_script.specs.declared.cause.Cause.{Cause}
use Rattle.account_script.specs.declared.steps.Progress.{Progress}
use Rattle.account_script.specs.declared.steps.Step.{Step}
use Rattle.account_turns.specs.Causes.{is_open, cause_of}
use Rattle.account_turns.specs.Exchanges.{Hearing, IsDueAfter, ending_by, ending_of}
use Rattle.account_turns.specs.Turns.{Continues, Errand, IsDue, Turn, after, due, due_after, due_owed, with_piece}
use Rattle.account_turns.specs.Turns.Due.{Says, Waits}
use Rattle.turn_algebra.proofs.GoingLemmas.{then_on, rest_on, weaker_on}

pub and_then : (a b c : Option (List Piece)) (t : Turn) (P Q : Turn → Type 0) → Continues a b t P → ((u : Turn) → P u → Continues b c u Q) → Continues a c t Q
and_then a b c t P Q g k = then_on with_piece after IsDue a b c t P Q g k

pub weaker : (a b : Option (List Piece)) (t : Turn) (P Q : Turn → Type 0) → Continues a b t P → ((u : Turn) → P u → Q u) → Continues a b t Q
weaker a b t P Q g k = weaker_on with_piece after IsDue a b t P Q g k

pub rests : (a : Option (List Piece)) (t : Turn) (Q : Turn → Type 0) → Q t → Continues a a t Q
rests a t Q q = rest_on with_piece after IsDue a t Q q

-- a call of the link that added nothing
pub stays : (a b : Option (List Piece)) (t : Turn) (Q : Turn → Type 0) → KeepsTalk a b → Q t → Continues a b t Q
stays None None t Q g q = record { parts = []; grown = tt; due = tt; holds = q }
stays None (Some y) t Q g q = absurd g
stays (Some x) None t Q g q = absurd g
stays (Some x) (Some y) t Q g q = record { parts = []; grown = g; due = tt; holds = q }

-- one piece came that was due
pub one_piece : (a b : Option (List Piece)) (t : Turn) (p : Piece) (Q : Turn → Type 0) → AppendsPiece a b p → IsDue t p → Q (after t p) → Continues a b t Q
one_piece None None t p Q g h q = record { parts = p ∷ []; grown = tt; due = (h, tt); holds = q }
one_piece None (Some y) t p Q g h q = absurd g
one_piece (Some x) None t p Q g h q = absurd g
one_piece (Some x) (Some y) t p Q g h q = record { parts = p ∷ []; grown = g; due = (h, tt); holds = q }

-- ---- what is due while an answer is awaited, and after it

pub due_open : (t u : Turn) (ear : TalkState) → Hearing t ear u → is_open ear ≡ true → due u ≡ Waits
unfolding due
due_open t u ear h o = rw (h.begun, h.cut, h.state, o) refl

-- the turn in which a part began, with what was heard since
abbrev pub settled : Turn → TalkState → List ℕ → Turn
settled t ear said = record { errand = t.errand; talk = record { state = ear; said = said }; steps = t.steps; progress = t.progress; fresh = t.fresh; begun = true; cut = false; last = t.last; left = t.left }

due_shut : (t u : Turn) (ear : TalkState) (owing : Bool) → Hearing t ear u → is_open ear ≡ false → is_piece ear.told.phase ≡ owing → due u ≡ due_owed (cond owing t.left []) (cause_of t.last ear) (settled t ear u.talk.said)
unfolding due
due_shut t u ear owing h o w = rw (h.begun, h.cut, h.state, o, w, h.left, h.last, h.steps, h.fresh, h.progress, h.errand) refl

ended_by : (cause : Option Cause) (e : Errand) (fresh : Bool) (p : Progress) (more : List Step) (ear : TalkState) (t u : Turn) → due u ≡ due_after cause t → t.errand ≡ e → t.fresh ≡ fresh → t.progress ≡ p → t.steps ≡ more → t.talk.state ≡ ear → IsDueAfter e (ending_by cause) fresh p more ear u
ended_by None e fresh p more ear t u d a f g h k = d ∙ rw (a, f, g, h, k) refl
ended_by (Some cause) e fresh p more ear t u d a f g h k = d ∙ rw g refl

closed_by : (owing : Bool) (t u : Turn) (ear : TalkState) → Hearing t ear u → is_open ear ≡ false → is_piece ear.told.phase ≡ owing → (owing ≡ true → t.left ≡ []) → IsDueAfter t.errand (ending_of t.last ear) t.fresh t.progress t.steps ear u
closed_by false t u ear h o w k = ended_by (cause_of t.last ear) t.errand t.fresh t.progress t.steps ear (settled t ear u.talk.said) u (due_shut t u ear false h o w) refl refl refl refl refl
closed_by true t u ear h o w k =
    ended_by (cause_of t.last ear) t.errand t.fresh t.progress t.steps ear (settled t ear u.talk.said) u
    (due_shut t u ear true h o w ∙ ap (λ (l : List (List ℕ)). due_owed l (cause_of t.last ear) (settled t ear u.talk.said)) (k refl)) refl refl refl refl refl

-- at the end of a part, if no piece is left
pub due_closed : (t u : Turn) (ear : TalkState) → Hearing t ear u → is_open ear ≡ false → (is_piece ear.told.phase ≡ true → t.left ≡ []) → IsDueAfter t.errand (ending_of t.last ear) t.fresh t.progress t.steps ear u
due_closed t u ear h o k = closed_by (is_piece ear.told.phase) t u ear h o refl k

-- if a piece was asked for
pub due_owing : (t u : Turn) (ear : TalkState) (piece : List ℕ) (pieces : List (List ℕ)) → Hearing t ear u → is_open ear ≡ false → is_piece ear.told.phase ≡ true → t.left ≡ piece ∷ pieces → due u ≡ Says t.last (piece ∷ pieces) t.steps t.progress
due_owing t u ear piece pieces h o w k = due_shut t u ear true h o w ∙ ap (λ (l : List (List ℕ)). due_owed l (cause_of t.last ear) (settled t ear u.talk.said)) k
