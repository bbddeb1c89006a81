-- The pieces of a command, one after the other.
use Rattle.std.proofs.Common.{◌≡◌, ℕ, ◌+◌, ◌<◌, ◌^◌, List, [], ◌∷◌, ◌++◌, length, take, drop, get_or, refl, sym, ap, ◌∙◌, subst, Option, Some, None, Bool, true, false, inl, inr, zero, suc, arith, append_assoc, append-nil}
use Rattle.std.specs.Prelude.{nat_le, ◌==◌}
use Rattle.std.specs.Global.{Vec}
use Rattle.std.specs.List.{concat, AllByRecursion}
use Rattle.std.proofs.lemmas.List.{drop_more, drop_all, take_more, take-append-drop}
use Rattle.std.proofs.lemmas.Bool.Decides.{leb_tells, nat_tests}
use Rattle.account_pictures.specs.declared.talk.Piece.{Piece}
use Rattle.account_pictures.specs.declared.talk.Piece.TheVariants.{Said}
use Rattle.imap_commands.specs.declared.command.Command.{Command}
use Rattle.imap_commands.specs.Commands.{command_pieces}
use Rattle.imap_commands.specs.ReadBack.{FitsFieldTypes, written_form}
use Rattle.imap_commands.specs.Pieces.{onto_first, pieces_of}
use Rattle.imap_commands.specs.Written.{bytes_of_vecs}
use Rattle.imap_commands.proofs.NonemptyLemmas.{command_pieces_nonempty}
use Rattle.command_pieces.specs.ReadBack.{spoken_before}
use Rattle.command_pieces.specs.Spoken.{spoken_with}
use Rattle.mail_io.specs.Talks.{AppendsPiece, SaysPrefix}
use Rattle.mail_talk.specs.declared.phase.Phase.{Phase}
use Rattle.mail_talk.specs.declared.phase.Phase.TheVariants as phase
use Rattle.mail_talk.specs.Saying.{after_first_piece, after_later_piece}
use Rattle.mail_talk.specs.States.{is_piece}
use Rattle.mail_talk.specs.Told.{Talk, said_before, after_piece}
use Rattle.mail_talk.specs.Units.{TalkState}
use Rattle.mail_talk.proofs.SayLemmas.{first_tells, later_tells, cut_tells, read_in}
use Rattle.account_script.specs.declared.steps.Progress.{Progress}
use Rattle.account_script.specs.declared.steps.Step.{Step}
use Rattle.account_turns.specs.declared.endings.Last.{Last}
use Rattle.account_turns.specs.Causes.{is_open, last_of}
use Rattle.account_turns.specs.Exchanges.{Begun, Hearing, IsDueOn, Seen, Speaks, Spoken, ending_of, with_uttered}
use Rattle.account_turns.specs.Turns.{Continues, Due, Errand, IsAllowed, Turn, due, is_partial, last_after, left_after, progress_after, steps_after}
use Rattle.account_turns.specs.Turns.Due.{Says}
use Rattle.account_turns.proofs.TurnLemmas.{stays, one_piece, due_closed, due_owing}
use Rattle.account_turns.proofs.NumberLemmas.{first_as_idle, later_as_owing, first_number, later_number}

-- what is awaited before the first piece of a command with a number, or a later one
abbrev pub IsTurnOf : Bool → ℕ → TalkState → Type 0
IsTurnOf true number ear = (ear.told.phase ≡ phase.Idle) × (number ≡ ear.told.view.number + 1)
IsTurnOf false number ear = (ear.told.phase ≡ phase.Piece) × (number ≡ ear.told.view.number)

-- some pieces of a command, of which these were said and these are left
pub record Splits (command : Command) (number : ℕ) (before left : List (List ℕ)) : Type 0 where
  pub fits : FitsFieldTypes command
  pub small : number < 2 ^ 32
  pub written : command_pieces number command ≡ before ++ left

abbrev pub is_last : List (List ℕ) → Bool
is_last [] = true
is_last (piece ∷ pieces) = false

first_piece_by : (pieces : List (List ℕ)) (one : Command) (s : TalkState) → s.told.phase ≡ phase.Idle → after_first_piece pieces one s ≡ with_uttered true (is_last pieces) one s
first_piece_by [] one s idle = sym (first_as_idle true one s idle)
first_piece_by (p ∷ ps) one s idle = sym (first_as_idle false one s idle)

later_piece_by : (pieces : List (List ℕ)) (one : Command) (s : TalkState) → s.told.phase ≡ phase.Piece → after_later_piece pieces one s ≡ with_uttered false (is_last pieces) one s
later_piece_by [] one s owing = sym (later_as_owing true one s owing)
later_piece_by (p ∷ ps) one s owing = sym (later_as_owing false one s owing)

-- the talk after a whole piece
pub uttered : (first : Bool) (talk : Talk) (ear : TalkState) (command : Command) (number : ℕ) (before : List (List ℕ)) (piece : List ℕ) (left : List (List ℕ)) → talk.state ≡ ear → IsTurnOf first number ear → (first ≡ true → before ≡ []) → Splits command number before (piece ∷ left)
    → said_before ear.told.phase talk.said ≡ concat before → (after_piece talk (Said piece)).state ≡ with_uttered first (is_last left) command ear
uttered true talk ear command number before piece left is (idle, next) begins s said =
    let at : talk.state.told.phase ≡ phase.Idle = ap (λ (x : TalkState). x.told.phase) is ∙ idle in
    let same : talk.state.told.view.number + 1 ≡ number = ap (λ (x : TalkState). x.told.view.number + 1) is ∙ sym next in
    let small : talk.state.told.view.number + 1 < 2 ^ 32 = subst (λ (n : ℕ). n < 2 ^ 32) (sym same) s.small in
    let all : command_pieces (talk.state.told.view.number + 1) command ≡ piece ∷ left = ap (λ (n : ℕ). command_pieces n command) same ∙ s.written ∙ ap (λ (l : List (List ℕ)). l ++ piece ∷ left) (begins refl) in
    first_tells talk command piece left s.fits small at all ∙ first_piece_by left command talk.state at ∙ ap (with_uttered true (is_last left) command) is
uttered false talk ear command number before piece left is (owing, same) begins s said =
    let at : talk.state.told.phase ≡ phase.Piece = ap (λ (x : TalkState). x.told.phase) is ∙ owing in
    let same_number : talk.state.told.view.number ≡ number = ap (λ (x : TalkState). x.told.view.number) is ∙ sym same in
    let small : talk.state.told.view.number < 2 ^ 32 = subst (λ (n : ℕ). n < 2 ^ 32) (sym same_number) s.small in
    let all : command_pieces talk.state.told.view.number command ≡ before ++ piece ∷ left = ap (λ (n : ℕ). command_pieces n command) same_number ∙ s.written in
    let front : talk.said ≡ concat before = ap (λ (p : Phase). said_before p talk.said) (sym owing) ∙ said in
    later_tells talk command before piece left s.fits small at all front ∙ later_piece_by left command talk.state at ∙ ap (with_uttered false (is_last left) command) is

not_partial : (pieces : List (List ℕ)) (tag : ℕ) (command : Command) → is_partial (spoken_before pieces tag command) ≡ false
not_partial [] tag command = refl
not_partial (p ∷ ps) tag command = refl

abbrev Front : TalkState → List ℕ → List ℕ
Front s said = said_before s.told.phase said

-- a whole piece is not partial
whole_piece : (talk : Talk) (ear : TalkState) (command : Command) (number : ℕ) (before : List (List ℕ)) (piece : List ℕ) (left : List (List ℕ)) → talk.state ≡ ear → Splits command number before (piece ∷ left) → said_before ear.told.phase talk.said ≡ concat before
    → is_partial (spoken_with (said_before talk.state.told.phase talk.said) piece) ≡ false
whole_piece talk ear command number before piece left is s said =
    ap (λ (f : List ℕ). is_partial (spoken_with f piece)) (ap (λ (x : TalkState). Front x talk.said) is ∙ said)
    ∙ ap is_partial (read_in number command before piece left s.small s.fits s.written).1 ∙ not_partial left number (written_form command)

concat_one : (before : List (List ℕ)) (piece : List ℕ) → concat before ++ piece ≡ concat (before ++ piece ∷ [])
concat_one [] piece = sym (append-nil piece)
concat_one (b ∷ before) piece = append_assoc b (concat before) piece ∙ ap (λ (l : List ℕ). b ++ l) (concat_one before piece)

-- a piece was said whole
pub said_one : (a b : Option (List Piece)) (t : Turn) (first : Bool) (command : Command) (number : ℕ) (before : List (List ℕ)) (piece : List ℕ) (left : List (List ℕ)) (e : Errand) (more : List Step) (fresh : Bool) (p : Progress) (ear new : TalkState) → Speaks e before (piece ∷ left) (last_of command) more fresh p ear t
    → IsTurnOf first number ear → (first ≡ true → before ≡ []) → Splits command number before (piece ∷ left) → AppendsPiece a b (Said piece) → new ≡ with_uttered first (is_last left) command ear
    → Continues a b t (λ u. Begun e new (last_of command) left (concat (before ++ piece ∷ [])) more fresh p u)
said_one a b t first command number before piece left e more fresh p ear new s turn begins splits add is =
    one_piece a b t (Said piece) (λ u. Begun e new (last_of command) left (concat (before ++ piece ∷ [])) more fresh p u) add
    (subst (λ (x : Due). IsAllowed x (Said piece) t) (sym s.next) (length piece, sym (all_of piece)))
    (record {
      errand = s.errand;
      hearing = record {
        errand = refl;
        state = uttered first t.talk ear command number before piece left s.state turn begins splits s.said ∙ sym is;
        said = refl;
        steps = refl;
        progress = refl;
        fresh = refl;
        last = refl;
        left = refl;
        begun = refl;
        cut = whole_piece t.talk ear command number before piece left s.state splits s.said;
      };
      last = ap (λ (x : Due). last_after x (Said piece) t.last) s.next;
      left = ap (λ (x : Due). left_after x (Said piece) t.left) s.next;
      said = ap (λ (f : List ℕ). f ++ piece) (ap (λ (x : TalkState). Front x t.talk.said) s.state ∙ s.said) ∙ concat_one before piece;
      steps = ap (λ (x : Due). steps_after x (Said piece) t.steps) s.next;
      fresh = s.same;
      progress = ap (λ (x : Due). progress_after x (Said piece) t.progress) s.next;
    })
  where
    all_of : (bytes : List ℕ) → take (length bytes) bytes ≡ bytes
    all_of [] = refl
    all_of (c ∷ bytes) = ap (λ (l : List ℕ). c ∷ l) (all_of bytes)

-- the same if nothing was kept of it
pub said_lost : (a b : Option (List Piece)) (t : Turn) (piece : List ℕ) (before left : List (List ℕ)) (last : Last) (e : Errand) (more : List Step) (fresh : Bool) (p : Progress) (ear : TalkState) → Speaks e before (piece ∷ left) last more fresh p ear t → AppendsPiece a b (Said piece) → Continues a b t (λ u. Unit {0})
said_lost a b t piece before left last e more fresh p ear s add = one_piece a b t (Said piece) (λ u. Unit {0}) add (subst (λ (x : Due). IsAllowed x (Said piece) t) (sym s.next) (length piece, sym (all_of piece))) tt
  where
    all_of : (bytes : List ℕ) → take (length bytes) bytes ≡ bytes
    all_of [] = refl
    all_of (c ∷ bytes) = ap (λ (l : List ℕ). c ∷ l) (all_of bytes)

-- a piece was said in part, or not at all
part_by : (a b : Option (List Piece)) (t : Turn) (command : Command) (number : ℕ) (before : List (List ℕ)) (piece : List ℕ) (left : List (List ℕ)) (e : Errand) (more : List Step) (fresh : Bool) (p : Progress) (ear : TalkState) (count : ℕ) → Speaks e before (piece ∷ left) (last_of command) more fresh p ear t
    → Splits command number before (piece ∷ left) → count < length piece → AppendsPiece a b (Said (take count piece)) → Continues a b t (λ u. (u.errand ≡ e) × Seen fresh ear u)
part_by a b t command number before piece left e more fresh p ear count s splits less add =
    one_piece a b t (Said (take count piece)) (λ u. (u.errand ≡ e) × Seen fresh ear u) add (subst (λ (x : Due). IsAllowed x (Said (take count piece)) t) (sym s.next) (count, refl)) (
      s.errand,
      record {
        state = λ _. cut_tells t.talk command before piece left number count splits.fits splits.small splits.written (ap (λ (x : TalkState). Front x t.talk.said) s.state ∙ s.said) less ∙ s.state;
        same = s.same;
      },
    )

pub said_part : (a b : Option (List Piece)) (t : Turn) (command : Command) (number : ℕ) (before : List (List ℕ)) (piece : List ℕ) (left : List (List ℕ)) (e : Errand) (more : List Step) (fresh : Bool) (p : Progress) (ear : TalkState) → Speaks e before (piece ∷ left) (last_of command) more fresh p ear t
    → Splits command number before (piece ∷ left) → 0 < length piece → SaysPrefix a b piece → Continues a b t (λ u. (u.errand ≡ e) × Seen fresh ear u)
said_part None None t command number before piece left e more fresh p ear s splits some prefix = part_by None None t command number before piece left e more fresh p ear 0 s splits some tt
said_part None (Some y) t command number before piece left e more fresh p ear s splits some prefix = absurd prefix
said_part (Some x) None t command number before piece left e more fresh p ear s splits some prefix = absurd prefix
said_part (Some x) (Some y) t command number before piece left e more fresh p ear s splits some (inl grows) = part_by (Some x) (Some y) t command number before piece left e more fresh p ear grows.count s splits grows.proper grows.said
said_part (Some x) (Some y) t command number before piece left e more fresh p ear s splits some (inr (nothing, same)) =
    stays (Some x) (Some y) t (λ u. (u.errand ≡ e) × Seen fresh ear u) same (s.errand, record { state = λ _. s.state; same = s.same })

-- ---- after a piece

on_by : (left : List (List ℕ)) (last : Last) (e : Errand) (bytes : List ℕ) (more : List Step) (fresh : Bool) (p : Progress) (begun ear : TalkState) (t u : Turn) → Begun e begun last left bytes more fresh p t → Hearing t ear u → is_open ear ≡ false → is_piece ear.told.phase ≡ true → IsDueOn left e last more fresh p ear u
on_by [] last e bytes more fresh p begun ear t u b h o w = rw (← b.errand, ← b.last, ← b.fresh, ← b.progress, ← b.steps) (due_closed t u ear h o (λ _. b.left))
on_by (x ∷ xs) last e bytes more fresh p begun ear t u b h o w = rw (← b.last, ← b.progress, ← b.steps) (due_owing t u ear x xs h o w b.left)

owing_said : (q : Phase) (said : List ℕ) → is_piece q ≡ true → said_before q said ≡ said
owing_said phase.NotDialled said w = cc
owing_said phase.Greeting said w = cc
owing_said phase.Idle said w = cc
owing_said phase.Request said w = cc
owing_said phase.Piece said w = refl
owing_said phase.Answer said w = cc
owing_said phase.Damaged said w = cc

-- if a piece was asked for after one, the others are left
pub speaks_on : (left before : List (List ℕ)) (last : Last) (e : Errand) (more : List Step) (fresh : Bool) (p : Progress) (begun ear : TalkState) (t u : Turn) → Begun e begun last left (concat before) more fresh p t → Hearing t ear u → is_open ear ≡ false → is_piece ear.told.phase ≡ true → Speaks e before left last more fresh p ear u
speaks_on left before last e more fresh p begun ear t u b h o w = record {
  errand = h.errand ∙ b.errand;
  state = h.state;
  same = h.fresh ∙ b.fresh;
  said = owing_said ear.told.phase u.talk.said w ∙ h.said ∙ b.said;
  next = on_by left last e (concat before) more fresh p begun ear t u b h o w;
}

-- if none was, the command has ended
pub speaks_end : (left : List (List ℕ)) (bytes : List ℕ) (last : Last) (e : Errand) (more : List Step) (fresh : Bool) (p : Progress) (begun ear : TalkState) (t u : Turn) → Begun e begun last left bytes more fresh p t → Hearing t ear u → is_open ear ≡ false → is_piece ear.told.phase ≡ false → Spoken e (ending_of last ear) more fresh p ear u
speaks_end left bytes last e more fresh p begun ear t u b h o w = record {
  errand = h.errand ∙ b.errand;
  seen = record { state = λ _. h.state; same = h.fresh ∙ b.fresh };
  next = rw (← b.errand, ← b.last, ← b.fresh, ← b.progress, ← b.steps) (due_closed t u ear h o (λ x. absurd (let y : true ≡ false = sym x ∙ w in cc)));
}

-- if all was said, what is left is the ending
pub speaks_done : (before : List (List ℕ)) (last : Last) (e : Errand) (more : List Step) (fresh : Bool) (p : Progress) (ear : TalkState) (u : Turn) → Speaks e before [] last more fresh p ear u → Spoken e (ending_of last ear) more fresh p ear u
speaks_done before last e more fresh p ear u s = record { errand = s.errand; seen = record { state = λ _. s.state; same = s.same }; next = s.next }

-- a command begins
pub speaks_first : (pieces : List (List ℕ)) (last : Last) (more : List Step) (p : Progress) (ear : TalkState) (t : Turn) → t.talk.state ≡ ear → ear.told.phase ≡ phase.Idle → 0 < length pieces → due t ≡ Says last pieces more p → Speaks t.errand [] pieces last more t.fresh p ear t
speaks_first [] last more p ear t is idle some d = absurd (omega arith)
speaks_first (x ∷ xs) last more p ear t is idle some d = record { errand = refl; state = is; same = refl; said = ap (λ (q : Phase). said_before q t.talk.said) idle; next = d }

-- ---- by the places of the pieces

pub items_at : (pieces : List (Vec ℕ)) (i : ℕ) (d : Vec ℕ) → i < length pieces → (get_or pieces i d).items ≡ get_or (bytes_of_vecs pieces) i []
items_at [] i d lt = absurd (omega arith)
items_at (x ∷ xs) zero d lt = refl
items_at (x ∷ xs) (suc i) d lt = items_at xs i d (omega arith)

pub filled_at : (pieces : List (List ℕ)) (i : ℕ) → i < length pieces → AllByRecursion (λ (piece : List ℕ). 0 < length piece) pieces → 0 < length (get_or pieces i [])
filled_at [] i lt all = absurd (omega arith)
filled_at (x ∷ xs) zero lt all = all.0
filled_at (x ∷ xs) (suc i) lt all = filled_at xs i (omega arith) all.1

pub same_length : (pieces : List (Vec ℕ)) → length (bytes_of_vecs pieces) ≡ length pieces
same_length [] = refl
same_length (x ∷ xs) = ap suc (same_length xs)

last_is : (pieces : List (List ℕ)) (i : ℕ) → nat_le (length pieces) i ≡ is_last (drop i pieces)
last_is pieces i = elim (leb_tells (length pieces) i) [
  | inl p ↦ rw (p.0, drop_all i pieces p.1) refl
  | inr p ↦ rw (p.0, drop_more pieces i [] p.1) refl
]

zero_takes : (i : ℕ) (pieces : List (List ℕ)) → (i == 0) ≡ true → take i pieces ≡ []
zero_takes zero pieces is = refl
zero_takes (suc i) pieces is = absurd (let e : suc i ≡ 0 = grind (arith, is) in omega (arith, e))

-- what was said and what is left of all pieces
pub splits_at : (command : Command) (number : ℕ) (pieces : List (List ℕ)) (i : ℕ) → FitsFieldTypes command → number < 2 ^ 32 → pieces ≡ command_pieces number command → i < length pieces → Splits command number (take i pieces) (get_or pieces i [] ∷ drop (i + 1) pieces)
splits_at command number pieces i fits small is lt = record {
  fits = fits;
  small = small;
  written = sym is ∙ sym (take-append-drop i pieces) ∙ ap (λ (l : List (List ℕ)). take i pieces ++ l) (drop_more pieces i [] lt);
}

at_piece : (pieces : List (List ℕ)) (i : ℕ) (last : Last) (e : Errand) (more : List Step) (fresh : Bool) (p : Progress) (ear : TalkState) (u : Turn) → i < length pieces → Speaks e (take i pieces) (drop i pieces) last more fresh p ear u → Speaks e (take i pieces) (get_or pieces i [] ∷ drop (i + 1) pieces) last more fresh p ear u
at_piece pieces i last e more fresh p ear u lt s = subst (λ (l : List (List ℕ)). Speaks e (take i pieces) l last more fresh p ear u) (drop_more pieces i [] lt) s

-- the next piece was said whole
pub said_at : (a b : Option (List Piece)) (t : Turn) (pieces : List (List ℕ)) (i : ℕ) (piece : List ℕ) (command : Command) (number : ℕ) (e : Errand) (more : List Step) (fresh : Bool) (p : Progress) (ear new : TalkState) → i < length pieces → FitsFieldTypes command → number < 2 ^ 32 → pieces ≡ command_pieces number command → IsTurnOf (i == 0) number ear
    → piece ≡ get_or pieces i [] → Speaks e (take i pieces) (drop i pieces) (last_of command) more fresh p ear t → AppendsPiece a b (Said piece) → new ≡ with_uttered (i == 0) (nat_le (length pieces) (i + 1)) command ear
    → Continues a b t (λ u. Begun e new (last_of command) (drop (i + 1) pieces) (concat (take (i + 1) pieces)) more fresh p u)
said_at a b t pieces i piece command number e more fresh p ear new lt fits small is turn same s add new_is =
    subst (λ (l : List (List ℕ)). Continues a b t (λ u. Begun e new (last_of command) (drop (i + 1) pieces) (concat l) more fresh p u)) (sym (take_more pieces i [] lt))
    (said_one a b t (i == 0) command number (take i pieces) (get_or pieces i []) (drop (i + 1) pieces) e more fresh p ear new (at_piece pieces i (last_of command) e more fresh p ear t lt s) turn (zero_takes i pieces) (splits_at command number pieces i fits small is lt)
    (subst (λ (x : List ℕ). AppendsPiece a b (Said x)) same add) (new_is ∙ ap (λ (x : Bool). with_uttered (i == 0) x command ear) (last_is pieces (i + 1))))

pub lost_at : (a b : Option (List Piece)) (t : Turn) (pieces : List (List ℕ)) (i : ℕ) (piece : List ℕ) (last : Last) (e : Errand) (more : List Step) (fresh : Bool) (p : Progress) (ear : TalkState) → i < length pieces → piece ≡ get_or pieces i [] → Speaks e (take i pieces) (drop i pieces) last more fresh p ear t → AppendsPiece a b (Said piece) → Continues a b t (λ u. Unit {0})
lost_at a b t pieces i piece last e more fresh p ear lt same s add =
    said_lost a b t (get_or pieces i []) (take i pieces) (drop (i + 1) pieces) last e more fresh p ear (at_piece pieces i last e more fresh p ear t lt s) (subst (λ (x : List ℕ). AppendsPiece a b (Said x)) same add)

pub part_at : (a b : Option (List Piece)) (t : Turn) (pieces : List (List ℕ)) (i : ℕ) (piece : List ℕ) (command : Command) (number : ℕ) (e : Errand) (more : List Step) (fresh : Bool) (p : Progress) (ear : TalkState) → i < length pieces → FitsFieldTypes command → number < 2 ^ 32 → pieces ≡ command_pieces number command → piece ≡ get_or pieces i []
    → Speaks e (take i pieces) (drop i pieces) (last_of command) more fresh p ear t → SaysPrefix a b piece → Continues a b t (λ u. (u.errand ≡ e) × Seen fresh ear u)
part_at a b t pieces i piece command number e more fresh p ear lt fits small is same s prefix =
    said_part a b t command number (take i pieces) (get_or pieces i []) (drop (i + 1) pieces) e more fresh p ear (at_piece pieces i (last_of command) e more fresh p ear t lt s) (splits_at command number pieces i fits small is lt)
    (filled_at pieces i lt (subst (λ (l : List (List ℕ)). AllByRecursion (λ (x : List ℕ). 0 < length x) l) (sym is) (command_pieces_nonempty number command))) (subst (λ (x : List ℕ). SaysPrefix a b x) same prefix)

-- ---- what is awaited next

uttered_number : (first last : Bool) (command : Command) (ear : TalkState) (number : ℕ) → IsTurnOf first number ear → number ≡ (with_uttered first last command ear).told.view.number
uttered_number true last command ear number (idle, next) = next ∙ sym (first_number last command ear idle)
uttered_number false last command ear number (owing, same) = same ∙ sym (later_number last command ear owing)

piece_phase : (q : Phase) → is_piece q ≡ true → q ≡ phase.Piece
piece_phase phase.NotDialled w = cc
piece_phase phase.Greeting w = cc
piece_phase phase.Idle w = cc
piece_phase phase.Request w = cc
piece_phase phase.Piece w = refl
piece_phase phase.Answer w = cc
piece_phase phase.Damaged w = cc

not_first : (i : ℕ) → (i + 1 == 0) ≡ false
not_first i = grind (arith, nat_tests)

pub awaits_next : (i : ℕ) (last : Bool) (command : Command) (ear said heard : TalkState) (number : ℕ) → IsTurnOf (i == 0) number ear → said ≡ with_uttered (i == 0) last command ear → heard.told.view.number ≡ said.told.view.number → is_piece heard.told.phase ≡ true → IsTurnOf (i + 1 == 0) number heard
awaits_next i last command ear said heard number turn is same owing =
    rw (not_first i) (piece_phase heard.told.phase owing, uttered_number (i == 0) last command ear number turn ∙ sym (same ∙ ap (λ (s : TalkState). s.told.view.number) is))

onto_some : (bytes : List ℕ) (pieces : List (List ℕ)) → 0 < length (onto_first bytes pieces)
onto_some bytes [] = omega arith
onto_some bytes (x ∷ xs) = omega arith

-- a command has a piece
pub some_pieces : (number : ℕ) (command : Command) → 0 < length (command_pieces number command)
unfolding command_pieces pieces_of
some_pieces number command = onto_some _ _
