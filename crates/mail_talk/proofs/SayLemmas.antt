-- What is said as it is written.
use Rattle.std.proofs.Common.{◌≡◌, ℕ, ◌+◌, ◌<◌, ◌^◌, ◌==◌, true, List, [], ◌∷◌, ◌++◌, take, refl, sym, ap, ◌∙◌, subst, append_assoc, arith}
use Rattle.std.specs.List.{concat}
use Rattle.std.proofs.lemmas.Bool.Decides.{nat_tests}
use Rattle.std.proofs.lemmas.List.{append-nil}
use Rattle.imap_commands.specs.declared.command.Command.{Command}
use Rattle.imap_commands.specs.declared.command.Command.TheVariants.{Login, Capability, Enable, List as ListAll, Select, Noop, FetchNew, FetchChanged, FetchBody, Search, Store, Move, Expunge, Append}
use Rattle.imap_commands.specs.Commands.{command_pieces}
use Rattle.imap_commands.specs.ReadBack.{FitsFieldTypes, written_form}
use Rattle.command_pieces.specs.declared.verb.Verb.{Verb}
use Rattle.command_pieces.specs.ReadBack.{IsPartialWithin, spoken_before, ReadAs, FirstNames}
use Rattle.command_pieces.specs.Spoken.{Spoken, spoken_with}
use Rattle.command_pieces.specs.Spoken.Spoken.{Partial}
use Rattle.command_pieces.specs.Verbs.{verb_of, verb_of_command}
use Rattle.command_pieces.proofs.ReadLemmas.{commands_read}
use Rattle.command_pieces.proofs.VerbLemmas.{verbs_named}
use Rattle.mail_talk.specs.declared.phase.Phase.{Phase}
use Rattle.mail_talk.specs.declared.phase.Phase.TheVariants as phase
use Rattle.mail_talk.specs.States.{ToldState}
use Rattle.mail_talk.specs.Units.{TalkState, drained}
use Rattle.mail_talk.specs.Talks.{opened, only_piece, last_piece, from_here, with_told, after_began, after_first, after_next, after_spoken}
use Rattle.mail_talk.specs.Told.{said_before}
use Rattle.mail_talk.specs.Saying.{after_first_piece, after_later_piece, FirstPiecesTell, LaterPiecesTell, CutPiecesTellNothing}

-- a SELECT tells the same whatever is known of its folder
only_same : (one : Command) (t : ToldState) → only_piece (written_form one) t ≡ only_piece one t
only_same (Login user password) t = refl
only_same Capability t = refl
only_same Enable t = refl
only_same ListAll t = refl
only_same Noop t = refl
only_same (FetchNew from) t = refl
only_same (FetchChanged mark) t = refl
only_same (FetchBody uid) t = refl
only_same (Search words) t = refl
only_same (Store uid label on) t = refl
only_same (Move uid to) t = refl
only_same (Expunge uid) t = refl
only_same (Append folder label message) t = refl
only_same (Select folder known) t = refl

last_same : (one : Command) (t : ToldState) → last_piece (written_form one) t ≡ last_piece one t
last_same (Login user password) t = refl
last_same Capability t = refl
last_same Enable t = refl
last_same ListAll t = refl
last_same Noop t = refl
last_same (FetchNew from) t = refl
last_same (FetchChanged mark) t = refl
last_same (FetchBody uid) t = refl
last_same (Search words) t = refl
last_same (Store uid label on) t = refl
last_same (Move uid to) t = refl
last_same (Expunge uid) t = refl
last_same (Append folder label message) t = refl
last_same (Select folder known) t = refl

-- each piece reads as one, after those before it
read_at : (front : List ℕ) (before : List (List ℕ)) (piece : List ℕ) (pieces : List (List ℕ)) (tag : ℕ) (one : Command) → ReadAs front (before ++ piece ∷ pieces) tag one
    → IsPartialWithin (front ++ concat before) piece × (spoken_with (front ++ concat before) piece ≡ spoken_before pieces tag one)
read_at front [] piece pieces tag one reads = rw append-nil (reads.0, reads.1)
read_at front (first ∷ before) piece pieces tag one reads = rw (sym (append_assoc front first (concat before))) (read_at (front ++ first) before piece pieces tag one reads.2)

pub read_in : (tag : ℕ) (one : Command) (before : List (List ℕ)) (piece : List ℕ) (pieces : List (List ℕ)) → tag < 2 ^ 32 → FitsFieldTypes one → command_pieces tag one ≡ before ++ piece ∷ pieces
    → IsPartialWithin (concat before) piece × (spoken_with (concat before) piece ≡ spoken_before pieces tag (written_form one))
read_in tag one before piece pieces tag_fits fits written =
    read_at [] before piece pieces tag (written_form one) (subst (λ (all : List (List ℕ)). ReadAs [] all tag (written_form one)) written (commands_read tag one tag_fits fits))

same_number : (n : ℕ) → (n == n) ≡ true
same_number n = grind (arith, nat_tests)

first_by : (pieces : List (List ℕ)) (one : Command) (verb : Verb) (s : TalkState) → verb ≡ verb_of_command one → after_first (spoken_before pieces (s.told.view.number + 1) (written_form one)) verb s ≡ after_first_piece pieces one s
first_by [] one verb s named = rw (same_number (s.told.view.number + 1)) (ap (λ (t : ToldState). drained (from_here t s)) (only_same one (opened s.told)))
first_by (next ∷ pieces) one verb s named = ap (λ (v : Verb). after_began v s) named

later_by : (pieces : List (List ℕ)) (one : Command) (s : TalkState) → after_next (spoken_before pieces s.told.view.number (written_form one)) s ≡ after_later_piece pieces one s
later_by [] one s = rw (same_number s.told.view.number) (ap (λ (t : ToldState). drained (with_told t s)) (last_same one s.told))
later_by (next ∷ pieces) one s = refl

pub first_tells : FirstPiecesTell
first_tells t one piece pieces fits number idle written =
    let verb : verb_of piece ≡ verb_of_command one = subst (λ (all : List (List ℕ)). FirstNames all (verb_of_command one)) written (verbs_named (t.state.told.view.number + 1) one number) in
    let spoken : spoken_with [] piece ≡ spoken_before pieces (t.state.told.view.number + 1) (written_form one) = (read_in (t.state.told.view.number + 1) one [] piece pieces number fits written).1 in
    ap (λ (p : Phase). after_spoken p (spoken_with (said_before p t.said) piece) (verb_of piece) t.state) idle
    ∙ ap (λ (x : Spoken). after_first x (verb_of piece) t.state) spoken ∙ first_by pieces one (verb_of piece) t.state verb

pub later_tells : LaterPiecesTell
later_tells t one before piece pieces fits number owing written said =
    let spoken : spoken_with t.said piece ≡ spoken_before pieces t.state.told.view.number (written_form one) =
    ap (λ (front : List ℕ). spoken_with front piece) said ∙ (read_in t.state.told.view.number one before piece pieces number fits written).1 in
    ap (λ (p : Phase). after_spoken p (spoken_with (said_before p t.said) piece) (verb_of piece) t.state) owing
    ∙ ap (λ (x : Spoken). after_next x t.state) spoken ∙ later_by pieces one t.state

partial_tells : (p : Phase) (verb : Verb) (s : TalkState) → after_spoken p Partial verb s ≡ s
partial_tells phase.NotDialled verb s = refl
partial_tells phase.Greeting verb s = refl
partial_tells phase.Idle verb s = refl
partial_tells phase.Request verb s = refl
partial_tells phase.Piece verb s = refl
partial_tells phase.Answer verb s = refl
partial_tells phase.Damaged verb s = refl

pub cut_tells : CutPiecesTellNothing
cut_tells t one before piece pieces tag n fits tag_fits written said less =
    let partial : spoken_with (said_before t.state.told.phase t.said) (take n piece) ≡ Partial =
    ap (λ (front : List ℕ). spoken_with front (take n piece)) said ∙ (read_in tag one before piece pieces tag_fits fits written).0 n less in
    ap (λ (x : Spoken). after_spoken t.state.told.phase x (verb_of (take n piece)) t.state) partial ∙ partial_tells t.state.told.phase (verb_of (take n piece)) t.state
