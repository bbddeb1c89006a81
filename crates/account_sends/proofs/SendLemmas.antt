-- What becomes of a letter, note by note.
use Rattle.std.proofs.Common.{◌≡◌, ℕ, List, refl, sym, ap, ◌∙◌, subst}
use Rattle.std.specs.Prelude.{Option, Some, Result, Ok, Err}
use Rattle.account_pictures.specs.declared.records.Records.{Records}
use Rattle.account_pictures.specs.declared.records.SendState.{SendState}
use Rattle.account_pictures.specs.declared.records.SendState.TheVariants as state
use Rattle.account_pictures.specs.declared.talk.Piece.{Piece}
use Rattle.record_io.specs.declared.keeper.KeepFault.{KeepFault}
use Rattle.record_io.specs.declared.keeper.KeepFault.TheVariants as keeps
use Rattle.record_io.specs.Keepers.{HasKeepCause}
use Rattle.submission.specs.declared.fault.SubmitFault.{SubmitFault}
use Rattle.submission.specs.declared.fault.SubmitFault.TheVariants as posts
use Rattle.submission.specs.Script.{dotted, script}
use Rattle.submission.specs.Submits.{GrowsBy, IsCaused, SubmitsOrNothing}
use Rattle.submission.proofs.Growing.{grows_none}
use Rattle.account_sends.specs.declared.letters.Letter.{Letter}
use Rattle.account_sends.specs.declared.faults.SendFault.{SendFault}
use Rattle.account_sends.specs.Outboxes.{OutboxState, outbox}
use Rattle.account_sends.specs.Sends.{IsKeptCaused, IsLinkCaused, IsPostCaused, IsSaid, Outcome, Sends, begun, keep_fault, last_note, noted, sent_result, state_after, unbegun}

-- the first note failed
pub not_begun : (user password : List ℕ) (letter : Letter) (talk : Option (List Piece)) (post : ℕ) (records kept : Option (List Records)) (adopted still : Option (List ℕ)) (before now : ℕ) (one : KeepFault) (how : Result (Unit {0}) KeepFault)
    → how ≡ Err one → kept ≡ noted letter.envelope.form (Some state.Started) adopted how records → still ≡ adopted → HasKeepCause before now how
    → Sends user password letter (outbox talk post records adopted before) (outbox talk post kept still now) (Err (keep_fault one))
not_begun user password letter talk post records kept adopted still before now one how is notes same cause = record {
  outcome = unbegun one;
  submission = record {
    said = grows_none talk (λ pieces. IsSaid (unbegun one) (script user password letter.envelope.from letter.envelope.to.items) (dotted letter.message) pieces) refl;
    records = notes ∙ ap (λ (h : Result (Unit {0}) KeepFault). noted letter.envelope.form (Some state.Started) adopted h records) is;
    adopted = same;
    post_cause = refl;
    keeper_cause = subst (λ (h : Result (Unit {0}) KeepFault). HasKeepCause before now h) is cause;
  };
  ends = refl;
}

-- the letter was submitted, and its end noted, or not
pub begun_so : (user password name word body : List ℕ) (letter : Letter) (talk told : Option (List Piece)) (post later : ℕ) (records first kept : Option (List Records)) (adopted middle still : Option (List ℕ)) (before between now : ℕ)
    (how : Result (Unit {0}) KeepFault) (posted : Result (Unit {0}) SubmitFault) (end : Option SendState) (last : Result (Unit {0}) KeepFault) (result : Result (Unit {0}) SendFault)
    → how ≡ Ok tt → first ≡ noted letter.envelope.form (Some state.Started) adopted how records → middle ≡ adopted → HasKeepCause before between how
    → name ≡ user → word ≡ password → body ≡ letter.message
    → GrowsBy talk told (λ pieces. SubmitsOrNothing (script name word letter.envelope.from letter.envelope.to.items) (dotted body) pieces posted) → IsCaused post later posted
    → end ≡ state_after posted → kept ≡ noted letter.envelope.form end middle last first → still ≡ middle → HasKeepCause between now last
    → result ≡ sent_result (begun posted last)
    → Sends user password letter (outbox talk post records adopted before) (outbox told later kept still now) result
begun_so user password name word body letter talk told post later records first kept adopted middle still before between now how posted end last result is notes same cause u w b said caused at ends stays causes gives =
    let begins : first ≡ noted letter.envelope.form (Some state.Started) adopted (Ok tt) records = notes ∙ ap (λ (h : Result (Unit {0}) KeepFault). noted letter.envelope.form (Some state.Started) adopted h records) is in
    let level : between ≡ before = subst (λ (h : Result (Unit {0}) KeepFault). HasKeepCause before between h) is cause in
    record {
      outcome = begun posted last;
      submission = record {
        said = subst (λ (x : List ℕ). GrowsBy talk told (λ pieces. SubmitsOrNothing (script x password letter.envelope.from letter.envelope.to.items) (dotted letter.message) pieces posted)) u
            (subst (λ (x : List ℕ). GrowsBy talk told (λ pieces. SubmitsOrNothing (script name x letter.envelope.from letter.envelope.to.items) (dotted letter.message) pieces posted)) w
            (subst (λ (x : List ℕ). GrowsBy talk told (λ pieces. SubmitsOrNothing (script name word letter.envelope.from letter.envelope.to.items) (dotted x) pieces posted)) b said));
        records = ends ∙ ap (λ (e : Option SendState). noted letter.envelope.form e middle last first) at ∙ ap (λ (a : Option (List ℕ)). noted letter.envelope.form (state_after posted) a last first) same
            ∙ ap (λ (r : Option (List Records)). noted letter.envelope.form (state_after posted) adopted last r) begins;
        adopted = stays ∙ same;
        post_cause = caused;
        keeper_cause = subst (λ (n : ℕ). HasKeepCause n now last) level causes;
      };
      ends = gives;
    }

-- ---- causes

link_caused_by : (outcome : Outcome) (before now : ℕ) → IsPostCaused outcome before now → IsLinkCaused (sent_result outcome) before now
link_caused_by (unbegun keeps.Failed) before now cause = tt
link_caused_by (unbegun keeps.Memory) before now cause = tt
link_caused_by (begun posted (Err keeps.Failed)) before now cause = tt
link_caused_by (begun posted (Err keeps.Memory)) before now cause = tt
link_caused_by (begun (Ok done) (Ok noted)) before now cause = cause
link_caused_by (begun (Err (posts.Refused code text)) (Ok noted)) before now cause = cause
link_caused_by (begun (Err (posts.Damaged at)) (Ok noted)) before now cause = cause
link_caused_by (begun (Err posts.Link) (Ok noted)) before now cause = cause
link_caused_by (begun (Err posts.Doubt) (Ok noted)) before now cause = cause
link_caused_by (begun (Err posts.Memory) (Ok noted)) before now cause = tt

pub link_caused : (user password : List ℕ) (letter : Letter) (old new : OutboxState) (result : Result (Unit {0}) SendFault) → Sends user password letter old new result → IsLinkCaused result old.post_faults new.post_faults
link_caused user password letter old new result sends =
    subst (λ (r : Result (Unit {0}) SendFault). IsLinkCaused r old.post_faults new.post_faults) (sym sends.ends) (link_caused_by sends.outcome old.post_faults new.post_faults sends.submission.post_cause)

kept_caused_by : (outcome : Outcome) (before now : ℕ) → HasKeepCause before now (last_note outcome) → IsKeptCaused (sent_result outcome) before now
kept_caused_by (unbegun keeps.Failed) before now cause = cause.1
kept_caused_by (unbegun keeps.Memory) before now cause = cause
kept_caused_by (begun posted (Err keeps.Failed)) before now cause = cause.1
kept_caused_by (begun posted (Err keeps.Memory)) before now cause = cause
kept_caused_by (begun (Ok done) (Ok noted)) before now cause = cause
kept_caused_by (begun (Err (posts.Refused code text)) (Ok noted)) before now cause = cause
kept_caused_by (begun (Err (posts.Damaged at)) (Ok noted)) before now cause = cause
kept_caused_by (begun (Err posts.Link) (Ok noted)) before now cause = cause
kept_caused_by (begun (Err posts.Doubt) (Ok noted)) before now cause = cause
kept_caused_by (begun (Err posts.Memory) (Ok noted)) before now cause = cause

pub kept_caused : (user password : List ℕ) (letter : Letter) (old new : OutboxState) (result : Result (Unit {0}) SendFault) → Sends user password letter old new result → IsKeptCaused result old.keeper_faults new.keeper_faults
kept_caused user password letter old new result sends =
    subst (λ (r : Result (Unit {0}) SendFault). IsKeptCaused r old.keeper_faults new.keeper_faults) (sym sends.ends) (kept_caused_by sends.outcome old.keeper_faults new.keeper_faults sends.submission.keeper_cause)
