-- Small sends, computed.
use Rattle.std.proofs.Common.{◌≡◌, refl, [], ◌∷◌, true, false}
use Rattle.std.specs.Prelude.{codes, Some, Ok, Err}
use Rattle.account_pictures.specs.declared.records.Identity.{Identity}
use Rattle.account_pictures.specs.declared.records.SendState.TheVariants as state
use Rattle.record_io.specs.declared.keeper.KeepFault.TheVariants as keeps
use Rattle.record_io.specs.Records.{after_change, records_of, with_records, without_send}
use Rattle.submission.specs.declared.fault.SubmitFault.TheVariants as posts
use Rattle.account_sends.specs.declared.faults.SendFault.TheVariants as fault
use Rattle.account_sends.specs.Once.{may_be_taken}
use Rattle.account_sends.specs.Sends.{begun, default_address, identity_for, records_after, sent_result, unbegun}

-- ---- whom a draft is from

ann : Identity
ann = record { name = codes "Ann"; address = codes "ann@c.example" }

bob : Identity
bob = record { name = codes "Bob"; address = codes "bob@c.example" }

kept_one : identity_for 3 ((1, ann) ∷ (3, bob) ∷ []) (codes "eve") (codes "c.example") ≡ bob
kept_one = refl

none_kept : identity_for 2 ((1, ann) ∷ (3, bob) ∷ []) (codes "eve") (codes "c.example") ≡ record { name = []; address = default_address (codes "eve") (codes "c.example") }
none_kept = refl

-- ---- what is kept of form 42 of the account `b`

taken : records_after 42 (Some (codes "b")) (begun (Ok tt) (Ok tt)) (Some []) ≡ Some (record { account = codes "b"; identities = []; sends = (42, state.Done) ∷ [] } ∷ [])
unfolding after_change records_of with_records
taken = refl

in_doubt : records_after 42 (Some (codes "b")) (begun (Err posts.Doubt) (Ok tt)) (Some []) ≡ Some (record { account = codes "b"; identities = []; sends = (42, state.Doubt) ∷ [] } ∷ [])
unfolding after_change records_of with_records
in_doubt = refl

-- a form that was refused may be sent again
refused : records_after 42 (Some (codes "b")) (begun (Err (posts.Refused 550 [])) (Ok tt)) (Some []) ≡ Some (record { account = codes "b"; identities = []; sends = [] } ∷ [])
unfolding after_change records_of with_records without_send
refused = refl

-- if the end can't be noted, the form stays started
end_not_noted : records_after 42 (Some (codes "b")) (begun (Err posts.Link) (Err keeps.Failed)) (Some []) ≡ Some (record { account = codes "b"; identities = []; sends = (42, state.Started) ∷ [] } ∷ [])
unfolding after_change records_of with_records
end_not_noted = refl

start_not_noted : records_after 42 (Some (codes "b")) (unbegun keeps.Failed) (Some []) ≡ Some []
start_not_noted = refl

-- ---- what is answered

keeper_first : sent_result (begun (Err posts.Link) (Err keeps.Failed)) ≡ Err fault.Unkept
keeper_first = refl

keeper_after_success : sent_result (begun (Ok tt) (Err keeps.Failed)) ≡ Err fault.Unkept
keeper_after_success = refl

refusal_answered : sent_result (begun (Err (posts.Refused 550 (codes "no"))) (Ok tt)) ≡ Err (fault.Refused 550 (codes "no"))
refusal_answered = refl

-- ---- what may have been taken

doubt_may_be_taken : may_be_taken (begun (Err posts.Doubt) (Err keeps.Failed)) ≡ true
doubt_may_be_taken = refl

refusal_is_not_taken : may_be_taken (begun (Err (posts.Refused 550 [])) (Ok tt)) ≡ false
refusal_is_not_taken = refl
