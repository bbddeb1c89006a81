-- Small records, read and changed.
use Rattle.std.proofs.Common.{◌≡◌, refl, [], ◌∷◌}
use Rattle.std.specs.Prelude.{List, Some, None}
use Rattle.account_pictures.specs.declared.records.Identity.{Identity}
use Rattle.account_pictures.specs.declared.records.SendState.TheVariants.{Started, Done, Doubt}
use Rattle.account_pictures.specs.declared.records.Records.{Records}
use Rattle.record_io.specs.Records.{PutIdentity, SetSend, after_change, identities_of, state_of}

-- an identity of the name `N` and the address `a`
abbrev ann : Identity
ann = record { name = 78 ∷ []; address = 97 ∷ [] }

-- the account `b` has identity 3, and its form 42 was sent
abbrev one_account : List Records
one_account = record { account = 98 ∷ []; identities = (3, ann) ∷ []; sends = (42, Done) ∷ [] } ∷ []

read_state : state_of (98 ∷ []) 42 one_account ≡ Some Done
unfolding Rattle.record_io.specs.Records.records_of
read_state = refl

other_form : state_of (98 ∷ []) 43 one_account ≡ None
unfolding Rattle.record_io.specs.Records.records_of
other_form = refl

-- the account `ba` isn't `b`
other_account : identities_of (98 ∷ 97 ∷ []) one_account ≡ []
unfolding Rattle.record_io.specs.Records.records_of
other_account = refl

-- an identity with a lower number goes before, and one with the same number goes
lower_number : after_change one_account (PutIdentity (98 ∷ []) 1 ann) ≡ record { account = 98 ∷ []; identities = (1, ann) ∷ (3, ann) ∷ []; sends = (42, Done) ∷ [] } ∷ []
unfolding Rattle.record_io.specs.Records.after_change Rattle.record_io.specs.Records.records_of Rattle.record_io.specs.Records.with_records
lower_number = refl

same_number : after_change one_account (PutIdentity (98 ∷ []) 3 (record { name = []; address = [] })) ≡ record { account = 98 ∷ []; identities = (3, record { name = []; address = [] }) ∷ []; sends = (42, Done) ∷ [] } ∷ []
unfolding Rattle.record_io.specs.Records.after_change Rattle.record_io.specs.Records.records_of Rattle.record_io.specs.Records.with_records
same_number = refl

-- the account `a` goes before `b`
first_of_account : after_change one_account (SetSend (97 ∷ []) 1 (Some Started)) ≡ record { account = 97 ∷ []; identities = []; sends = (1, Started) ∷ [] } ∷ one_account
unfolding Rattle.record_io.specs.Records.after_change Rattle.record_io.specs.Records.records_of Rattle.record_io.specs.Records.with_records
first_of_account = refl

in_doubt : after_change one_account (SetSend (98 ∷ []) 42 (Some Doubt)) ≡ record { account = 98 ∷ []; identities = (3, ann) ∷ []; sends = (42, Doubt) ∷ [] } ∷ []
unfolding Rattle.record_io.specs.Records.after_change Rattle.record_io.specs.Records.records_of Rattle.record_io.specs.Records.with_records
in_doubt = refl

removed : after_change one_account (SetSend (98 ∷ []) 42 None) ≡ record { account = 98 ∷ []; identities = (3, ann) ∷ []; sends = [] } ∷ []
unfolding Rattle.record_io.specs.Records.after_change Rattle.record_io.specs.Records.without_send
removed = refl

nothing_to_remove : after_change one_account (SetSend (97 ∷ []) 42 None) ≡ one_account
unfolding Rattle.record_io.specs.Records.after_change Rattle.record_io.specs.Records.without_send
nothing_to_remove = refl
