-- A draft whose recipients cannot be read is no message, for the same reason.
use Rattle.std.proofs.Common.{ℕ, ◌<◌, List, [], ◌∷◌, ◌++◌, length, sym, subst, arith}
use Rattle.std.specs.Prelude.{ℤ, Result}
use Rattle.std.specs.List.{flat_map}
use Rattle.account_pictures.specs.declared.records.Identity.{Identity}
use Rattle.jiff_core.specs.declared.civil.datetime.DateTime.{DateTime}
use Rattle.site_asks.specs.declared.Draft.{Draft}
use Rattle.compose_drafts.specs.declared.DraftFault.{DraftFault}
use Rattle.compose_drafts.specs.declared.DraftFault.TheVariants as faults
use Rattle.compose_drafts.specs.declared.parties.Parties.{Parties}
use Rattle.compose_drafts.specs.Drafts.{FailsAs, IsSent, parties_of}
use Rattle.compose_drafts.specs.Message.{body, header, message}
use Rattle.compose_drafts.specs.Paragraphs.{coded, is_seven_bit}
use Rattle.compose_drafts.specs.Texts.{ended, line_end}
use Rattle.compose_drafts.specs.Recipients.{addresses_of}
use Rattle.draft_laws.proofs.Recipients.{shared_fault}

pub same_fault : (draft : Draft) (identity : Identity) (fault : DraftFault) → FailsAs fault (addresses_of draft) → FailsAs fault (parties_of draft identity)
same_fault draft identity faults.NoRecipient is = shared_fault draft identity faults.NoRecipient is
same_fault draft identity (faults.NotAddress field at) is = shared_fault draft identity (faults.NotAddress field at) is
same_fault draft identity (faults.Long bytes) is = shared_fault draft identity (faults.Long bytes) is
same_fault draft identity faults.Memory is = tt

-- ---- a message has bytes

some_more : (front rest : List ℕ) → 0 < length front → 0 < length (front ++ rest)
some_more [] rest some = absurd (omega (arith, some))
some_more (b ∷ front) rest some = omega arith

with_line_end : (front rest : List ℕ) → 0 < length (front ++ line_end ++ rest)
with_line_end [] rest = some_more line_end rest (omega arith)
with_line_end (b ∷ front) rest = omega arith

message_some : (draft : Draft) (parties : Parties) (clock : DateTime) → 0 < length (message draft parties clock)
unfolding message
message_some draft parties clock = with_line_end (flat_map ended (header draft parties clock (is_seven_bit (body draft)))) (coded (is_seven_bit (body draft)) (body draft))

pub letter_some : (draft : Draft) (read : Result Parties DraftFault) (moment : ℤ) (bytes : List ℕ) → IsSent draft read moment bytes → 0 < length bytes
letter_some draft read moment bytes is = subst (λ (l : List ℕ). 0 < length l) (sym is.built.bytes_are) (message_some draft is.parties is.built.clock)
