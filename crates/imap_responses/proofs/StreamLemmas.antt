-- Responses taken one after another.
use Rattle.std.proofs.Common.{◌≡◌, ℕ, ◌+◌, ◌<◌, Bool, true, List, ◌++◌, length, take, drop, get_or, sym, ap, subst, ◌∙◌, append_assoc, Option, Some, None, Result, Ok, Err, inl, inr}
use Rattle.std.specs.Prelude.{IsSome}
use Rattle.std.specs.List.{concat}
use Rattle.std.specs.Global.{Vec}
use Rattle.imap_framing.specs.Units.{IsIncomplete}
use Rattle.imap_framing.specs.Cuts.{with_bytes}
use Rattle.imap_framing.specs.Streams.{SplitsStream, bytes_of_vecs}
use Rattle.imap_framing.proofs.StreamLemmas.{goes_on, ends_before, too_long_more, gives_less}
use Rattle.imap_framing.proofs.LawLemmas.{apart, open_none, long_none, open_not_long, once}
use Rattle.imap_responses.specs.declared.fault.ReadFault.{ReadFault}
use Rattle.imap_responses.specs.declared.fault.ReadFault.TheVariants.{Damaged, Memory}
use Rattle.imap_grammar.specs.Response.{ResponseData, response_of}
use Rattle.imap_responses.specs.ReaderStates.{ReaderState, IsResponse, IsDamage, GivesResponse, AdvancesReader}
use Rattle.imap_responses.specs.ResponseStreams.{TakesAllResponses, ReadsResponses, IsEnd}

abbrev is_ok : Bool → Result Bool ReadFault
is_ok more = Ok more

pub answers_of : (old new : ReaderState) (answer : Result Bool ReadFault) (more : Bool) → answer ≡ Ok more → more ≡ true → AdvancesReader old answer new → GivesResponse old new
answers_of old new answer more is test a = subst (λ (r : Result Bool ReadFault). AdvancesReader old r new) (is ∙ ap (λ (b : Bool). is_ok b) test) a

pub is_response : (old new : ReaderState) → GivesResponse old new → IsResponse new.cut.given
is_response old new a = (a.unit.unit, a.response)

pub damage_more : (rest later : List ℕ) → IsDamage rest → IsDamage (rest ++ later)
damage_more rest later damage = elim damage [
  | inl long ↦ inl (too_long_more rest later long)
  | inr b ↦ inr (record { unit = b.unit; more = b.more ++ later; whole = b.whole; none = b.none; begins = ap (λ (xs : List ℕ). xs ++ later) b.begins ∙ append_assoc b.unit b.more later })
]

pub stream_fails : (pieces : List (Vec ℕ)) (i : ℕ) (p : Vec ℕ) (r0 r1 r2 : ReaderState) (units0 units1 : List (List ℕ)) (e : ReadFault) → i < length pieces → p ≡ get_or pieces i p
    → SplitsStream IsResponse (concat (bytes_of_vecs (take i pieces))) units0 r0.cut.rest → r0.cut.at ≡ length (concat units0) → r1.cut ≡ with_bytes r0.cut p.items → TakesAllResponses r1 units0 (Err e) r2 units1 → ReadsResponses (concat (bytes_of_vecs pieces)) (Err e)
stream_fails pieces i p r0 r1 r2 units0 units1 Memory lt is split at was t = tt
stream_fails pieces i p r0 r1 r2 units0 units1 (Damaged there) lt is split at was t =
    let later = concat (bytes_of_vecs (drop (i + 1) pieces)) in
    let g = goes_on IsResponse (concat (bytes_of_vecs (take i pieces))) p.items r0.cut r1.cut r2.cut units0 units1 split at was t.0 in
    (units1, r2.cut.rest ++ later, ends_before IsResponse pieces i p units1 r2.cut lt is g, damage_more r2.cut.rest later t.1, t.2 ∙ g.at)

-- ---- laws

some_not_none : (o : Option ResponseData) → IsSome o → o ≡ None → ⊥
some_not_none None s e = absurd cc
some_not_none (Some x) s e = cc

damage_none : (unit more : List ℕ) → IsResponse unit → IsDamage (unit ++ more) → ⊥
damage_none unit more u damage = elim damage [
  | inl long ↦ long_none unit more u.0 long
  | inr b ↦ some_not_none (response_of unit) u.1 (ap response_of (apart unit b.unit more b.more u.0 b.whole b.begins).0 ∙ b.none)
]

end_none : (unit more : List ℕ) → IsResponse unit → IsEnd (unit ++ more) → ⊥
end_none unit more u end = elim end [
  | inl o ↦ open_none unit more u.0 o
  | inr d ↦ damage_none unit more u d
]

pub splits_once : (bytes : List ℕ) (us vs : List (List ℕ)) (r q : List ℕ) → SplitsStream IsResponse bytes us r → IsEnd r → SplitsStream IsResponse bytes vs q → IsEnd q → (us ≡ vs) × (r ≡ q)
splits_once bytes us vs r q a er b eq = once IsResponse IsEnd (λ unit is. is.0) (λ unit more u end. end_none unit more u end) us vs r q (sym a.whole ∙ b.whole) a.each b.each er eq

pub ends_apart : (rest : List ℕ) → IsIncomplete rest → IsDamage rest → ⊥
ends_apart rest open_rest damage = elim damage [
  | inl long ↦ open_not_long rest open_rest long
  | inr b ↦ open_none b.unit b.more b.whole (subst IsIncomplete b.begins open_rest)
]

-- each response has bytes: the measure of a loop over responses
pub answered_less : (old new : ReaderState) (answer : Result Bool ReadFault) (more : Bool) → answer ≡ Ok more → more ≡ true → AdvancesReader old answer new → length new.cut.rest < length old.cut.rest
answered_less old new answer more is test a = gives_less old.cut new.cut (answers_of old new answer more is test a).unit
