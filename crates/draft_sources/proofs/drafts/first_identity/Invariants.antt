use Rattle.std.proofs.Common.{◌≡◌, take}
use Rattle.std.specs.Prelude.{fold, min}
use Rattle.draft_sources.proofs.drafts.first_identity.Given as goal

abbrev pub invariant-loop-other : goal.invariant-loop-other
invariant-loop-other l = l.lowest ≡ fold (λ low other. min low other.0) l.initial.lowest (take l.other-index l.more)
