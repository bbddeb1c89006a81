use mir.Syntax.{w64}
use Rattle.std.proofs.Common.{subst}
use Rattle.std.proofs.lemmas.Int.{to_z-of_z}
use Rattle.compose_drafts.specs.Drafts.{IsMessage, saved_parties_of}
use Rattle.compose_drafts.proofs.Carried.{built_carries}
use Rattle.compose_drafts.proofs.MessageLines.{built_lines, saved_lines}
use Rattle.compose_drafts.proofs.building.build_draft.Goals as goal

pub returns-clause-equals : goal.returns-clause-equals
returns-clause-equals c = record {
  parties = c.in_ok-parties.parties;
  parties_are = c.in_ok-parties.ensures;
  built = subst (λ m. IsMessage c.args.draft.now c.in_ok-parties.parties m c.in_ok-bytes.bytes.items) (to_z-of_z w64 c.args.moment c.ranges.moment) c.in_ok-bytes.ensures.equals;
}

pub returns-clause-lines : goal.returns-clause-lines
returns-clause-lines c =
    built_lines c.args.draft.now (saved_parties_of c.args.draft.now c.args.identity.now) c.in_ok-parties.parties _ c.in_ok-bytes.bytes.items (saved_lines c.args.draft.now c.args.identity.now) c.in_ok-parties.ensures c.in_ok-bytes.ensures.equals

pub returns-clause-body : goal.returns-clause-body
returns-clause-body c =
    built_carries c.args.draft.now (saved_parties_of c.args.draft.now c.args.identity.now) c.in_ok-parties.parties _ c.in_ok-bytes.bytes.items (saved_lines c.args.draft.now c.args.identity.now) c.in_ok-parties.ensures c.in_ok-bytes.ensures.equals c.in_ok-bytes.ensures.body
