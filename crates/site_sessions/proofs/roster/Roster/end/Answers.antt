use Rattle.std.proofs.Common.{rules, ◌≡◌, ◌<◌, ◌≤◌, None, length, get_or, ap, ◌∙◌}
use Rattle.std.proofs.lemmas.List.{get_or_default}
use Rattle.std.specs.Prelude.{option_and_then}
use Rattle.site_sessions.specs.Sessions.{ended}
use Rattle.site_sessions.proofs.Rosters.{changed_past, changed_within, ends_place}
use Rattle.site_sessions.proofs.roster.Roster.end.Goals as goal

pub invariant_of-self : goal.invariant_of-self
invariant_of-self g c =
    let here = c.self.inside in
    let within : c.args.place < length here.places.items = search rules in
    let new : c.end_at.new.place ≡ option_and_then (ended c.args.token.now) (get_or here.places.items c.args.place None) = c.end_at.ensures ∙ ap (option_and_then (ended c.args.token.now)) (c.index_mut.ensures.value ∙ get_or_default here.places.items c.args.place c.index_mut.result.now None within) in
    rw new (ends_place here.places.items here.slots.items c.args.place c.args.token.now None c.self.invariant within)

pub returns-then-place-len : goal.returns-then-place-len
returns-then-place-len g c =
    let here = c.self.inside in
    let within : c.args.place < length here.places.items = search rules in
    let new : c.end_at.new.place ≡ option_and_then (ended c.args.token.now) (get_or here.places.items c.args.place None) = c.end_at.ensures ∙ ap (option_and_then (ended c.args.token.now)) (c.index_mut.ensures.value ∙ get_or_default here.places.items c.args.place c.index_mut.result.now None within) in
    rw (← c.self.view_is, new) (changed_within here.places.items here.slots.items c.args.place (option_and_then (ended c.args.token.now)) None within)

pub returns-else-place-len : goal.returns-else-place-len
returns-else-place-len g c =
    let here = c.self.inside in
    let past : length here.places.items ≤ c.args.place = search rules in
    rw (← c.self.view_is) (changed_past here.places.items here.slots.items c.args.place (option_and_then (ended c.args.token.now)) past)
