use Rattle.std.proofs.Common.{rules, ◌≡◌, length, map, ap, sym, ◌∙◌, to_z, of_z, w64}
use Rattle.std.proofs.lemmas.List.{length-map}
use Rattle.site_sessions.specs.Entering.{unless_idle}
use Rattle.site_sessions.proofs.Positions.{refilled}
use Rattle.site_sessions.proofs.Rosters.{ends_idle, without_idle_is}
use Rattle.site_sessions.proofs.roster.Roster.end_idle.Goals as goal

pub invariant_of-self : goal.invariant_of-self
invariant_of-self g c =
    let here = c.self.inside in
    let plain : to_z w64 (of_z w64 c.args.now) ≡ c.args.now = search rules in
    let new : c.end_idle.new.places ≡ map (unless_idle c.args.now) here.places.items = c.end_idle.ensures ∙ ap (λ now. map (unless_idle now) c.deref_mut.result.now) plain ∙ ap (map (unless_idle c.args.now)) c.deref_mut.ensures.value in
    let sized : here.places.len ≡ length here.places.items = search rules in
    let size : here.places.len ≡ length c.end_idle.new.places = sized ∙ rw new (sym (length-map here.places.items (unless_idle c.args.now))) in
    rw (refilled here.places.len c.end_idle.new.places here.places.items size, new) (ends_idle here.places.items here.slots.items c.args.now c.self.invariant)

pub returns : goal.returns
returns g c =
    let here = c.self.inside in
    let plain : to_z w64 (of_z w64 c.args.now) ≡ c.args.now = search rules in
    let new : c.end_idle.new.places ≡ map (unless_idle c.args.now) here.places.items = c.end_idle.ensures ∙ ap (λ now. map (unless_idle now) c.deref_mut.result.now) plain ∙ ap (map (unless_idle c.args.now)) c.deref_mut.ensures.value in
    let sized : here.places.len ≡ length here.places.items = search rules in
    let size : here.places.len ≡ length c.end_idle.new.places = sized ∙ rw new (sym (length-map here.places.items (unless_idle c.args.now))) in
    rw (← c.self.view_is, refilled here.places.len c.end_idle.new.places here.places.items size, new) (without_idle_is here.places.items here.slots.items c.args.now)
