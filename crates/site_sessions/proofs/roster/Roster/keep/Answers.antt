use Rattle.std.proofs.Common.{rules, ◌≡◌, ◌<◌, ◌≤◌, None, length, get_or, ap, ◌∙◌, to_z, of_z, w64}
use Rattle.std.proofs.lemmas.List.{get_or_default}
use Rattle.std.specs.Prelude.{option_map}
use Rattle.site_sessions.specs.Sessions.{kept}
use Rattle.site_sessions.proofs.Rosters.{changed_past, changed_within, keeps_place}
use Rattle.site_sessions.proofs.roster.Roster.keep.Goals as goal

pub invariant_of-self : goal.invariant_of-self
invariant_of-self g c =
    let here = c.self.inside in
    let within : c.args.place < length here.places.items = search rules in
    let plain : to_z w64 (of_z w64 c.args.now) ≡ c.args.now = search rules in
    let new : c.keep_at.new.place ≡ option_map (kept c.args.token.now c.args.now c.args.pass) (get_or here.places.items c.args.place None) = c.keep_at.ensures ∙ ap (λ now. option_map (kept c.args.token.now now c.args.pass) c.index_mut.result.now) plain ∙ ap (option_map (kept c.args.token.now c.args.now c.args.pass)) (c.index_mut.ensures.value ∙ get_or_default here.places.items c.args.place c.index_mut.result.now None within) in
    rw new (keeps_place here.places.items here.slots.items c.args.place c.args.token.now c.args.now c.args.pass None c.self.invariant within)

pub returns-then-place-len : goal.returns-then-place-len
returns-then-place-len g c =
    let here = c.self.inside in
    let within : c.args.place < length here.places.items = search rules in
    let plain : to_z w64 (of_z w64 c.args.now) ≡ c.args.now = search rules in
    let new : c.keep_at.new.place ≡ option_map (kept c.args.token.now c.args.now c.args.pass) (get_or here.places.items c.args.place None) = c.keep_at.ensures ∙ ap (λ now. option_map (kept c.args.token.now now c.args.pass) c.index_mut.result.now) plain ∙ ap (option_map (kept c.args.token.now c.args.now c.args.pass)) (c.index_mut.ensures.value ∙ get_or_default here.places.items c.args.place c.index_mut.result.now None within) in
    rw (← c.self.view_is, new) (changed_within here.places.items here.slots.items c.args.place (option_map (kept c.args.token.now c.args.now c.args.pass)) None within)

pub returns-else-place-len : goal.returns-else-place-len
returns-else-place-len g c =
    let here = c.self.inside in
    let past : length here.places.items ≤ c.args.place = search rules in
    rw (← c.self.view_is) (changed_past here.places.items here.slots.items c.args.place (option_map (kept c.args.token.now c.args.now c.args.pass)) past)
