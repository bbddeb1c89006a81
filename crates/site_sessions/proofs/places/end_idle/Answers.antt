use Rattle.std.proofs.Common.{rules, ◌≡◌, ◌<◌, ◌∙◌, length, get_or, ap, None, to_z, of_z, w64}
use Rattle.std.proofs.lemmas.List.{get_or_default}
use Rattle.site_sessions.specs.Entering.{unless_idle}
use Rattle.site_sessions.proofs.Positions.{map_next, unchanged_next}
use Rattle.site_sessions.proofs.places.end_idle.Goals as goal

pub loop-i-preserved : goal.loop-i-preserved
loop-i-preserved g c =
    let places = c.args.places.now in
    let change = unless_idle c.args.now.now in
    let plain : to_z w64 (of_z w64 c.args.now.now) ≡ c.args.now.now = search rules in
    let within : c.loop-i.i < length places = search rules in
    let inside : c.loop-i.i < length c.loop-i.places = search rules in
    let before : get_or c.loop-i.places c.loop-i.i None ≡ get_or places c.loop-i.i None = ap (λ ps. get_or ps c.loop-i.i None) c.loop-i.invariant ∙ unchanged_next change places c.loop-i.i None within in
    let new : c.end_if_idle.new.place ≡ change (get_or places c.loop-i.i None) = c.end_if_idle.ensures ∙ ap (λ now. unless_idle now (get_or c.loop-i.places c.loop-i.i c.index-places-i.result)) plain ∙ ap change (get_or_default c.loop-i.places c.loop-i.i c.index-places-i.result None inside ∙ before) in
    rw (new, c.loop-i.invariant) (map_next change places c.loop-i.i None within)
