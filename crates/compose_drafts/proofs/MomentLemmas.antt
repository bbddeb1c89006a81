-- Moments and years as a call's arguments.
use mir.Val.{SFits, of_z, to_z}
use mir.Syntax.{w16, w64, w128}
use Rattle.std.proofs.Common.{◌≡◌, ℤ, pos, ap, ◌∙◌, subst, arith, ◌*ℤ◌}
use Rattle.std.specs.Prelude.{neg_ℤ}
use Rattle.std.proofs.lemmas.Int.{ints, to_z-of_z}
use Rattle.jiff_core.specs.Calendar.{IsBetween}
use Rattle.jiff_core.specs.Timestamp.{nanos_of_seconds}
use Rattle.compose_drafts.specs.Moments.{IsWritable}

pub nanos_are : (moment n : ℤ) → SFits w64 moment → n ≡ to_z w128 (of_z w128 (to_z w128 (of_z w128 (to_z w64 (of_z w64 moment))) *ℤ pos 1_000_000_000)) → n ≡ nanos_of_seconds moment
nanos_are moment n fits e =
    let wide : SFits w128 moment = omega (arith, ints) in
    let nanos : SFits w128 (moment *ℤ pos 1_000_000_000) = omega (arith, ints) in
    e ∙ ap (λ m. to_z w128 (of_z w128 (to_z w128 (of_z w128 m) *ℤ pos 1_000_000_000))) (to_z-of_z w64 moment fits)
    ∙ ap (λ m. to_z w128 (of_z w128 (m *ℤ pos 1_000_000_000))) (to_z-of_z w128 moment wide)
    ∙ to_z-of_z w128 (moment *ℤ pos 1_000_000_000) nanos

pub writable_is : (moment : ℤ) → SFits w64 moment → IsWritable (to_z w64 (of_z w64 moment)) → IsWritable moment
writable_is moment fits w = subst IsWritable (to_z-of_z w64 moment fits) w

pub year_is : (year : ℤ) → IsBetween (neg_ℤ (pos 9999)) (pos 9999) year → to_z w16 (of_z w16 year) ≡ year
year_is year within = to_z-of_z w16 year (omega (arith, ints, within.0, within.1))
