use Rattle.std.proofs.Common.{◌≤◌, ◌∙◌, ap, subst}
use Rattle.std.specs.List.{All}
use mathlib.Core.List.{IsPrefix}
use Rattle.turn_desk.specs.Views.{Seen, HasSeen}
use Rattle.turn_desk.proofs.Agreement.{has_seen_home}
use Rattle.turn_desk.proofs.locked.take_in.Goals as goal

pub returns-clause-turn : goal.returns-clause-turn
returns-clause-turn g c =
    let home = c.args.home.now.me.0 in
    let copy = c.into_seat.result.me.0 in
    let seen = has_seen_home home copy c.requires.is_home (subst (λ v. All (HasSeen v) v.met) (ap (λ m. m.0) c.meet.ensures.merges) c.tell.ensures.seen) in
    subst (λ (s : Seen). s.turn ≤ home.turn) (c.into_seat.ensures.seen ∙ c.copy-copy.ensures.equals) seen.0

pub returns-clause-story : goal.returns-clause-story
returns-clause-story g c =
    let home = c.args.home.now.me.0 in
    let copy = c.into_seat.result.me.0 in
    let seen = has_seen_home home copy c.requires.is_home (subst (λ v. All (HasSeen v) v.met) (ap (λ m. m.0) c.meet.ensures.merges) c.tell.ensures.seen) in
    subst (λ (s : Seen). IsPrefix s.story home.story) (c.into_seat.ensures.seen ∙ c.copy-copy.ensures.equals) seen.1
