use Rattle.std.proofs.Common.{◌≡◌, ◌∙◌, ◌≤◌, ◌+◌, sym, subst, ap, refl, arith}
use mathlib.Core.List.{IsPrefix}
use Rattle.account_pictures.specs.Story.{story_of}
use Rattle.turn_desk.specs.Views.{Seen, MakesTurn, merge_seen, seen_of}
use Rattle.turn_desk.proofs.Prefixes.{prefix_trans, prefix_of_take}
use Rattle.turn_desk.proofs.Turns.{shown_turn_is_made}
use Rattle.turn_desk.proofs.locked.Locked.turn.Goals as goal

pub note-requires-clause-lengthens : goal.note-requires-clause-lengthens
note-requires-clause-lengthens g c =
    let picture = g.T.Storied.picture in
    let home = c.args.self.now.home.me.0.story in
    let start = story_of (picture c.args.self.now.inner) in
    let end = story_of (picture c.run-out.new.inner) in
    subst (λ story. IsPrefix story end) (sym c.take_in.ensures.stays.story)
    (prefix_trans home start end (prefix_of_take home start c.args.self.now.told) c.run-out.ensures.lengthens)

pub returns-clause-makes_turn : goal.returns-clause-makes_turn
returns-clause-makes_turn g c =
    let picture = g.T.Storied.picture in
    let old = c.args.pass.now in
    let home = c.args.self.now.home.me.0.story in
    let number = c.take_in.ensures.stays.turn ∙ c.args.self.now.counted in
    let made : Seen = record { desk = c.args.self.now.number; turn = c.args.self.now.turns + 1; story = story_of (picture c.run-out.new.inner); opened = picture c.args.self.now.inner; closed = picture c.run-out.new.inner } in
    let noted : seen_of old.desk c.note.new.home.me.0 ≡ made = ap (λ m. seen_of old.desk m.0) c.note.ensures.notes ∙ (λ k. record { desk = c.requires.desk k; turn = number k + 1; story = story_of (picture c.run-out.new.inner); opened = picture (c.of-before.ensures k); closed = picture c.run-out.new.inner }) in
    let unchanged : c.take_in.new.pass ≡ old = c.take_in.ensures.unchanged in
    let shown : c.show.new.pass ≡ merge_seen old made = c.show.ensures.merges ∙ ((λ k. merge_seen (unchanged k) (seen_of (unchanged k).desk c.note.new.home.me.0)) ∙ ap (λ x. merge_seen old x) noted) in
    let less : old.turn ≤ c.args.self.now.turns = subst (λ n. old.turn ≤ n) c.args.self.now.counted c.take_in.ensures.turn in
    subst (λ x. MakesTurn old x (c.args.self.now.turns + 1)) (sym shown)
    (shown_turn_is_made old made home (omega arith) c.take_in.ensures.story
    (prefix_of_take home (story_of (picture c.args.self.now.inner)) c.args.self.now.told) c.run-out.ensures.lengthens refl)
