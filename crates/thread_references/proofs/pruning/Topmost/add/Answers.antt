use Rattle.std.proofs.Common.{◌<◌, length, get_or, refl, sym, ◌∙◌}
use Rattle.std.specs.Prelude.{None}
use Rattle.std.proofs.lemmas.List.Elements.{All-get_or}
use Rattle.thread_places.specs.declared.places.Place.{Place}
use Rattle.thread_references.proofs.CountLemmas.{counted}
use Rattle.thread_references.proofs.pruning.Topmost.add.Goals as goal

pub returns-then-not-is_some : goal.returns-then-not-is_some
returns-then-not-is_some c =
    let none : Place = record { above = None; top = 0 } in
    let place : Place = get_or c.args.places.now c.args.message none in
    let n = length c.args.self.now.counts.items in
    let inside = All-get_or (λ p. p.top < n) c.args.places.now c.args.message none c.requires.inside c.requires.tops in
    record {
      counted = counted n c.args.message c.args.places.now none place c.args.self.now c.count.new.self c.requires.inside refl (sym c.is_some.ensures ∙ c.if-not-is_some.true) inside c.requires.counted c.count.ensures.counts c.count.ensures.firsts;
    }
