use Rattle.std.proofs.Common.{subst, sym, ap, ◌∙◌, rules, ◌+◌, ◌∷◌, length}
use Rattle.std.specs.Prelude.{◌≡◌, ℕ}
use Rattle.thread_references.specs.Counts.{IsMerging}
use Rattle.thread_references.proofs.CountLemmas.{goes, joins, under_holds}
use Rattle.thread_references.specs.Subjects.{Merging, join_under_new, put_under}
use Rattle.thread_references.proofs.subjects.Merger.merge_with.Goals as goal

pub returns-then-goes_under : goal.returns-then-goes_under
returns-then-goes_under g c =
    let h = c.args.headings.now in
    subst (λ m. IsMerging m c.put_under.new.self) (goes h c.args.subject.now c.args.root c.args.other g.merging c.requires.1 (sym c.goes_under.ensures ∙ c.if-goes_under.true))
    (under_holds g.merging c.args.other c.args.root c.args.self.now c.put_under.new.self c.requires.0 c.put_under.ensures.parents c.put_under.ensures.table)

pub returns : goal.returns
returns g c =
    let h = c.args.headings.now in
    let dummy : ℕ = length c.as_slice.result.now + c.args.other in
    let size : length c.as_slice.result.now ≡ length h.subjects = search rules in
    let entered : Merging = record { parents = g.merging.parents; table = (c.args.subject.now, dummy) ∷ g.merging.table } in
    let one = under_holds entered dummy c.args.other c.set_root.new.self c.put_under-2.new.self c.in_ok-set_root.ensures c.put_under-2.ensures.parents c.put_under-2.ensures.table in
    let two = under_holds (put_under dummy c.args.other entered) dummy c.args.root c.put_under-2.new.self c.put_under-3.new.self one c.put_under-3.ensures.parents c.put_under-3.ensures.table in
    subst (λ m. IsMerging m c.put_under-3.new.self)
    (ap (λ n. join_under_new (n + c.args.other) c.args.subject.now c.args.other c.args.root g.merging) size
    ∙ joins h c.args.subject.now c.args.root c.args.other g.merging c.requires.1 (sym c.goes_under.ensures ∙ c.if-goes_under.false)) two
