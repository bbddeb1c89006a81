use Rattle.std.proofs.Common.{subst, sym, rules, length}
use Rattle.std.specs.Prelude.{◌≡◌, ◌==◌, OnOk, get_or, true, false, Some, None}
use Rattle.thread_references.specs.Subjects.{subject_of, root_for, merge_with}
use Rattle.thread_references.specs.Counts.{IsMerging}
use Rattle.thread_references.proofs.CountLemmas.{merged_nothing, merged_alone, merged_own, merged}
use Rattle.thread_references.proofs.subjects.Merger.merge.Goals as goal

pub returns-then-is_empty : goal.returns-then-is_empty
returns-then-is_empty g c =
    let root = get_or c.args.roots.now c.args.i 0 in
    let h = c.args.headings.now in
    let empty : (length (subject_of h root) == 0) ≡ true = search (rules, c.subject-subject.ensures) in
    subst (λ m. IsMerging m c.args.self.now) (sym (merged_nothing h root g.merging (subject_of h root) empty)) c.requires.0

pub returns-in_default : goal.returns-in_default
returns-in_default g c =
    let root = get_or c.args.roots.now c.args.i 0 in
    let h = c.args.headings.now in
    let none : root_for g.merging.table (subject_of h root) ≡ None = search (rules, c.subject-subject.ensures) in
    subst (λ m. IsMerging m c.args.self.now) (sym (merged_alone h root g.merging (subject_of h root) none)) c.requires.0

pub returns-then-other-root : goal.returns-then-other-root
returns-then-other-root g c =
    let root = get_or c.args.roots.now c.args.i 0 in
    let h = c.args.headings.now in
    let there : root_for g.merging.table (subject_of h root) ≡ Some c.in-Some.other = search (rules, c.subject-subject.ensures) in
    subst (λ m. IsMerging m c.args.self.now) (sym (merged_own h root c.in-Some.other g.merging (subject_of h root) there c.if-other-root.true)) c.requires.0

pub returns : goal.returns
returns g c =
    let root = get_or c.args.roots.now c.args.i 0 in
    let h = c.args.headings.now in
    let some : (length (subject_of h root) == 0) ≡ false = search (rules, c.subject-subject.ensures) in
    let there : root_for g.merging.table (subject_of h root) ≡ Some c.in-Some.other = search (rules, c.subject-subject.ensures) in
    subst (λ m. OnOk c.merge_with.result (IsMerging m c.merge_with.new.self)) (merged h root c.in-Some.other g.merging (subject_of h root) some there)
    (subst (λ t. OnOk c.merge_with.result (IsMerging (merge_with h t root g.merging (Some c.in-Some.other)) c.merge_with.new.self)) c.subject-subject.ensures c.merge_with.ensures)
