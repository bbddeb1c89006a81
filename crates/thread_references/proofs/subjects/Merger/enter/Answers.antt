use Rattle.std.proofs.Common.{subst, sym, rules, length}
use Rattle.std.specs.Prelude.{◌≡◌, ◌==◌, OnOk, get_or, true, false}
use Rattle.thread_references.specs.Subjects.{subject_of, replaces, root_for}
use Rattle.thread_references.specs.Counts.{IsMerging}
use Rattle.thread_references.proofs.CountLemmas.{entered_nothing, entered_not, entered}
use Rattle.thread_references.proofs.subjects.Merger.enter.Goals as goal

pub returns-then-is_empty : goal.returns-then-is_empty
returns-then-is_empty g c =
    let root = get_or c.args.roots.now c.args.i 0 in
    let h = c.args.headings.now in
    let empty : (length (subject_of h root) == 0) ≡ true = search (rules, c.subject-text.ensures) in
    subst (λ m. IsMerging m c.args.self.now) (sym (entered_nothing h root g.merging (subject_of h root) empty)) c.requires.0

pub returns-then-not-replaces : goal.returns-then-not-replaces
returns-then-not-replaces g c =
    let root = get_or c.args.roots.now c.args.i 0 in
    let h = c.args.headings.now in
    let stays : replaces h root (root_for g.merging.table (subject_of h root)) ≡ false = search (rules, c.subject-text.ensures) in
    subst (λ m. IsMerging m c.args.self.now) (sym (entered_not h root g.merging (subject_of h root) stays)) c.requires.0

pub returns : goal.returns
returns g c =
    let root = get_or c.args.roots.now c.args.i 0 in
    let h = c.args.headings.now in
    let some : (length (subject_of h root) == 0) ≡ false = search (rules, c.subject-text.ensures) in
    let goes : replaces h root (root_for g.merging.table (subject_of h root)) ≡ true = search (rules, c.subject-text.ensures) in
    subst (λ m. OnOk c.set_root.result (IsMerging m c.set_root.new.self)) (sym (entered h root g.merging (subject_of h root) some goes)) (search (rules, c.subject-text.ensures, c.set_root.ensures))
