use Rattle.std.proofs.Common.{sym, ap, ◌∙◌, arith, List, ℕ, ◌++◌}
use Rattle.std.specs.Prelude.{string_bytes}
use Rattle.std.specs.Borrow.{Bor}
use Rattle.style_rules.specs.Seen.{entry_seen}
use Rattle.style_rules.specs.declared.entries.Entry.{Entry as CodeEntry}
use Rattle.style_rules.proofs.Last.{join_between, join_first}
use Rattle.style_rules.proofs.cascade.join.Goals as goal
use Rattle.style_rules.proofs.cascade.join.Goals.{then-at-last+in_ok-push_str, else-at-last}

pub loop-at-preserved : goal.loop-at-preserved
loop-at-preserved c =
    let added = c.in_ok-push_str-2.ensures.bytes ∙ ap (λ (t : List ℕ). string_bytes c.if-at-last.style ++ t) (c.as_str.ensures.value ∙ ap (λ (e : Bor CodeEntry). (entry_seen e.now).text) (sym c.index-last-at.is)) in
    record {
      written = elim c.if-at-last.branch [
        | then-at-last+in_ok-push_str w ↦ join_between c.args.last.now c.loop-at.at c.index-last-at.result (string_bytes c.loop-at.style) (string_bytes c.if-at-last.style) _ c.loop-at-test.true (omega (arith, w.if-at-last.true)) c.index-last-at.is c.loop-at.invariant.written (ap string_bytes w.style-is ∙ w.in_ok-push_str.ensures.bytes) added
        | else-at-last w ↦ join_first c.args.last.now c.loop-at.at c.index-last-at.result (string_bytes c.loop-at.style) (string_bytes c.if-at-last.style) _ c.loop-at-test.true (omega (arith, w.if-at-last.false, c.loop-at.invariant.within)) c.index-last-at.is c.loop-at.invariant.written (ap string_bytes w.style-is) added
      ];
      within = omega (arith, c.loop-at.invariant.within);
    }
