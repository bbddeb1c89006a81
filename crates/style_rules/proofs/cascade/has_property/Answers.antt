use Rattle.std.proofs.Common.{sym, ap, ◌∙◌, map, List, ℕ}
use Rattle.std.specs.Borrow.{Bor}
use Rattle.std.specs.Str.{bytes_eq}
use Rattle.style_rules.specs.Rules.{Entry}
use Rattle.style_rules.specs.Seen.{entry_seen}
use Rattle.style_rules.specs.declared.entries.Entry.{Entry as CodeEntry}
use Rattle.style_rules.proofs.Last.{any_first, any_none, any_reverse}
use Rattle.style_rules.proofs.cascade.has_property.Goals as goal

pub returns-then-eq : goal.returns-then-eq
returns-then-eq c =
    any_first c.loop-rest.rest.now c.entry-item.result c.args.property.now c.in-len1-up.len_at_least c.entry-item.is (ap (λ (t : List ℕ). bytes_eq t c.args.property.now) (sym c.as_slice.ensures.value) ∙ sym c.if-eq.ensures)
    ∙ c.loop-rest.invariant ∙ sym (any_reverse (λ (e : Entry). bytes_eq e.property c.args.property.now) (map (λ (e : Bor CodeEntry). entry_seen e.now) c.args.last.now))

pub returns : goal.returns
returns c =
    any_none c.loop-rest.rest.now c.args.property.now c.in_default.len_below
    ∙ c.loop-rest.invariant ∙ sym (any_reverse (λ (e : Entry). bytes_eq e.property c.args.property.now) (map (λ (e : Bor CodeEntry). entry_seen e.now) c.args.last.now))
