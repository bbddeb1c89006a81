use Rattle.std.proofs.Common.{subst, ap, ◌∙◌, arith, List, ℕ, map}
use Rattle.std.specs.Prelude.{string_bytes}
use Rattle.std.specs.Borrow.{Bor}
use Rattle.style_rules.specs.Cascade.{entries_of, has_class, joined}
use Rattle.style_rules.specs.Seen.{rule_seen}
use Rattle.style_rules.specs.Steps.{AreRight, before_later, found, has_of, is_in_group}
use Rattle.style_rules.specs.declared.entries.Entry.{Entry as CodeEntry}
use Rattle.style_rules.specs.declared.cascade.Group.TheVariants as group
use Rattle.style_rules.proofs.Words.{right_entries}
use Rattle.style_rules.proofs.Last.{declared_is, found_all, limit_fits, limit_over}
use Rattle.style_rules.proofs.cascade.declared.Goals as goal

pub returns-then-len-gt-DECLARED_LIMIT : goal.returns-then-len-gt-DECLARED_LIMIT
returns-then-len-gt-DECLARED_LIMIT c =
    let rules = map rule_seen c.args.rules.now in
    let name = c.args.name.now in
    let has = has_of c.in_ok-classes.classes in
    let both = c.in_ok-add_group.ensures ∙ ap (λ (items : List (Bor CodeEntry)). before_later (entries_of (is_in_group group.Both name has) rules) (found items)) c.new-last.ensures.items in
    let classes = c.args.classes.now in
    let right : AreRight c.in_ok-classes.classes classes rules = subst (λ (t : List ℕ). AreRight c.in_ok-classes.classes t rules) c.as_bytes.ensures.value c.in_ok-classes.ensures in
    let all = found_all rules name (has_class classes) _ _ _ _ _ (right_entries group.Both name c.in_ok-classes.classes classes rules right) (right_entries group.Class name c.in_ok-classes.classes classes rules right) both c.in_ok-add_group-2.ensures c.in_ok-add_group-3.ensures in
    c.new.ensures.bytes ∙ limit_over (string_bytes c.in_ok-style.style) (omega (arith, c.if-len-gt-DECLARED_LIMIT.true, c.len.ensures))
    ∙ declared_is rules name c.args.classes.now _ _ all (c.in_ok-style.ensures ∙ ap (λ (items : List (Bor CodeEntry)). joined (found items)) c.deref.ensures.value)

pub returns : goal.returns
returns c =
    let rules = map rule_seen c.args.rules.now in
    let name = c.args.name.now in
    let has = has_of c.in_ok-classes.classes in
    let both = c.in_ok-add_group.ensures ∙ ap (λ (items : List (Bor CodeEntry)). before_later (entries_of (is_in_group group.Both name has) rules) (found items)) c.new-last.ensures.items in
    let classes = c.args.classes.now in
    let right : AreRight c.in_ok-classes.classes classes rules = subst (λ (t : List ℕ). AreRight c.in_ok-classes.classes t rules) c.as_bytes.ensures.value c.in_ok-classes.ensures in
    let all = found_all rules name (has_class classes) _ _ _ _ _ (right_entries group.Both name c.in_ok-classes.classes classes rules right) (right_entries group.Class name c.in_ok-classes.classes classes rules right) both c.in_ok-add_group-2.ensures c.in_ok-add_group-3.ensures in
    limit_fits (string_bytes c.in_ok-style.style) (omega (arith, c.if-len-gt-DECLARED_LIMIT.false, c.len.ensures))
    ∙ declared_is rules name c.args.classes.now _ _ all (c.in_ok-style.ensures ∙ ap (λ (items : List (Bor CodeEntry)). joined (found items)) c.deref.ensures.value)
