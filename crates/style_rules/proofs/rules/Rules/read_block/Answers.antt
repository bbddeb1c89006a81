use Rattle.std.proofs.Common.{sym, ap, ◌∙◌, refl, map, List, ℕ}
use Rattle.style_rules.specs.Rules.{entry_of, is_rule_style, rules_of_block, with_rules}
use Rattle.std.specs.List.{slice_split}
use Rattle.std.proofs.lemmas.Result.{on_ok_weaker}
use Rattle.style_wash.specs.Characters.{is_comma}
use Rattle.style_wash.specs.Declarations.{declarations}
use Rattle.style_rules.specs.Seen.{block_seen}
use Rattle.style_rules.proofs.RuleSteps.{with_full, no_rules, no_style, texts_rules, some_rules}
use Rattle.style_rules.proofs.rules.Rules.read_block.Goals as goal

pub returns-then-is_full : goal.returns-then-is_full
returns-then-is_full c = sym (with_full c.args.self.now (rules_of_block (block_seen c.args.block)) (c.if-is_full.ensures.full refl))

pub returns-then-has_no_rules : goal.returns-then-has_no_rules
returns-then-has_no_rules c = no_rules c.args.self.now (block_seen c.args.block) (sym c.if-has_no_rules.ensures)

pub returns-then-not-is_rule_style : goal.returns-then-not-is_rule_style
returns-then-not-is_rule_style c = no_style c.args.self.now (block_seen c.args.block) c.as_str.result.now (sym c.if-has_no_rules.ensures) (c.as_str.ensures.value ∙ c.in_ok-style.ensures.equals) (sym c.if-not-is_rule_style.ensures)

pub returns : goal.returns
returns c = on_ok_weaker c.add_rules.result (λ e.
    some_rules c.args.self.now c.add_rules.new.self (block_seen c.args.block) c.as_str-2.result.now (sym c.if-has_no_rules.ensures) (c.as_str-2.ensures.value ∙ c.in_ok-style.ensures.equals)
    (ap is_rule_style (c.as_str-2.ensures.value ∙ sym c.as_str.ensures.value) ∙ sym c.if-not-is_rule_style.ensures) (e ∙ ap (λ (t : List ℕ). with_rules c.args.self.now (texts_rules (map entry_of (declarations c.as_str-2.result.now)) (slice_split is_comma t))) c.selectors.ensures)) c.add_rules.ensures
