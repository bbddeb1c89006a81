-- What contracts see in the code's values.
use Rattle.std.specs.Prelude.{ℕ, List, map, string_bytes}
use Rattle.std.specs.Borrow.{Bor}
use Rattle.style_rules.specs.Selectors.{Selector}
use Rattle.style_rules.specs.Selectors.Selector.{ByName, ByClass, ByBoth}
use Rattle.style_rules.specs.declared.selectors.Selector.{Selector as CodeSelector}
use Rattle.style_rules.specs.declared.selectors.Selector.TheVariants as code
use Rattle.style_rules.specs.Blocks.{Block}
use Rattle.style_rules.specs.Rules.{Entry, Rule}
use Rattle.style_rules.specs.declared.blocks.Block.{Block as CodeBlock}
use Rattle.style_rules.specs.declared.entries.Entry.{Entry as CodeEntry}
use Rattle.style_rules.specs.declared.rule_list.Rule.{Rule as CodeRule}

-- the texts of a table
abbrev pub texts_seen : List (Bor (List ℕ)) → List (List ℕ)
texts_seen texts = map (λ (text : Bor (List ℕ)). text.now) texts

abbrev pub selector_seen : CodeSelector → Selector
selector_seen (code.ByName name) = ByName name.now
selector_seen (code.ByClass class) = ByClass class.items
selector_seen (code.ByBoth name class) = ByBoth name.now class.items

abbrev pub block_seen : CodeBlock → Block
block_seen block = record { prelude = block.prelude.now; body = block.body.now }

abbrev pub entry_seen : CodeEntry → Entry
entry_seen entry = record { property = entry.property.items; text = string_bytes entry.text }

abbrev pub entries_seen : List CodeEntry → List Entry
entries_seen entries = map entry_seen entries

abbrev pub rule_seen : CodeRule → Rule
rule_seen rule = record { selector = selector_seen rule.selector; entries = entries_seen rule.entries.items }
