use Rattle.std.proofs.Common.{◌∙◌, codes, sym, refl}
use Rattle.html_rules.specs.Tables.{kind_of, value_kind_rows}
use Rattle.html_rules.specs.declared.ValueKind.TheVariants.{Style, Link, Source}
use Rattle.wash_attributes.proofs.ListedNames.{kind_by_name}
use Rattle.wash_attributes.proofs.names.frequent_kind.Goals as goal

pub returns-then-eq : goal.returns-then-eq
unfolding kind_of value_kind_rows
returns-then-eq c = kind_by_name c.args.name.now (codes "style") Style (sym c.eq.ensures ∙ c.if-eq.true) refl

pub returns-then-eq-2 : goal.returns-then-eq-2
unfolding kind_of value_kind_rows
returns-then-eq-2 c = kind_by_name c.args.name.now (codes "href") Link (sym c.eq-2.ensures ∙ c.if-eq-2.true) refl

pub returns-then-eq-3 : goal.returns-then-eq-3
unfolding kind_of value_kind_rows
returns-then-eq-3 c = kind_by_name c.args.name.now (codes "src") Source (sym c.eq-3.ensures ∙ c.if-eq-3.true) refl
