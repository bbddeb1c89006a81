use Rattle.std.proofs.Common.{rules, ◌≡◌, [], sym, ◌∙◌}
use Rattle.imap_commands.specs.UidSets.{in_range}
use Rattle.mailbox_rows.specs.Rows.{without}
use Rattle.mailbox_rows.proofs.RowLemmas.{never_without, none_between_ends, backwards}
use Rattle.mailbox_rows.proofs.row_map.RowMap.first_in.Goals as goal

pub returns-then-range-clause-none : goal.returns-then-range-clause-none
returns-then-range-clause-none c = never_without _ c.args.self.now (λ uid. backwards c.args.range uid c.if-range.true)

pub returns-in_err-uid-clause-none : goal.returns-in_err-uid-clause-none
returns-in_err-uid-clause-none c =
    let none : c.range.result ≡ [] = search rules in
    let kept = none_between_ends _ _ c.args.range c.self.inside.rows.entries c.new.ensures.start c.new.ensures.end (sym (c.range.ensures.between (search rules)) ∙ none) in
    let all : without (λ uid. in_range uid c.args.range) c.args.self.now ≡ c.args.self.now = rw (← c.self.view_is) kept in
    search rules
