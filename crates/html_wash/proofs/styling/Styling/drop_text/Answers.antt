use Rattle.std.proofs.Common.{sym, ◌∙◌}
use Rattle.html_wash.specs.TextSeen.{following_seen}
use Rattle.html_wash.proofs.StylingLemmas.{begins_sheet, begins_other}
use Rattle.html_wash.proofs.styling.Styling.drop_text.Goals as goal

pub returns-then-branch : goal.returns-then-branch
returns-then-branch c =
    begins_sheet c.self.inside.rules c.self.inside.count (following_seen c.self.inside.text_use c.self.inside.text) c.new.result c.args.self.now c.args.tag.now.name c.args.tag.now.attributes
    (sym c.in_ok-is_sheet.ensures ∙ c.if-branch.true) c.new.ensures.bytes c.self.view_is

pub returns : goal.returns
returns c =
    begins_other c.self.inside.rules c.self.inside.count (following_seen c.self.inside.text_use c.self.inside.text) c.args.self.now c.args.tag.now.name c.args.tag.now.attributes
    (sym c.in_ok-is_sheet.ensures ∙ c.if-branch.false) c.self.view_is
