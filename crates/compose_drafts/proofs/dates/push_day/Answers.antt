use Rattle.std.proofs.Common.{◌++◌, ap, ◌∙◌}
use Rattle.std.specs.Prelude.{unsigned_abs}
use Rattle.jiff_fmt.specs.Rfc2822.{month_text}
use Rattle.jiff_fmt.specs.Text.{pad2, pad4}
use Rattle.compose_drafts.proofs.MomentLemmas.{year_is}
use Rattle.compose_drafts.proofs.Steps.{three_parts}
use Rattle.compose_drafts.proofs.dates.push_day.Goals as goal

pub returns : goal.returns
returns c =
    three_parts c.args.out.now.items c.push_pad2.new.out.items c.extend_from_slice.new.self.items c.extend_from_slice-2.new.self.items c.extend_from_slice-3.new.self.items c.push_pad4.new.out.items
    (pad2 c.args.date.day) (month_text c.args.date.month) (pad4 (unsigned_abs c.args.date.year))
    c.in_ok-push_pad2.ensures c.in_ok-extend_from_slice.ensures.items
    (c.in_ok-extend_from_slice-2.ensures.items ∙ ap (λ m. c.extend_from_slice.new.self.items ++ m) c.month_name.ensures)
    c.in_ok-extend_from_slice-3.ensures.items
    (c.in_ok-push_pad4.ensures ∙ ap (λ n. c.extend_from_slice-3.new.self.items ++ pad4 n) c.unsigned_abs.ensures.value
    ∙ ap (λ n. c.extend_from_slice-3.new.self.items ++ pad4 (unsigned_abs n)) (year_is c.args.date.year c.args.date.year_in))
