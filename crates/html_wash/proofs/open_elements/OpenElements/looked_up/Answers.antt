use Rattle.std.proofs.Common.{sym, ap, ◌∙◌}
use Rattle.html_syntax.specs.Tokenizer.{is_among}
use Rattle.html_wash.specs.Elements.{name_of}
use Rattle.html_wash.specs.Seen.{lookup_of, stack}
use Rattle.html_wash.proofs.Reversed.{first_le, looked_up_in}
use Rattle.html_wash.proofs.OpenFlags.{looked_up_absent}
use Rattle.html_wash.proofs.open_elements.OpenElements.looked_up.Goals as goal

pub overflow_sub-result : goal.overflow_sub-result
overflow_sub-result c = first_le (λ e. is_among (lookup_of c.args.kind).closes (name_of e)) _ c.outermost.result c.outermost.ensures

pub returns : goal.returns
returns c = looked_up_in (lookup_of c.args.kind) c.as_slice-elements.result.now c.args.self.now c.region_start.result c.outermost.result (ap stack c.as_slice-elements.ensures.value ∙ c.self.view_is) c.region_start.ensures c.outermost.ensures

pub returns-then-not-may_close : goal.returns-then-not-may_close
returns-then-not-may_close c = sym (looked_up_absent (lookup_of c.args.kind) c.args.self.now (c.may_close.ensures c.if-not-may_close.true))
