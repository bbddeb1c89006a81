use Rattle.std.proofs.Common.{◌≡◌, ◌++◌, length, map}
use Rattle.std.specs.Prelude.{string_bytes}
use Rattle.flowed_text.specs.Paragraphs.{paras_of}
use Rattle.draft_sources.specs.Lines.{text_of, para_line}
use Rattle.draft_sources.proofs.lines.push_paras.Given as goal

abbrev pub invariant-loop-para : goal.invariant-loop-para
invariant-loop-para l = string_bytes l.out ++ text_of l.quoting (map para_line l.paras) ≡ string_bytes l.fn.out ++ text_of l.quoting (map para_line (paras_of l.text l.del_sp))

abbrev pub decreases-loop-para : goal.decreases-loop-para
decreases-loop-para l = length l.paras
