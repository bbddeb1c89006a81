use Rattle.std.proofs.Common.{sym, ap, ◌∙◌, take}
use Rattle.header_words.specs.Fields.{name_of}
use Rattle.header_words.proofs.WholeLines.{raw_name}
use Rattle.header_words.proofs.header.Field.name.Goals as goal

pub returns : goal.returns
returns c =
    ap (λ n. take n c.first_line.result.0.now) c.colon_of.ensures ∙ ap name_of c.first_line.ensures.text
    ∙ sym (raw_name c.self.inside.raw.now) ∙ ap (λ f. f.name) c.self.view_is
