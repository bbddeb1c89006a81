use Rattle.std.proofs.Common.{sym, ap, ◌++◌, ◌∙◌}
use Rattle.std.proofs.lemmas.Str.{encode_ascii}
use Rattle.flowed_text.proofs.LineCuts.{strip_first-kept}
use Rattle.flowed_text.proofs.lines.strip_first.Goals as goal

pub returns-in-None : goal.returns-in-None
returns-in-None c =
    strip_first-kept c.args.character c.args.text.now
    (λ rest e. c.in-None.ensures.cases rest (e ∙ ap (λ first. first ++ rest) (sym (encode_ascii c.args.character c.requires))))
