use Rattle.std.proofs.Common.{sym, ap, ◌++◌, ◌∙◌}
use Rattle.std.proofs.lemmas.Str.{encode_ascii}
use Rattle.mail_addresses.proofs.Cuts.{strip-none}
use Rattle.mail_addresses.proofs.runs.strip_byte.Goals as goal

pub returns-in-None : goal.returns-in-None
returns-in-None c =
    strip-none c.args.byte c.args.text.now
    (λ rest e. c.in-None.ensures.cases rest (e ∙ ap (λ first. first ++ rest) (sym (encode_ascii c.args.byte c.requires))))
