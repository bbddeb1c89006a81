use Rattle.std.proofs.Common.{◌∙◌, ◌∷◌, decimal}
use Rattle.imap_commands.specs.Pieces.Part.{Words}
use Rattle.imap_commands.proofs.writing.write_expunge.Goals as goal

pub returns : goal.returns
returns c = λ more.
    c.in_ok-push_u32.ensures more
    ∙ c.in_ok-push_words.ensures (Words (decimal c.args.uid) ∷ more)
