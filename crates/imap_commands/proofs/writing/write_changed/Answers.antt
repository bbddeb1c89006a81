use Rattle.std.proofs.Common.{◌∙◌, ◌∷◌, codes, decimal}
use Rattle.imap_commands.specs.Pieces.Part.{Words}
use Rattle.imap_commands.proofs.writing.write_changed.Goals as goal

pub returns : goal.returns
returns c = λ more.
    c.in_ok-push_words-2.ensures more
    ∙ c.in_ok-push_number.ensures (Words (codes " VANISHED)") ∷ more)
    ∙ c.in_ok-push_words.ensures (Words (decimal c.args.mark) ∷ Words (codes " VANISHED)") ∷ more)
