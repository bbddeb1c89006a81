use Rattle.std.proofs.Common.{◌∙◌, ◌∷◌, codes, decimal}
use Rattle.imap_commands.specs.Pieces.Part.{Words}
use Rattle.imap_commands.proofs.writing.write_resync.Goals as goal

pub returns : goal.returns
returns c = λ more.
    c.in_ok-push_words-3.ensures more
    ∙ c.in_ok-push_number.ensures (Words (codes "))") ∷ more)
    ∙ c.in_ok-push_words-2.ensures (Words (decimal c.args.known.mark) ∷ Words (codes "))") ∷ more)
    ∙ c.in_ok-push_u32.ensures (Words (codes " ") ∷ Words (decimal c.args.known.mark) ∷ Words (codes "))") ∷ more)
    ∙ c.in_ok-push_words.ensures (Words (decimal c.args.known.validity) ∷ Words (codes " ") ∷ Words (decimal c.args.known.mark) ∷ Words (codes "))") ∷ more)
