use Rattle.std.proofs.Common.{◌∙◌, ◌∷◌, codes, decimal}
use Rattle.imap_commands.specs.Pieces.Part.{Words, Text}
use Rattle.imap_commands.proofs.writing.write_move.Goals as goal

pub returns : goal.returns
returns c = λ more.
    c.in_ok-push_string.ensures more
    ∙ c.in_ok-push_words-2.ensures (Text c.args.to.now ∷ more)
    ∙ c.in_ok-push_u32.ensures (Words (codes " ") ∷ Text c.args.to.now ∷ more)
    ∙ c.in_ok-push_words.ensures (Words (decimal c.args.uid) ∷ Words (codes " ") ∷ Text c.args.to.now ∷ more)
