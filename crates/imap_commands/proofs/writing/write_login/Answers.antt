use Rattle.std.proofs.Common.{◌∙◌, ◌∷◌, codes}
use Rattle.imap_commands.specs.Pieces.Part.{Words, Text}
use Rattle.imap_commands.proofs.writing.write_login.Goals as goal

pub returns : goal.returns
returns c = λ more.
    c.in_ok-push_string-2.ensures more
    ∙ c.in_ok-push_words-2.ensures (Text c.args.password.now ∷ more)
    ∙ c.in_ok-push_string.ensures (Words (codes " ") ∷ Text c.args.password.now ∷ more)
    ∙ c.in_ok-push_words.ensures (Text c.args.user.now ∷ Words (codes " ") ∷ Text c.args.password.now ∷ more)
