use Rattle.std.proofs.Common.{◌∙◌, ◌∷◌, codes}
use Rattle.imap_commands.specs.Pieces.Part.{Words, Text, Literal}
use Rattle.imap_commands.specs.Commands.{label_words}
use Rattle.imap_commands.proofs.writing.write_append.Goals as goal

pub returns : goal.returns
returns c = λ more.
    c.in_ok-push_literal.ensures more
    ∙ c.in_ok-push_words-3.ensures (Literal c.args.message.now ∷ more)
    ∙ c.in_ok-write_labels.ensures (Words (codes ") ") ∷ Literal c.args.message.now ∷ more)
    ∙ c.in_ok-push_words-2.ensures (Words (label_words c.args.label.now) ∷ Words (codes ") ") ∷ Literal c.args.message.now ∷ more)
    ∙ c.in_ok-push_string.ensures (Words (codes " (") ∷ Words (label_words c.args.label.now) ∷ Words (codes ") ") ∷ Literal c.args.message.now ∷ more)
    ∙ c.in_ok-push_words.ensures (Text c.args.folder.now ∷ Words (codes " (") ∷ Words (label_words c.args.label.now) ∷ Words (codes ") ") ∷ Literal c.args.message.now ∷ more)
