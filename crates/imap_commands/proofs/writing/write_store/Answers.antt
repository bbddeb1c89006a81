use Rattle.std.proofs.Common.{◌∙◌, ◌∷◌, codes, decimal}
use Rattle.imap_commands.specs.Pieces.Part.{Words}
use Rattle.imap_commands.specs.Commands.{sign, label_word}
use Rattle.imap_commands.proofs.writing.write_store.Goals as goal

pub returns : goal.returns
returns c = λ more.
    c.in_ok-push_words-2.ensures more
    ∙ c.in_ok-write_label.ensures (Words (codes ")") ∷ more)
    ∙ c.in_ok-write_sign.ensures (Words (label_word c.args.label) ∷ Words (codes ")") ∷ more)
    ∙ c.in_ok-push_u32.ensures (Words (sign c.args.on) ∷ Words (label_word c.args.label) ∷ Words (codes ")") ∷ more)
    ∙ c.in_ok-push_words.ensures (Words (decimal c.args.uid) ∷ Words (sign c.args.on) ∷ Words (label_word c.args.label) ∷ Words (codes ")") ∷ more)
