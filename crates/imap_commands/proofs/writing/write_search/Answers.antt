use Rattle.std.proofs.Common.{◌∙◌, ◌∷◌}
use Rattle.imap_commands.specs.Pieces.Part.{Text}
use Rattle.imap_commands.proofs.writing.write_search.Goals as goal

pub returns : goal.returns
returns c = λ more.
    c.in_ok-push_string.ensures more
    ∙ c.in_ok-push_words.ensures (Text c.args.words.now ∷ more)
