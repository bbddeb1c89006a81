use Rattle.std.proofs.Common.{◌∙◌, ◌∷◌, ◌++◌}
use Rattle.imap_commands.specs.Pieces.Part.{Text}
use Rattle.imap_commands.specs.Commands.{known_parts}
use Rattle.imap_commands.proofs.writing.write_select.Goals as goal

pub returns-clause-parts : goal.returns-clause-parts
returns-clause-parts c = λ more.
    c.in_ok-write_known.ensures.parts more
    ∙ c.in_ok-push_string.ensures (known_parts c.args.known.now ++ more)
    ∙ c.in_ok-push_words.ensures (Text c.args.folder.now ∷ known_parts c.args.known.now ++ more)
