use Rattle.std.proofs.Common.{◌≡◌, List, [], ◌++◌, ap, ◌∙◌, IfOk}
use Rattle.std.proofs.lemmas.List.{append-nil}
use Rattle.std.proofs.lemmas.Result.{IfOk-weaker}
use Rattle.imap_commands.specs.Pieces.{Part, pieces_of}
use Rattle.imap_commands.specs.Written.{bytes_of_vecs}
use Rattle.imap_commands.specs.Commands.{command_pieces, command_parts, tag_parts}
use Rattle.imap_commands.proofs.ReadingLemmas.{reads, none_before}
use Rattle.imap_commands.proofs.writing.write.Goals as goal

written_whole : (c : goal.After-finish) → IfOk c.finish.result (λ pieces. bytes_of_vecs pieces.items ≡ command_pieces c.args.tag c.args.command.now)
unfolding command_pieces
written_whole c =
    let one = c.args.command.now in
    let all : pieces_of (tag_parts c.args.tag ++ (command_parts one ++ [])) ≡ command_pieces c.args.tag one = ap (λ (x : List Part). pieces_of (tag_parts c.args.tag ++ x)) (append-nil (command_parts one)) in
    IfOk-weaker c.finish.result _ _
    (λ pieces is. is ∙ c.in_ok-write_parts.ensures.parts [] ∙ c.in_ok-write_tag.ensures (command_parts one ++ []) ∙ c.new-pieces.ensures _ ∙ all)
    c.finish.ensures

pub returns-clause-parses : goal.returns-clause-parses
returns-clause-parses c =
    IfOk-weaker c.finish.result _ _ (λ pieces is. reads c.args.tag c.args.command.now _ c.ranges.tag.fits c.in_ok-write_parts.ensures.fits is) (written_whole c)

pub returns-clause-no_prefix_parses : goal.returns-clause-no_prefix_parses
returns-clause-no_prefix_parses c =
    IfOk-weaker c.finish.result _ _ (λ pieces is. none_before c.args.tag c.args.command.now _ c.ranges.tag.fits c.in_ok-write_parts.ensures.fits is) (written_whole c)
