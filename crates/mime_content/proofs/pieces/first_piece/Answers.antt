use Rattle.std.proofs.Common.{◌∙◌}
use Rattle.mime_content.proofs.PieceLemmas.{first_piece_is}
use Rattle.mime_content.proofs.pieces.first_piece.Goals as goal

pub returns : goal.returns
returns c = c.trim.ensures ∙ first_piece_is c.args.value.now c.piece_size.result c.piece_size.ensures.size
