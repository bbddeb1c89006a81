use Rattle.imap_framing.proofs.SizeLemmas.{first_line, plain_unit, sizes, only_sizes}
use Rattle.imap_framing.proofs.laws.plain_lines.Goals as goal

pub returns : goal.returns
returns c = record { first = first_line; units = plain_unit; sizes = sizes; only_sizes = only_sizes }
