use Rattle.imap_framing.proofs.LawLemmas.{apart, end_none, splits_once}
use Rattle.imap_framing.proofs.laws.one_split.Goals as goal

pub returns : goal.returns
returns c = record { prefix_free = apart; ends_begin_with_no_unit = end_none; unique = splits_once }
