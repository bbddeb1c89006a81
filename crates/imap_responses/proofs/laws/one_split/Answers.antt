use Rattle.imap_responses.proofs.StreamLemmas.{splits_once, ends_apart}
use Rattle.imap_responses.proofs.laws.one_split.Goals as goal

pub returns : goal.returns
returns c = record { unique = splits_once; distinct_ends = ends_apart }
