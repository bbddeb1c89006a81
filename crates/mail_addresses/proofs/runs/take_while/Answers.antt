use Rattle.mail_addresses.proofs.Cuts.{cut_after_run}
use Rattle.mail_addresses.proofs.runs.take_while.Goals as goal

pub split_at-requires : goal.split_at-requires
split_at-requires c = cut_after_run c.args.class c.args.text.now c.class_len.result c.utf8.text c.class_len.ensures.len
