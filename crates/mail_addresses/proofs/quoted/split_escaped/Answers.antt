use Rattle.mail_addresses.proofs.Cuts.{cut_escaped}
use Rattle.mail_addresses.proofs.quoted.split_escaped.Goals as goal

pub split_at-requires : goal.split_at-requires
split_at-requires c = rw c.escaped_len.ensures (cut_escaped c.args.text.now c.utf8.text)
