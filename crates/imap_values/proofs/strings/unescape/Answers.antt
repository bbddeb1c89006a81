use Rattle.imap_values.proofs.QuotedLemmas.{unescape_whole}
use Rattle.imap_values.proofs.strings.unescape.Goals as goal

pub loop-byte-init : goal.loop-byte-init
loop-byte-init c = rw c.new-out.ensures.items (unescape_whole c.args.text.now)
