-- What the pages of sent forms say.
use Rattle.std.proofs.Common.{◌≡◌, codes, refl}
use Rattle.std.specs.Fmt.{digits}
use Rattle.compose_drafts.specs.Message.{hex_digits}
use Rattle.account_sends.specs.declared.faults.SendFault.TheVariants as fault
use Rattle.account_answers.specs.Sends.{send_status, send_text}

in_doubt : send_text 43 fault.InDoubt ≡ codes "It is not known whether form 000000000000002b was sent."
unfolding hex_digits
in_doubt = refl

not_address : send_text 43 (fault.NotAddress (codes "to") 4) ≡ codes "Not an address: to at 4."
unfolding digits
not_address = refl

long : send_text 43 (fault.Long 524289) ≡ codes "The text is too long: 524289 bytes."
unfolding digits
long = refl

damaged : send_text 43 (fault.Damaged 6) ≡ codes "The server's answer is damaged at byte 6."
unfolding digits
damaged = refl

doubt_status : send_status fault.InDoubt ≡ 409
doubt_status = refl
