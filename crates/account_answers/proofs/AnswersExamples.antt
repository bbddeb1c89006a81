-- What the pages of causes say.
use Rattle.std.proofs.Common.{◌≡◌, codes, refl}
use Rattle.std.specs.Fmt.{digits}
use Rattle.account_script.specs.declared.cause.Cause.TheVariants as cause
use Rattle.account_answers.specs.Answers.{status_of, text_of, answer_of_cause, login_answer}

renewed : text_of (cause.Renewed 8 9) ≡ codes "The folder was renewed: asked 8, now 9."
unfolding digits
renewed = refl

long : text_of (cause.LongMessage 26214401) ≡ codes "The message is too long: 26214401 bytes."
unfolding digits
long = refl

too_many : text_of (cause.TooMany 50001 12) ≡ codes "The folder is too large: 50001 rows, 12 header bytes."
unfolding digits
too_many = refl

damaged : text_of (cause.Damaged 118) ≡ codes "The server's answer is damaged at byte 118."
unfolding digits
damaged = refl

lacking : text_of (cause.Lacking (codes "QRESYNC")) ≡ codes "The server lacks QRESYNC."
lacking = refl

renewed_status : status_of (cause.Renewed 8 9) ≡ 409
renewed_status = refl

no_login : answer_of_cause (cause.NoLogin (codes "no")) ≡ login_answer
no_login = refl
