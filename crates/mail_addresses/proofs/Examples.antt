-- Worked examples of lists of boxes.
use Rattle.std.proofs.Common.{◌≡◌, ℕ, true, false, List, [], ◌∷◌, ◌++◌, refl, Ok, Err}
use Rattle.std.specs.Prelude.{codes, replicate}
use Rattle.mail_addresses.specs.declared.Mailbox.{Mailbox}
use Rattle.mail_addresses.specs.Runs.{is_local}
use Rattle.mail_addresses.specs.Boxes.{address_at, angle_at, bare_at, box_at, boxes_of, boxes_within, domain_at, is_address, quoted_at, quoted_box_at, spaced_box_at, unquoted_box_at}

abbrev box : List ℕ → List ℕ → Mailbox
box name address = record { name = name; address = address }

-- ---- lists

one : boxes_of (codes "bob@d.example") ≡ Ok (box [] (codes "bob@d.example") ∷ [])
unfolding boxes_of boxes_within spaced_box_at box_at unquoted_box_at bare_at angle_at domain_at address_at is_local
one = refl

forms : boxes_of (codes " Ann Lee <a@b> ,\"Lee, \\\"A\\\"\" <a@b>,<c@d> , e@f ") ≡ Ok (
    box (codes "Ann Lee") (codes "a@b")
    ∷ box (codes "Lee, \"A\"") (codes "a@b")
    ∷ box [] (codes "c@d")
    ∷ box [] (codes "e@f")
    ∷ [])
unfolding boxes_of boxes_within spaced_box_at box_at quoted_box_at quoted_at unquoted_box_at bare_at angle_at domain_at address_at is_local
forms = refl

-- ---- where a text stops being one

nothing : boxes_of [] ≡ Err 0
unfolding boxes_of boxes_within
nothing = refl

no_domain : boxes_of (codes "bob@") ≡ Err 4
unfolding boxes_of boxes_within spaced_box_at box_at unquoted_box_at bare_at domain_at is_local
no_domain = refl

comma_at_end : boxes_of (codes "a@b,") ≡ Err 4
unfolding boxes_of boxes_within spaced_box_at box_at unquoted_box_at bare_at angle_at domain_at address_at is_local
comma_at_end = refl

two_commas : boxes_of (codes "a@b,,c@d") ≡ Err 4
unfolding boxes_of boxes_within spaced_box_at box_at unquoted_box_at bare_at angle_at domain_at address_at is_local
two_commas = refl

no_comma : boxes_of (codes "a@b c@d") ≡ Err 4
unfolding boxes_of boxes_within spaced_box_at box_at unquoted_box_at bare_at angle_at domain_at address_at is_local
no_comma = refl

-- what can be a name still stops at the `@`, since no local part has a space
name_before_at : boxes_of (codes "a b@c") ≡ Err 3
unfolding boxes_of boxes_within spaced_box_at box_at unquoted_box_at bare_at domain_at is_local
name_before_at = refl

open_quote : boxes_of (codes "\"a\\") ≡ Err 3
unfolding boxes_of boxes_within spaced_box_at box_at quoted_box_at quoted_at
open_quote = refl

-- in brackets a local part ends after 64 bytes; before an `@` that is known only there
long_in_brackets : boxes_of (60 ∷ replicate 65 97 ++ codes "@b>") ≡ Err 65
unfolding boxes_of boxes_within spaced_box_at box_at unquoted_box_at angle_at address_at is_local
long_in_brackets = refl

long_alone : boxes_of (replicate 65 97 ++ codes "@b") ≡ Err 65
unfolding boxes_of boxes_within spaced_box_at box_at unquoted_box_at bare_at is_local
long_alone = refl

long_domain : boxes_of (codes "a@" ++ replicate 256 97) ≡ Err 257
unfolding boxes_of boxes_within spaced_box_at box_at unquoted_box_at bare_at domain_at is_local
long_domain = refl

-- ---- one `local@domain`

address : is_address (codes "ann+x@c.example") ≡ true
unfolding is_address is_local
address = refl

spaced_address : is_address (codes "ann@c.example ") ≡ false
unfolding is_address is_local
spaced_address = refl

bracketed_address : is_address (codes "<ann@c.example>") ≡ false
unfolding is_address is_local
bracketed_address = refl
