use denote.Shadow.{shadow}
use denote.Text.{Utf8}
use Rattle.std.proofs.Common.{◌≡◌, length}
use Rattle.std.specs.Prelude.{string_bytes}
use Rattle.mail_addresses.specs.Boxes.{quoted_at}
use Rattle.mail_addresses.proofs.QuotedLemmas.{prepend_all}
use Rattle.mail_addresses.proofs.quoted.quoted.Given as goal

abbrev pub invariant-loop-name : goal.invariant-loop-name
invariant-loop-name l = record {
  text : shadow (Utf8 l.rest);
  read : prepend_all (string_bytes l.name) (quoted_at l.rest) ≡ quoted_at l.text;
}

abbrev pub decreases-loop-name : goal.decreases-loop-name
decreases-loop-name l = length l.rest
