use denote.Shadow.{shadow}
use denote.Text.{Utf8}
use Rattle.std.proofs.Common.{◌≡◌, ◌-◌, length}
use Rattle.mail_addresses.specs.Boxes.{boxes_within}
use Rattle.mail_addresses.proofs.ListLemmas.{prepend_boxes}
use Rattle.mail_addresses.proofs.boxes.list.Given as goal

abbrev pub invariant-loop : goal.invariant-loop
invariant-loop l = record {
  text : shadow (Utf8 l.rest);
  read : prepend_boxes l.boxes.items (boxes_within (length l.text - l.counter) l.rest) ≡ boxes_within (length l.text) l.text;
}
