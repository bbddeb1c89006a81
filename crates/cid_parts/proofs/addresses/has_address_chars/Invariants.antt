use Rattle.std.proofs.Common.{◌≡◌, take}
use Rattle.std.specs.List.{list_all}
use Rattle.html_rules.specs.Values.{is_address_char}
use Rattle.cid_parts.proofs.addresses.has_address_chars.Given as goal

abbrev pub invariant-loop-byte : goal.invariant-loop-byte
invariant-loop-byte l = l.all ≡ list_all is_address_char (take l.byte-index l.text)
