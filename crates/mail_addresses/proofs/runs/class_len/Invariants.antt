use Rattle.std.proofs.Common.{◌≡◌, ◌+◌, drop}
use Rattle.std.specs.List.{prefix_len}
use Rattle.mail_addresses.specs.Runs.{in_class}
use Rattle.mail_addresses.proofs.runs.class_len.Given as goal

abbrev pub invariant-loop-i : goal.invariant-loop-i
invariant-loop-i l = l.i + prefix_len (in_class l.class) (drop l.i l.bytes) ≡ prefix_len (in_class l.class) l.bytes
