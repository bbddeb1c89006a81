use Rattle.std.proofs.Common.{◌≡◌, ◌+◌, drop}
use Rattle.std.specs.List.{prefix_len}
use Rattle.html_tokens.specs.Tags.{in_class}
use Rattle.html_tokens.proofs.tags.prefix_len.Given as goal

abbrev pub invariant-loop-c : goal.invariant-loop-c
invariant-loop-c l = record {
  counted : l.count ≡ l.c-index;
  led : l.c-index + prefix_len (in_class l.class) (drop l.c-index l.bytes) ≡ prefix_len (in_class l.class) l.bytes;
}
