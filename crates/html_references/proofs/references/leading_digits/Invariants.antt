use Rattle.std.proofs.Common.{◌≡◌, ◌+◌, drop}
use Rattle.std.specs.List.{prefix_len}
use Rattle.html_references.specs.CodeReferences.{digit_test}
use Rattle.html_references.proofs.references.leading_digits.Given as goal

abbrev pub invariant-loop-c : goal.invariant-loop-c
invariant-loop-c l = record {
  counted : l.count ≡ l.c-index;
  led : l.c-index + prefix_len (digit_test l.hexadecimal) (drop l.c-index l.text) ≡ prefix_len (digit_test l.hexadecimal) l.text;
}
