use Rattle.std.proofs.Common.{◌≡◌, ◌+◌, ◌*◌, min, fold, take}
use Rattle.std.specs.Char.{digit_value}
use Rattle.html_references.specs.CodeReferences.{base}
use Rattle.html_references.proofs.references.value_of.Given as goal

abbrev pub invariant-loop-c : goal.invariant-loop-c
invariant-loop-c l = l.value ≡ min (fold (λ n c. n * base l.hexadecimal + digit_value c) 0 (take l.c-index l.digits)) 0x110000
