use Rattle.std.proofs.Common.{◌≡◌, ◌<◌, ◌*◌, ◌^◌, take}
use Rattle.html_tokens.specs.PackedNames.{pack}
use Rattle.html_tokens.proofs.name_set.pack.Given as goal

abbrev pub invariant-loop-byte : goal.invariant-loop-byte
invariant-loop-byte l = record { read : l.number ≡ pack (take l.byte-index l.name); small : l.number < 2 * 256 ^ l.byte-index }
