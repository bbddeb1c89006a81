use Rattle.std.proofs.Common.{◌≡◌, take}
use Rattle.std.specs.Prelude.{fold}
use Rattle.http_heads.specs.Places.{step}
use Rattle.http_heads.proofs.places.Place.after.Given as goal

abbrev pub invariant-loop-byte : goal.invariant-loop-byte
invariant-loop-byte l = l.place ≡ fold step l.fn.self (take l.byte-index l.bytes)
