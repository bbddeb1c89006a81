-- The places of some bytes in their first unit, computed.
use Rattle.std.proofs.Common.{◌≡◌, [], codes, refl, true, false}
use Rattle.imap_framing.specs.Units.{step, frame_state_from, frame_state, IsUnit, HasTooLongLiteral}
use Rattle.imap_framing.specs.Units.FrameState.{Line, Octets, Past}

-- a unit ends at its first CR LF
continues : IsUnit (codes "+ go\r\n")
unfolding frame_state_from step
continues = refl

longer : frame_state (codes "+ go\r\n+") ≡ Past
unfolding frame_state_from step
longer = refl

-- an LF without a CR ends nothing
lone_feed : frame_state (codes "+ a\nb\r") ≡ Line true (codes "+ a\nb\r")
unfolding frame_state_from step
lone_feed = refl

-- the octets_left of a literal may be a line's end
fetched : IsUnit (codes "* 1 FETCH (UID 7 BODY[] {5}\r\na\r\n)b)\r\n")
unfolding frame_state_from step
fetched = refl

-- its last octet is to come, and then a further line
awaited : frame_state (codes "* 1 FETCH (UID 7 BODY[] {5}\r\na\r\n)") ≡ Octets 1
unfolding frame_state_from step
awaited = refl

after_literal : frame_state (codes "* 1 FETCH (UID 7 BODY[] {5}\r\na\r\n)b") ≡ Line false []
unfolding frame_state_from step
after_literal = refl

-- the text of a state has no literals
state : IsUnit (codes "* Ok {3}\r\n")
unfolding frame_state_from step
state = refl

-- nor has a tagged unit
tagged : IsUnit (codes "A1 OK {3}\r\n")
unfolding frame_state_from step
tagged = refl

-- the longest literal, and one octet more
longest : frame_state (codes "* X {33554432}\r\n") ≡ Octets 33554432
unfolding frame_state_from step
longest = refl

too_long : HasTooLongLiteral (codes "* X {33554433}\r\n)")
unfolding frame_state_from step
too_long = refl
