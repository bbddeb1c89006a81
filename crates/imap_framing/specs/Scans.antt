-- What the scan of a unit keeps of its bytes.
use Rattle.std.specs.Prelude.{◌≡◌, ℕ, ◌+◌, ◌≤◌, ◌<◌, Bool, List, [], ◌∷◌, ◌++◌, Option, Some, None, length, drop, min}
use Rattle.imap_framing.specs.declared.line.Brace.{Brace}
use Rattle.imap_framing.specs.declared.line.Brace.TheVariants as braces
use Rattle.imap_framing.specs.declared.line.Ending.{Ending}
use Rattle.imap_framing.specs.declared.line.Ending.TheVariants as endings
use Rattle.imap_framing.specs.declared.scan.Phase.{Phase}
use Rattle.imap_framing.specs.declared.scan.Phase.TheVariants as phases
use Rattle.imap_framing.specs.declared.scan.Found.{Found}
use Rattle.imap_framing.specs.declared.scan.Found.TheVariants as found
use Rattle.imap_framing.specs.Bytes.{line_feed}
use Rattle.imap_framing.specs.Lines.{Tail}
use Rattle.imap_framing.specs.Lines.Tail.{Out, Open, Number, Size}
use Rattle.imap_framing.specs.Units.{limit, FrameState, octets_left, frame_state, IsUnit, HasTooLongLiteral}
use Rattle.imap_framing.specs.Units.FrameState.{Line, Octets, Whole, TooLong}

-- a number above the limit is kept as the limit and one
abbrev pub capped : ℕ → ℕ
capped n = min n (limit + 1)

abbrev pub brace_of_tail : Tail → Brace
brace_of_tail Out = braces.Out
brace_of_tail Open = braces.Open
brace_of_tail (Number n) = braces.Number (capped n)
brace_of_tail (Size n) = braces.Size (capped n)

-- the size at the end of a line
abbrev pub SizeOfTail : Option ℕ → Tail → Type 0
SizeOfTail (Some n) tail = brace_of_tail tail ≡ braces.Size n
SizeOfTail None tail = (n : ℕ) → brace_of_tail tail ≡ braces.Size n → ⊥

-- the state after a line and its LF
abbrev pub state_after_line_feed : Ending → Bool → List ℕ → FrameState
state_after_line_feed endings.NotEnded first line = Line first (line ++ line_feed ∷ [])
state_after_line_feed endings.Ends first line = Whole
state_after_line_feed endings.TooLong first line = TooLong
state_after_line_feed (endings.Literal n) first line = octets_left n

-- a phase is that of the state after some bytes
abbrev pub PhaseIs : List ℕ → Phase → Type 0
PhaseIs front (phases.Line from first) = (from ≤ length front) × (frame_state front ≡ Line first (drop from front))
PhaseIs front (phases.Octets left) = (0 < left) × (frame_state front ≡ Octets left)

-- what was found is right for the bytes so far
abbrev pub FoundIs : List ℕ → Found → Type 0
FoundIs front found.Whole = IsUnit front
FoundIs front found.TooLong = HasTooLongLiteral front
FoundIs front (found.Awaits phase) = PhaseIs front phase

-- more is awaited only at the end of the bytes
abbrev pub AwaitsAtEnd : ℕ → Found → ℕ → Type 0
AwaitsAtEnd len (found.Awaits phase) at = at ≡ len
AwaitsAtEnd len other at = Unit {0}
