use Rattle.std.proofs.Common.{◌≡◌, take}
use Rattle.imap_framing.specs.Lines.{tail_of}
use Rattle.imap_framing.specs.Scans.{brace_of_tail}
use Rattle.imap_framing.proofs.line.brace_of.Given as goal

abbrev pub invariant-loop-byte : goal.invariant-loop-byte
invariant-loop-byte l = l.brace ≡ brace_of_tail (tail_of (take l.byte-index l.line))
