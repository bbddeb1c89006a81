use Rattle.std.proofs.Common.{◌≡◌, ◌+◌, ◌≤◌, length, take}
use Rattle.std.specs.List.{suffix_len}
use Rattle.transfer_codings.specs.Quoted.{is_blank}
use Rattle.transfer_codings.proofs.quoted_text.trim_blanks.Given as goal

abbrev pub invariant-loop-end : goal.invariant-loop-end
invariant-loop-end l =
    record { trimmed : l.end + suffix_len is_blank l.line ≡ length l.line + suffix_len is_blank (take l.end l.line); within : l.end ≤ length l.line }

abbrev pub decreases-loop-end : goal.decreases-loop-end
decreases-loop-end l = l.end
