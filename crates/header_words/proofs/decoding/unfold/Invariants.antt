use Rattle.std.proofs.Common.{◌≡◌, ◌++◌, length}
use Rattle.std.specs.Prelude.{filter}
use Rattle.std.specs.List.{flat_map}
use Rattle.std.specs.Str.Lines.{lines}
use Rattle.header_words.specs.Fields.{is_continuation}
use Rattle.header_words.specs.Places.{raw_field}
use Rattle.header_words.specs.Value.{unfolded, unfolded_line}
use Rattle.header_words.proofs.decoding.unfold.Given as goal

abbrev pub invariant-loop-rest : goal.invariant-loop-rest
invariant-loop-rest l = l.value.items ++ flat_map unfolded_line (filter is_continuation (lines l.rest)) ≡ unfolded (raw_field l.raw).lines

abbrev pub decreases-loop-rest : goal.decreases-loop-rest
decreases-loop-rest l = length l.rest
