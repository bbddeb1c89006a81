use Rattle.std.proofs.Common.{map, take}
use Rattle.html_wash.specs.Closings.{closed_by}
use Rattle.html_wash.specs.Seen.{lookup_of}
use Rattle.html_wash.specs.Writing.{outside, Wrote}
use Rattle.html_wash.proofs.tags.close_by.Given as goal

abbrev pub invariant-loop-kind : goal.invariant-loop-kind
invariant-loop-kind l = Wrote (closed_by (map lookup_of (take l.kind-index l.kind-items)) l.fn.opened) (outside l.fn.opened l.fn.out.opened) l.fn.out l.out l.opened
