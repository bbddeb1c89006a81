use Rattle.std.proofs.Common.{◌≡◌, map, take}
use Rattle.httparse.specs.Spans.{header_bytes}
use Rattle.http_heads.specs.Heads.{fields_seen}
use Rattle.http_heads.proofs.heads.fields_of.Given as goal

abbrev pub invariant-loop-span : goal.invariant-loop-span
invariant-loop-span l = fields_seen l.fields.items ≡ map (header_bytes l.bytes) (take l.span-index l.spans)
