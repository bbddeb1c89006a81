use Rattle.std.proofs.Common.{◌≡◌, ◌≤◌, ◌+◌, drop}
use Rattle.std.specs.Option.{option_map}
use Rattle.style_rules.specs.Blocks.{body_len}
use Rattle.style_rules.proofs.blocks.body_len.Given as goal

abbrev pub invariant-loop-i : goal.invariant-loop-i
invariant-loop-i l = record {
  equals : body_len 0 l.text ≡ option_map (λ n. l.i + n) (body_len l.depth (drop l.i l.text));
  few : l.depth ≤ l.i;
}
