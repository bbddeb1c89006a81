use Rattle.std.proofs.Common.{arith, length-drop, ◌+◌, ◌-◌, length, drop}
use Rattle.std.specs.Prelude.{◌==◌}
use Rattle.std.proofs.lemmas.List.{length-take}
use Rattle.http_routes.proofs.Pieces.{first_piece, no_piece}
use Rattle.http_routes.proofs.cookies.split_piece.Goals as goal

pub returns : goal.returns
returns c = record {
  pieces = no_piece (λ b. b == 59) c.args.value.now (rw c.find_byte-at.ensures.equals at c.if-at-value.false);
  shorter = tt;
}

pub returns-then-at-value : goal.returns-then-at-value
returns-then-at-value c =
    let at = c.find_byte-at.result in
    let value = c.args.value.now in
    record {
      pieces = first_piece (λ b. b == 59) value at c.find_byte-at.ensures.equals c.if-at-value.true;
      shorter = omega (arith, length-take (length value - (at + 1)) (drop (at + 1) value), length-drop (at + 1) value, c.if-at-value.true);
    }
