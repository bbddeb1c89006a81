use Rattle.std.proofs.Common.{map, ◌∙◌}
use Rattle.imap_commands.proofs.PieceLemmas.{map_push, ends}
use Rattle.imap_commands.proofs.pieces.Pieces.finish.Goals as goal

pub returns : goal.returns
returns c =
    map_push (λ p. p.items) c.args.self.whole.items c.push.new.self.items c.extend_from_slice.new.self c.in_ok-push.ensures.items
    ∙ ends (map (λ p. p.items) c.args.self.whole.items) c.args.self.last.items c.extend_from_slice.new.self.items c.in_ok-extend_from_slice.ensures.items
