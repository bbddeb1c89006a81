use Rattle.std.proofs.Common.{map, ap, ◌∙◌, ◌++◌, ◌∷◌, []}
use Rattle.imap_commands.specs.Pieces.{pieces_of, onto_first}
use Rattle.imap_commands.proofs.PieceLemmas.{map_push, literal_goes}
use Rattle.imap_commands.proofs.pieces.Pieces.push_literal.Goals as goal

pub returns : goal.returns
returns c = λ more.
    ap (λ ws. ws ++ onto_first c.replace.new.dest.items (pieces_of more)) (map_push (λ p. p.items) c.args.self.now.whole.items c.push.new.self.items c.replace.result c.in_ok-push.ensures.items)
    ∙ ap (λ t. (map (λ p. p.items) c.args.self.now.whole.items ++ c.replace.result.items ∷ []) ++ onto_first t (pieces_of more)) (ap (λ v. v.items) c.replace.ensures.after ∙ c.in_ok-next.ensures.items)
    ∙ literal_goes (map (λ p. p.items) c.args.self.now.whole.items) c.args.self.now.last.items c.args.bytes.now c.replace.result.items more (ap (λ v. v.items) c.replace.ensures.value ∙ c.in_ok-append_size.ensures)
