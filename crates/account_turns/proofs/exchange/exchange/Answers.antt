use Rattle.std.proofs.Common.{◌≡◌, ◌+◌, ◌<◌, ℕ, List, length, sym, ap, ◌∙◌, subst, rules}
use Rattle.imap_commands.specs.Commands.{command_pieces}
use Rattle.imap_commands.specs.Written.{bytes_of_vecs}
use Rattle.account_turns.specs.Causes.{last_of}
use Rattle.account_turns.specs.Turns.Due.{Says}
use Rattle.account_turns.proofs.SpeakLemmas.{some_pieces, speaks_first}
use Rattle.account_turns.proofs.exchange.exchange.Goals as goal

pub returns-clause-turn : goal.returns-clause-turn
returns-clause-turn g c =
    let text : bytes_of_vecs c.deref.result.now ≡ command_pieces (c.args.listener.now.told.view.number + 1) c.args.command.now = search rules in
    λ t more p is d. c.speak.ensures.turn t more p (speaks_first _ (last_of c.args.command.now) more p c.args.listener.now t is c.requires.idle (subst (λ (l : List (List ℕ)). 0 < length l) (sym text) (some_pieces _ c.args.command.now)) (d ∙ ap (λ (l : List (List ℕ)). Says (last_of c.args.command.now) l more p) (sym text)))
