use Rattle.std.proofs.Common.{subst, sym}
use Rattle.std.specs.Prelude.{OnOk}
use Rattle.imap_commands.specs.Written.{AppendsParts}
use Rattle.imap_commands.specs.Commands.{command_parts}
use Rattle.imap_commands.proofs.writing.write_parts.Goals as goal

pub returns-in-Capability-clause-parts : goal.returns-in-Capability-clause-parts
unfolding command_parts
returns-in-Capability-clause-parts c = subst (λ k. OnOk c.push_words.result (AppendsParts c.args.pieces.now c.push_words.new.self (command_parts k))) (sym c.in-Capability.is) c.push_words.ensures

pub returns-in-FetchBody-clause-parts : goal.returns-in-FetchBody-clause-parts
unfolding command_parts
returns-in-FetchBody-clause-parts c = subst (λ k. OnOk c.write_fetch-in-FetchBody.result (AppendsParts c.args.pieces.now c.write_fetch-in-FetchBody.new.pieces (command_parts k))) (sym c.in-FetchBody.is) c.write_fetch-in-FetchBody.ensures

pub returns-in-Enable-clause-parts : goal.returns-in-Enable-clause-parts
unfolding command_parts
returns-in-Enable-clause-parts c = subst (λ k. OnOk c.push_words-in-Enable.result (AppendsParts c.args.pieces.now c.push_words-in-Enable.new.self (command_parts k))) (sym c.in-Enable.is) c.push_words-in-Enable.ensures
