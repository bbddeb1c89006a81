use Rattle.std.proofs.Common.{is_ok, chars, encode_utf8_all}
use Rattle.page_writer.specs.Page.{spell_chars}
use Rattle.html_rules.specs.Tokens.{text_tokens}
use Rattle.page_writer.specs.Writer.{names_of}
use Rattle.page_writer.proofs.Held.{Leaves, leaves, on_ok, text_adds}
use Rattle.page_writer.proofs.PageOut.chars.Goals as goal

left : (c : goal.After-add_text) → Leaves (is_ok c.add_text.result) c.add_text.new.self (names_of c.self.inside.inside.items) (text_tokens (chars c.args.text.now)) c.args.self.now
left c =
    leaves (is_ok c.add_text.result) c.self.inside.bytes c.add_text.new.self (encode_utf8_all (spell_chars (chars c.args.text.now))) (names_of c.self.inside.inside.items) (text_tokens (chars c.args.text.now)) c.args.self.now
    c.self.view_is c.add_text.ensures c.self.invariant (text_adds _ _ _ c.self.invariant c.utf8.text)

pub invariant_of-self : goal.invariant_of-self
invariant_of-self c = (left c).held

pub returns-clause-ok : goal.returns-clause-ok
returns-clause-ok c = on_ok c.add_text.result _ (left c).page
