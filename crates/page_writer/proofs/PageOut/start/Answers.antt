use Rattle.std.proofs.Common.{is_ok, chars, sym, subst, encode_utf8_all, ◌∷◌}
use Rattle.html_syntax.specs.Token.Token.{Start}
use Rattle.page_writer.specs.Page.{MayStart, spell_token}
use Rattle.html_rules.specs.Tokens.{replace_nulls}
use Rattle.page_writer.specs.Writer.{Page, names_of}
use Rattle.page_writer.proofs.Held.{on_ok, from_ok, start_may, spell_shown_start}
use Rattle.page_writer.proofs.Opening.{Moves, moves, either, name_bytes, opens_nothing, opens_it}
use Rattle.page_writer.proofs.PageOut.start.Goals as goal

left_void : (c : goal.After-add_start) → Moves (is_ok c.add_start.result) c.add_start.new.self (names_of c.self.inside.inside.items) (Start (chars c.args.name.now) (replace_nulls c.args.attributes.now)) c.args.self.now
left_void c =
    let name = chars c.args.name.now in
    let attributes = c.args.attributes.now in
    let opened = names_of c.self.inside.inside.items in
    let may : MayStart opened name attributes = subst (λ (p : Page). MayStart p.opened name attributes) (sym c.self.view_is) c.requires in
    moves (is_ok c.add_start.result) c.self.inside.bytes c.add_start.new.self (encode_utf8_all (spell_token (Start name attributes))) opened opened opened (Start name (replace_nulls attributes)) c.args.self.now
    c.self.view_is c.add_start.ensures.items (either (is_ok c.add_start.result) opened)
    (opens_nothing c.args.name.now c.is_void.result opened (replace_nulls attributes) c.is_void.ensures c.if-is_void.true (name_bytes c.args.name.now c.utf8.name may.0))
    (spell_shown_start name attributes) c.self.invariant (λ e. start_may opened name attributes may (from_ok c.add_start.result _ c.add_start.ensures.texts e))

pub invariant_of-self : goal.invariant_of-self
invariant_of-self c = (left_void c).held

pub returns-then-is_void-clause-ok : goal.returns-then-is_void-clause-ok
returns-then-is_void-clause-ok c = on_ok c.add_start.result _ (left_void c).page

left_open : (c : goal.After-open_element) → Moves (is_ok c.open_element.result) c.open_element.new.out (names_of c.open_element.new.inside.items) (Start (chars c.args.name.now) (replace_nulls c.args.attributes.now)) c.args.self.now
left_open c =
    let name = chars c.args.name.now in
    let attributes = c.args.attributes.now in
    let opened = names_of c.self.inside.inside.items in
    let may : MayStart opened name attributes = subst (λ (p : Page). MayStart p.opened name attributes) (sym c.self.view_is) c.requires in
    moves (is_ok c.open_element.result) c.self.inside.bytes c.open_element.new.out (encode_utf8_all (spell_token (Start name attributes))) opened (names_of c.open_element.new.inside.items) (name ∷ opened) (Start name (replace_nulls attributes)) c.args.self.now
    c.self.view_is c.open_element.ensures.items c.open_element.ensures.names
    (opens_it c.args.name.now c.is_void.result opened (replace_nulls attributes) c.is_void.ensures c.if-is_void.false (name_bytes c.args.name.now c.utf8.name may.0))
    (spell_shown_start name attributes) c.self.invariant (λ e. start_may opened name attributes may (from_ok c.open_element.result _ c.open_element.ensures.texts e))

pub invariant_of-self-else-is_void : goal.invariant_of-self-else-is_void
invariant_of-self-else-is_void c = (left_open c).held

pub returns-else-is_void-clause-ok : goal.returns-else-is_void-clause-ok
returns-else-is_void-clause-ok c = on_ok c.open_element.result _ (left_open c).page
