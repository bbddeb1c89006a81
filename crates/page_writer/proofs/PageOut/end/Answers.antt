use Rattle.std.proofs.Common.{◌≡◌, ◌∙◌, ◌-◌, ◌<◌, ℕ, List, ◌∷◌, true, length, get_or, Some, string_bytes, chars, encode_utf8_all, refl, sym, ap, subst, arith, vec_len}
use Rattle.html_syntax.specs.Token.Token.{End}
use Rattle.page_writer.specs.Page.{outer, spell_token}
use Rattle.page_writer.specs.Writer.{Page, names_of, innermost}
use Rattle.page_writer.proofs.Opening.{Moves, moves, may_end, popped, length-names_of}
use Rattle.page_writer.proofs.PageOut.end.Goals as goal

left : (c : goal.Joined-pop) → Moves true c.add_end.new.self (names_of c.pop.new.self.items) (End (innermost c.args.self.now.opened)) c.args.self.now
left c =
    let items = c.self.inside.inside.items in
    let opened = names_of items in
    let x = c.index.result.now in
    let some : 0 < length opened = subst (λ (p : Page). 0 < length p.opened) (sym c.self.view_is) c.requires in
    let long : 0 < vec_len c.self.inside.inside = omega (arith, length-names_of items, c.self.inside.inside.ok.0, some) in
    let is : c.pop.result ≡ Some x = c.pop.ensures.value x long ∙ ap Some (ap (λ (n : ℕ). get_or items (n - 1) x) (sym c.len-last.ensures) ∙ sym c.index.ensures) in
    let names : opened ≡ chars (string_bytes x) ∷ names_of c.pop.new.self.items = popped items c.pop.new.self.items c.pop.result x c.pop.ensures.items is in
    let inner : innermost opened ≡ innermost c.args.self.now.opened = ap (λ (p : Page). innermost p.opened) c.self.view_is in
    let name : chars c.as_str.result.now ≡ innermost opened = ap chars c.as_str.ensures.value ∙ sym (ap innermost names) in
    subst (λ (n : List ℕ). Moves true c.add_end.new.self (names_of c.pop.new.self.items) (End n) c.args.self.now) inner
    (moves true c.self.inside.bytes c.add_end.new.self (encode_utf8_all (spell_token (End (chars c.as_str.result.now)))) opened (names_of c.pop.new.self.items) (names_of c.pop.new.self.items) (End (innermost opened)) c.args.self.now
    c.self.view_is c.in_ok-add_end.ensures refl (sym (ap outer names)) (ap (λ (n : List ℕ). encode_utf8_all (spell_token (End n))) name) c.self.invariant (λ _. may_end c.self.inside.bytes opened c.self.invariant some))

pub invariant_of-self-2 : goal.invariant_of-self-2
invariant_of-self-2 c = (left c).held

pub returns-clause-ok : goal.returns-clause-ok
returns-clause-ok c = (left c).page refl
