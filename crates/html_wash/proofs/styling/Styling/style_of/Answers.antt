use Rattle.std.proofs.Common.{chars, sym, ap, ◌∙◌}
use Rattle.std.proofs.lemmas.Str.{encodes-chars}
use Rattle.style_rules.specs.Cascade.{declared}
use Rattle.html_wash.specs.Styling.{Styling}
use Rattle.html_wash.proofs.StylingLemmas.{if_ok_map}
use Rattle.html_wash.proofs.styling.Styling.style_of.Goals as goal

pub returns : goal.returns
returns c =
    if_ok_map c.declared.result _ _
    (λ style e. ap chars (e ∙ ap (λ (s : Styling). declared s.rules c.name.result.now c.args.classes.now) c.self.view_is ∙ ap (λ name. declared c.args.self.now.rules name c.args.classes.now) c.name.ensures ∙ ap (declared c.args.self.now.rules _) (sym (encodes-chars c.args.classes.now c.utf8.classes))))
    c.declared.ensures
