use Rattle.std.proofs.Common.{◌≡◌, ℕ, List, sym, ◌∙◌, subst}
use Rattle.std.specs.Str.{IsUtf8, str_to_ascii_lowercase}
use Rattle.mime_content.proofs.ContentLemmas.{lowered_type}
use Rattle.mime_content.proofs.content.lowered.Goals as goal

pub returns : goal.returns
returns c =
    let e : c.deref.result.now ≡ str_to_ascii_lowercase c.args.mime.now = c.deref.ensures.value ∙ c.in_ok-lowered.ensures.ok in
    let text : IsUtf8 c.deref.result.now = subst (λ (bs : List ℕ). IsUtf8 bs) (sym e) (lowered_type c.args.mime.now c.requires) in
    c.from_string.ensures ∙ c.in_ok-from_utf8_lossy.ensures.ok text ∙ e
