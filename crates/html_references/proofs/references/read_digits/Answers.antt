use Rattle.std.proofs.Common.{◌≡◌, ℕ, List, [], ◌∷◌, ◌+◌, ap, ◌∙◌, length, drop}
use Rattle.html_syntax.specs.References.{Reference, semicolon_len}
use Rattle.html_references.proofs.Numbers.{of_digits-some}
use Rattle.html_references.proofs.references.read_digits.Goals as goal

pub returns-in-len1-up : goal.returns-in-len1-up
returns-in-len1-up c =
    let semicolon : c.semicolon_len.result ≡ semicolon_len (drop (length c.args.digits.now) c.args.text.now) = c.semicolon_len.ensures.value ∙ ap (λ (l : List ℕ). semicolon_len l) c.rest_after.ensures in
    ap (λ (x : ℕ). let r : Reference = record { len = c.args.before + length c.args.digits.now + c.semicolon_len.result; chars = x ∷ [] } in r) c.char_of.ensures
    ∙ of_digits-some c.args.hexadecimal c.args.before c.semicolon_len.result c.value_of.result c.args.digits.now c.args.text.now c.in-len1-up.len_at_least semicolon c.value_of.ensures
