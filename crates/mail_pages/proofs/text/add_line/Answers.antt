use Rattle.std.proofs.Common.{ap, ◌∙◌, ◌++◌, [], ◌∷◌, append_assoc, List, ℕ}
use lib.Utf8.{encode}
use Rattle.std.specs.Prelude.{string_bytes}
use Rattle.std.proofs.lemmas.Str.{IsUtf8-string_bytes, IsUtf8-append}
use Rattle.mail_pages.proofs.Gathering.{gathers-on, line_feed-valid}
use Rattle.mail_pages.proofs.text.add_line.Goals as goal

pub returns : goal.returns
unfolding encode
returns c =
    let before = string_bytes c.args.gathered.now in
    let line : List ℕ = c.args.line.now in
    gathers-on c.write_many.result c.args.out.now c.write_many.new.out before (string_bytes c.push.new.self) (string_bytes c.write_many.new.gathered) (line ++ 10 ∷ [])
    (IsUtf8-string_bytes c.args.gathered.now) (IsUtf8-append line (10 ∷ []) c.utf8.line line_feed-valid)
    (c.in_ok-push.ensures.bytes ∙ ap (λ t. t ++ 10 ∷ []) c.in_ok-push_str.ensures.bytes ∙ append_assoc before line (10 ∷ []))
    c.write_many.ensures
