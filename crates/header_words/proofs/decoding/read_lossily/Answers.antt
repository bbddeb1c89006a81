use Rattle.std.proofs.Common.{sym, ap, ◌∙◌}
use Rattle.std.specs.Prelude.{string_bytes}
use Rattle.std.specs.Str.Lossy.{utf8_lossy}
use Rattle.std.proofs.lemmas.Str.{IsUtf8-string_bytes, utf8_lossy-IsUtf8}
use Rattle.header_words.proofs.decoding.read_lossily.Goals as goal

pub returns-in-Ok : goal.returns-in-Ok
returns-in-Ok c =
    let text = c.in-Ok.text in
    sym (utf8_lossy-IsUtf8 (string_bytes text) (IsUtf8-string_bytes text)) ∙ ap (λ v. utf8_lossy v.items) c.in-Ok.ensures.ok
