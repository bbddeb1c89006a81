use Rattle.std.proofs.Common.{◌≡◌, map, ◌∙◌}
use Rattle.std.proofs.lemmas.Bool.Decides.{same_from_decides}
use Rattle.std.proofs.lemmas.Slice.Eq.{bytes_eq-Decides}
use Rattle.std.specs.Str.{bytes_eq}
use Rattle.html_syntax.specs.Characters.{lower}
use Rattle.html_tokens.proofs.Words.{word_read}
use Rattle.html_tokens.proofs.written.is_word.Goals as goal

pub returns : goal.returns
returns c =
    let name = map lower c.args.name.now in
    let word = map lower c.args.word.now in
    same_from_decides {P = name ≡ word} c.eq_ignore_ascii_case.result (bytes_eq name word) c.eq_ignore_ascii_case.ensures.test (bytes_eq-Decides name word)
    ∙ word_read c.args.word.now c.args.name.now c.requires c.utf8.name
