use Rattle.std.proofs.Common.{refl}
use Rattle.std.proofs.lemmas.Str.Ascii.{trim_ascii_is}
use Rattle.style_wash.specs.Characters.{trimmed, without_front}
use Rattle.style_rules.proofs.selectors.trim.Goals as goal

pub returns : goal.returns
unfolding trimmed
returns c =
    let text = c.args.text.now in
    trim_ascii_is text c.trim_ascii.result.now (without_front text) refl c.trim_ascii.ensures.value
