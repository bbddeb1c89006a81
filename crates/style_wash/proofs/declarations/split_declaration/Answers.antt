use Rattle.std.proofs.lemmas.List.{take_rest}
use Rattle.std.proofs.Common.{◌+◌}
use Rattle.style_wash.proofs.Marks.{no_colon, a_colon}
use Rattle.style_wash.proofs.declarations.split_declaration.Goals as goal

pub returns-then-colon-text : goal.returns-then-colon-text
returns-then-colon-text c = no_colon c.args.text.now c.find_byte-colon.result c.find_byte-colon.ensures.equals c.if-colon-text.true

pub returns : goal.returns
returns c =
    let rest = take_rest c.args.text.now (c.find_byte-colon.result + 1) in
    rw rest (a_colon c.args.text.now c.find_byte-colon.result c.find_byte-colon.ensures.equals)
