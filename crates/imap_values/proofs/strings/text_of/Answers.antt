use Rattle.std.proofs.Common.{◌≡◌, length, sym, arith}
use Rattle.std.proofs.lemmas.Bool.Decides.{nat_tests}
use Rattle.imap_values.specs.declared.words.Class.TheVariants as classes
use Rattle.imap_values.specs.Words.{take_while_at}
use Rattle.imap_values.proofs.QuotedLemmas.{no_escapes}
use Rattle.imap_values.proofs.strings.text_of.Goals as goal

pub returns-then-all_in_class : goal.returns-then-all_in_class
returns-then-all_in_class c =
    let none : length (take_while_at classes.Unescaped c.args.raw.now).1 ≡ 0 = grind (arith, nat_tests) in
    sym (no_escapes c.args.raw.now none)
