use Rattle.std.proofs.Common.{◌<◌, ◌+◌, length, drop, ap, refl, arith}
use Rattle.std.proofs.lemmas.List.{take_rest, length-drop}
use Rattle.style_rules.proofs.Last.{classes_begin, class_further, class_here, class_last}
use Rattle.style_rules.proofs.cascade.has_class.Goals as goal

pub words-init : goal.words-init
words-init c = record { same = classes_begin c.args.classes.now c.args.class.now; short = omega arith }

pub returns-then-size-rest : goal.returns-then-size-rest
returns-then-size-rest c =
    class_last c.words.rest.now _ c.find_white-size.result _ _ c.args.class.now c.find_white-size.ensures.equals c.if-size-rest.true refl c.words.invariant.same c.eq-here.ensures

pub returns-then-here : goal.returns-then-here
returns-then-here c =
    let rest = c.words.rest.now in
    let size = c.find_white-size.result in
    let lt : size < length rest = omega (arith, c.find_white-size.ensures.within, c.if-size-rest.false) in
    class_here rest _ (drop (size + 1) rest) size _ _ c.args.class.now c.find_white-size.ensures.equals lt refl refl c.words.invariant.same c.eq-here.ensures c.if-here.true

pub words-preserved : goal.words-preserved
words-preserved c =
    let rest = c.words.rest.now in
    let size = c.find_white-size.result in
    let lt : size < length rest = omega (arith, c.find_white-size.ensures.within, c.if-size-rest.false) in
    record {
      same = class_further rest _ _ size _ _ c.args.class.now c.find_white-size.ensures.equals lt refl (take_rest rest (size + 1)) c.words.invariant.same c.eq-here.ensures c.if-here.false;
      short = omega (arith, ap length (take_rest rest (size + 1)), length-drop (size + 1) rest, c.words.invariant.short);
    }
