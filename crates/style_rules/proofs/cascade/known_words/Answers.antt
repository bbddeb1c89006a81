use Rattle.std.proofs.Common.{◌≡◌, ◌<◌, ◌+◌, ◌||◌, ◌&&◌, false, length, ap, ◌∙◌, refl, arith}
use Rattle.std.specs.Prelude.{is_some}
use Rattle.std.specs.Map.{lookup}
use Rattle.std.specs.Ordering.{nat_cmp}
use Rattle.std.specs.BTreeMap.{is_at}
use Rattle.std.specs.Cmp.Lexicographic.{slice_cmp}
use Rattle.std.specs.List.{slice_split}
use Rattle.std.proofs.lemmas.List.{take_rest, length-drop}
use Rattle.style_wash.specs.Characters.{is_white}
use Rattle.style_rules.specs.Steps.{has_word}
use Rattle.style_rules.proofs.Last.{classes_begin, is_among_words}
use Rattle.style_rules.proofs.Words.{known_end, known_go_on, nothing_known}
use Rattle.style_rules.proofs.cascade.known_words.Goals as goal

pub words-init : goal.words-init
words-init c = record {
  whole = λ class.
      let none : has_word c.new-words.result class ≡ false = ap (λ es. is_some (lookup (is_at (λ k. slice_cmp nat_cmp class k.now)) es)) c.new-words.ensures.empty in
      ap (λ b. b || (has_word c.args.known.now class && is_among_words class (slice_split is_white c.args.classes.now))) none ∙ nothing_known (has_word c.args.known.now class) _ _ (classes_begin c.args.classes.now class);
  short = omega arith;
}

pub returns-then-size-rest : goal.returns-then-size-rest
returns-then-size-rest c = λ class.
    known_end c.words.rest.now _ c.find_white-size.result (has_word c.args.known.now class) (has_word c.words.words class) (has_word c.add_known.new.words class) _ class c.find_white-size.ensures.equals c.if-size-rest.true refl (c.words.invariant.whole class) (c.in_ok-add_known.ensures class)

pub words-preserved : goal.words-preserved
words-preserved c =
    let rest = c.words.rest.now in
    let size = c.find_white-size.result in
    let lt : size < length rest = omega (arith, c.find_white-size.ensures.within, c.if-size-rest.false) in
    record {
      whole = λ class. known_go_on rest _ _ size (has_word c.args.known.now class) (has_word c.words.words class) (has_word c.add_known.new.words class) _ class c.find_white-size.ensures.equals lt refl (take_rest rest _) (c.words.invariant.whole class) (c.in_ok-add_known.ensures class);
      short = omega (arith, ap length (take_rest rest (size + 1)), length-drop (size + 1) rest, c.words.invariant.short);
    }
