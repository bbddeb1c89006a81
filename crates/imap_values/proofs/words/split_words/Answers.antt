use Rattle.std.proofs.Common.{◌≡◌, ℕ, ◌+◌, ◌-◌, ◌≤◌, List, [], ◌++◌, take, drop, get_or, eqb, false, arith, append_assoc, sym, ap, ◌∙◌}
use Rattle.std.proofs.lemmas.Bool.Decides.{nat_tests}
use Rattle.imap_values.specs.Slices.{slices_of}
use Rattle.imap_values.specs.Words.{words_from, nonempty_word}
use Rattle.imap_values.proofs.WordLemmas.{word_ends, word_goes}
use Rattle.imap_values.proofs.words.split_words.Goals as goal
use Rattle.imap_values.proofs.words.split_words.Goals.{then-text-i-eq32+in_ok-push_nonempty, else-text-i-eq32}

pub loop-i-preserved : goal.loop-i-preserved
loop-i-preserved c = elim c.if-text-i-eq32.branch [
  | then-text-i-eq32+in_ok-push_nonempty w ↦
      let word : List ℕ = take (c.loop-i.i - c.loop-i.from) (drop c.loop-i.from c.args.text.now) in
      let none : c.loop-i.i + 1 - (c.loop-i.i + 1) ≡ 0 = omega arith in
      rw (w.words-is, w.from-is, none) (
        omega arith,
        ap (λ (xs : List (List ℕ)). xs ++ words_from [] (drop (c.loop-i.i + 1) c.args.text.now)) w.in_ok-push_nonempty.ensures
            ∙ append_assoc (slices_of c.loop-i.words.items) (nonempty_word word) (words_from [] (drop (c.loop-i.i + 1) c.args.text.now))
            ∙ ap (λ (xs : List (List ℕ)). slices_of c.loop-i.words.items ++ xs) (sym (word_ends c.args.text.now word c.loop-i.i c.loop-i-test.true w.if-text-i-eq32.true))
            ∙ c.loop-i.invariant.1,
      )
  | else-text-i-eq32 w ↦
      let other : eqb (get_or c.args.text.now c.loop-i.i 0) 32 ≡ false = grind (arith, nat_tests) in
      let le : c.loop-i.from ≤ c.loop-i.i = c.loop-i.invariant.0 in
      rw (w.words-is, w.from-is) (omega arith, ap (λ (xs : List (List ℕ)). slices_of c.loop-i.words.items ++ xs) (sym (word_goes c.args.text.now c.loop-i.from c.loop-i.i le c.loop-i-test.true other)) ∙ c.loop-i.invariant.1)
]
