use Rattle.std.proofs.Common.{◌++◌, List, ℕ, chars, string_bytes, refl, sym, ap, ◌∙◌, append-nil, arith}
use Rattle.std.proofs.lemmas.Str.{IsCharBoundary-start}
use Rattle.html_references.proofs.StretchReads.{nothing_left}
use Rattle.html_references.proofs.stretch.push_stretch.Goals as goal

pub loop-at-init : goal.loop-at-init
loop-at-init c = (IsCharBoundary-start c.args.stretch.now c.utf8.stretch, refl)

pub returns : goal.returns
returns c =
    sym (append-nil (chars (string_bytes c.loop-at.out)))
    ∙ ap (λ (l : List ℕ). chars (string_bytes c.loop-at.out) ++ l) (sym (nothing_left c.args.read_as c.args.stretch.now c.loop-at.at (omega (arith, c.loop-at-test.false))))
    ∙ c.loop-at.invariant.1
