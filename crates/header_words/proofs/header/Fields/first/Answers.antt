use Rattle.std.proofs.Common.{◌∙◌, sym, ap, drop, arith}
use Rattle.header_words.specs.Fields.{first_of}
use Rattle.header_words.proofs.WholeLines.{first_further, first_here}
use Rattle.header_words.proofs.header.Fields.first.Goals as goal

pub returns-then-is_named : goal.returns-then-is_named
returns-then-is_named c =
    let fields = c.args.self.now.fields in
    let same = c.as_bytes.ensures.value in
    sym (c.loop-at.invariant.1
    ∙ ap (λ n. first_of n (drop c.loop-at.at fields)) (sym same) ∙ c.in_ok-index.ensures.skips ∙ ap (λ n. first_of n (drop c.in_ok-index.index fields)) same
    ∙ first_here c.args.name.now fields c.get-field.result c.in_ok-index.index c.get-field.ensures c.if-is_named.ensures)

pub loop-at-preserved : goal.loop-at-preserved
loop-at-preserved c =
    let fields = c.args.self.now.fields in
    let same = c.as_bytes.ensures.value in
    let high = c.in_ok-index.ensures.within.1 in (
      omega arith,
      c.loop-at.invariant.1
          ∙ ap (λ n. first_of n (drop c.loop-at.at fields)) (sym same) ∙ c.in_ok-index.ensures.skips ∙ ap (λ n. first_of n (drop c.in_ok-index.index fields)) same
          ∙ first_further c.args.name.now fields c.get-field.result c.in_ok-index.index c.get-field.ensures c.if-is_named.ensures,
    )
