use Rattle.std.proofs.Common.{ap, sym, ◌∙◌, ◌++◌, List, ℕ, rules}
use Rattle.std.specs.Prelude.{string_bytes}
use Rattle.std.proofs.lemmas.Result.{err_from_is_err_and}
use Rattle.mail_addresses.specs.Boxes.{quoted_at}
use Rattle.mail_addresses.proofs.QuotedLemmas.{ends, goes_on, shorter, stops}
use Rattle.mail_addresses.proofs.quoted.quoted.Goals as goal

pub returns-in-Some : goal.returns-in-Some
returns-in-Some c =
    rw (c.from_string.ensures, c.in_ok-push_str.ensures.bytes) (ends (string_bytes c.loop-name.name) c.loop-name.rest.now c.take_while.result.0.now c.take_while.result.1.now c.in-Some.after.now (quoted_at c.args.text.now)
    c.take_while.ensures.run c.take_while.ensures.rest c.in-Some.ensures c.loop-name.invariant.read)

pub returns-in_err-after : goal.returns-in_err-after
returns-in_err-after c =
    let p = err_from_is_err_and c.from_residual-in_err-after.result c.from_residual-in_err-after.ensures.1 in
    rw (p.1, p.2) (stops c.in_err-after.field-0.0 (string_bytes c.loop-name.name) c.loop-name.rest.now c.take_while.result.0.now c.take_while.result.1.now (quoted_at c.args.text.now)
    c.take_while.ensures.run c.take_while.ensures.rest c.in_default.ensures c.in_err-after.ensures c.loop-name.invariant.read)

pub loop-name-preserved : goal.loop-name-preserved
loop-name-preserved c = record {
  text = search rules;
  read = goes_on (string_bytes c.loop-name.name) c.loop-name.rest.now c.take_while.result.0.now c.take_while.result.1.now c.in_ok-after.after.now c.split_escaped.result.0.now c.split_escaped.result.1.now
      (string_bytes c.push_str-in-loop-name.new.self) (quoted_at c.args.text.now) c.take_while.ensures.run c.take_while.ensures.rest c.in_ok-after.ensures
      c.split_escaped.ensures.mark c.split_escaped.ensures.rest
      (c.in_ok-push_str-2.ensures.bytes ∙ ap (λ (x : List ℕ). x ++ c.split_escaped.result.0.now) c.in_ok-push_str.ensures.bytes) c.loop-name.invariant.read;
}

pub loop-name-smaller : goal.loop-name-smaller
loop-name-smaller c = shorter c.loop-name.rest.now c.take_while.result.1.now c.in_ok-after.after.now c.split_escaped.result.1.now _ c.take_while.ensures.rest c.in_ok-after.ensures c.split_escaped.ensures.rest
