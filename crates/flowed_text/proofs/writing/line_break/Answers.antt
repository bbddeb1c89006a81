use Rattle.std.proofs.Common.{refl, sym, ap, ◌∙◌, subst, length, None, List, ℕ, ◌+◌, true, false}
use Rattle.std.specs.Option.{option_or}
use Rattle.flowed_text.specs.Flow.{is_stuffed, least, may_break}
use Rattle.flowed_text.proofs.Breaks.{Scanned, byte_is, place_space, place_within, scanned-start, scanned-step, scanned-whole, scanned-wide}
use Rattle.flowed_text.proofs.writing.line_break.Goals as goal

pub loop-width-init : goal.loop-width-init
loop-width-init c =
    subst (λ n. Scanned c.args.depth c.args.text.now 0 (c.args.depth + n) None)
    (sym (byte_is c.is_stuffed.result c.from.result (is_stuffed c.args.depth c.args.text.now) c.from.ensures c.is_stuffed.ensures))
    (scanned-start c.args.depth c.args.text.now)

pub returns-then-size-bytes-clause-equals : goal.returns-then-size-bytes-clause-equals
returns-then-size-bytes-clause-equals c =
    scanned-whole c.args.depth c.args.text.now c.loop-width.size c.loop-width.width c.loop-width.last c.loop-width.invariant c.loop-width-test.true
    (c.if-size-bytes.true ∙ ap length c.as_bytes-bytes.ensures.value)

pub loop-width-preserved-then-may_break : goal.loop-width-preserved-then-may_break
loop-width-preserved-then-may_break c =
    scanned-step c.args.depth c.as_bytes-bytes.result.now c.args.text.now c.loop-width.size c.loop-width.width c.from-width.result c.loop-width.last c.begins_character.result true
    c.as_bytes-bytes.ensures.value c.loop-width.invariant c.loop-width-test.true c.if-size-bytes.false
    (byte_is c.begins_character.result c.from-width.result c.begins_character.result c.from-width.ensures refl) c.begins_character.ensures c.if-may_break.ensures

pub loop-width-preserved : goal.loop-width-preserved
loop-width-preserved c =
    scanned-step c.args.depth c.as_bytes-bytes.result.now c.args.text.now c.loop-width.size c.loop-width.width c.from-width.result c.loop-width.last c.begins_character.result false
    c.as_bytes-bytes.ensures.value c.loop-width.invariant c.loop-width-test.true c.if-size-bytes.false
    (byte_is c.begins_character.result c.from-width.result c.begins_character.result c.from-width.ensures refl) c.begins_character.ensures c.if-may_break.ensures

pub returns-clause-equals : goal.returns-clause-equals
returns-clause-equals c =
    c.or.ensures ∙ ap (option_or c.loop-width.last) (c.first_break.ensures ∙ ap (λ (t : List ℕ). least (may_break t) (length t)) c.as_bytes-bytes.ensures.value)
    ∙ scanned-wide c.args.depth c.args.text.now c.loop-width.size c.loop-width.width c.loop-width.last c.loop-width.invariant c.loop-width-test.false

pub returns-clause-within : goal.returns-clause-within
returns-clause-within c = place_within c.args.depth c.args.text.now c.or.result (returns-clause-equals c)

pub returns-clause-space : goal.returns-clause-space
returns-clause-space c = place_space c.args.depth c.args.text.now c.or.result (returns-clause-equals c)
