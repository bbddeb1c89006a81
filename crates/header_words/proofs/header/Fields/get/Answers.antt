use Rattle.std.proofs.Common.{◌+◌, ◌∙◌, ap, length, get_or, arith}
use Rattle.std.proofs.lemmas.List.{get_or_default}
use Rattle.header_words.specs.Places.{raw_field}
use Rattle.header_words.proofs.WholeLines.{length-fields_at, rises_at, field_found}
use Rattle.header_words.proofs.header.Fields.get.Goals as goal

pub index-start-requires : goal.index-start-requires
index-start-requires c =
    let all = length-fields_at c.self.inside.bytes.now c.self.inside.starts.items c.self.inside.end in
    let seen = ap (λ h. length h.fields) c.self.view_is in
    omega (arith, c.self.inside.starts.ok.0)

pub next_start-end-requires : goal.next_start-end-requires
next_start-end-requires c =
    let all = length-fields_at c.self.inside.bytes.now c.self.inside.starts.items c.self.inside.end in
    let seen = ap (λ h. length h.fields) c.self.view_is in
    let same = ap length c.deref.ensures.value in
    omega arith

pub between-requires : goal.between-requires
between-requires c =
    let all = length-fields_at c.self.inside.bytes.now c.self.inside.starts.items c.self.inside.end in
    let seen = ap (λ h. length h.fields) c.self.view_is in
    let rises = rises_at c.self.inside.starts.items c.self.inside.end c.args.index c.self.invariant.0 (omega arith) in
    let start = c.index-start.ensures ∙ get_or_default c.self.inside.starts.items c.args.index c.index-start.result.now 0 (omega arith) in
    let next = c.next_start-end.ensures ∙ ap (λ s. get_or s (c.args.index + 1) c.self.inside.end) c.deref.ensures.value in
    let below = rises.below in
    let within = rises.within in
    let end = c.self.invariant.1 in
    record { rising = omega arith; within = omega arith }

pub returns : goal.returns
returns c =
    let all = length-fields_at c.self.inside.bytes.now c.self.inside.starts.items c.self.inside.end in
    let seen = ap (λ h. length h.fields) c.self.view_is in
    field_found c.self.inside.bytes.now c.self.inside.starts.items c.self.inside.end c.args.index c.index-start.result.now c.next_start-end.result c.args.self.now.fields c.of.result
    (ap (λ h. h.fields) c.self.view_is) (omega arith) c.index-start.ensures (c.next_start-end.ensures ∙ ap (λ s. get_or s (c.args.index + 1) c.self.inside.end) c.deref.ensures.value)
    (c.of.ensures ∙ ap raw_field c.between.ensures)
