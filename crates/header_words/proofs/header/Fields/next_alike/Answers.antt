use Rattle.std.proofs.Common.{◌≡◌, ◌+◌, ◌-◌, ◌∙◌, ap, sym, length, drop, [], arith, length-drop}
use Rattle.std.proofs.lemmas.List.{drop_all, take_rest}
use Rattle.std.specs.Prelude.{find}
use Rattle.header_words.specs.Fields.{has_name}
use Rattle.header_words.specs.Places.{first_from}
use Rattle.header_words.proofs.WholeLines.{HasLetters, letters_count, letters_skipped}
use Rattle.header_words.proofs.header.Fields.next_alike.Goals as goal

pub slice_bounds-alike_position-count : goal.slice_bounds-alike_position-count
slice_bounds-alike_position-count c =
    let letters = c.deref.result.now in
    let has : HasLetters c.self.inside.bytes.now c.self.inside.starts.items c.deref.result.now c.self.inside.end c.args.self.now.fields = record { seen = ap (λ h. h.fields) c.self.view_is; rise = c.self.invariant.0; within = c.self.invariant.1; each = c.deref.ensures.value ∙ c.self.invariant.2 } in
    let many = letters_count c.self.inside.bytes.now c.self.inside.starts.items c.deref.result.now c.self.inside.end c.args.self.now.fields has in
    omega (arith, c.requires)

pub slice_bounds-alike_position-start : goal.slice_bounds-alike_position-start
slice_bounds-alike_position-start c =
    let letters = c.deref.result.now in
    let has : HasLetters c.self.inside.bytes.now c.self.inside.starts.items c.deref.result.now c.self.inside.end c.args.self.now.fields = record { seen = ap (λ h. h.fields) c.self.view_is; rise = c.self.invariant.0; within = c.self.invariant.1; each = c.deref.ensures.value ∙ c.self.invariant.2 } in
    let many = letters_count c.self.inside.bytes.now c.self.inside.starts.items c.deref.result.now c.self.inside.end c.args.self.now.fields has in
    omega (arith, c.requires)

pub returns-in_err-skipped-clause-skips : goal.returns-in_err-skipped-clause-skips
returns-in_err-skipped-clause-skips c =
    let letters = c.deref.result.now in
    let has : HasLetters c.self.inside.bytes.now c.self.inside.starts.items c.deref.result.now c.self.inside.end c.args.self.now.fields = record { seen = ap (λ h. h.fields) c.self.view_is; rise = c.self.invariant.0; within = c.self.invariant.1; each = c.deref.ensures.value ∙ c.self.invariant.2 } in
    let many = letters_count c.self.inside.bytes.now c.self.inside.starts.items c.deref.result.now c.self.inside.end c.args.self.now.fields has in
    let part = ap length (take_rest letters c.args.at) in
    let rest = length-drop c.args.at letters in
    let skipped = letters_skipped c.self.inside.bytes.now c.self.inside.starts.items c.deref.result.now c.args.name.now c.self.inside.end c.args.self.now.fields c.args.at in
    let n = length letters - c.args.at in
    let over : drop (c.args.at + n) c.args.self.now.fields ≡ [] = drop_all (c.args.at + n) c.args.self.now.fields (omega (arith, c.requires)) in
    skipped n has (omega (arith, c.requires)) (λ k below. c.in_err-skipped.ensures k (omega arith) (omega arith))
    ∙ ap (find (has_name c.args.name.now)) over ∙ ap (first_from c.args.name.now c.args.self.now.fields) (sym c.from_residual.ensures)

pub returns-clause-within : goal.returns-clause-within
returns-clause-within c =
    let letters = c.deref.result.now in
    let has : HasLetters c.self.inside.bytes.now c.self.inside.starts.items c.deref.result.now c.self.inside.end c.args.self.now.fields = record { seen = ap (λ h. h.fields) c.self.view_is; rise = c.self.invariant.0; within = c.self.invariant.1; each = c.deref.ensures.value ∙ c.self.invariant.2 } in
    let many = letters_count c.self.inside.bytes.now c.self.inside.starts.items c.deref.result.now c.self.inside.end c.args.self.now.fields has in
    let part = ap length (take_rest letters c.args.at) in
    let rest = length-drop c.args.at letters in
    let high = c.in_ok-skipped.ensures.0.high in
    (omega arith, omega (arith, c.requires))

pub returns-clause-skips : goal.returns-clause-skips
returns-clause-skips c =
    let letters = c.deref.result.now in
    let has : HasLetters c.self.inside.bytes.now c.self.inside.starts.items c.deref.result.now c.self.inside.end c.args.self.now.fields = record { seen = ap (λ h. h.fields) c.self.view_is; rise = c.self.invariant.0; within = c.self.invariant.1; each = c.deref.ensures.value ∙ c.self.invariant.2 } in
    let many = letters_count c.self.inside.bytes.now c.self.inside.starts.items c.deref.result.now c.self.inside.end c.args.self.now.fields has in
    let part = ap length (take_rest letters c.args.at) in
    let rest = length-drop c.args.at letters in
    let skipped = letters_skipped c.self.inside.bytes.now c.self.inside.starts.items c.deref.result.now c.args.name.now c.self.inside.end c.args.self.now.fields c.args.at in
    let first = c.in_ok-skipped.ensures.0 in
    let high = first.high in
    skipped c.in_ok-skipped.skipped has (omega (arith, c.requires)) (λ k below. first.before k (omega arith) below)
