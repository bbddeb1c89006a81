use Rattle.std.proofs.Common.{◌≡◌, ◌-◌, ◌++◌, ℕ, List, take, chars, string_bytes, ap, ◌∙◌, arith}
use Rattle.html_references.specs.Input.{input, read_as}
use Rattle.html_references.proofs.StretchReads.{plain_then, plain_all}
use Rattle.html_references.proofs.stretch.read_stretch.Goals.{then-plain-stretch+in_ok-push_stretch, else-plain-stretch}
use Rattle.html_references.proofs.stretch.read_stretch.Goals as goal

pub returns : goal.returns
returns c =
    let n = c.plain_len-plain.result in
    let bytes = c.args.stretch.now in
    let plain = c.plain_len-plain.ensures in
    let whole : n - 0 ≡ n = omega arith in
    let front : string_bytes c.push_str.new.self ≡ take n bytes =
    c.in_ok-push_str.ensures.bytes ∙ ap (λ (l : List ℕ). l ++ c.range.result.now) c.in_ok-text.ensures.bytes ∙ c.range.ensures.value ∙ ap (λ (k : ℕ). take k bytes) whole in
    elim c.if-plain-stretch.branch [
      | then-plain-stretch+in_ok-push_stretch w ↦
          rw w.text-is (
          w.in_ok-push_stretch.ensures
          ∙ ap (λ (l : List ℕ). chars l ++ read_as c.args.read_as (input w.range_from.result.now)) front
          ∙ ap (λ (l : List ℕ). chars (take n bytes) ++ read_as c.args.read_as (input l)) w.range_from.ensures.value
          ∙ plain_then c.args.read_as bytes n c.utf8.stretch plain.boundary plain.plain)
      | else-plain-stretch w ↦
          rw w.text-is (ap chars front ∙ plain_all c.args.read_as bytes n c.utf8.stretch plain.boundary plain.plain w.if-plain-stretch.false)
    ]
