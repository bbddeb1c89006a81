use Rattle.std.proofs.Common.{◌≡◌, ◌++◌, ◌-◌, ℕ, List, take, ap, ◌∙◌, string_bytes, arith}
use Rattle.std.proofs.lemmas.Str.{IsUtf8-string_bytes}
use Rattle.html_references.proofs.StretchReads.{front_added, character_added}
use Rattle.html_references.proofs.stretch.push_front.Goals as goal

pub returns-in_ok-push_str-clause-reads : goal.returns-in_ok-push_str-clause-reads
returns-in_ok-push_str-clause-reads c =
    let n = c.plain_len-plain.result in
    let whole : n - 0 ≡ n = omega arith in
    front_added c.args.read_as (string_bytes c.args.out.now) (string_bytes c.push_str.new.self) c.args.rest.now n (IsUtf8-string_bytes c.args.out.now) c.utf8.rest
    c.plain_len-plain.ensures.boundary c.plain_len-plain.ensures.plain
    (c.in_ok-push_str.ensures.bytes ∙ ap (λ (l : List ℕ). string_bytes c.args.out.now ++ l) c.range.ensures.value ∙ ap (λ (k : ℕ). string_bytes c.args.out.now ++ take k c.args.rest.now) whole)

pub returns-in_ok-push_character-clause-reads : goal.returns-in_ok-push_character-clause-reads
returns-in_ok-push_character-clause-reads c =
    character_added c.args.read_as (string_bytes c.args.out.now) (string_bytes c.push_character.new.out) c.args.rest.now c.read_special-found.result.len c.read_special-found.result.character
    c.in_ok-push_character.ensures c.read_special-found.ensures.reads
