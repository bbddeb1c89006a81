use Rattle.std.proofs.Common.{◌≡◌, ◌∷◌, ℕ, List, drop, get_or, IsCharBoundary, ap, sym, subst, ◌∙◌}
use Rattle.html_references.specs.Input.{input, read_as, line_end_len}
use Rattle.html_references.proofs.StretchReads.{special_cut, null_first, return_first, return_boundary}
use Rattle.html_references.proofs.stretch.read_special.Goals as goal

pub range_from-more-requires : goal.range_from-more-requires
range_from-more-requires c _ = special_cut c.args.rest.now c.utf8.rest c.requires.nonempty c.requires.special

pub returns-then-first-eq0-clause-boundary : goal.returns-then-first-eq0-clause-boundary
returns-then-first-eq0-clause-boundary c = special_cut c.args.rest.now c.utf8.rest c.requires.nonempty c.requires.special

pub returns-then-first-eq0-clause-reads : goal.returns-then-first-eq0-clause-reads
returns-then-first-eq0-clause-reads c =
    null_first c.args.read_as c.args.rest.now c.requires.nonempty (subst (λ (l : List ℕ). get_or l 0 0 ≡ 0) c.as_bytes.ensures.value c.if-first-eq0.true)
    ∙ ap (λ (x : ℕ). x ∷ read_as c.args.read_as (input (drop 1 c.args.rest.now))) (sym c.read_null.ensures)

len_is : (c : goal.After-read_line_end) → c.read_line_end.result.len ≡ line_end_len (drop 1 c.args.rest.now)
len_is c = c.read_line_end.ensures.len ∙ ap line_end_len c.range_from-more.ensures.value

pub returns-else-first-eq0-clause-boundary : goal.returns-else-first-eq0-clause-boundary
returns-else-first-eq0-clause-boundary c =
    subst (IsCharBoundary c.args.rest.now) (sym (len_is c)) (return_boundary c.args.rest.now c.utf8.rest c.requires.nonempty c.requires.special (subst (λ (l : List ℕ). (get_or l 0 0 ≡ 38 → ⊥)) c.as_bytes.ensures.value c.if-first-eq38.false) (subst (λ (l : List ℕ). (get_or l 0 0 ≡ 0 → ⊥)) c.as_bytes.ensures.value c.if-first-eq0.false))

pub returns-else-first-eq0-clause-reads : goal.returns-else-first-eq0-clause-reads
returns-else-first-eq0-clause-reads c =
    rw (len_is c, c.read_line_end.ensures.character) (return_first c.args.read_as c.args.rest.now c.utf8.rest c.requires.nonempty c.requires.special (subst (λ (l : List ℕ). (get_or l 0 0 ≡ 38 → ⊥)) c.as_bytes.ensures.value c.if-first-eq38.false) (subst (λ (l : List ℕ). (get_or l 0 0 ≡ 0 → ⊥)) c.as_bytes.ensures.value c.if-first-eq0.false))
