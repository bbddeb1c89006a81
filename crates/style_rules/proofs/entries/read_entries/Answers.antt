use Rattle.std.proofs.Common.{◌++◌, ◌∷◌, [], List, sym, ap, subst, ◌∙◌}
use Rattle.std.specs.List.{position_or_len}
use Rattle.std.proofs.lemmas.Str.{IsCharBoundary-from_ascii}
use Rattle.style_rules.specs.Rules.{Entry, is_semicolon}
use Rattle.style_rules.specs.Seen.{entries_seen}
use Rattle.style_rules.specs.declared.entries.Entry.{Entry as CodeEntry}
use Rattle.style_rules.proofs.TextSteps.{bytes_from, slice_at}
use Rattle.style_rules.proofs.Styles.{IsLeft, all_is_left, ascii_style, entry_is, next_entry}
use Rattle.style_rules.proofs.entries.read_entries.Goals as goal

pub entries-init : goal.entries-init
entries-init c =
    subst (λ (es : List CodeEntry). IsLeft c.args.style.now 0 (entries_seen es)) (sym c.new-entries.ensures.items) (all_is_left c.args.style.now c.requires.washed c.requires.some)

pub range-requires-clause-start_boundary : goal.range-requires-clause-start_boundary
range-requires-clause-start_boundary c = λ _. IsCharBoundary-from_ascii c.args.style.now c.entries.start (ascii_style c.args.style.now c.requires.washed) c.entries.invariant.within

pub returns-then-start-size : goal.returns-then-start-size
returns-then-start-size c =
    let style = c.args.style.now in
    let start = c.entries.start in
    let size = c.find_byte-size.result in
    let text = c.range.result.now in
    let read = entries_seen c.entries.entries.items in
    let at = c.find_byte-size.ensures.equals ∙ ap (position_or_len is_semicolon) (bytes_from c.as_bytes.result.now style start c.as_bytes.ensures.value) in
    let next = next_entry style start size read text c.entries.invariant at (c.range.ensures.value ∙ slice_at style start size) in
    c.in_ok-push_entry.ensures ∙ ap (λ (e : Entry). read ++ e ∷ []) (entry_is next.declaration text next.good next.text_is) ∙ next.last c.if-start-size.true

pub entries-preserved : goal.entries-preserved
entries-preserved c =
    let style = c.args.style.now in
    let start = c.entries.start in
    let size = c.find_byte-size.result in
    let text = c.range.result.now in
    let read = entries_seen c.entries.entries.items in
    let at = c.find_byte-size.ensures.equals ∙ ap (position_or_len is_semicolon) (bytes_from c.as_bytes.result.now style start c.as_bytes.ensures.value) in
    let next = next_entry style start size read text c.entries.invariant at (c.range.ensures.value ∙ slice_at style start size) in
    let added = c.in_ok-push_entry.ensures ∙ ap (λ (e : Entry). read ++ e ∷ []) (entry_is next.declaration text next.good next.text_is) in
    subst (IsLeft style _) (sym added) (next.more c.if-start-size.false)
