-- Rules are added one after the other.
use Rattle.std.proofs.Common.{◌≡◌, ℕ, zero, suc, ◌+◌, ◌-◌, ◌<◌, ◌≤◌, nat_le, Bool, true, false, ◌||◌, inl, inr, List, [], ◌∷◌, ◌++◌, length, map, take, drop, Option, Some, None, refl, sym, ap, subst, ◌∙◌, arith, append_assoc}
use Rattle.std.specs.List.{filter_map, flat_map, slice_split, after_first, cons_option, list_any, position_or_len}
use Rattle.std.proofs.lemmas.List.{append-nil, length-append, take_all, length-take-le, take-append-le}
use Rattle.std.proofs.Math.Seq.{take-append-add}
use Rattle.std.proofs.lemmas.Bool.{cases_Bool, leb-true, leb-false}
use Rattle.std.proofs.lemmas.List.Splits.{slice_split_first}
use Rattle.style_wash.specs.Characters.{is_comma}
use Rattle.style_rules.specs.Blocks.{Block, BlockAndRest, is_left_brace, blocks_within, first_block, onto_blocks, spaced}
use Rattle.style_wash.specs.Declarations.{Declaration, declarations, stylewash}
use Rattle.style_rules.proofs.Styles.{declarations_washed}
use Rattle.style_rules.specs.Rules.{Entry, Rule, entry_of, entries_in, is_at_rule, is_rule_style, last_statement, option_list, rule_with, rules, rules_limit, rules_of_block, with_rules}
use Rattle.style_rules.proofs.TextSteps.{last_piece}

nothing_taken : (n : ℕ) → take {A = Rule} n [] ≡ []
nothing_taken zero = refl
nothing_taken (suc n) = refl

pub with_none : (kept : List Rule) → with_rules kept [] ≡ kept
with_none kept = ap (λ (rs : List Rule). kept ++ rs) (nothing_taken (rules_limit - length kept)) ∙ append-nil kept

pub with_full : (kept more : List Rule) → rules_limit ≤ length kept → with_rules kept more ≡ kept
with_full kept more full =
    let none : rules_limit - length kept ≡ 0 = omega arith in
    ap (λ (n : ℕ). kept ++ take n more) none ∙ append-nil kept

room_left : (kept first second : List Rule) → length first ≤ rules_limit - length kept → with_rules (with_rules kept first) second ≡ with_rules kept (first ++ second)
room_left kept first second le =
    let n = rules_limit - length kept in
    let m = n - length first in
    let all : take n first ≡ first = take_all n first le in
    let left : rules_limit - length (kept ++ first) ≡ m = omega (arith, length-append kept first) in
    let split : length first + m ≡ n = omega arith in
    ap (λ (rs : List Rule). (kept ++ rs) ++ take (rules_limit - length (kept ++ rs)) second) all
    ∙ ap (λ (k : ℕ). (kept ++ first) ++ take k second) left
    ∙ append_assoc kept first (take m second)
    ∙ ap (λ (rs : List Rule). kept ++ rs) (sym (take-append-add first second m) ∙ ap (λ (k : ℕ). take k (first ++ second)) split)

no_room : (kept first second : List Rule) → rules_limit - length kept < length first → with_rules (with_rules kept first) second ≡ with_rules kept (first ++ second)
no_room kept first second lt =
    let n = rules_limit - length kept in
    let full : rules_limit ≤ length (kept ++ take n first) = omega (arith, length-append kept (take n first), length-take-le n first (omega arith)) in
    with_full (kept ++ take n first) second full ∙ ap (λ (rs : List Rule). kept ++ rs) (sym (take-append-le n first second (omega arith)))

pub with_more : (kept first second : List Rule) → with_rules (with_rules kept first) second ≡ with_rules kept (first ++ second)
with_more kept first second = elim (cases_Bool (nat_le (length first) (rules_limit - length kept))) [
  | inl fits ↦ room_left kept first second (leb-true (length first) (rules_limit - length kept) fits)
  | inr over ↦ no_room kept first second (leb-false (length first) (rules_limit - length kept) over)
]

-- ---- the selectors of a prelude

abbrev pub texts_rules : List Entry → List (List ℕ) → List Rule
texts_rules entries texts = filter_map (rule_with entries) texts

pub one_text : (entries : List Entry) (text : List ℕ) (texts : List (List ℕ)) → texts_rules entries (text ∷ texts) ≡ option_list (rule_with entries text) ++ texts_rules entries texts
one_text entries text texts =
    elim (rule_with entries text) as (λ (o : Option Rule). cons_option o (texts_rules entries texts) ≡ option_list o ++ texts_rules entries texts) [ None ↦ refl | Some rule ↦ refl ]

pub selectors_end : (kept new whole : List Rule) (entries : List Entry) (rest text : List ℕ) (size : ℕ) → size ≡ position_or_len is_comma rest → size ≡ length rest → text ≡ take size rest
    → with_rules kept (texts_rules entries (slice_split is_comma rest)) ≡ whole → new ≡ with_rules kept (option_list (rule_with entries text)) → new ≡ whole
selectors_end kept new whole entries rest text size at all is goal added =
    let same : text ≡ rest = is ∙ take_all size rest (omega (arith, all)) in
    added ∙ ap (λ (t : List ℕ). with_rules kept (option_list (rule_with entries t))) same
    ∙ ap (with_rules kept) (sym (ap (texts_rules entries) (last_piece is_comma rest (sym at ∙ all)) ∙ one_text entries rest [] ∙ append-nil (option_list (rule_with entries rest)))) ∙ goal

pub selectors_go_on : (kept new whole : List Rule) (entries : List Entry) (rest text after : List ℕ) (size : ℕ) → size ≡ position_or_len is_comma rest → size < length rest → text ≡ take size rest → after ≡ drop (size + 1) rest
    → with_rules kept (texts_rules entries (slice_split is_comma rest)) ≡ whole → new ≡ with_rules kept (option_list (rule_with entries text))
    → with_rules new (texts_rules entries (slice_split is_comma after)) ≡ whole
selectors_go_on kept new whole entries rest text after size at lt is then goal added =
    let split : slice_split is_comma rest ≡ text ∷ slice_split is_comma after =
    slice_split_first is_comma rest 0 (subst (λ (n : ℕ). n < length rest) at lt)
    ∙ ap (λ (t : List ℕ). t ∷ slice_split is_comma (after_first is_comma rest)) (ap (λ (n : ℕ). take n rest) (sym at) ∙ sym is)
    ∙ ap (λ (t : List ℕ). text ∷ slice_split is_comma t) (ap (λ (n : ℕ). drop (n + 1) rest) (sym at) ∙ sym then) in
    ap (λ (rs : List Rule). with_rules rs (texts_rules entries (slice_split is_comma after))) added
    ∙ with_more kept (option_list (rule_with entries text)) (texts_rules entries (slice_split is_comma after))
    ∙ ap (with_rules kept) (sym (ap (texts_rules entries) split ∙ one_text entries text (slice_split is_comma after))) ∙ goal

-- ---- the blocks of a text

abbrev pub blocks_rules : List Block → List Rule
blocks_rules all = flat_map rules_of_block all

-- rules, with those of the blocks of the rest, are those of the whole text
pub record IsReading (kept : List Rule) (rest : List ℕ) (whole : List Rule) : Type 0 where
  pub most : ℕ
  pub enough : length rest ≤ most
  pub rules_are : with_rules kept (blocks_rules (blocks_within most rest)) ≡ whole

pub begins : (kept : List Rule) (text rest : List ℕ) → rest ≡ spaced text → IsReading kept rest (with_rules kept (rules text))
unfolding rules
begins kept text rest is = record {
  most = length (spaced text);
  enough = omega (arith, ap length is);
  rules_are = ap (λ (t : List ℕ). with_rules kept (blocks_rules (blocks_within (length (spaced text)) t))) is;
}

no_blocks : (most : ℕ) (rest : List ℕ) → first_block rest ≡ None → blocks_within most rest ≡ []
unfolding blocks_within
no_blocks zero rest none = refl
no_blocks (suc most) rest none = ap (onto_blocks (blocks_within most)) none

pub reading_ends : (kept whole : List Rule) (rest : List ℕ) → first_block rest ≡ None → IsReading kept rest whole → kept ≡ whole
reading_ends kept whole rest none r = sym (with_none kept) ∙ ap (λ (bs : List Block). with_rules kept (blocks_rules bs)) (sym (no_blocks r.most rest none)) ∙ r.rules_are

one_block : (most : ℕ) (rest : List ℕ) (first : BlockAndRest) → first_block rest ≡ Some first → blocks_within (suc most) rest ≡ first.block ∷ blocks_within most first.rest
unfolding blocks_within
one_block most rest first some = ap (onto_blocks (blocks_within most)) some

goes_on : (most : ℕ) (kept new whole : List Rule) (rest : List ℕ) (first : BlockAndRest) → first_block rest ≡ Some first → length first.rest < length rest → length rest ≤ most
    → with_rules kept (blocks_rules (blocks_within most rest)) ≡ whole → new ≡ with_rules kept (rules_of_block first.block) → IsReading new first.rest whole
goes_on zero kept new whole rest first some less enough goal added = absurd (omega arith)
goes_on (suc most) kept new whole rest first some less enough goal added = record {
  most = most;
  enough = omega arith;
  rules_are =
      ap (λ (rs : List Rule). with_rules rs (blocks_rules (blocks_within most first.rest))) added
      ∙ with_more kept (rules_of_block first.block) (blocks_rules (blocks_within most first.rest))
      ∙ ap (λ (bs : List Block). with_rules kept (blocks_rules bs)) (sym (one_block most rest first some)) ∙ goal;
}

pub reading_goes_on : (kept new whole : List Rule) (rest : List ℕ) (first : BlockAndRest) → first_block rest ≡ Some first → length first.rest < length rest → IsReading kept rest whole → new ≡ with_rules kept (rules_of_block first.block) → IsReading new first.rest whole
reading_goes_on kept new whole rest first some less r added = goes_on r.most kept new whole rest first some less r.enough r.rules_are added

-- ---- a block

abbrev pub is_without : Block → Bool
is_without block = is_at_rule (last_statement block.prelude) || list_any is_left_brace block.body

pub no_rules : (kept : List Rule) (block : Block) → is_without block ≡ true → kept ≡ with_rules kept (rules_of_block block)
unfolding rules_of_block
no_rules kept block none = sym (ap (with_rules kept) (rw none refl) ∙ with_none kept)

pub no_style : (kept : List Rule) (block : Block) (style : List ℕ) → is_without block ≡ false → style ≡ stylewash block.body → is_rule_style style ≡ false → kept ≡ with_rules kept (rules_of_block block)
unfolding rules_of_block
no_style kept block style some washed none = sym (ap (with_rules kept) (rw (some, ap is_rule_style (sym washed) ∙ none) refl) ∙ with_none kept)

pub some_rules : (kept new : List Rule) (block : Block) (style : List ℕ) → is_without block ≡ false → style ≡ stylewash block.body → is_rule_style style ≡ true
    → new ≡ with_rules kept (texts_rules (map entry_of (declarations style)) (slice_split is_comma (last_statement block.prelude))) → new ≡ with_rules kept (rules_of_block block)
unfolding rules_of_block entries_in
some_rules kept new block style some washed fits added =
    added ∙ ap (λ (ds : List Declaration). with_rules kept (texts_rules (map entry_of ds) (slice_split is_comma (last_statement block.prelude)))) (ap declarations washed ∙ declarations_washed block.body)
    ∙ ap (with_rules kept) (sym (rw (some, ap is_rule_style (sym washed) ∙ fits) refl))
