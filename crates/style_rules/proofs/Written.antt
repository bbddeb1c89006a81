-- What rules declare is a washed style.
use Rattle.std.proofs.Common.{◌≡◌, ℕ, zero, suc, ◌-◌, Bool, true, false, not, ◌||◌, if◌then◌else◌, List, [], ◌∷◌, ◌++◌, length, map, take, Option, Some, None, refl, sym, ap, subst, ◌∙◌, inl, inr}
use Rattle.std.specs.Prelude.{codes, nat_lt}
use Rattle.std.specs.Option.{option_map}
use Rattle.std.specs.List.{AllByRecursion, flat_map, list_any, slice_split}
use Rattle.std.proofs.lemmas.Bool.{cases_Bool}
use Rattle.html_rules.specs.Tables.{Name}
use Rattle.style_wash.specs.Characters.{is_comma}
use Rattle.style_wash.specs.Declarations.{Declaration, IsDeclaration, IsStyle, declarations, is_style, style_of, stylewash, written}
use Rattle.style_wash.proofs.Styles.{IsGoodDeclaration, good_declarations, reads, styles_are_fixed_points}
use Rattle.style_rules.specs.Selectors.{Selector, selector_of}
use Rattle.style_rules.specs.Blocks.{Block, blocks, is_left_brace, spaced}
use Rattle.style_rules.specs.Rules.{Entry, Rule, entries_in, entry_of, is_at_rule, is_rule_style, last_statement, option_list, rule_with, rules, rules_limit, rules_of_block, with_rules}
use Rattle.style_rules.specs.Cascade.{declared, entries_for, entries_of, has_class, has_property, is_by_name, is_by_class, is_by_both, joined, last_of_each, within_limit}
use Rattle.style_rules.specs.Law.{IsWritten, AreWritten}
use Rattle.style_rules.proofs.RuleSteps.{one_text, texts_rules}
use Rattle.style_rules.proofs.Last.{entries_more, entries_other, no_entries}

all_both : {A : Type 0} (P : A → Type 0) (xs ys : List A) → AllByRecursion P xs → AllByRecursion P ys → AllByRecursion P (xs ++ ys)
all_both P [] ys a b = b
all_both P (x ∷ xs) ys a b = (a.0, all_both P xs ys a.1 b)

all_take : {A : Type 0} (P : A → Type 0) (n : ℕ) (xs : List A) → AllByRecursion P xs → AllByRecursion P (take n xs)
all_take P zero xs a = tt
all_take P (suc n) [] a = tt
all_take P (suc n) (x ∷ xs) a = (a.0, all_take P n xs a.1)

-- ---- the rules of a text

each_written : (all : List Declaration) → AllByRecursion IsGoodDeclaration all → AllByRecursion IsWritten (map entry_of all)
each_written [] good = tt
each_written (d ∷ all) good = (record { declaration = d; reads = reads d good.0; is = refl }, each_written all good.1)

body_written : (body : List ℕ) → AllByRecursion IsWritten (entries_in body)
unfolding entries_in
body_written body = each_written (declarations body) (good_declarations body)

rule_written : (entries : List Entry) (rule : Option Selector) → AllByRecursion IsWritten entries → AreWritten (option_list (option_map (λ selector. record { selector = selector; entries = entries }) rule))
rule_written entries None good = tt
rule_written entries (Some selector) good = (good, tt)

texts_written : (entries : List Entry) (texts : List (List ℕ)) → AllByRecursion IsWritten entries → AreWritten (texts_rules entries texts)
texts_written entries [] good = tt
texts_written entries (text ∷ texts) good =
    subst AreWritten (sym (one_text entries text texts))
    (all_both (λ (r : Rule). AllByRecursion IsWritten r.entries) (option_list (rule_with entries text)) (texts_rules entries texts) (rule_written entries (selector_of text) good) (texts_written entries texts good))

block_written : (block : Block) → AreWritten (rules_of_block block)
unfolding rules_of_block
block_written block =
    elim (is_at_rule (last_statement block.prelude) || list_any is_left_brace block.body || not (is_rule_style (stylewash block.body))) as (λ (b : Bool). AreWritten (if b then [] else texts_rules (entries_in block.body) (slice_split is_comma (last_statement block.prelude)))) [
      | true ↦ tt
      | false ↦ texts_written (entries_in block.body) (slice_split is_comma (last_statement block.prelude)) (body_written block.body)
    ]

blocks_written : (all : List Block) → AreWritten (flat_map rules_of_block all)
blocks_written [] = tt
blocks_written (block ∷ all) = all_both (λ (r : Rule). AllByRecursion IsWritten r.entries) (rules_of_block block) (flat_map rules_of_block all) (block_written block) (blocks_written all)

rules_written : (text : List ℕ) → AreWritten (rules text)
unfolding rules
rules_written text = blocks_written (blocks (spaced text))

pub read_written : (kept : List Rule) (text : List ℕ) → AreWritten kept → AreWritten (with_rules kept (rules text))
read_written kept text good =
    all_both (λ (r : Rule). AllByRecursion IsWritten r.entries) kept (take (rules_limit - length kept) (rules text)) good
    (all_take (λ (r : Rule). AllByRecursion IsWritten r.entries) (rules_limit - length kept) (rules text) (rules_written text))

-- ---- what they declare

entries_written : (p : Selector → Bool) (all : List Rule) → AreWritten all → AllByRecursion IsWritten (entries_of p all)
entries_written p [] good = subst (AllByRecursion IsWritten) (sym (no_entries p)) tt
entries_written p (r ∷ all) good = elim (cases_Bool (p r.selector)) [
  | inl e ↦ subst (AllByRecursion IsWritten) (sym (entries_more p r all e)) (all_both IsWritten r.entries (entries_of p all) good.0 (entries_written p all good.1))
  | inr e ↦ subst (AllByRecursion IsWritten) (sym (entries_other p r all e)) (entries_written p all good.1)
]

last_written : (entries : List Entry) → AllByRecursion IsWritten entries → AllByRecursion IsWritten (last_of_each entries)
unfolding last_of_each
last_written [] good = tt
last_written (first ∷ more) good =
    elim (has_property first.property more) as (λ (b : Bool). AllByRecursion IsWritten (if b then last_of_each more else first ∷ last_of_each more)) [
      | true ↦ last_written more good.1
      | false ↦ (good.0, last_written more good.1)
    ]

declarations_of : (entries : List Entry) → AllByRecursion IsWritten entries → List Declaration
declarations_of [] good = []
declarations_of (e ∷ more) good = good.0.declaration ∷ declarations_of more good.1

each_reads : (entries : List Entry) (good : AllByRecursion IsWritten entries) → AllByRecursion IsDeclaration (declarations_of entries good)
unfolding declarations_of
each_reads [] good = tt
each_reads (e ∷ more) good = (good.0.reads, each_reads more good.1)

rest_is : (entries : List Entry) (good : AllByRecursion IsWritten entries) → flat_map (λ (e : Entry). codes "; " ++ e.text) entries ≡ flat_map (λ (d : Declaration). codes "; " ++ written d) (declarations_of entries good)
unfolding declarations_of
rest_is [] good = refl
rest_is (e ∷ more) good =
    ap (λ (x : Entry). (codes "; " ++ x.text) ++ flat_map (λ (y : Entry). codes "; " ++ y.text) more) good.0.is
    ∙ ap (λ (t : List ℕ). (codes "; " ++ written good.0.declaration) ++ t) (rest_is more good.1)

joined_is : (entries : List Entry) (good : AllByRecursion IsWritten entries) → joined entries ≡ style_of (declarations_of entries good)
unfolding style_of declarations_of
joined_is [] good = refl
joined_is (e ∷ more) good =
    ap (λ (x : Entry). x.text ++ flat_map (λ (y : Entry). codes "; " ++ y.text) more) good.0.is
    ∙ ap (λ (t : List ℕ). written good.0.declaration ++ t) (rest_is more good.1)

empty_style : IsStyle []
unfolding style_of
empty_style = record { all = []; each = tt; is = refl }

limited : (style : List ℕ) → IsStyle style → IsStyle (within_limit style)
limited style is = elim (nat_lt 1024 (length style)) as (λ (b : Bool). IsStyle (if b then [] else style)) [ true ↦ empty_style | false ↦ is ]

declared_style : (all : List Rule) (name classes : List ℕ) → AreWritten all → IsStyle (declared all name classes)
unfolding declared
declared_style all name classes good =
    let entries = entries_for all name (has_class classes) in
    let each : AllByRecursion IsWritten entries =
    all_both IsWritten (entries_of (is_by_name name) all) (entries_of (is_by_class (has_class classes)) all ++ entries_of (is_by_both name (has_class classes)) all) (entries_written (is_by_name name) all good)
    (all_both IsWritten (entries_of (is_by_class (has_class classes)) all) (entries_of (is_by_both name (has_class classes)) all) (entries_written (is_by_class (has_class classes)) all good) (entries_written (is_by_both name (has_class classes)) all good)) in
    let last = last_written entries each in
    limited (joined (last_of_each entries)) (record { all = declarations_of (last_of_each entries) last; each = each_reads (last_of_each entries) last; is = joined_is (last_of_each entries) last })

pub declared_is : (all : List Rule) (name : Name) (classes : List ℕ) → AreWritten all → is_style (declared all name classes) ≡ true
declared_is all name classes good = (styles_are_fixed_points (declared all name classes)).0 (declared_style all name classes good)
