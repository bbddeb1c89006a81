-- The leaf that a multipart gives, one multipart at a time.
use Rattle.std.proofs.Common.{◌≡◌, ℕ, ◌+◌, ◌-◌, ◌<◌, ◌≤◌, cond, leb, List, length, take, sym, ap, ◌∙◌, arith, add-one}
use Rattle.std.specs.Prelude.{Option, Some, None, option_and_then}
use Rattle.std.proofs.lemmas.Bool.{le-leb, lt-leb}
use Rattle.mime_tree.specs.Tree.{PartValue, TreeValue}
use Rattle.mime_tree.specs.Best.{leaf_to_show, taken_in}

abbrev then_given : ℕ → TreeValue → List ℕ → PartValue → Option PartValue
then_given depth t section p = cond (leb (length p.section) (length section + 1)) (Some p) (leaf_to_show depth t (take (length section + 1) p.section))

given_step : (t : TreeValue) (section : List ℕ) (step : ℕ) → step < 40 → leaf_to_show (40 - step) t section ≡ option_and_then (then_given (40 - (step + 1)) t section) (taken_in t section)
unfolding leaf_to_show
given_step t section step lt =
    let left : 40 - step ≡ 40 - (step + 1) + 1 = omega arith in
    ap (λ k. leaf_to_show k t section) left ∙ ap (λ k. leaf_to_show k t section) (add-one (40 - (step + 1)))

given_some : (t : TreeValue) (section : List ℕ) (step : ℕ) (p : PartValue) → step < 40 → Some p ≡ taken_in t section → leaf_to_show (40 - step) t section ≡ then_given (40 - (step + 1)) t section p
given_some t section step p lt e = given_step t section step lt ∙ ap (option_and_then (then_given (40 - (step + 1)) t section)) (sym e)

pub given_here : (t : TreeValue) (section numbers : List ℕ) (step : ℕ) (p : PartValue) (whole : Option PartValue) → step < 40 → Some p ≡ taken_in t section → numbers ≡ p.section → length numbers ≤ length section + 1 → leaf_to_show (40 - step) t section ≡ whole → Some p ≡ whole
given_here t section numbers step p whole lt e n short w =
    let few : length p.section ≤ length section + 1 = omega (arith, ap length n) in
    sym (ap (λ b. cond b (Some p) (leaf_to_show (40 - (step + 1)) t (take (length section + 1) p.section))) (le-leb (length p.section) (length section + 1) few)) ∙ sym (given_some t section step p lt e) ∙ w

pub given_inside : (t : TreeValue) (section numbers : List ℕ) (step : ℕ) (p : PartValue) (whole : Option PartValue) → step < 40 → Some p ≡ taken_in t section → numbers ≡ p.section → length section + 1 < length numbers → leaf_to_show (40 - step) t section ≡ whole → leaf_to_show (40 - (step + 1)) t (take (length section + 1) numbers) ≡ whole
given_inside t section numbers step p whole lt e n long w =
    let many : length section + 1 < length p.section = omega (arith, ap length n) in
    ap (λ xs. leaf_to_show (40 - (step + 1)) t (take (length section + 1) xs)) n
    ∙ sym (ap (λ b. cond b (Some p) (leaf_to_show (40 - (step + 1)) t (take (length section + 1) p.section))) (lt-leb (length p.section) (length section + 1) many)) ∙ sym (given_some t section step p lt e) ∙ w

pub given_none : (t : TreeValue) (section : List ℕ) (step : ℕ) (whole : Option PartValue) → step < 40 → None ≡ taken_in t section → leaf_to_show (40 - step) t section ≡ whole → None ≡ whole
given_none t section step whole lt e w = sym (given_step t section step lt ∙ ap (option_and_then (then_given (40 - (step + 1)) t section)) (sym e)) ∙ w

pub given_end : (t : TreeValue) (section : List ℕ) (step : ℕ) (whole : Option PartValue) → 40 ≤ step → leaf_to_show (40 - step) t section ≡ whole → None ≡ whole
unfolding leaf_to_show
given_end t section step whole ge w =
    let left : 40 - step ≡ 0 = omega arith in
    sym (ap (λ k. leaf_to_show k t section) left) ∙ w
