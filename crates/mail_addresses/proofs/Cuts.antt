-- Where a text can be cut, and its first byte.
use Rattle.std.proofs.Common.{◌≡◌, ◌≢◌, ℕ, zero, suc, ◌+◌, ◌-◌, ◌<◌, ◌≤◌, inl, inr, Bool, true, false, eqb, List, [], ◌∷◌, length, take, get_or, refl, sym, ap, subst, ◌∙◌, arith, Some, None}
use Rattle.std.specs.Prelude.{nat_lt, codes, ◌||◌}
use Rattle.std.specs.List.{prefix_len, suffix_len, list_any, list_all}
use Rattle.std.specs.Str.{IsCharBoundary, IsUtf8}
use Rattle.std.proofs.lemmas.Str.{IsCharBoundary-after_ascii, IsCharBoundary-start}
use Rattle.std.proofs.lemmas.List.Sums.{prefix_len-le-length, prefix_len_passes, prefix_len_stops, suffix_len-take_yes, suffix_len-take_no}
use Rattle.std.proofs.lemmas.Bool.{cases_Bool, eqb-true, ne_eqb, ltb-true, or_cases}
use Rattle.std.proofs.lemmas.Bool.Decides.{nat_tests}
use Rattle.mail_addresses.specs.Runs.{in_class, is_alphanumeric, is_domain, is_local, is_name, is_quoted, is_space, strip_at}
use Rattle.mail_addresses.specs.Boxes.{escaped_len}
use Rattle.mail_addresses.specs.declared.runs.Class.{Class}
use Rattle.mail_addresses.specs.declared.runs.Class.TheVariants as classes

-- ---- the first byte

pub strip-none : (b : ℕ) (text : List ℕ) → ((rest : List ℕ) → text ≢ b ∷ rest) → None ≡ strip_at b text
strip-none b [] other = refl
strip-none b (c ∷ rest) other = rw (ne_eqb c b (λ e. other rest (ap (λ k. k ∷ rest) e))) refl

-- ---- after a run

cut_ascii_at : (p : ℕ → Bool) (text : List ℕ) (n : ℕ) → ((b : ℕ) → p b ≡ true → b < 128) → IsUtf8 text → prefix_len p text ≡ n → IsCharBoundary text n
cut_ascii_at p text zero small valid e = IsCharBoundary-start text valid
cut_ascii_at p text (suc k) small valid e =
    let bound : prefix_len p text ≤ length text = prefix_len-le-length p text in
    let place : k + 1 ≡ suc k = omega arith in
    subst (IsCharBoundary text) place (IsCharBoundary-after_ascii text k valid (omega arith) (small (get_or text k 0) (prefix_len_passes p text k 0 (omega arith))))

cut_ascii : (p : ℕ → Bool) (text : List ℕ) → ((b : ℕ) → p b ≡ true → b < 128) → IsUtf8 text → IsCharBoundary text (prefix_len p text)
cut_ascii p text small valid = cut_ascii_at p text (prefix_len p text) small valid refl

cut_other : (p : ℕ → Bool) (text : List ℕ) → ((b : ℕ) → p b ≡ false → b < 128) → IsCharBoundary text (prefix_len p text)
cut_other p text small =
    (prefix_len-le-length p text, λ lt high. let low : get_or text (prefix_len p text) 0 < 128 = small (get_or text (prefix_len p text) 0) (prefix_len_stops p text 0 lt) in omega arith)

any_small : (c : ℕ) (marks : List ℕ) → list_all (λ m. nat_lt m 128) marks ≡ true → list_any (λ m. eqb m c) marks ≡ true → c < 128
any_small c [] all any = absurd (grind arith)
any_small c (m ∷ marks) all any = grind (arith, nat_tests, any_small c marks)

alphanumeric_small : (b : ℕ) → is_alphanumeric b ≡ true → b < 128
alphanumeric_small b e = grind (arith, nat_tests)

space_small : (b : ℕ) → is_space b ≡ true → b < 128
space_small b e = grind (arith, nat_tests)

domain_small : (b : ℕ) → is_domain b ≡ true → b < 128
domain_small b e = grind (arith, nat_tests)

name_small : (b : ℕ) → is_name b ≡ false → b < 128
name_small b e = grind (arith, nat_tests)

quoted_small : (b : ℕ) → is_quoted b ≡ false → b < 128
quoted_small b e = grind (arith, nat_tests)

local_small : (b : ℕ) → is_local b ≡ true → b < 128
unfolding is_local
local_small b e = elim (or_cases (is_alphanumeric b) (list_any (λ m. eqb m b) (codes ".!#$%&'*+-/=?^_`{|}~")) e) [
  | inl letter ↦ alphanumeric_small b letter
  | inr mark ↦ any_small b (codes ".!#$%&'*+-/=?^_`{|}~") refl mark
]

pub cut_escaped : (text : List ℕ) → IsUtf8 text → IsCharBoundary text (escaped_len text)
cut_escaped [] valid = IsCharBoundary-start [] valid
cut_escaped (c ∷ text) valid = elim (cases_Bool (eqb c 34 || eqb c 92)) [
  | inl e ↦
      let small : c < 128 = grind (arith, nat_tests) in
      rw e (IsCharBoundary-after_ascii (c ∷ text) 0 valid (omega arith) small)
  | inr e ↦ rw e (IsCharBoundary-start (c ∷ text) valid)
]

pub cut_after_run : (class : Class) (text : List ℕ) (n : ℕ) → IsUtf8 text → n ≡ prefix_len (in_class class) text → IsCharBoundary text n
cut_after_run classes.Space text n valid e = rw e (cut_ascii is_space text space_small valid)
cut_after_run classes.Local text n valid e = rw e (cut_ascii is_local text local_small valid)
cut_after_run classes.Domain text n valid e = rw e (cut_ascii is_domain text domain_small valid)
cut_after_run classes.Name text n valid e = rw e (cut_other is_name text name_small)
cut_after_run classes.Quoted text n valid e = rw e (cut_other is_quoted text quoted_small)

-- ---- before the spaces at the end

pub trim_on : (text : List ℕ) (len total : ℕ) → 0 < len → len ≤ length text → get_or text (len - 1) 0 ≡ 32 → len - suffix_len is_space (take len text) ≡ total → (len - 1) - suffix_len is_space (take (len - 1) text) ≡ total
trim_on text len total some within space so =
    let test : is_space (get_or text (len - 1) 0) ≡ true = rw space refl in
    let step : suffix_len is_space (take len text) ≡ 1 + suffix_len is_space (take (len - 1) text) = suffix_len-take_yes is_space text len 0 some within test in
    omega arith

pub trim_done : (text : List ℕ) (len total : ℕ) → 0 < len → len ≤ length text → get_or text (len - 1) 0 ≢ 32 → len - suffix_len is_space (take len text) ≡ total → len ≡ total
trim_done text len total some within other so =
    let test : is_space (get_or text (len - 1) 0) ≡ false = ne_eqb (get_or text (len - 1) 0) 32 other in
    let step : suffix_len is_space (take len text) ≡ 0 = suffix_len-take_no is_space text len 0 some within test in
    omega arith
