use Rattle.std.proofs.Common.{◌≡◌, ℕ, List, not, ◌||◌, ◌==◌, true, false, string_bytes, refl, ap, sym, ◌∙◌, subst, arith}
use Rattle.std.proofs.lemmas.Result.{err_from_is_err_and}
use Rattle.std.specs.Ordering.{nat_cmp}
use Rattle.std.specs.Cmp.Lexicographic.{slice_cmp}
use Rattle.std.specs.String.{string_cmp}
use Rattle.std.specs.BTreeSet.{UpdatesBy, contains_text}
use Rattle.html_tokens.specs.NameSets.{contains_number}
use Rattle.html_tokens.specs.PackedNames.{pack, is_short}
use Rattle.html_tokens.proofs.NameSets.{short_name, long_name, has_short, has_long, has_more_short, has_same_short, has_more_long}
use Rattle.html_tokens.proofs.name_set.NameSet.insert.Goals as goal

pub returns-in_err-is_new-clause-err : goal.returns-in_err-is_new-clause-err
returns-in_err-is_new-clause-err c =
    let p = err_from_is_err_and c.from_residual.result c.from_residual.ensures.1 in
    rw p.1 (has_same_short c.args.self.now c.insert_number.new.self c.in_err-is_new.ensures.others c.in_err-is_new.ensures.err)

pub returns-in_ok-is_new-clause-is_new : goal.returns-in_ok-is_new-clause-is_new
returns-in_ok-is_new-clause-is_new c =
    let old = c.args.self.now in
    let name = c.args.name.now in
    let short : is_short name ≡ true = short_name name c.if-name-le-SHORT.true (λ i. omega (arith, c.type_inv.name i)) in
    let number : c.pack-number.result ≡ pack name = c.pack-number.ensures ∙ ap pack c.as_bytes.ensures.value in
    c.in_ok-is_new.ensures.is_new ∙ ap (λ (n : ℕ). not (contains_number old n)) number ∙ ap not (sym (has_short old name short))

pub returns-in_ok-is_new-clause-names : goal.returns-in_ok-is_new-clause-names
returns-in_ok-is_new-clause-names c =
    let old = c.args.self.now in
    let new = c.insert_number.new.self in
    let name = c.args.name.now in
    let short : is_short name ≡ true = short_name name c.if-name-le-SHORT.true (λ i. omega (arith, c.type_inv.name i)) in
    let number : c.pack-number.result ≡ pack name = c.pack-number.ensures ∙ ap pack c.as_bytes.ensures.value in
    has_more_short old new name short c.in_ok-is_new.ensures.others
    (subst (λ (k : ℕ). (n : ℕ) → contains_number new n ≡ (k == n || contains_number old n)) number c.in_ok-is_new.ensures.numbers)

pub returns-in_ok-is_new-2-clause-is_new : goal.returns-in_ok-is_new-2-clause-is_new
returns-in_ok-is_new-2-clause-is_new c =
    let old = c.args.self.now in
    let name = c.args.name.now in
    let long : is_short name ≡ false = long_name name c.if-name-le-SHORT.false in
    c.in_ok-is_new-2.ensures.added ∙ ap (λ (bytes : List ℕ). not (contains_text old.long bytes)) c.in_ok-text.ensures.ok ∙ ap not (sym (has_long old name long))

pub returns-in_ok-is_new-2-clause-names : goal.returns-in_ok-is_new-2-clause-names
returns-in_ok-is_new-2-clause-names c =
    let old = c.args.self.now in
    let name = c.args.name.now in
    let new_long = c.insert.new.self in
    let long : is_short name ≡ false = long_name name c.if-name-le-SHORT.false in
    has_more_long old _ name long (λ _. refl)
    (subst (λ (bytes : List ℕ). UpdatesBy string_cmp (λ k. slice_cmp nat_cmp bytes (string_bytes k)) old.long new_long true) c.in_ok-text.ensures.ok c.in_ok-is_new-2.ensures.updates)
