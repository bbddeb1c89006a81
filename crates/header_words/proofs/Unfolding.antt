-- The lines of a value as one, a line at a time.
use Rattle.std.proofs.Common.{◌≡◌, ℕ, ◌-◌, ◌<◌, inl, inr, false, eqb, List, [], ◌∷◌, ◌++◌, length, take, drop, refl, sym, ap, ◌∙◌, arith, append_assoc}
use Rattle.std.specs.Prelude.{filter}
use Rattle.std.specs.List.{flat_map}
use Rattle.std.specs.Str.Lines.{lines}
use Rattle.std.proofs.lemmas.Bool.{cases_Bool, eqb-false}
use Rattle.std.proofs.lemmas.List.{take_rest, drop_all}
use Rattle.header_words.specs.Lines.{first_text, first_size}
use Rattle.header_words.specs.Fields.{is_continuation, value_of}
use Rattle.header_words.specs.Places.{field_of_lines, raw_field}
use Rattle.header_words.specs.Value.{unfolded, unfolded_line, unfolded_with}
use Rattle.header_words.proofs.FirstLine.{lines_step}

-- what lines add to a value
abbrev pub added : List (List ℕ) → List ℕ
added more = flat_map unfolded_line (filter is_continuation more)

drop_none : (n : ℕ) → let none : List ℕ = [] in drop n none ≡ none
drop_none n = let none : List ℕ = [] in drop_all n none (omega arith)

-- the first line of a field
pub unfold_first : (raw value : List ℕ) (n : ℕ) → value ≡ value_of (first_text raw) → n ≡ first_size raw → value ++ added (lines (take (length raw - n) (drop n raw))) ≡ unfolded (raw_field raw).lines
unfold_first [] value n v s = ap (λ l. l ++ added (lines (take (0 - n) (drop n [])))) v ∙ ap (λ r. added (lines r)) (take_rest [] n ∙ drop_none n)
unfold_first (x ∷ xs) value n v s =
    let rest : take (length (x ∷ xs) - n) (drop n (x ∷ xs)) ≡ drop (first_size (x ∷ xs)) (x ∷ xs) = take_rest (x ∷ xs) n ∙ ap (λ k. drop k (x ∷ xs)) s in
    ap (λ l. l ++ added (lines (take (length (x ∷ xs) - n) (drop n (x ∷ xs))))) v ∙ ap (λ r. value_of (first_text (x ∷ xs)) ++ added (lines r)) rest
    ∙ sym (ap (λ ls. unfolded (field_of_lines ls).lines) (lines_step (x ∷ xs) (omega arith)))

added_on : (line value : List ℕ) (more : List (List ℕ)) → unfolded_with value line ++ added more ≡ value ++ added (line ∷ more)
added_on line value more =
    elim (cases_Bool (is_continuation line)) [
      | inl goes ↦ rw goes (append_assoc value (unfolded_line line) (added more))
      | inr stops ↦ rw stops refl
    ]

-- a line more
pub unfold_next : (rest value longer total : List ℕ) (n : ℕ) → false ≡ eqb (length rest) 0 → value ++ added (lines rest) ≡ total → longer ≡ unfolded_with value (first_text rest) → n ≡ first_size rest → longer ++ added (lines (take (length rest - n) (drop n rest))) ≡ total
unfold_next rest value longer total n filled before l s =
    let nonzero : length rest ≡ 0 → ⊥ = eqb-false (length rest) 0 (sym filled) in
    let some : 0 < length rest = omega arith in
    let after : take (length rest - n) (drop n rest) ≡ drop (first_size rest) rest = take_rest rest n ∙ ap (λ k. drop k rest) s in
    ap (λ v. v ++ added (lines (take (length rest - n) (drop n rest)))) l ∙ ap (λ r. unfolded_with value (first_text rest) ++ added (lines r)) after
    ∙ added_on (first_text rest) value (lines (drop (first_size rest) rest)) ∙ ap (λ ls. value ++ added ls) (sym (lines_step rest some)) ∙ before
