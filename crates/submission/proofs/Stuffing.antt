-- A message whose bytes are written one after another.
use Rattle.std.proofs.Common.{◌≡◌, ℕ, List, [], ◌∷◌, ◌++◌, refl, sym, ap, ◌∙◌, Bool, true, false, map, inl, inr, ◌<◌, length, arith, subst}
use Rattle.std.specs.Prelude.{if◌then◌else◌, ◌==◌, ◌&&◌}
use Rattle.std.specs.List.{join_with_byte, onto_first}
use Rattle.std.proofs.lemmas.Bool.{cases_Bool, cases_eq, ne_eqb}
use Rattle.std.proofs.lemmas.List.Splits.{length-slice_split}
use Rattle.submission.specs.Script.{stuffed, lines_of, dotted}

-- a byte, twice if it is a `.` that begins a line
abbrev pub dots : Bool → ℕ → List ℕ
dots begins b = if begins && b == 46 then 46 ∷ b ∷ [] else b ∷ []

-- the bytes that are written of a message
abbrev pub written : Bool → List ℕ → List ℕ
written begins [] = []
written begins (b ∷ bs) = dots begins b ++ written (b == 10) bs

abbrev pub first_by : Bool → List ℕ → List ℕ
first_by true line = stuffed line
first_by false line = line

-- lines, of which the first may be the end of one
abbrev pub joined : Bool → List (List ℕ) → List ℕ
joined begins [] = []
joined begins (line ∷ lines) = join_with_byte 10 (first_by begins line ∷ map stuffed lines)

-- a byte before a line's others
onto_written : (begins : Bool) (b : ℕ) (lines : List (List ℕ)) → joined begins (onto_first b lines) ≡ dots begins b ++ joined false lines
onto_written false b [] = refl
onto_written false b (line ∷ []) = refl
onto_written false b (line ∷ next ∷ lines) = refl
onto_written true b [] = elim (cases_Bool (b == 46)) [ inl is ↦ rw is refl | inr other ↦ rw other refl ]
onto_written true b (line ∷ []) = elim (cases_Bool (b == 46)) [ inl is ↦ rw is refl | inr other ↦ rw other refl ]
onto_written true b (line ∷ next ∷ lines) = elim (cases_Bool (b == 46)) [ inl is ↦ rw is refl | inr other ↦ rw other refl ]

-- a line end before lines
end_written : (begins : Bool) (lines : List (List ℕ)) → 0 < length lines → joined begins ([] ∷ lines) ≡ 10 ∷ joined true lines
end_written begins [] h = absurd (omega arith)
end_written true (line ∷ []) h = refl
end_written true (line ∷ next ∷ lines) h = refl
end_written false (line ∷ []) h = refl
end_written false (line ∷ next ∷ lines) h = refl

some_line : (bs : List ℕ) → 0 < length (lines_of bs)
some_line bs = let size = length-slice_split (λ (b : ℕ). b == 10) bs in omega (arith, size)

written_end : (begins : Bool) (bs : List ℕ) → written true bs ≡ joined true (lines_of bs) → written begins (10 ∷ bs) ≡ joined begins (lines_of (10 ∷ bs))
written_end true bs rest = ap (λ (l : List ℕ). 10 ∷ l) rest ∙ sym (end_written true (lines_of bs) (some_line bs))
written_end false bs rest = ap (λ (l : List ℕ). 10 ∷ l) rest ∙ sym (end_written false (lines_of bs) (some_line bs))

pub written_joined : (begins : Bool) (bs : List ℕ) → written begins bs ≡ joined begins (lines_of bs)
written_joined true [] = refl
written_joined false [] = refl
written_joined begins (b ∷ bs) =
    elim (cases_eq b 10) [
      | inl same ↦ subst (λ (x : ℕ). written begins (x ∷ bs) ≡ joined begins (lines_of (x ∷ bs))) (sym same) (written_end begins bs (written_joined true bs))
      | inr other ↦
          let off : (b == 10) ≡ false = ne_eqb b 10 other in
          rw off (ap (λ (l : List ℕ). dots begins b ++ l) (written_joined false bs) ∙ sym (onto_written begins b (lines_of bs)))
    ]

-- the whole message
pub all_dotted : (message : List ℕ) → written true message ≡ dotted message
unfolding dotted
all_dotted message = written_joined true message ∙ first_line (lines_of message) (some_line message)
  where
    first_line : (lines : List (List ℕ)) → 0 < length lines → joined true lines ≡ join_with_byte 10 (map stuffed lines)
    first_line [] h = absurd (omega arith)
    first_line (line ∷ lines) h = refl
