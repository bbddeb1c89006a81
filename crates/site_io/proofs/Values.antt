-- One value more of a series.
use Rattle.std.proofs.Common.{rules, ◌≡◌, ℕ, suc, ◌+◌, ◌-◌, ◌^◌, List, [], ◌∷◌, ◌++◌, sym, ap, arith, inl, inr}
use Rattle.std.proofs.lemmas.Bool.{le-ltb, lt-ltb, cases_lt}
use Rattle.mail_io.specs.Memory.{next_count}
use Rattle.site_io.specs.Series.{returned, told_values, value_after}
use Rattle.site_io.specs.Told.{RecordsValue}

-- a call appends its value, as long as the values are told
pub records_next : {T : Type 0} → (values : List T) → (calls : ℕ) → (value : T) → value ∷ [] ≡ value_after values calls
    → RecordsValue (told_values (record { values = values; calls = calls })) (told_values (record { values = values; calls = next_count calls })) value
unfolding told_values returned
records_next values calls value is = elim (cases_lt (calls + 1) (2 ^ 64 - 1)) [
  | inl below ↦
      let next : next_count calls ≡ suc calls = omega (below, arith) in
      rw (next, lt-ltb calls (2 ^ 64 - 1) (omega (below, arith)), lt-ltb (suc calls) (2 ^ 64 - 1) (omega (below, arith))) (ap (λ one. returned values calls ++ one) (sym is))
  | inr above ↦ rw (le-ltb (next_count calls) (2 ^ 64 - 1) (omega (above, arith))) (search rules)
]
