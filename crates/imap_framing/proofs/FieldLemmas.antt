-- The fields of a reader that goes on.
use Rattle.std.proofs.Common.{◌≡◌, ℕ, ◌+◌, ◌-◌, ◌<◌, ◌≤◌, ◌^◌, true, List, ◌++◌, length, take, drop, refl, sym, ap, subst, ◌∙◌, arith}
use Rattle.std.proofs.lemmas.List.{take-append-drop, length-take-le, length-drop, take_rest, drop-drop}
use Rattle.imap_framing.specs.Units.{FrameState, frame_state_from, frame_state, IsUnit, HasTooLongLiteral}
use Rattle.imap_framing.specs.declared.scan.Phase.TheVariants as phases
use Rattle.imap_framing.specs.declared.scan.Found.{Found}
use Rattle.imap_framing.specs.Scans.{PhaseIs, FoundIs}
use Rattle.imap_framing.specs.Cuts.{GivesUnit, GivesBack, without_given}
use Rattle.imap_framing.specs.Fields.{cut_of, IsHeld}
use Rattle.imap_framing.proofs.StateLemmas.{frame_state-append, too_long_on}

begins : (unit : List ℕ) → PhaseIs (take 0 unit) (phases.Line 0 true)
unfolding frame_state_from
begins unit = (omega arith, refl)

pub held_at_start : (buffer : List ℕ) (base given start : ℕ) → given ≤ start → start ≤ length buffer → base + length buffer < 2 ^ 64 → IsHeld buffer base given start 0 (phases.Line 0 true)
held_at_start buffer base given start behind within countable = record { behind = behind; within = within; scanned_within = omega arith; here = begins (drop start buffer); countable = countable }

pub gave : (buffer : List ℕ) (base given start n : ℕ) → n ≤ length (drop start buffer) → IsUnit (take n (drop start buffer)) → GivesUnit (cut_of buffer base given start) (cut_of buffer base start (start + n))
gave buffer base given start n within unit =
    let same : start + n - start ≡ n = omega arith in
    let len : length (take n (drop start buffer)) ≡ n = length-take-le n (drop start buffer) within in
    record {
      unit = rw same unit;
      whole = rw same (sym (take-append-drop n (drop start buffer)) ∙ ap (λ (xs : List ℕ). take n (drop start buffer) ++ xs) (drop-drop n start buffer));
      at = rw same (omega arith);
    }

pub returned : (buffer : List ℕ) (base given start : ℕ) → given ≤ start → start ≤ length buffer → GivesBack (cut_of buffer base given start) (cut_of buffer base given given)
returned buffer base given start behind within =
    let none : given - given ≡ 0 = omega arith in
    let n : ℕ = start - given in
    let sum : n + given ≡ start = omega arith in
    let len : length (take n (drop given buffer)) ≡ n = length-take-le n (drop given buffer) (omega (arith, length-drop given buffer)) in
    record {
      none = rw none refl;
      whole = sym (take-append-drop n (drop given buffer)) ∙ ap (λ (xs : List ℕ). take n (drop given buffer) ++ xs) (drop-drop n given buffer ∙ ap (λ (k : ℕ). drop k buffer) (omega arith));
      at = omega (arith, len);
    }

-- a literal that is too long stays so
pub too_long_whole : (rest : List ℕ) (n : ℕ) → HasTooLongLiteral (take n rest) → HasTooLongLiteral rest
too_long_whole rest n is =
    ap frame_state (sym (take-append-drop n rest)) ∙ frame_state-append (take n rest) (drop n rest) ∙ ap (λ (p : FrameState). frame_state_from p (drop n rest)) is ∙ too_long_on (drop n rest)

rest_is : (buffer d : List ℕ) (start : ℕ) → d ≡ buffer → take (length d - start) (drop start d) ≡ drop start buffer
rest_is buffer d start same = take_rest d start ∙ ap (λ (xs : List ℕ). drop start xs) same

-- what the scan of the rest says
pub record Scanned (rest : List ℕ) (n : ℕ) (f : Found) : Type 0 where
  pub within : n ≤ length rest
  pub leads : FoundIs (take n rest) f

pub scanned : (buffer d : List ℕ) (start n : ℕ) (g f : Found) → d ≡ buffer → n ≤ length (take (length d - start) (drop start d)) → FoundIs (take n (take (length d - start) (drop start d))) g → g ≡ f → Scanned (drop start buffer) n f
scanned buffer d start n g f same within leads is =
    let t = rest_is buffer d start same in
    record {
      within = subst (λ (xs : List ℕ). n ≤ length xs) t within;
      leads = subst (λ (h : Found). FoundIs (take n (drop start buffer)) h) is (subst (λ (xs : List ℕ). FoundIs (take n xs) g) t leads);
    }

pub went : (buffer : List ℕ) (base given start : ℕ) → cut_of buffer base start start ≡ without_given (cut_of buffer base given start)
went buffer base given start = let none : start - start ≡ 0 = omega arith in rw none refl
