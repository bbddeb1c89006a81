-- A stretch of text that isn't empty reads as a character at least.
use Rattle.std.proofs.Common.{◌≡◌, ◌≢◌, ℕ, Bool, true, false, not, ◌&&◌, ◌||◌, ◌==◌, List, [], ◌∷◌, length, drop, Option, Some, None, refl, sym, ap, ◌∙◌, inl, inr, IsUtf8}
use Rattle.std.proofs.lemmas.Bool.{cases_Bool}
use Rattle.html_syntax.specs.Names.{Name, names}
use Rattle.html_syntax.specs.References.{Reference, reference, number_reference, digits_reference, name_reference, longest, is_closed, continues_name}
use Rattle.html_syntax.specs.States.{replace_null}
use Rattle.html_references.specs.Input.{input, decode_references, read_as}
use Rattle.html_references.specs.declared.stretch.ReadAs.{ReadAs}
use Rattle.html_references.specs.declared.stretch.ReadAs.TheVariants as reads
use Rattle.html_references.proofs.Stretches.{input-first}

-- the reference is one character
abbrev HasOneChar : Reference → Type 0
HasOneChar r = (d : ℕ) × (r.chars ≡ d ∷ [])

digits_one : (base before : ℕ) (ds text : List ℕ) → HasOneChar (digits_reference base before ds text)
digits_one base before [] text = (38, refl)
digits_one base before (d ∷ ds) text = (_, refl)

number_one : (text : List ℕ) → HasOneChar (number_reference text)
number_one [] = (38, refl)
number_one (c ∷ cs) = elim (cases_Bool (c == 0x78 || c == 0x58)) [
  | inl is ↦ rw is (digits_one 16 2 _ cs)
  | inr other ↦ rw other (digits_one 10 1 _ (c ∷ cs))
]

name_one : (a : Bool) (found : Option Name) (text : List ℕ) → HasOneChar (name_reference a found text)
name_one a None text = (38, refl)
name_one a (Some n) text = elim (cases_Bool (a && not (is_closed n.spelling) && continues_name (drop (length n.spelling) text))) [
  | inl is ↦ rw is (38, refl)
  | inr other ↦ rw other (n.char, refl)
]

reference_one : (a : Bool) (text : List ℕ) → HasOneChar (reference a text)
unfolding reference
reference_one a [] = (38, refl)
reference_one a (c ∷ cs) = elim (cases_Bool (c == 35)) [
  | inl is ↦ rw is (number_one cs)
  | inr other ↦ rw other (name_one a (longest names (c ∷ cs)) (c ∷ cs))
]

decoded_some : (a : Bool) (plain : ℕ → ℕ) (c : ℕ) (cs : List ℕ) → decode_references a plain 0 (c ∷ cs) ≢ []
unfolding decode_references
decoded_some a plain c cs = elim (cases_Bool (c == 38)) [
  | inl is ↦ let one = reference_one a cs in rw (is, one.1) (λ e. absurd cc)
  | inr other ↦ rw other (λ e. absurd cc)
]

read_some : (r : ReadAs) (c : ℕ) (cs : List ℕ) → read_as r (c ∷ cs) ≢ []
read_some reads.Text c cs = decoded_some false (λ c. c) c cs
read_some reads.Rcdata c cs = decoded_some false replace_null c cs
read_some reads.Value c cs = decoded_some true replace_null c cs
read_some reads.Raw c cs = λ e. absurd cc

pub stretch_some : (r : ReadAs) (bytes : List ℕ) → IsUtf8 bytes → bytes ≢ [] → read_as r (input bytes) ≢ []
stretch_some r [] utf8 some = absurd (some refl)
stretch_some r (b ∷ bytes) utf8 some =
    let f = input-first (λ _. true) (λ c big. refl) (λ h. refl) b bytes utf8 refl in
    λ e. read_some r f.char f.rest (sym (ap (read_as r) f.is) ∙ e)
