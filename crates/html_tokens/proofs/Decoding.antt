-- Runs of characters in states that read character references.
use Rattle.std.proofs.Common.{◌≡◌, ℕ, zero, suc, ◌≤◌, Bool, true, false, ◌==◌, List, [], ◌∷◌, ◌++◌, length, refl, sym, ap, ◌∙◌, append_assoc, append-nil, arith, inl, inr}
use Rattle.std.proofs.lemmas.Bool.{cases_Bool, and_parts}
use Rattle.std.specs.List.{list_all}
use Rattle.html_syntax.specs.References.{reference}
use Rattle.html_references.specs.Input.{decode_references}
use Rattle.html_tokens.proofs.Runs.{Reader}
use Rattle.html_references.proofs.Stops.{Stops, reference-stop, reference-len}

-- A reader that keeps the characters of a reference, skips its spelling, and keeps every other character that passes the test.
pub record Decodes (F : Reader) (in_attribute : Bool) (p : ℕ → Bool) (plain : ℕ → ℕ) : Type 0 where
  pub keeps : (kept : List ℕ) (c : ℕ) (text : List ℕ) → p c ≡ true → (c == 0x26) ≡ false → F kept 0 (c ∷ text) ≡ F (kept ++ plain c ∷ []) 0 text
  pub refers : (kept text : List ℕ) (c : ℕ) → (c == 0x26) ≡ true → F kept 0 (c ∷ text) ≡ F (kept ++ (reference in_attribute text).chars) (reference in_attribute text).len text
  pub passes : (kept : List ℕ) (n c : ℕ) (text : List ℕ) → F kept (suc n) (c ∷ text) ≡ F kept n text

decoded_from : (F : Reader) (a : Bool) (p : ℕ → Bool) (plain : ℕ → ℕ) → Decodes F a p plain → (kept : List ℕ) (n : ℕ) (cs more : List ℕ)
    → list_all p cs ≡ true → Stops more → n ≤ length cs → F kept n (cs ++ more) ≡ F (kept ++ decode_references a plain n cs) 0 more
unfolding decode_references
decoded_from F a p plain d kept zero [] more h s le = ap (λ (l : List ℕ). F l 0 more) (sym (append-nil kept))
decoded_from F a p plain d kept (suc n) [] more h s le = absurd (omega arith)
decoded_from F a p plain d kept (suc n) (c ∷ cs) more h s le =
    d.passes kept n c (cs ++ more) ∙ decoded_from F a p plain d kept n cs more (and_parts (p c) (list_all p cs) h).1 s (omega arith)
decoded_from F a p plain d kept zero (c ∷ cs) more h s le =
    let parts = and_parts (p c) (list_all p cs) h in
    elim (cases_Bool (c == 0x26)) [
      | inl is ↦
          let r = reference a cs in
          rw is (
          d.refers kept (cs ++ more) c is
          ∙ ap (λ (x : Rattle.html_syntax.specs.References.Reference). F (kept ++ x.chars) x.len (cs ++ more)) (reference-stop a cs more s)
          ∙ decoded_from F a p plain d (kept ++ r.chars) r.len cs more parts.1 s (reference-len a cs)
          ∙ ap (λ (l : List ℕ). F l 0 more) (append_assoc kept r.chars (decode_references a plain r.len cs)))
      | inr other ↦ rw other (
          d.keeps kept c (cs ++ more) parts.0 other
          ∙ decoded_from F a p plain d (kept ++ plain c ∷ []) zero cs more parts.1 s (omega arith)
          ∙ ap (λ (l : List ℕ). F l 0 more) (append_assoc kept (plain c ∷ []) (decode_references a plain 0 cs)))
    ]

-- a run, decoded
pub decoded_run : (F : Reader) (a : Bool) (p : ℕ → Bool) (plain : ℕ → ℕ) → Decodes F a p plain → (kept cs more : List ℕ)
    → list_all p cs ≡ true → Stops more → F kept 0 (cs ++ more) ≡ F (kept ++ decode_references a plain 0 cs) 0 more
decoded_run F a p plain d kept cs more h s = decoded_from F a p plain d kept 0 cs more h s (omega arith)

-- Decoding itself goes by pieces: the second begins with a character that ends a reference.
decoded-pieces : (a : Bool) (plain : ℕ → ℕ) (n : ℕ) (xs ys : List ℕ) → Stops ys → n ≤ length xs → decode_references a plain n (xs ++ ys) ≡ decode_references a plain n xs ++ decode_references a plain 0 ys
unfolding decode_references
decoded-pieces a plain zero [] ys s le = refl
decoded-pieces a plain (suc n) [] ys s le = absurd (omega arith)
decoded-pieces a plain (suc n) (c ∷ xs) ys s le = decoded-pieces a plain n xs ys s (omega arith)
decoded-pieces a plain zero (c ∷ xs) ys s le = elim (cases_Bool (c == 0x26)) [
  | inl is ↦
      let r = reference a xs in
      rw (is, reference-stop a xs ys s) (ap (λ (l : List ℕ). r.chars ++ l) (decoded-pieces a plain r.len xs ys s (reference-len a xs)) ∙ sym (append_assoc r.chars (decode_references a plain r.len xs) (decode_references a plain 0 ys)))
  | inr other ↦ rw other (ap (λ (l : List ℕ). plain c ∷ l) (decoded-pieces a plain zero xs ys s (omega arith)))
]

pub decoded-append : (a : Bool) (plain : ℕ → ℕ) (xs ys : List ℕ) → Stops ys → decode_references a plain 0 (xs ++ ys) ≡ decode_references a plain 0 xs ++ decode_references a plain 0 ys
decoded-append a plain xs ys s = decoded-pieces a plain 0 xs ys s (omega arith)
