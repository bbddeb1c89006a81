-- When bytes are a text.
use Rattle.std.proofs.Common.{◌≡◌, ℕ, List, Some, None, inl, inr, sym, ◌∙◌, ap, if◌then◌else◌}
use Rattle.std.proofs.lemmas.Bool.{cases_Bool}
use Rattle.std.proofs.lemmas.Str.{IsUtf8-from_is_utf8, is_utf8-from_IsUtf8}
use Rattle.std.specs.Str.{is_utf8, IsUtf8}
use Rattle.account_script.specs.Script.{text_or_none}

pub is_text : (bytes text : List ℕ) → text ≡ bytes → IsUtf8 bytes → Some text ≡ text_or_none bytes
is_text bytes text same is = ap Some same ∙ sym (ap (λ one. if one then Some bytes else None) (is_utf8-from_IsUtf8 bytes is))

pub is_no_text : (bytes : List ℕ) → (IsUtf8 bytes → ⊥) → None ≡ text_or_none bytes
is_no_text bytes isnt = elim (cases_Bool (is_utf8 bytes)) [
  | inl is ↦ absurd (isnt (IsUtf8-from_is_utf8 bytes is))
  | inr is ↦ sym (ap (λ one. if one then Some bytes else None) is)
]
