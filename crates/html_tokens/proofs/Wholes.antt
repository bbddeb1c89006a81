-- The tokens of a whole text.
use Rattle.std.proofs.Common.{◌≡◌, ℕ, List, [], ◌∷◌, ◌++◌, refl, sym, ap, ◌∙◌, append_assoc, append-nil}
use Rattle.std.specs.Str.{chars}
use Rattle.html_syntax.specs.Token.{Token}
use Rattle.html_syntax.specs.declared.token.Token.{Token as HeldToken}
use Rattle.html_tokens.specs.declared.mode.Mode.TheVariants as mode
use Rattle.html_syntax.specs.Held.{meaning, meanings}
use Rattle.html_syntax.specs.Tokenizer.{tokens}
use Rattle.html_references.specs.Input.{input}
use Rattle.html_tokens.specs.Scanned.{ScannerState, tokens_left}

whole : (text : List ℕ) → tokens_left (record { text = text; at = 0; mode = mode.Data }) ≡ tokens (chars text)
unfolding tokens input
whole text = refl

pub left_at_start : (p : ScannerState) (text : List ℕ) → p.text ≡ text → p.at ≡ 0 → p.mode ≡ mode.Data → tokens_left p ≡ tokens (chars text)
left_at_start p text t a m = rw (t, a, m) (whole text)

pub meanings-push : (ts : List HeldToken) (t : HeldToken) → meanings (ts ++ t ∷ []) ≡ meanings ts ++ meaning t
meanings-push [] t = append-nil (meaning t)
meanings-push (u ∷ ts) t = ap (λ (l : List Token). meaning u ++ l) (meanings-push ts t) ∙ sym (append_assoc (meaning u) (meanings ts) (meaning t))

-- a token more
pub one_more : (ts new : List HeldToken) (t : HeldToken) (given before after all : List Token) → new ≡ ts ++ t ∷ [] → meaning t ≡ given → before ≡ given ++ after
    → meanings ts ++ before ≡ all → meanings new ++ after ≡ all
one_more ts new t given before after all adds means goes held =
    ap (λ (l : List HeldToken). meanings l ++ after) adds
    ∙ ap (λ (l : List Token). l ++ after) (meanings-push ts t)
    ∙ append_assoc (meanings ts) (meaning t) after
    ∙ ap (λ (l : List Token). meanings ts ++ l) (ap (λ (l : List Token). l ++ after) means ∙ sym goes)
    ∙ held
