-- A span has a token.
use Rattle.std.proofs.Common.{◌≡◌, ◌≢◌, ℕ, ◌-◌, ◌<◌, ◌≤◌, List, [], ◌∷◌, ◌++◌, take, drop, length, refl, sym, ap, ◌∙◌, arith, IsUtf8, IsCharBoundary}
use Rattle.std.proofs.lemmas.List.{length-take, length-drop}
use Rattle.std.proofs.lemmas.Str.{IsUtf8-between}
use Rattle.html_syntax.specs.Token.{Token}
use Rattle.html_syntax.specs.States.State.{Data}
use Rattle.html_syntax.specs.Tokenizer.{read, chars}
use Rattle.html_references.specs.Input.{input, read_as}
use Rattle.html_references.proofs.StretchCharacters.{stretch_some}
use Rattle.html_tokens.specs.Scanned.{slice_between, part_tokens, span_tokens, GivesToken, HoldsPart, IsSpan}
use Rattle.html_tokens.specs.declared.span.Part.{Part}
use Rattle.html_tokens.specs.declared.span.Part.TheVariants as part
use Rattle.html_tokens.specs.declared.span.Span.{Span}

chars_some : (cs : List ℕ) → cs ≢ [] → chars cs ≢ []
chars_some [] some = absurd (some refl)
chars_some (c ∷ cs) some = λ e. absurd cc

between_some : (text : List ℕ) (start end : ℕ) → start < end → end ≤ length text → slice_between start end text ≢ []
between_some text start end some within = λ e.
    let none : length (take (end - start) (drop start text)) ≡ 0 = ap length e in
    absurd (omega (arith, none, some, within, length-drop start text, length-take (end - start) (drop start text)))

first_some : (text : List ℕ) → GivesToken text → take 1 (read Data 0 (input text)) ≢ []
first_some text given = rw given.2 (λ e. absurd cc)

part_some : (text : List ℕ) (start end : ℕ) (p : Part) → IsUtf8 text → start < end → IsCharBoundary text start → IsCharBoundary text end → HoldsPart text start p
    → part_tokens text start end p ≢ []
part_some text start end (part.Run r) utf8 some begins ends holds =
    let stretch : IsUtf8 (slice_between start end text) = IsUtf8-between text start end utf8 (omega (arith, some)) begins ends in
    chars_some (read_as r (input (slice_between start end text))) (stretch_some r (slice_between start end text) stretch (between_some text start end some ends.0))
part_some text start end part.StartTag utf8 some begins ends holds = first_some (drop start text) holds.1
part_some text start end part.EndTag utf8 some begins ends holds = first_some (drop start text) holds.1
part_some text start end (part.Comment from to) utf8 some begins ends holds = λ e. absurd cc
part_some text start end part.Doctype utf8 some begins ends holds = λ e. absurd cc

pub span_some : (text : List ℕ) (span : Span) → IsUtf8 text → IsSpan text span → span_tokens text span ≢ []
span_some text span utf8 h = part_some text span.start span.end span.part utf8 h.nonempty h.begins h.ends h.holds

pub tokens_some : (l s more : List Token) → l ≡ s ++ more → s ≢ [] → l ≢ []
tokens_some l [] more e some = absurd (some refl)
tokens_some l (t ∷ s) more e some = λ none. let both : [] ≡ t ∷ (s ++ more) = sym none ∙ e in absurd cc
