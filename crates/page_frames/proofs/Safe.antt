-- A page that is all frame loads its style sheet alone.
use Rattle.std.proofs.Common.{◌≡◌, ℕ, Bool, true, false, List, [], ◌∷◌, inl, refl, sym, ◌||◌}
use Rattle.std.specs.Prelude.{encode_utf8_all}
use Rattle.std.specs.List.{AllByRecursion}
use Rattle.html_syntax.specs.Token.{Token}
use Rattle.html_syntax.specs.Tokenizer.{same, tokens_of_bytes}
use Rattle.html_rules.specs.Nesting.{IsNested}
use Rattle.html_rules.specs.FrameTokens.{is_frame, style_sheet}
use Rattle.html_rules.specs.Allowed.{loads, may_load}
use Rattle.html_rules.proofs.Facts.{same-true}
use Rattle.html_rules.proofs.Parts.{allowed_loads}
use Rattle.page_writer.specs.Page.{spell}
use Rattle.page_frames.specs.Pages.{IsFramePage}

or_false : (b : Bool) → (b || false) ≡ true → b ≡ true
or_false true e = refl
or_false false e = absurd cc

-- without own pictures and remote ones only the style sheet is left
sheet_alone : (addresses : List (List ℕ)) → AllByRecursion (λ a. may_load false (λ b. false) a ≡ true) addresses → AllByRecursion (λ a. a ≡ style_sheet) addresses
unfolding Rattle.html_rules.specs.Values.is_source
sheet_alone [] h = tt
sheet_alone (a ∷ rest) h = (sym (same-true style_sheet a (or_false (same style_sheet a) h.0)), sheet_alone rest h.1)

pub frame_page : (tokens : List Token) → is_frame tokens ≡ true → tokens_of_bytes (encode_utf8_all (spell tokens)) ≡ tokens → IsNested tokens → IsFramePage tokens
frame_page tokens frame reads nested = record {
  reads = reads;
  frame = frame;
  allowed = λ images own. inl frame;
  nested = nested;
  loads_style_sheet = sheet_alone (loads tokens) (allowed_loads tokens false (λ b. false) (inl frame));
}
