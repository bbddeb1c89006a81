use Rattle.std.proofs.Common.{◌≡◌, ◌∷◌, [], List, ℕ, true, refl, sym, ap, subst, ◌∙◌, take, drop}
use Rattle.std.proofs.lemmas.Str.{IsUtf8-drop}
use Rattle.html_syntax.specs.Token.Token.{End}
use Rattle.html_syntax.specs.States.State.{Data}
use Rattle.html_syntax.specs.Tokenizer.{read}
use Rattle.html_references.specs.Input.{input}
use Rattle.html_tokens.specs.Scanned.{opens_end, part_tokens, GivesToken, HoldsPart}
use Rattle.html_tokens.specs.Tags.{read_name}
use Rattle.html_tokens.specs.Attributes.{attributes_in, first_of_each}
use Rattle.html_tokens.proofs.OpeningRuns.{end_opens_at}
use Rattle.html_tokens.proofs.TagPlaces.{attributes_are}
use Rattle.html_tokens.proofs.TagTokens.{tag_in, end_tag_token, after_name, name_read}
use Rattle.html_tokens.proofs.scanner.Scanner.end_tag.Goals as goal

pub returns : goal.returns
returns c =
    let text = c.args.self.now.text in
    let span = c.args.span.now in
    let rest = c.range_from-rest.result.now in
    let rest_is : rest ≡ drop span.start text = c.range_from-rest.ensures.value ∙ ap (λ s. drop span.start s.text) c.self.view_is in
    let holds = subst (HoldsPart text span.start) c.requires.part c.requires.span.holds in
    let opens : opens_end rest ≡ true = ap opens_end rest_is ∙ holds.0 in
    let gives : GivesToken rest = subst GivesToken (sym rest_is) holds.1 in
    let inside = c.range_from-inside in
    let len = c.name_end.result in
    let tag = tag_in true len (drop 2 rest) in
    let after = drop len inside.result.now in
    let utf8 = IsUtf8-drop inside.result.now len inside.utf8 c.name_end.ensures.boundary in
    let named = name_read (read_name c.range.result.now) rest inside.result.now c.range.result.now 2 len inside.ensures.value c.range.ensures.value refl in
    let reads = after_name true rest inside.result.now after 2 len inside.ensures.value refl (end_opens_at rest c.range_from-rest.utf8 opens).reads c.name_end.ensures.reads in
    ap (part_tokens text span.start span.end) c.requires.part
    ∙ ap (λ (l : List ℕ). take 1 (read Data 0 (input l))) (sym rest_is)
    ∙ sym (ap (λ (l : List ℕ). End l ∷ []) named ∙ end_tag_token rest after tag.name (first_of_each (attributes_in after)) tag gives refl refl refl reads (attributes_are after utf8))
