use Rattle.std.proofs.Common.{◌≡◌, ◌∷◌, [], List, ℕ, true, false, refl, sym, ap, subst, ◌∙◌, take, drop}
use Rattle.html_syntax.specs.Token.Token.{Start}
use Rattle.html_syntax.specs.States.State.{Data}
use Rattle.html_syntax.specs.Tokenizer.{read}
use Rattle.html_references.specs.Input.{input}
use Rattle.html_tokens.specs.Scanned.{opens_start, part_tokens, GivesToken, HoldsPart}
use Rattle.html_tokens.specs.Tags.{read_name}
use Rattle.html_tokens.specs.Attributes.{attributes_in, first_of_each}
use Rattle.html_tokens.proofs.OpeningRuns.{start_opens_at}
use Rattle.html_tokens.proofs.TagPlaces.{attributes_are}
use Rattle.html_tokens.proofs.TagTokens.{tag_in, tag_token, after_name, name_read}
use Rattle.html_tokens.proofs.scanner.Scanner.start_tag.Goals as goal

pub returns : goal.returns
returns c =
    let text = c.args.self.now.text in
    let span = c.args.span.now in
    let rest = c.range_from-rest.result.now in
    let rest_is : rest ≡ drop span.start text = c.range_from-rest.ensures.value ∙ ap (λ s. drop span.start s.text) c.self.view_is in
    let holds = subst (HoldsPart text span.start) c.requires.part c.requires.span.holds in
    let opens : opens_start rest ≡ true = ap opens_start rest_is ∙ holds.0 in
    let gives : GivesToken rest = subst GivesToken (sym rest_is) holds.1 in
    let inside = c.range_from-inside in
    let len = c.name_end-len.result in
    let tag = tag_in false len (drop 1 rest) in
    let after = c.range_from in
    let attributes = first_of_each (attributes_in after.result.now) in
    let named = name_read (read_name c.range.result.now) rest inside.result.now c.range.result.now 1 len inside.ensures.value c.range.ensures.value refl in
    let reads = after_name false rest inside.result.now after.result.now 1 len inside.ensures.value after.ensures.value (start_opens_at rest c.range_from-rest.utf8 opens).reads c.name_end-len.ensures.reads in
    ap (part_tokens text span.start span.end) c.requires.part
    ∙ ap (λ (l : List ℕ). take 1 (read Data 0 (input l))) (sym rest_is)
    ∙ sym (ap (λ (l : List ℕ). Start l attributes ∷ []) named ∙ tag_token rest after.result.now tag.name attributes tag gives refl refl refl reads (attributes_are after.result.now after.utf8))
