use Rattle.std.proofs.Common.{◌≡◌, ℕ, Bool, List, [], ◌∷◌, false, true, ap, sym, ◌∙◌}
use Rattle.html_syntax.specs.References.{begins_with}
use Rattle.html_tokens.proofs.ScriptParts.{escapes, plain_one}
use Rattle.html_tokens.proofs.script.read_plain_mark.Goals as goal

-- what a test said of the bytes it says of the text
said : (test : List ℕ → Bool) (text bytes : List ℕ) (result answer : Bool) → bytes ≡ text → result ≡ test bytes → result ≡ answer → test text ≡ answer
said test text bytes result answer value is was = ap test (sym value) ∙ sym is ∙ was

pub returns-then-begins_with-clause-reads : goal.returns-then-begins_with-clause-reads
returns-then-begins_with-clause-reads c =
    (escapes c.args.rest.now c.utf8.rest (said (begins_with (60 ∷ 33 ∷ 45 ∷ 45 ∷ [])) c.args.rest.now c.as_bytes-bytes.result.now c.begins_with.result true c.as_bytes-bytes.ensures.value c.begins_with.ensures c.if-begins_with.true)).reads

pub returns-else-begins_with-clause-boundary : goal.returns-else-begins_with-clause-boundary
returns-else-begins_with-clause-boundary c =
    (plain_one c.args.rest.now c.utf8.rest c.requires.nonempty c.requires.begins c.requires.not_ended (said (begins_with (60 ∷ 33 ∷ 45 ∷ 45 ∷ [])) c.args.rest.now c.as_bytes-bytes.result.now c.begins_with.result false c.as_bytes-bytes.ensures.value c.begins_with.ensures c.if-begins_with.false)).boundary

pub returns-else-begins_with-clause-reads : goal.returns-else-begins_with-clause-reads
returns-else-begins_with-clause-reads c =
    (plain_one c.args.rest.now c.utf8.rest c.requires.nonempty c.requires.begins c.requires.not_ended (said (begins_with (60 ∷ 33 ∷ 45 ∷ 45 ∷ [])) c.args.rest.now c.as_bytes-bytes.result.now c.begins_with.result false c.as_bytes-bytes.ensures.value c.begins_with.ensures c.if-begins_with.false)).reads
