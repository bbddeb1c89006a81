use Rattle.std.proofs.Common.{◌≡◌, ℕ, Bool, List, [], ◌∷◌, false, true, ap, sym, ◌∙◌, codes}
use Rattle.html_syntax.specs.References.{begins_with}
use Rattle.html_tokens.specs.Contents.{begins_with_name}
use Rattle.html_tokens.proofs.ScriptParts.{closes_double, leaves_double, double_one}
use Rattle.html_tokens.proofs.script.read_double_mark.Goals as goal

-- what a test said of the bytes it says of the text
said : (test : List ℕ → Bool) (text bytes : List ℕ) (result answer : Bool) → bytes ≡ text → result ≡ test bytes → result ≡ answer → test text ≡ answer
said test text bytes result answer value is was = ap test (sym value) ∙ sym is ∙ was

pub returns-then-begins_with-clause-boundary : goal.returns-then-begins_with-clause-boundary
returns-then-begins_with-clause-boundary c =
    (closes_double c.args.rest.now c.utf8.rest (said (begins_with (45 ∷ 45 ∷ 62 ∷ [])) c.args.rest.now c.as_bytes-bytes.result.now c.begins_with.result true c.as_bytes-bytes.ensures.value c.begins_with.ensures c.if-begins_with.true)).boundary

pub returns-then-begins_with-clause-reads : goal.returns-then-begins_with-clause-reads
returns-then-begins_with-clause-reads c =
    (closes_double c.args.rest.now c.utf8.rest (said (begins_with (45 ∷ 45 ∷ 62 ∷ [])) c.args.rest.now c.as_bytes-bytes.result.now c.begins_with.result true c.as_bytes-bytes.ensures.value c.begins_with.ensures c.if-begins_with.true)).reads

pub returns-then-begins_with_name-clause-reads : goal.returns-then-begins_with_name-clause-reads
returns-then-begins_with_name-clause-reads c =
    leaves_double c.args.rest.now (said (begins_with_name (60 ∷ 47 ∷ codes "script")) c.args.rest.now c.as_bytes-bytes.result.now c.begins_with_name.result true c.as_bytes-bytes.ensures.value c.begins_with_name.ensures c.if-begins_with_name.true)

pub returns-else-begins_with_name-clause-boundary : goal.returns-else-begins_with_name-clause-boundary
returns-else-begins_with_name-clause-boundary c =
    (double_one c.args.rest.now c.utf8.rest c.requires.nonempty c.requires.begins (said (begins_with (45 ∷ 45 ∷ 62 ∷ [])) c.args.rest.now c.as_bytes-bytes.result.now c.begins_with.result false c.as_bytes-bytes.ensures.value c.begins_with.ensures c.if-begins_with.false) (said (begins_with_name (60 ∷ 47 ∷ codes "script")) c.args.rest.now c.as_bytes-bytes.result.now c.begins_with_name.result false c.as_bytes-bytes.ensures.value c.begins_with_name.ensures c.if-begins_with_name.false)).boundary

pub returns-else-begins_with_name-clause-reads : goal.returns-else-begins_with_name-clause-reads
returns-else-begins_with_name-clause-reads c =
    (double_one c.args.rest.now c.utf8.rest c.requires.nonempty c.requires.begins (said (begins_with (45 ∷ 45 ∷ 62 ∷ [])) c.args.rest.now c.as_bytes-bytes.result.now c.begins_with.result false c.as_bytes-bytes.ensures.value c.begins_with.ensures c.if-begins_with.false) (said (begins_with_name (60 ∷ 47 ∷ codes "script")) c.args.rest.now c.as_bytes-bytes.result.now c.begins_with_name.result false c.as_bytes-bytes.ensures.value c.begins_with_name.ensures c.if-begins_with_name.false)).reads
