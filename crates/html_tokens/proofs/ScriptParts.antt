-- The parts of a script, from one phase to the next.
use Rattle.std.proofs.Common.{◌≡◌, ◌≢◌, ℕ, ◌<◌, ◌⊎◌, true, false, ◌&&◌, ◌==◌, List, [], ◌∷◌, ◌++◌, length, map, take, drop, refl, sym, ap, subst, ◌∙◌, arith, inl, inr, IsUtf8, IsCharBoundary, codes}
use Rattle.std.proofs.lemmas.Bool.{and_parts, eqb-true}
use Rattle.std.proofs.lemmas.Str.{IsCharBoundary-from_drop}
use Rattle.html_syntax.specs.Token.{Token}
use Rattle.html_syntax.specs.Token.Token.{Char}
use Rattle.html_syntax.specs.Characters.{is_letter, lower}
use Rattle.html_syntax.specs.References.{begins_with}
use Rattle.html_syntax.specs.States.{replace_null}
use Rattle.html_syntax.specs.States.RawTextKind.{Script, Escaped}
use Rattle.html_syntax.specs.States.State.{Raw, DoubleStart, DoubleEscaped, DoubleEnd, EscapedDash, EscapedDashDash, DoubleDash, DoubleDashDash}
use Rattle.html_syntax.specs.Tokenizer.{look, look_again, step, read, chars}
use Rattle.html_references.specs.Input.{input}
use Rattle.html_tokens.specs.Contents.{ends_name, begins_with_name}
use Rattle.html_tokens.specs.Scripts.{script_state, ReadsPassage, ends_script, BeginsWithMark}
use Rattle.html_tokens.specs.declared.script.Phase.{Phase}
use Rattle.html_tokens.specs.declared.script.Phase.TheVariants as phase
use Rattle.html_references.proofs.Stretches.{input-cons, input-nil, utf8_tail}
use Rattle.html_tokens.proofs.EndTags.{input-less, input-solidus, lowered_letter, unlowered, opens}
use Rattle.html_tokens.proofs.DoubleEscapes.{double, starts, ends}
use Rattle.html_tokens.proofs.ScriptRuns.{input-hyphen, input-bang, input-greater, script_keeps, escaped_dashes, double_dashes, hyphen_text, less_text, escaped_text, escaped_letter, double_text, double_less, double_solidus}

abbrev script : List ℕ
script = codes "script"

-- a part of a script, which ends between two characters
pub record Part (before : Phase) (text : List ℕ) (len : ℕ) (after : Phase) : Type 0 where
  pub boundary : IsCharBoundary text len
  pub reads : ReadsPassage before text len after

-- ---- what begins with some bytes

begins_split : (w text : List ℕ) → begins_with w text ≡ true → (rest : List ℕ) × (text ≡ w ++ rest)
begins_split [] text h = (text, refl)
begins_split (x ∷ w) [] h = absurd cc
begins_split (x ∷ w) (c ∷ text) h =
    let parts = and_parts (x == c) (begins_with w text) h in
    let s = begins_split w text parts.1 in
    (s.0, ap (λ (y : ℕ). y ∷ text) (sym (eqb-true x c parts.0)) ∙ ap (λ (l : List ℕ). x ∷ l) s.1)

-- ---- from one phase to another

escape_state : (last text : List ℕ) → read (Raw Script last) 0 (60 ∷ 33 ∷ 45 ∷ 45 ∷ text) ≡ Char 60 ∷ Char 33 ∷ read (Raw Escaped last) 0 (45 ∷ 45 ∷ text)
unfolding read step look_again look
escape_state last text = refl

escape_from : (rest : List ℕ) → ReadsPassage phase.Plain (60 ∷ 33 ∷ 45 ∷ 45 ∷ rest) 2 phase.Escaped
escape_from rest =
    let whole : input (60 ∷ 33 ∷ 45 ∷ 45 ∷ rest) ≡ 60 ∷ 33 ∷ 45 ∷ 45 ∷ input rest =
    input-less (33 ∷ 45 ∷ 45 ∷ rest) ∙ ap (λ (l : List ℕ). 60 ∷ l) (input-bang (45 ∷ 45 ∷ rest) ∙ ap (λ (l : List ℕ). 33 ∷ l) (input-hyphen (45 ∷ rest) ∙ ap (λ (l : List ℕ). 45 ∷ l) (input-hyphen rest))) in
    let front : input (60 ∷ 33 ∷ []) ≡ 60 ∷ 33 ∷ [] = input-less (33 ∷ []) ∙ ap (λ (l : List ℕ). 60 ∷ l) (input-bang [] ∙ ap (λ (l : List ℕ). 33 ∷ l) input-nil) in
    let back : input (45 ∷ 45 ∷ rest) ≡ 45 ∷ 45 ∷ input rest = input-hyphen (45 ∷ rest) ∙ ap (λ (l : List ℕ). 45 ∷ l) (input-hyphen rest) in
    rw (whole, front, back) (escape_state script (input rest))

close_state : (last text : List ℕ) → (read (Raw Escaped last) 0 (45 ∷ 45 ∷ 62 ∷ text) ≡ Char 45 ∷ Char 45 ∷ Char 62 ∷ read (Raw Script last) 0 text)
    × (read (DoubleEscaped last) 0 (45 ∷ 45 ∷ 62 ∷ text) ≡ Char 45 ∷ Char 45 ∷ Char 62 ∷ read (Raw Script last) 0 text)
unfolding read step look_again look
close_state last text = (refl, refl)

input-close : (rest : List ℕ) → input (45 ∷ 45 ∷ 62 ∷ rest) ≡ 45 ∷ 45 ∷ 62 ∷ input rest
input-close rest = input-hyphen (45 ∷ 62 ∷ rest) ∙ ap (λ (l : List ℕ). 45 ∷ l) (input-hyphen (62 ∷ rest) ∙ ap (λ (l : List ℕ). 45 ∷ l) (input-greater rest))

close_front : input (45 ∷ 45 ∷ 62 ∷ []) ≡ 45 ∷ 45 ∷ 62 ∷ []
close_front = input-close [] ∙ ap (λ (l : List ℕ). 45 ∷ 45 ∷ 62 ∷ l) input-nil

close_from : (rest : List ℕ) → ReadsPassage phase.Escaped (45 ∷ 45 ∷ 62 ∷ rest) 3 phase.Plain
close_from rest = rw (input-close rest, close_front) (close_state script (input rest)).0

double_close_from : (rest : List ℕ) → ReadsPassage phase.DoubleEscaped (45 ∷ 45 ∷ 62 ∷ rest) 3 phase.Plain
double_close_from rest = rw (input-close rest, close_front) (close_state script (input rest)).1

past : (b : ℕ) (text : List ℕ) → b < 128 → IsUtf8 (b ∷ text) → IsUtf8 text
past b text small utf8 = utf8_tail b text small utf8

close_boundary : (rest : List ℕ) → IsUtf8 (45 ∷ 45 ∷ 62 ∷ rest) → IsCharBoundary (45 ∷ 45 ∷ 62 ∷ rest) 3
close_boundary rest utf8 = IsCharBoundary-from_drop (45 ∷ 45 ∷ 62 ∷ rest) 3 (omega arith) (past 62 rest (omega arith) (past 45 (62 ∷ rest) (omega arith) (past 45 (45 ∷ 62 ∷ rest) (omega arith) utf8)))

escape_boundary : (rest : List ℕ) → IsUtf8 (60 ∷ 33 ∷ 45 ∷ 45 ∷ rest) → IsCharBoundary (60 ∷ 33 ∷ 45 ∷ 45 ∷ rest) 2
escape_boundary rest utf8 = IsCharBoundary-from_drop (60 ∷ 33 ∷ 45 ∷ 45 ∷ rest) 2 (omega arith) (past 33 (45 ∷ 45 ∷ rest) (omega arith) (past 60 (33 ∷ 45 ∷ 45 ∷ rest) (omega arith) utf8))

-- `<!--`
pub escapes : (text : List ℕ) → IsUtf8 text → begins_with (60 ∷ 33 ∷ 45 ∷ 45 ∷ []) text ≡ true → Part phase.Plain text 2 phase.Escaped
escapes text utf8 h =
    let s = begins_split (60 ∷ 33 ∷ 45 ∷ 45 ∷ []) text h in
    subst (λ (l : List ℕ). Part phase.Plain l 2 phase.Escaped) (sym s.1) (record { boundary = escape_boundary s.0 (subst IsUtf8 s.1 utf8); reads = escape_from s.0 })

-- `-->`
pub closes_escape : (text : List ℕ) → IsUtf8 text → begins_with (45 ∷ 45 ∷ 62 ∷ []) text ≡ true → Part phase.Escaped text 3 phase.Plain
closes_escape text utf8 h =
    let s = begins_split (45 ∷ 45 ∷ 62 ∷ []) text h in
    subst (λ (l : List ℕ). Part phase.Escaped l 3 phase.Plain) (sym s.1) (record { boundary = close_boundary s.0 (subst IsUtf8 s.1 utf8); reads = close_from s.0 })

pub closes_double : (text : List ℕ) → IsUtf8 text → begins_with (45 ∷ 45 ∷ 62 ∷ []) text ≡ true → Part phase.DoubleEscaped text 3 phase.Plain
closes_double text utf8 h =
    let s = begins_split (45 ∷ 45 ∷ 62 ∷ []) text h in
    subst (λ (l : List ℕ). Part phase.DoubleEscaped l 3 phase.Plain) (sym s.1) (record { boundary = close_boundary s.0 (subst IsUtf8 s.1 utf8); reads = double_close_from s.0 })

-- ---- `<script` in an escape

first_letter : (x : ℕ) (w : List ℕ) (b : ℕ) (bytes : List ℕ) → is_letter x ≡ true → begins_with_name (x ∷ w) (b ∷ bytes) ≡ true → is_letter b ≡ true
first_letter x w b bytes letter h =
    let both = and_parts (x == lower b && begins_with w (map lower bytes)) (ends_name (drop (length w) bytes)) h in
    lowered_letter x b letter (and_parts (x == lower b) (begins_with w (map lower bytes)) both.0).0

double_from : (bytes : List ℕ) → begins_with_name script bytes ≡ true → ReadsPassage phase.Escaped (60 ∷ bytes) 7 phase.DoubleEscaped
double_from [] h = absurd cc
double_from (b ∷ bytes) h =
    escaped_letter script b bytes (first_letter 115 (codes "cript") b bytes refl h)
    ∙ ap (λ (l : List Token). Char 60 ∷ l) (double (DoubleStart script) (DoubleEscaped script) (Raw Escaped script) (starts script) (b ∷ bytes) h)
    ∙ ap (λ (l : List ℕ). chars (map replace_null l) ++ read (DoubleEscaped script) 0 (input (drop 6 (b ∷ bytes)))) (sym (input-less (take 6 (b ∷ bytes))))

begins_less : (w bytes : List ℕ) → begins_with_name (60 ∷ w) bytes ≡ true → (rest : List ℕ) × (bytes ≡ 60 ∷ rest)
begins_less w [] h = absurd cc
begins_less w (b ∷ bytes) h =
    let both = and_parts (60 == lower b && begins_with w (map lower bytes)) (ends_name (drop (length w) bytes)) h in
    (bytes, ap (λ (c : ℕ). c ∷ bytes) (unlowered 60 b refl (and_parts (60 == lower b) (begins_with w (map lower bytes)) both.0).0 refl))

pub doubles_escape : (text : List ℕ) → begins_with_name (60 ∷ script) text ≡ true → ReadsPassage phase.Escaped text 7 phase.DoubleEscaped
doubles_escape text h =
    let s = begins_less script text h in
    subst (λ (l : List ℕ). ReadsPassage phase.Escaped l 7 phase.DoubleEscaped) (sym s.1) (double_from s.0 (subst (λ (l : List ℕ). begins_with_name (60 ∷ script) l ≡ true) s.1 h))

-- ---- `</script` in a double escape

undouble_from : (bytes : List ℕ) → begins_with_name script bytes ≡ true → ReadsPassage phase.DoubleEscaped (60 ∷ 47 ∷ bytes) 8 phase.Escaped
undouble_from bytes h =
    let goal = Raw Escaped script in
    ap (read (DoubleEscaped script) 0) (input-less (47 ∷ bytes) ∙ ap (λ (l : List ℕ). 60 ∷ l) (input-solidus bytes))
    ∙ double_less script (47 ∷ input bytes)
    ∙ ap (λ (l : List Token). Char 60 ∷ l) (double_solidus script (input bytes))
    ∙ ap (λ (l : List Token). Char 60 ∷ Char 47 ∷ l) (double (DoubleEnd script) goal (DoubleEscaped script) (ends script) bytes h)
    ∙ ap (λ (l : List ℕ). chars (map replace_null l) ++ read goal 0 (input (drop 6 bytes))) (sym (input-less (47 ∷ take 6 bytes) ∙ ap (λ (l : List ℕ). 60 ∷ l) (input-solidus (take 6 bytes))))

pub leaves_double : (text : List ℕ) → begins_with_name (60 ∷ 47 ∷ script) text ≡ true → ReadsPassage phase.DoubleEscaped text 8 phase.Escaped
leaves_double text h =
    let s = opens script text h in
    subst (λ (l : List ℕ). ReadsPassage phase.DoubleEscaped l 8 phase.Escaped) (sym s.1) (undouble_from s.0 (subst (λ (l : List ℕ). begins_with_name (60 ∷ 47 ∷ script) l ≡ true) s.1 h))

-- ---- a mark that changes no phase

-- the byte is text in this phase
abbrev IsText : Phase → ℕ → List ℕ → Type 0
IsText p b bytes = read (script_state p) 0 (input (b ∷ bytes)) ≡ Char b ∷ read (script_state p) 0 (input bytes)

one_part : (p : Phase) (b : ℕ) (bytes : List ℕ) → IsUtf8 (b ∷ bytes) → b < 128 → b ≢ 13 → replace_null b ≡ b → IsText p b bytes → Part p (b ∷ bytes) 1 p
one_part p b bytes utf8 small other is h = record {
  boundary = IsCharBoundary-from_drop (b ∷ bytes) 1 (omega arith) (utf8_tail b bytes small utf8);
  reads =
      let front : input (b ∷ []) ≡ b ∷ [] = input-cons b [] small other ∙ ap (λ (l : List ℕ). b ∷ l) input-nil in
      h
      ∙ ap (λ (c : ℕ). Char c ∷ read (script_state p) 0 (input bytes)) (sym is)
      ∙ ap (λ (l : List ℕ). chars (map replace_null l) ++ read (script_state p) 0 (input bytes)) (sym front);
}

less_part : (p : Phase) (bytes : List ℕ) → IsUtf8 (60 ∷ bytes) → IsText p 60 bytes → Part p (60 ∷ bytes) 1 p
less_part p bytes utf8 h = one_part p 60 bytes utf8 (omega arith) (λ (e : 60 ≡ 13). omega arith) refl h

hyphen_part : (p : Phase) (bytes : List ℕ) → IsUtf8 (45 ∷ bytes) → IsText p 45 bytes → Part p (45 ∷ bytes) 1 p
hyphen_part p bytes utf8 h = one_part p 45 bytes utf8 (omega arith) (λ (e : 45 ≡ 13). omega arith) refl h

plain_hyphen : (bytes : List ℕ) → IsText phase.Plain 45 bytes
plain_hyphen bytes = ap (read (Raw Script script) 0) (input-hyphen bytes) ∙ script_keeps script 45 (input bytes) refl

plain_mark : (b : ℕ) (bytes : List ℕ) → (b ≡ 60) ⊎ (b ≡ 45) → IsUtf8 (b ∷ bytes) → begins_with_name (60 ∷ 47 ∷ script) (b ∷ bytes) ≡ false → begins_with (60 ∷ 33 ∷ 45 ∷ 45 ∷ []) (b ∷ bytes) ≡ false → Part phase.Plain (b ∷ bytes) 1 phase.Plain
plain_mark b bytes (inl e) utf8 h g =
    subst (λ (c : ℕ). IsUtf8 (c ∷ bytes) → begins_with_name (60 ∷ 47 ∷ script) (c ∷ bytes) ≡ false → begins_with (60 ∷ 33 ∷ 45 ∷ 45 ∷ []) (c ∷ bytes) ≡ false → Part phase.Plain (c ∷ bytes) 1 phase.Plain) (sym e)
    (λ u n m. less_part phase.Plain bytes u (less_text script bytes (past 60 bytes (omega arith) u) n m)) utf8 h g
plain_mark b bytes (inr e) utf8 h g =
    subst (λ (c : ℕ). IsUtf8 (c ∷ bytes) → Part phase.Plain (c ∷ bytes) 1 phase.Plain) (sym e) (λ u. hyphen_part phase.Plain bytes u (plain_hyphen bytes)) utf8

pub plain_one : (text : List ℕ) → IsUtf8 text → 0 < length text → BeginsWithMark text → ends_script phase.Plain text ≡ false → begins_with (60 ∷ 33 ∷ 45 ∷ 45 ∷ []) text ≡ false → Part phase.Plain text 1 phase.Plain
plain_one [] utf8 some mark h g = absurd (omega (arith, some))
plain_one (b ∷ bytes) utf8 some mark h g = plain_mark b bytes mark utf8 h g

escaped_hyphen : (bytes : List ℕ) → IsUtf8 bytes → begins_with (45 ∷ 45 ∷ 62 ∷ []) (45 ∷ bytes) ≡ false → IsText phase.Escaped 45 bytes
escaped_hyphen bytes utf8 h = hyphen_text (Raw Escaped script) (EscapedDash script) (EscapedDashDash script) (escaped_dashes script) bytes utf8 h

double_hyphen : (bytes : List ℕ) → IsUtf8 bytes → begins_with (45 ∷ 45 ∷ 62 ∷ []) (45 ∷ bytes) ≡ false → IsText phase.DoubleEscaped 45 bytes
double_hyphen bytes utf8 h = hyphen_text (DoubleEscaped script) (DoubleDash script) (DoubleDashDash script) (double_dashes script) bytes utf8 h

escaped_mark : (b : ℕ) (bytes : List ℕ) → (b ≡ 60) ⊎ (b ≡ 45) → IsUtf8 (b ∷ bytes) → begins_with_name (60 ∷ 47 ∷ script) (b ∷ bytes) ≡ false → begins_with (45 ∷ 45 ∷ 62 ∷ []) (b ∷ bytes) ≡ false → begins_with_name (60 ∷ script) (b ∷ bytes) ≡ false
    → Part phase.Escaped (b ∷ bytes) 1 phase.Escaped
escaped_mark b bytes (inl e) utf8 h g f =
    subst (λ (c : ℕ). IsUtf8 (c ∷ bytes) → begins_with_name (60 ∷ 47 ∷ script) (c ∷ bytes) ≡ false → begins_with_name (60 ∷ script) (c ∷ bytes) ≡ false → Part phase.Escaped (c ∷ bytes) 1 phase.Escaped) (sym e)
    (λ u n m. less_part phase.Escaped bytes u (escaped_text script bytes (past 60 bytes (omega arith) u) n m)) utf8 h f
escaped_mark b bytes (inr e) utf8 h g f =
    subst (λ (c : ℕ). IsUtf8 (c ∷ bytes) → begins_with (45 ∷ 45 ∷ 62 ∷ []) (c ∷ bytes) ≡ false → Part phase.Escaped (c ∷ bytes) 1 phase.Escaped) (sym e)
    (λ u n. hyphen_part phase.Escaped bytes u (escaped_hyphen bytes (past 45 bytes (omega arith) u) n)) utf8 g

pub escaped_one : (text : List ℕ) → IsUtf8 text → 0 < length text → BeginsWithMark text → ends_script phase.Escaped text ≡ false → begins_with (45 ∷ 45 ∷ 62 ∷ []) text ≡ false → begins_with_name (60 ∷ script) text ≡ false → Part phase.Escaped text 1 phase.Escaped
escaped_one [] utf8 some mark h g f = absurd (omega (arith, some))
escaped_one (b ∷ bytes) utf8 some mark h g f = escaped_mark b bytes mark utf8 h g f

double_mark : (b : ℕ) (bytes : List ℕ) → (b ≡ 60) ⊎ (b ≡ 45) → IsUtf8 (b ∷ bytes) → begins_with (45 ∷ 45 ∷ 62 ∷ []) (b ∷ bytes) ≡ false → begins_with_name (60 ∷ 47 ∷ script) (b ∷ bytes) ≡ false → Part phase.DoubleEscaped (b ∷ bytes) 1 phase.DoubleEscaped
double_mark b bytes (inl e) utf8 g f =
    subst (λ (c : ℕ). IsUtf8 (c ∷ bytes) → begins_with_name (60 ∷ 47 ∷ script) (c ∷ bytes) ≡ false → Part phase.DoubleEscaped (c ∷ bytes) 1 phase.DoubleEscaped) (sym e)
    (λ u n. less_part phase.DoubleEscaped bytes u (double_text script bytes (past 60 bytes (omega arith) u) n)) utf8 f
double_mark b bytes (inr e) utf8 g f =
    subst (λ (c : ℕ). IsUtf8 (c ∷ bytes) → begins_with (45 ∷ 45 ∷ 62 ∷ []) (c ∷ bytes) ≡ false → Part phase.DoubleEscaped (c ∷ bytes) 1 phase.DoubleEscaped) (sym e)
    (λ u n. hyphen_part phase.DoubleEscaped bytes u (double_hyphen bytes (past 45 bytes (omega arith) u) n)) utf8 g

pub double_one : (text : List ℕ) → IsUtf8 text → 0 < length text → BeginsWithMark text → begins_with (45 ∷ 45 ∷ 62 ∷ []) text ≡ false → begins_with_name (60 ∷ 47 ∷ script) text ≡ false → Part phase.DoubleEscaped text 1 phase.DoubleEscaped
double_one [] utf8 some mark g f = absurd (omega (arith, some))
double_one (b ∷ bytes) utf8 some mark g f = double_mark b bytes mark utf8 g f
