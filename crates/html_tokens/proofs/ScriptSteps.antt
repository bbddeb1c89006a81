-- A script from one mark to the next.
use Rattle.std.proofs.Common.{◌≡◌, ℕ, zero, suc, ◌+◌, ◌≤◌, ◌⊎◌, Bool, true, false, not, ◌||◌, ◌==◌, List, [], ◌∷◌, ◌++◌, length, map, take, drop, refl, sym, ap, ◌∙◌, arith, inl, inr, IsUtf8, IsCharBoundary, codes}
use Rattle.std.proofs.lemmas.Bool.{not-true}
use Rattle.std.proofs.lemmas.Bool.Decides.{nat_tests}
use Rattle.std.proofs.lemmas.List.{map-append, take-append-drop, drop-drop, drop_all}
use Rattle.std.proofs.Math.Seq.{take-add}
use Rattle.std.proofs.lemmas.Str.{IsUtf8-take}
use Rattle.std.specs.List.{list_all}
use Rattle.html_syntax.specs.Token.{Token}
use Rattle.html_syntax.specs.States.{State, replace_null}
use Rattle.html_syntax.specs.States.RawTextKind.{Script, Escaped}
use Rattle.html_syntax.specs.States.State.{Data, Raw, DoubleEscaped}
use Rattle.html_syntax.specs.Tokenizer.{read, tokens_at_end, chars}
use Rattle.html_references.specs.Input.{input}
use Rattle.html_tokens.specs.Cuts.{LacksByte, BeginsWithByte}
use Rattle.html_tokens.specs.Contents.{begins_end_tag}
use Rattle.html_tokens.specs.Scripts.{script_state, ReadsPassage, ends_script, BeginsWithMark, LacksMarks}
use Rattle.html_tokens.specs.declared.mode.Content.TheVariants as content
use Rattle.html_tokens.specs.declared.script.Phase.{Phase}
use Rattle.html_tokens.specs.declared.script.Phase.TheVariants as phase
use Rattle.html_tokens.proofs.Runs.{emits, emits-more, run, Keeps}
use Rattle.html_tokens.proofs.TextRuns.{is_plain, all_plain}
use Rattle.html_references.proofs.Stretches.{PassesWide, all-input, input-nil, input-append, input-append_plain, IsMarked}
use Rattle.html_tokens.proofs.RawRuns.{raw_nil, content_closed}
use Rattle.html_tokens.proofs.EndTags.{closed}
use Rattle.html_tokens.proofs.DoubleEscapes.{escaped_keeps, double_keeps}
use Rattle.html_tokens.proofs.ScriptRuns.{script_keeps}

abbrev script : List ℕ
script = codes "script"

-- ---- up to the next mark

is_unmarked : ℕ → Bool
is_unmarked c = not (c == 60 || c == 45)

wide_unmarked : PassesWide is_unmarked
unfolding is_unmarked
wide_unmarked c big = grind (arith, nat_tests)

feed_unmarked : is_unmarked 13 ≡ true → is_unmarked 10 ≡ true
unfolding is_unmarked
feed_unmarked h = refl

unmarked : (c : ℕ) → is_unmarked c ≡ true → ((c == 60) ≡ false) × ((c == 45) ≡ false)
unfolding is_unmarked
unmarked c h = (grind (arith, nat_tests), grind (arith, nat_tests))

all_unmarked : (bytes : List ℕ) → IsUtf8 bytes → LacksMarks bytes → list_all is_unmarked (input bytes) ≡ true
unfolding is_unmarked
all_unmarked bytes utf8 h = all-input is_unmarked wide_unmarked feed_unmarked bytes utf8 h

pub mark_marked : (text : List ℕ) → BeginsWithMark text → IsMarked text
mark_marked [] h = tt
mark_marked (b ∷ text) (inl e) = (omega (arith, e), λ (x : b ≡ 10). omega (arith, e, x))
mark_marked (b ∷ text) (inr e) = (omega (arith, e), λ (x : b ≡ 10). omega (arith, e, x))

run_on : (s : State) (p : ℕ → Bool) → Keeps (emits s) p replace_null → (text : List ℕ) (n : ℕ) → IsUtf8 (take n text) → list_all p (input (take n text)) ≡ true → IsMarked (drop n text)
    → read s 0 (input text) ≡ chars (map replace_null (input (take n text))) ++ read s 0 (input (drop n text))
run_on s p keeps text n utf8 all marked =
    ap (λ (l : List ℕ). read s 0 (input l)) (sym (take-append-drop n text))
    ∙ ap (read s 0) (input-append (take n text) (drop n text) utf8 marked)
    ∙ run (emits s) p replace_null keeps [] (input (take n text)) (input (drop n text)) all

plain_keeps : Keeps (emits (Raw Script script)) is_plain replace_null
plain_keeps kept c text h = ap (λ (l : List Token). chars kept ++ l) (script_keeps script c text (not-true (c == 60) h)) ∙ emits-more (Raw Script script) kept (replace_null c ∷ []) 0 text

escaped_kept : Keeps (emits (Raw Escaped script)) is_unmarked replace_null
escaped_kept kept c text h =
    let u = unmarked c h in
    ap (λ (l : List Token). chars kept ++ l) (escaped_keeps script c text u.0 u.1) ∙ emits-more (Raw Escaped script) kept (replace_null c ∷ []) 0 text

double_kept : Keeps (emits (DoubleEscaped script)) is_unmarked replace_null
double_kept kept c text h =
    let u = unmarked c h in
    ap (λ (l : List Token). chars kept ++ l) (double_keeps script c text u.0 u.1) ∙ emits-more (DoubleEscaped script) kept (replace_null c ∷ []) 0 text

pub less_is_mark : (text : List ℕ) → BeginsWithByte 60 text → BeginsWithMark text
less_is_mark [] h = tt
less_is_mark (b ∷ text) h = inl h

pub plain_run : (text : List ℕ) (n : ℕ) → IsUtf8 text → IsCharBoundary text n → LacksByte 60 (take n text) → BeginsWithByte 60 (drop n text) → ReadsPassage phase.Plain text n phase.Plain
plain_run text n utf8 cut lacks begins =
    let front = IsUtf8-take text n utf8 cut in
    run_on (Raw Script script) is_plain plain_keeps text n front (all_plain (take n text) front lacks) (mark_marked (drop n text) (less_is_mark (drop n text) begins))

escaped_run : (text : List ℕ) (n : ℕ) → IsUtf8 text → IsCharBoundary text n → LacksMarks (take n text) → BeginsWithMark (drop n text) → ReadsPassage phase.Escaped text n phase.Escaped
escaped_run text n utf8 cut lacks mark =
    let front = IsUtf8-take text n utf8 cut in
    run_on (Raw Escaped script) is_unmarked escaped_kept text n front (all_unmarked (take n text) front lacks) (mark_marked (drop n text) mark)

double_run : (text : List ℕ) (n : ℕ) → IsUtf8 text → IsCharBoundary text n → LacksMarks (take n text) → BeginsWithMark (drop n text) → ReadsPassage phase.DoubleEscaped text n phase.DoubleEscaped
double_run text n utf8 cut lacks mark =
    let front = IsUtf8-take text n utf8 cut in
    run_on (DoubleEscaped script) is_unmarked double_kept text n front (all_unmarked (take n text) front lacks) (mark_marked (drop n text) mark)

pub marked_run : (p : Phase) → (p ≡ phase.Escaped) ⊎ (p ≡ phase.DoubleEscaped) → (text : List ℕ) (n : ℕ) → IsUtf8 text → IsCharBoundary text n → LacksMarks (take n text) → BeginsWithMark (drop n text) → ReadsPassage p text n p
marked_run p (inl e) text n utf8 cut lacks mark = rw e (escaped_run text n utf8 cut lacks mark)
marked_run p (inr e) text n utf8 cut lacks mark = rw e (double_run text n utf8 cut lacks mark)

-- ---- two parts

pub two_parts : (p q r : Phase) (text : List ℕ) (n m : ℕ) → input (take n text ++ take m (drop n text)) ≡ input (take n text) ++ input (take m (drop n text)) → ReadsPassage p text n q → ReadsPassage q (drop n text) m r → ReadsPassage p text (n + m) r
two_parts p q r text n m cut first second =
    let ends = script_state r in
    let back = input (drop (n + m) text) in
    let one = input (take n text) in
    let two = input (take m (drop n text)) in
    let whole : input (take (n + m) text) ≡ one ++ two = ap input (take-add n m text) ∙ cut in
    first
    ∙ ap (λ (l : List Token). chars (map replace_null one) ++ l) (second ∙ ap (λ (l : List ℕ). chars (map replace_null two) ++ read ends 0 (input l)) (drop-drop m n text))
    ∙ emits-more ends (map replace_null one) (map replace_null two) 0 back
    ∙ ap (λ (l : List ℕ). chars l ++ read ends 0 back) (sym (map-append replace_null one two) ∙ ap (map replace_null) (sym whole))

-- if the first part has no carriage return
pub plain_parts : (p q r : Phase) (text : List ℕ) (n m : ℕ) → IsUtf8 text → IsCharBoundary text n → LacksByte 13 (take n text) → ReadsPassage p text n q → ReadsPassage q (drop n text) m r → ReadsPassage p text (n + m) r
plain_parts p q r text n m utf8 cut lacks first second =
    two_parts p q r text n m (input-append_plain (take n text) (take m (drop n text)) (IsUtf8-take text n utf8 cut) lacks) first second

marked_front : (m : ℕ) (text : List ℕ) → IsMarked text → IsMarked (take m text)
marked_front zero text h = tt
marked_front (suc m) [] h = tt
marked_front (suc m) (b ∷ text) h = h

-- if a mark is between the two
pub marked_parts : (p q r : Phase) (text : List ℕ) (n m : ℕ) → IsUtf8 text → IsCharBoundary text n → BeginsWithMark (drop n text) → ReadsPassage p text n q → ReadsPassage q (drop n text) m r → ReadsPassage p text (n + m) r
marked_parts p q r text n m utf8 cut mark first second =
    two_parts p q r text n m (input-append (take n text) (take m (drop n text)) (IsUtf8-take text n utf8 cut) (marked_front m (drop n text) (mark_marked (drop n text) mark))) first second

-- ---- the end of a script

double_nil : (last : List ℕ) → read (DoubleEscaped last) 0 [] ≡ read Data 0 []
unfolding read tokens_at_end
double_nil last = refl

phase_nil : (p : Phase) → read (script_state p) 0 [] ≡ read Data 0 []
phase_nil phase.Plain = raw_nil Script script
phase_nil phase.Escaped = raw_nil Escaped script
phase_nil phase.DoubleEscaped = double_nil script

pub script_over : (p : Phase) (rest : List ℕ) (at : ℕ) → length rest ≤ at → read (script_state p) 0 (input (drop at rest)) ≡ read Data 0 (input (drop at rest))
script_over p rest at over = rw (drop_all at rest over, input-nil) (phase_nil p)

pub script_closed : (p : Phase) (text : List ℕ) → ends_script p text ≡ true → (begins_end_tag content.Script text ≡ true) × (read (script_state p) 0 (input text) ≡ read Data 0 (input text))
script_closed phase.Plain text h = (h, content_closed content.Script text h)
script_closed phase.Escaped text h = (h, closed Escaped script text refl h)
script_closed phase.DoubleEscaped text h = absurd cc
