-- Steps to the next token.
use Rattle.std.proofs.Common.{◌≡◌, ℕ, zero, suc, ◌+◌, ◌-◌, ◌<◌, ◌≤◌, Bool, true, false, ◌&&◌, ◌==◌, List, [], ◌∷◌, ◌++◌, length, map, take, drop, refl, sym, ap, subst, ◌∙◌, append-nil, arith, IsUtf8, IsCharBoundary, Option, Some, None, inl, inr}
use Rattle.std.proofs.lemmas.List.{drop-drop, length-drop, take_all, drop_all, nil_from_length}
use Rattle.std.proofs.lemmas.Str.{IsCharBoundary-from_rest, IsCharBoundary-start}
use Rattle.html_syntax.specs.Token.{Attribute, Token}
use Rattle.html_syntax.specs.Token.Token.{Start, End, Comment, Doctype}
use Rattle.std.proofs.lemmas.Bool.{and_parts, eqb-true, both_ways, cases_lt}
use Rattle.html_syntax.specs.Characters.{is_letter, lower}
use Rattle.html_syntax.specs.States.{Tag, State, new_tag, state_after_start, replace_null}
use Rattle.html_syntax.specs.States.State.{Data, TagName, BeforeName, Plaintext}
use Rattle.html_syntax.specs.Tokenizer.{read, step, look_again, look, tokens_at_end, chars}
use Rattle.html_references.specs.Input.{input, read_as, decode_references}
use Rattle.html_tokens.specs.Tags.{extend_name, with_attributes, tokens_after_tag}
use Rattle.html_tokens.specs.Scanned.{state_in, part_tokens, span_tokens, slice_between, GivesToken, HoldsPart, IsSpan, opens_markup, opens_start, opens_end, part_bound, shift_part}
use Rattle.html_tokens.specs.Stepping.{RunEndsAtMarkup, BeginsOutsideMarkup, SkipsNoToken, RunBeginsOutsideMarkup, RunLeavesData, RunsAreSeparate, tokens_in, IsStepTo, IsStepAt, IsNextStepAt, run_step}
use Rattle.html_tokens.specs.declared.mode.Content.{Content}
use Rattle.html_tokens.specs.declared.mode.Mode.{Mode}
use Rattle.html_tokens.specs.declared.mode.Mode.TheVariants as mode
use Rattle.html_tokens.specs.declared.span.Part.{Part}
use Rattle.html_tokens.specs.declared.span.Part.TheVariants as part
use Rattle.html_tokens.specs.declared.span.Span.{Span}
use Rattle.html_references.specs.declared.stretch.ReadAs.{ReadAs}
use Rattle.html_references.specs.declared.stretch.ReadAs.TheVariants as reads
use Rattle.html_tokens.specs.declared.step.Step.{Step}
use Rattle.html_tokens.proofs.Runs.{emits, emits-more, run}
use Rattle.html_references.proofs.Stretches.{input-nil}
use Rattle.html_tokens.proofs.SpanTokens.{span_some, tokens_some}
use Rattle.std.specs.List.{list_all}

-- ---- tags

first_of : (all : List Token) (t : Token) (more : List Token) → all ≡ t ∷ more → all ≡ take 1 all ++ more
first_of all t more e = rw e refl

tag_boundary : (rest : List ℕ) (k len n : ℕ) → IsCharBoundary rest k → IsCharBoundary (drop k rest) len → IsCharBoundary (drop len (drop k rest)) n → IsCharBoundary rest (k + len + n)
tag_boundary rest k len n cut name_cut tag_cut =
    let inner : IsCharBoundary (drop k rest) (len + n) = IsCharBoundary-from_rest (drop k rest) len n name_cut.0 tag_cut in
    let places : k + (len + n) ≡ k + len + n = omega arith in
    subst (IsCharBoundary rest) places (IsCharBoundary-from_rest rest k (len + n) cut.0 inner)

pub tag_rest : (rest : List ℕ) (k len n : ℕ) → drop n (drop len (drop k rest)) ≡ drop (k + len + n) rest
tag_rest rest k len n = ap (drop n) (drop-drop len k rest) ∙ drop-drop n (k + len) rest

pub tag_found : (rest : List ℕ) (p : Part) (k len n : ℕ) (m : Mode) (t : Token) → IsUtf8 rest → IsCharBoundary rest k → IsCharBoundary (drop k rest) len → IsCharBoundary (drop len (drop k rest)) n → 0 < k
    → part_tokens rest 0 (k + len + n) p ≡ take 1 (read Data 0 (input rest)) → (GivesToken rest → HoldsPart rest 0 p)
    → RunEndsAtMarkup rest p (k + len + n) → RunBeginsOutsideMarkup rest mode.Data p 0 → RunLeavesData p m → read Data 0 (input rest) ≡ t ∷ tokens_in m (drop n (drop len (drop k rest)))
    → IsStepTo rest mode.Data (record { span = record { start = 0; end = k + len + n; part = p }; at = k + len + n; mode = m })
tag_found rest p k len n m t utf8 cut name_cut tag_cut some gives holds ends begins leaves reads =
    let all : List Token = read Data 0 (input rest) in
    let past = tag_boundary rest k len n cut name_cut tag_cut in
    let more : List Token = tokens_in m (drop n (drop len (drop k rest))) in
    record {
      reads = first_of all t more reads ∙ ap (λ (l : List Token). l ++ more) (sym gives) ∙ ap (λ (l : List ℕ). part_tokens rest 0 (k + len + n) p ++ tokens_in m l) (tag_rest rest k len n);
      span = record { nonempty = omega (arith, some); begins = IsCharBoundary-start rest utf8; ends = past; holds = holds (t, more, reads) };
      at = past;
      start = refl;
      ends_at_place = refl;
      run_ends_at_markup = ends;
      run_begins_outside_markup = begins;
      run_leaves_data = leaves;
    }

pub start_read : (rest : List ℕ) (len n : ℕ) (m : Mode) (attributes : List Attribute) → read Data 0 (input rest) ≡ read (TagName (new_tag false)) 0 (input (drop 1 rest))
    → ((tag : Tag) → read (TagName tag) 0 (input (drop 1 rest)) ≡ read (BeforeName (extend_name tag (input (take len (drop 1 rest))))) 0 (input (drop len (drop 1 rest))))
    → read (BeforeName (extend_name (new_tag false) (input (take len (drop 1 rest))))) 0 (input (drop len (drop 1 rest)))
    ≡ tokens_after_tag (with_attributes (extend_name (new_tag false) (input (take len (drop 1 rest)))) attributes) (input (drop n (drop len (drop 1 rest))))
    → state_in m ≡ state_after_start (map lower (map replace_null (input (take len (drop 1 rest)))))
    → read Data 0 (input rest) ≡ Start (map lower (map replace_null (input (take len (drop 1 rest))))) attributes ∷ tokens_in m (drop n (drop len (drop 1 rest)))
start_read rest len n m attributes opens named closes mode_is =
    let name = map lower (map replace_null (input (take len (drop 1 rest)))) in
    opens ∙ named (new_tag false) ∙ closes ∙ ap (λ (s : State). Start name attributes ∷ read s 0 (input (drop n (drop len (drop 1 rest))))) (sym mode_is)

pub end_read : (rest : List ℕ) (len n : ℕ) (attributes : List Attribute) → read Data 0 (input rest) ≡ read (TagName (new_tag true)) 0 (input (drop 2 rest))
    → ((tag : Tag) → read (TagName tag) 0 (input (drop 2 rest)) ≡ read (BeforeName (extend_name tag (input (take len (drop 2 rest))))) 0 (input (drop len (drop 2 rest))))
    → read (BeforeName (extend_name (new_tag true) (input (take len (drop 2 rest))))) 0 (input (drop len (drop 2 rest)))
    ≡ tokens_after_tag (with_attributes (extend_name (new_tag true) (input (take len (drop 2 rest)))) attributes) (input (drop n (drop len (drop 2 rest))))
    → read Data 0 (input rest) ≡ End (map lower (map replace_null (input (take len (drop 2 rest))))) ∷ tokens_in mode.Data (drop n (drop len (drop 2 rest)))
end_read rest len n attributes opens named closes = opens ∙ named (new_tag true) ∙ closes

-- ---- comments and DOCTYPEs

pub comment_found : (rest : List ℕ) (k len end : ℕ) → IsUtf8 rest → IsCharBoundary rest k → 0 < k → IsCharBoundary (drop k rest) len → IsCharBoundary (drop k rest) end → len ≤ end
    → read Data 0 (input rest) ≡ Comment (map replace_null (input (take len (drop k rest)))) ∷ read Data 0 (input (drop end (drop k rest)))
    → IsStepTo rest mode.Data (record { span = record { start = 0; end = k + end; part = part.Comment k (k + len) }; at = k + end; mode = mode.Data })
comment_found rest k len end utf8 cut some len_cut end_cut ordered reads =
    let past = IsCharBoundary-from_rest rest k end cut.0 end_cut in
    let inner : (k + len) - k ≡ len = omega arith in
    record {
      reads =
          reads
          ∙ ap (λ (n : ℕ). Comment (map replace_null (input (take n (drop k rest)))) ∷ read Data 0 (input (drop end (drop k rest)))) (sym inner)
          ∙ ap (λ (l : List ℕ). Comment (map replace_null (input (slice_between k (k + len) rest))) ∷ read Data 0 (input l)) (drop-drop end k rest);
      span = record { nonempty = omega (arith, some); begins = IsCharBoundary-start rest utf8; ends = past; holds = (omega arith, cut, IsCharBoundary-from_rest rest k len cut.0 len_cut) };
      at = past;
      start = refl;
      ends_at_place = refl;
      run_ends_at_markup = tt;
      run_begins_outside_markup = tt;
      run_leaves_data = tt;
    }

pub doctype_found : (rest : List ℕ) (end : ℕ) → IsUtf8 rest → IsCharBoundary rest 9 → IsCharBoundary (drop 9 rest) end
    → read Data 0 (input rest) ≡ Doctype ∷ read Data 0 (input (drop end (drop 9 rest)))
    → IsStepTo rest mode.Data (record { span = record { start = 0; end = 9 + end; part = part.Doctype }; at = 9 + end; mode = mode.Data })
doctype_found rest end utf8 cut end_cut reads =
    let past = IsCharBoundary-from_rest rest 9 end cut.0 end_cut in
    record {
      reads = reads ∙ ap (λ (l : List ℕ). Doctype ∷ read Data 0 (input l)) (drop-drop end 9 rest);
      span = record { nonempty = omega arith; begins = IsCharBoundary-start rest utf8; ends = past; holds = tt };
      at = past;
      start = refl;
      ends_at_place = refl;
      run_ends_at_markup = tt;
      run_begins_outside_markup = tt;
      run_leaves_data = tt;
    }

-- ---- runs

pub run_found : (r : ReadAs) (m : Mode) (rest : List ℕ) (end : ℕ) → IsUtf8 rest → 0 < end → IsCharBoundary rest end
    → tokens_in m rest ≡ chars (read_as r (input (take end rest))) ++ read Data 0 (input (drop end rest)) → (end < length rest → opens_markup (drop end rest) ≡ true) → RunBeginsOutsideMarkup rest m (part.Run r) 0
    → IsStepTo rest m (run_step r end)
run_found r m rest end utf8 some cut reads ends begins =
    let whole : end - 0 ≡ end = omega arith in
    record {
      reads = reads ∙ ap (λ (n : ℕ). chars (read_as r (input (take n rest))) ++ read Data 0 (input (drop end rest))) (sym whole);
      span = record { nonempty = some; begins = IsCharBoundary-start rest utf8; ends = cut; holds = tt };
      at = cut;
      start = refl;
      ends_at_place = refl;
      run_ends_at_markup = ends;
      run_begins_outside_markup = begins;
      run_leaves_data = refl;
    }

data_nil : read Data 0 [] ≡ []
unfolding read tokens_at_end
data_nil = refl

pub nothing_in_data : (rest : List ℕ) → length rest ≡ 0 → tokens_in mode.Data rest ≡ []
nothing_in_data rest h = ap (λ (l : List ℕ). read Data 0 (input l)) (nil_from_length rest h) ∙ ap (read Data 0) input-nil ∙ data_nil

plain_keeps : (kept : List ℕ) (c : ℕ) (text : List ℕ) → true ≡ true → emits Plaintext kept 0 (c ∷ text) ≡ emits Plaintext (kept ++ replace_null c ∷ []) 0 text
unfolding read step look_again look
plain_keeps kept c text h = emits-more Plaintext kept (replace_null c ∷ []) 0 text

all_true : (cs : List ℕ) → list_all (λ _. true) cs ≡ true
all_true [] = refl
all_true (c ∷ cs) = all_true cs

plain_nil : read Plaintext 0 [] ≡ []
unfolding read tokens_at_end
plain_nil = refl

plain_all : (cs : List ℕ) → read Plaintext 0 cs ≡ chars (map replace_null cs) ++ []
plain_all cs =
    ap (read Plaintext 0) (sym (append-nil cs))
    ∙ run (emits Plaintext) (λ _. true) replace_null plain_keeps [] cs [] (all_true cs)
    ∙ ap (λ (l : List Token). chars (map replace_null cs) ++ l) plain_nil

pub plain_reads : (rest : List ℕ) → tokens_in mode.Plaintext rest ≡ chars (map replace_null (input (take (length rest) rest))) ++ read Data 0 (input (drop (length rest) rest))
plain_reads rest =
    let all : take (length rest) rest ≡ rest = take_all (length rest) rest (omega arith) in
    let none : read Data 0 (input (drop (length rest) rest)) ≡ [] = nothing_in_data (drop (length rest) rest) (ap length (drop_all (length rest) rest (omega arith))) in
    rw (all, none) (plain_all (input rest))

pub nothing_in_plaintext : (rest : List ℕ) → length rest ≡ 0 → tokens_in mode.Plaintext rest ≡ []
nothing_in_plaintext rest h = ap (λ (l : List ℕ). read Plaintext 0 (input l)) (nil_from_length rest h) ∙ ap (read Plaintext 0) input-nil ∙ plain_nil

-- ---- in a text from a place on

between_moved : (text : List ℕ) (by start end : ℕ) → slice_between start end (drop by text) ≡ slice_between (by + start) (by + end) text
between_moved text by start end =
    let len : end - start ≡ (by + end) - (by + start) = omega arith in
    ap (λ (l : List ℕ). take (end - start) l) (drop-drop start by text) ∙ ap (λ (n : ℕ). take n (drop (by + start) text)) len

pub tokens_moved : (text : List ℕ) (by start end : ℕ) (p : Part) → part_tokens (drop by text) start end p ≡ part_tokens text (by + start) (by + end) (shift_part by p)
tokens_moved text by start end (part.Run r) = ap (λ (l : List ℕ). chars (read_as r (input l))) (between_moved text by start end)
tokens_moved text by start end part.StartTag = ap (λ (l : List ℕ). take 1 (read Data 0 (input l))) (drop-drop start by text)
tokens_moved text by start end part.EndTag = ap (λ (l : List ℕ). take 1 (read Data 0 (input l))) (drop-drop start by text)
tokens_moved text by start end (part.Comment from to) = ap (λ (l : List ℕ). Comment (map replace_null (input l)) ∷ []) (between_moved text by from to)
tokens_moved text by start end part.Doctype = refl

holds_moved : (text : List ℕ) (by start : ℕ) (p : Part) → by ≤ length text → HoldsPart (drop by text) start p → HoldsPart text (by + start) (shift_part by p)
holds_moved text by start (part.Run r) le h = tt
holds_moved text by start part.StartTag le h = subst (λ (l : List ℕ). (opens_start l ≡ true) × GivesToken l) (drop-drop start by text) h
holds_moved text by start part.EndTag le h = subst (λ (l : List ℕ). (opens_end l ≡ true) × GivesToken l) (drop-drop start by text) h
holds_moved text by start (part.Comment from to) le h = (omega (arith, h.0), IsCharBoundary-from_rest text by from le h.1, IsCharBoundary-from_rest text by to le h.2)
holds_moved text by start part.Doctype le h = tt

run_ends_moved : (text : List ℕ) (by end : ℕ) (p : Part) → RunEndsAtMarkup (drop by text) p end → RunEndsAtMarkup text (shift_part by p) (by + end)
run_ends_moved text by end (part.Run r) h = λ lt. subst (λ (l : List ℕ). opens_markup l ≡ true) (drop-drop end by text) (h (omega (arith, lt, length-drop by text)))
run_ends_moved text by end part.StartTag h = tt
run_ends_moved text by end part.EndTag h = tt
run_ends_moved text by end (part.Comment from to) h = tt
run_ends_moved text by end part.Doctype h = tt

run_begins_moved : (text : List ℕ) (by start : ℕ) (m : Mode) (p : Part) → RunBeginsOutsideMarkup (drop by text) m p start → RunBeginsOutsideMarkup text m (shift_part by p) (by + start)
run_begins_moved text by start m (part.Run r) h = subst (BeginsOutsideMarkup m) (drop-drop start by text) h
run_begins_moved text by start m part.StartTag h = tt
run_begins_moved text by start m part.EndTag h = tt
run_begins_moved text by start m (part.Comment from to) h = tt
run_begins_moved text by start m part.Doctype h = tt

run_leaves_moved : (by : ℕ) (p : Part) (m : Mode) → RunLeavesData p m → RunLeavesData (shift_part by p) m
run_leaves_moved by (part.Run r) m h = h
run_leaves_moved by part.StartTag m h = tt
run_leaves_moved by part.EndTag m h = tt
run_leaves_moved by (part.Comment from to) m h = tt
run_leaves_moved by part.Doctype m h = tt

passes_here : (text : List ℕ) (place start : ℕ) (m : Mode) → start ≡ place → SkipsNoToken text place m start
passes_here text place start mode.Data e = ap (λ (n : ℕ). tokens_in mode.Data (drop n text)) e
passes_here text place start (mode.Inside c) e = tt
passes_here text place start mode.Plaintext e = tt

abbrev moved_span : ℕ → Span → Span
moved_span by s = record { start = by + s.start; end = by + s.end; part = shift_part by s.part }

span_moved : (text : List ℕ) (at : ℕ) (s : Span) → IsCharBoundary text at → IsSpan (drop at text) s → IsSpan text (moved_span at s)
span_moved text at s cut h = record {
  nonempty = omega (arith, h.nonempty);
  begins = IsCharBoundary-from_rest text at s.start cut.0 h.begins;
  ends = IsCharBoundary-from_rest text at s.end cut.0 h.ends;
  holds = holds_moved text at s.start s.part cut.0 h.holds;
}

reads_moved : (text : List ℕ) (at : ℕ) (m : Mode) (s : Step) → IsStepTo (drop at text) m s
    → tokens_in m (drop at text) ≡ span_tokens text (moved_span at s.span) ++ tokens_in s.mode (drop (at + s.at) text)
reads_moved text at m s h =
    h.reads
    ∙ ap (λ (l : List Token). l ++ tokens_in s.mode (drop s.at (drop at text))) (tokens_moved text at s.span.start s.span.end s.span.part)
    ∙ ap (λ (l : List ℕ). part_tokens text (at + s.span.start) (at + s.span.end) (shift_part at s.span.part) ++ tokens_in s.mode l) (drop-drop s.at at text)

pub moved_to : (text : List ℕ) (at : ℕ) (m : Mode) (s : Step) (moved : Span) → IsUtf8 text → IsCharBoundary text at → IsStepTo (drop at text) m s
    → moved ≡ record { start = at + s.span.start; end = at + s.span.end; part = shift_part at s.span.part }
    → IsStepAt text at m (record { span = moved; at = at + s.at; mode = s.mode })
moved_to text at m s moved utf8 cut h e = subst (λ (x : Span). IsStepAt text at m (record { span = x; at = at + s.at; mode = s.mode })) (sym e) (record {
  reads = reads_moved text at m s h;
  token_remains = tokens_some _ _ _ (reads_moved text at m s h) (span_some text (moved_span at s.span) utf8 (span_moved text at s.span cut h.span));
  nonempty = span_some text (moved_span at s.span) utf8 (span_moved text at s.span cut h.span);
  span = span_moved text at s.span cut h.span;
  at = IsCharBoundary-from_rest text at s.at cut.0 h.at;
  advances = omega arith;
  skips_no_token = passes_here text at (at + s.span.start) m (omega (arith, h.start));
  ends_at_place = ap (λ (n : ℕ). at + n) h.ends_at_place;
  run_ends_at_markup = run_ends_moved text at s.span.end s.span.part h.run_ends_at_markup;
  run_begins_outside_markup = run_begins_moved text at s.span.start m s.span.part h.run_begins_outside_markup;
  run_leaves_data = run_leaves_moved at s.span.part s.mode h.run_leaves_data;
})

bound_within : (text : List ℕ) (start : ℕ) (p : Part) → HoldsPart text start p → part_bound p ≤ length text
bound_within text start (part.Run r) h = omega arith
bound_within text start part.StartTag h = omega arith
bound_within text start part.EndTag h = omega arith
bound_within text start (part.Comment from to) h = omega (arith, h.0, h.2.0)
bound_within text start part.Doctype h = omega arith

pub moved_bound : (text : List ℕ) (at : ℕ) (m : Mode) (s : Step) → IsCharBoundary text at → IsStepTo (drop at text) m s → at + part_bound s.span.part ≤ length text
moved_bound text at m s cut h = omega (arith, cut.0, bound_within (drop at text) s.span.start s.span.part h.span.holds, length-drop at text)

pub moved_ends : (text : List ℕ) (at : ℕ) (m : Mode) (s : Step) → IsCharBoundary text at → IsStepTo (drop at text) m s → (at + s.span.end ≤ length text) × (at + s.at ≤ length text)
moved_ends text at m s cut h = (omega (arith, cut.0, h.span.ends.0, length-drop at text), omega (arith, cut.0, h.at.0, length-drop at text))

-- in an element's content a run may begin anywhere
pub begins_inside : (text : List ℕ) (content : Content) (p : Part) (start : ℕ) → RunBeginsOutsideMarkup text mode.Data p start → RunBeginsOutsideMarkup text (mode.Inside content) p start
begins_inside text content (part.Run r) start h = tt
begins_inside text content part.StartTag start h = tt
begins_inside text content part.EndTag start h = tt
begins_inside text content (part.Comment from to) start h = tt
begins_inside text content part.Doctype start h = tt

-- the same step from an earlier place, or in another mode, if the tokens are the same
pub moves_from : (text : List ℕ) (early late : ℕ) (m n : Mode) (s : Option Step) → early ≤ late → tokens_in m (drop early text) ≡ tokens_in n (drop late text)
    → ((p : Part) (start : ℕ) → RunBeginsOutsideMarkup text n p start → RunBeginsOutsideMarkup text m p start) → ((start : ℕ) → SkipsNoToken text late n start → SkipsNoToken text early m start)
    → IsNextStepAt text late n s → IsNextStepAt text early m s
moves_from text early late m n None le same begins passes h = same ∙ h
moves_from text early late m n (Some s) le same begins passes h = record {
  reads = same ∙ h.reads;
  token_remains = λ none. h.token_remains (sym same ∙ none);
  nonempty = h.nonempty;
  span = h.span;
  at = h.at;
  advances = omega (arith, le, h.advances);
  skips_no_token = passes s.span.start h.skips_no_token;
  ends_at_place = h.ends_at_place;
  run_ends_at_markup = h.run_ends_at_markup;
  run_begins_outside_markup = begins s.span.part s.span.start h.run_begins_outside_markup;
  run_leaves_data = h.run_leaves_data;
}

-- no characters are held by nothing
none_decoded : (a : Bool) (plain : ℕ → ℕ) → decode_references a plain 0 [] ≡ []
unfolding decode_references
none_decoded a plain = refl

nothing_read : (r : ReadAs) → read_as r [] ≡ []
nothing_read reads.Text = none_decoded false (λ c. c)
nothing_read reads.Rcdata = none_decoded false replace_null
nothing_read reads.Value = none_decoded true replace_null
nothing_read reads.Raw = refl

pub nothing_held : (r : ReadAs) (more : List Token) → chars (read_as r (input [])) ++ more ≡ more
nothing_held r more = ap (λ (l : List ℕ). chars (read_as r l) ++ more) input-nil ∙ ap (λ (l : List ℕ). chars l ++ more) (nothing_read r)

-- an end tag is markup
pub end_is_markup : (text : List ℕ) → opens_end text ≡ true → opens_markup text ≡ true
end_is_markup [] h = absurd cc
end_is_markup (a ∷ []) h = absurd cc
end_is_markup (a ∷ b ∷ []) h = absurd cc
end_is_markup (a ∷ b ∷ c ∷ text) h =
    let parts = and_parts (a == 60 && b == 47) (is_letter c) h in
    let first = and_parts (a == 60) (b == 47) parts.0 in
    let x : a ≡ 60 = eqb-true a 60 first.0 in
    let y : b ≡ 47 = eqb-true b 47 first.1 in
    rw (x, y) refl

-- a text that is not empty and does not begin with markup begins with a run
pub run_is_some : (rest : List ℕ) (end : ℕ) → (length rest ≡ 0 → ⊥) → opens_markup rest ≡ false → (end < length rest → opens_markup (drop end rest) ≡ true) → 0 < end
run_is_some rest zero some alone ends = absurd (both_ways (opens_markup rest) alone (ends (omega (arith, some))))
run_is_some rest (suc n) some alone ends = omega arith

pub same_span : (s : Span) (start end : ℕ) (p : Part) → s.start ≡ start → s.end ≡ end → s.part ≡ p → s ≡ record { start = start; end = end; part = p }
same_span s start end p x y z = rw (sym x, sym y, sym z) refl

-- ---- two runs

pub runs_are_separate : RunsAreSeparate
runs_are_separate text place m first second r s a b first_run second_run = elim (cases_lt first.span.end second.span.start) [
  | inl lt ↦ lt
  | inr le ↦
      let same : first.span.end ≡ second.span.start = omega (arith, le, a.ends_at_place, b.advances) in
      let within : first.span.end < length text = omega (arith, same, b.span.nonempty, b.span.ends.0) in
      let ends : RunEndsAtMarkup text (part.Run r) first.span.end = subst (λ (p : Part). RunEndsAtMarkup text p first.span.end) first_run a.run_ends_at_markup in
      let leaves : RunLeavesData (part.Run r) first.mode = subst (λ (p : Part). RunLeavesData p first.mode) first_run a.run_leaves_data in
      let begins : RunBeginsOutsideMarkup text first.mode (part.Run s) second.span.start = subst (λ (p : Part). RunBeginsOutsideMarkup text first.mode p second.span.start) second_run b.run_begins_outside_markup in
      let begins_here : BeginsOutsideMarkup mode.Data (drop second.span.start text) = subst (λ (x : Mode). BeginsOutsideMarkup x (drop second.span.start text)) leaves begins in
      absurd (both_ways (opens_markup (drop second.span.start text)) begins_here (ap (λ (n : ℕ). opens_markup (drop n text)) (sym same) ∙ ends within))
]
