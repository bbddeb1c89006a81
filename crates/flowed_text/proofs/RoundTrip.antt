-- Paragraphs that are written are read as they were.
use Rattle.std.proofs.Common.{◌≡◌, ℕ, zero, suc, ◌≤◌, true, false, cond, List, [], ◌∷◌, ◌++◌, length, take, drop, refl, ap, subst, ◌∙◌, arith, append_assoc, Option, Some, None}
use Rattle.std.specs.Prelude.{IfSome, map}
use Rattle.std.specs.List.{All, flat_map}
use Rattle.std.proofs.lemmas.Bool.{and_from, and_left, eq-eqb}
use Rattle.std.proofs.lemmas.List.{length-drop, take-append-drop}
use Rattle.std.proofs.lemmas.List.Elements.{All-drop, All-head, All-tail, All-take}
use Rattle.flowed_text.specs.declared.Para.{Para}
use Rattle.flowed_text.specs.Lines.{lines}
use Rattle.flowed_text.specs.Paragraphs.{is_flowing, first_has_depth, join_lines, onto_first_para, paras_of, read_line}
use Rattle.flowed_text.specs.Flow.{IsRestorable, line_with_ending, flow, flow_para, line_break, texts_within}
use Rattle.flowed_text.proofs.Breaks.{EndsAt, line_break-place}
use Rattle.flowed_text.proofs.LineCuts.{IsPlain, lines-nil}
use Rattle.flowed_text.proofs.ReadBack.{is_flowing-at, is_flowing-rest, lines-written, read_line-written}
use Rattle.flowed_text.proofs.Written.{texts-last, texts-more}

abbrev para : ℕ → List ℕ → Para
para depth text = record { depth = depth; text = text }

abbrev read : List ℕ → List Para
read text = map read_line (lines text)

-- the paragraph that is read first, and those after it
record ReadsAs (depth : ℕ) (text written rest : List ℕ) : Type 0 where
  next : first_has_depth depth (read written) ≡ true
  is : join_lines false (read written) ≡ para depth text ∷ join_lines false (read rest)

read-line : (depth : ℕ) (text rest : List ℕ) → depth ≤ 4294967295 → All IsPlain text → read (line_with_ending depth text ++ rest) ≡ para depth text ∷ read rest
read-line depth text rest small plain =
    ap (map read_line) (lines-written depth text rest plain) ∙ ap (λ p. p ∷ read rest) (read_line-written depth text small)

-- a paragraph of one line
reads-last : (depth : ℕ) (text written rest : List ℕ) → depth ≤ 4294967295 → All IsPlain text → is_flowing text ≡ false → written ≡ line_with_ending depth text ++ rest → ReadsAs depth text written rest
reads-last depth text written rest small plain stops w =
    let lines_are : read written ≡ para depth text ∷ read rest = ap read w ∙ read-line depth text rest small plain in
    record {
      next = ap (first_has_depth depth) lines_are ∙ eq-eqb depth depth refl;
      is = ap (join_lines false) lines_are
          ∙ ap (λ b. cond b (onto_first_para text (join_lines false (read rest))) (para depth text ∷ join_lines false (read rest))) (and_left (is_flowing text) (first_has_depth depth (read rest)) stops);
    }

-- a line that flows, and the paragraph that is the rest
reads-more : (depth : ℕ) (text rest_text written more rest : List ℕ) → depth ≤ 4294967295 → All IsPlain text → is_flowing text ≡ true → written ≡ line_with_ending depth text ++ more
    → ReadsAs depth rest_text more rest → ReadsAs depth (text ++ rest_text) written rest
reads-more depth text rest_text written more rest small plain goes w reads =
    let lines_are : read written ≡ para depth text ∷ read more = ap read w ∙ read-line depth text more small plain in
    record {
      next = ap (first_has_depth depth) lines_are ∙ eq-eqb depth depth refl;
      is = ap (join_lines false) lines_are
          ∙ ap (λ b. cond b (onto_first_para text (join_lines false (read more))) (para depth text ∷ join_lines false (read more))) (and_from (is_flowing text) (first_has_depth depth (read more)) goes reads.next)
          ∙ ap (onto_first_para text) reads.is;
    }

abbrev written_within : ℕ → ℕ → List ℕ → List ℕ
written_within more depth text = flat_map (line_with_ending depth) (texts_within more depth text)

one_line : (more depth : ℕ) (text rest : List ℕ) → None ≡ line_break depth text → written_within more depth text ++ rest ≡ line_with_ending depth text ++ rest
one_line more depth text rest last = ap (λ ts. flat_map (line_with_ending depth) ts ++ rest) (texts-last more depth text last) ∙ append_assoc (line_with_ending depth text) [] rest

-- a paragraph whose first line ends here or nowhere, where what follows that line is read as it was
reads_by : (more depth : ℕ) (text rest : List ℕ) (end : Option ℕ) → end ≡ line_break depth text → IfSome end (EndsAt text) → length text ≤ suc more → depth ≤ 4294967295 → All IsPlain text → is_flowing text ≡ false
    → ((after : List ℕ) → length after ≤ more → All IsPlain after → is_flowing after ≡ false → ReadsAs depth after (written_within more depth after ++ rest) rest)
    → ReadsAs depth text (written_within (suc more) depth text ++ rest) rest
reads_by more depth text rest None e place bound small plain stops again = reads-last depth text (written_within (suc more) depth text ++ rest) rest small plain stops (one_line (suc more) depth text rest e)
reads_by more depth text rest (Some end) e place bound small plain stops again =
    let first = take end text in
    let after = drop end text in
    let some = place.some in
    let short : length after ≤ more = omega (arith, length-drop end text) in
    let written : written_within (suc more) depth text ++ rest ≡ line_with_ending depth first ++ (written_within more depth after ++ rest) =
    ap (λ ts. flat_map (line_with_ending depth) ts ++ rest) (texts-more more depth text end e) ∙ append_assoc (line_with_ending depth first) (written_within more depth after) rest in
    subst (λ t. ReadsAs depth t (written_within (suc more) depth text ++ rest) rest) (take-append-drop end text)
    (reads-more depth first after (written_within (suc more) depth text ++ rest) (written_within more depth after ++ rest) rest small
    (All-take IsPlain end text plain) (is_flowing-at text end place) written
    (again after short (All-drop IsPlain end text plain) (is_flowing-rest text end place stops)))

reads_para : (more depth : ℕ) (text rest : List ℕ) → length text ≤ more → depth ≤ 4294967295 → All IsPlain text → is_flowing text ≡ false → ReadsAs depth text (written_within more depth text ++ rest) rest
reads_para zero depth text rest bound small plain stops = reads-last depth text (written_within zero depth text ++ rest) rest small plain stops (append_assoc (line_with_ending depth text) [] rest)
reads_para (suc more) depth text rest bound small plain stops =
    reads_by more depth text rest (line_break depth text) refl (line_break-place depth text) bound small plain stops
    (λ after short p s. reads_para more depth after rest short small p s)

-- ---- paragraphs

abbrev pub IsShallow : Para → Type 0
IsShallow p = p.depth ≤ 4294967295

paras_written : (paras : List Para) → All IsShallow paras → All IsRestorable paras → join_lines false (read (flat_map flow_para paras)) ≡ paras
paras_written [] small whole = ap (λ ls. join_lines false (map read_line ls)) lines-nil
paras_written (p ∷ paras) small whole =
    let here = All-head IsRestorable p paras whole in
    let reads = reads_para (length p.text) p.depth p.text (flat_map flow_para paras) (omega arith) (All-head IsShallow p paras small) here.0 here.1 in
    reads.is ∙ ap (λ ps. p ∷ ps) (paras_written paras (All-tail IsShallow p paras small) (All-tail IsRestorable p paras whole))

abbrev read_all : List ℕ → List Para
read_all text = join_lines false (read text)

pub paras_of-flow : (paras : List Para) (text : List ℕ) → text ≡ flow paras → All IsShallow paras → All IsRestorable paras → paras_of text false ≡ paras
unfolding flow paras_of
paras_of-flow paras text e small whole = ap read_all e ∙ paras_written paras small whole
