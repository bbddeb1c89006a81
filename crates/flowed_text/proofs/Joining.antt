-- Lines join_lines one after another.
use Rattle.std.proofs.Common.{◌≡◌, ◌≢◌, ℕ, ◌+◌, ◌-◌, ◌<◌, ◌≤◌, inl, inr, Bool, true, false, ◌&&◌, List, [], ◌∷◌, ◌++◌, length, take, not, refl, sym, ap, subst, ◌∙◌, arith, append_assoc, length-append}
use Rattle.std.proofs.lemmas.Bool.{and_parts, cases_Bool, eq-eqb, ne_eqb, false≢true}
use Rattle.std.proofs.Math.Seq.{take-append-add}
use Rattle.std.specs.Prelude.{map, min, string_bytes}
use Rattle.std.specs.Str.{bytes_eq}
use Rattle.flowed_text.specs.declared.reading.OpenPara.{OpenPara}
use Rattle.flowed_text.specs.Reading.{continue_para, continue_open_para, para_of}
use Rattle.flowed_text.specs.declared.Para.{Para}
use Rattle.flowed_text.specs.Lines.{lines}
use Rattle.flowed_text.specs.Paragraphs.{ends_in_space, joinable_text, is_flowing, first_has_depth, join_lines, mark_count, onto_first_para, paras_of, read_line, signature}

-- ---- the marks of a line

pub mark_count-none : (rest : List ℕ) → ((more : List ℕ) → rest ≢ 62 ∷ more) → mark_count rest ≡ 0
mark_count-none [] other = refl
mark_count-none (b ∷ rest) other = rw (ne_eqb b 62 (λ e. other rest (ap (λ k. k ∷ rest) e))) refl

-- ---- texts that flow

not_empty : (text : List ℕ) → ends_in_space text ≡ true → 0 < length text
not_empty [] ends = absurd (false≢true ends)
not_empty (b ∷ text) ends = omega arith

joinable_text-append : (del_sp : Bool) (front text : List ℕ) → ends_in_space text ≡ true → joinable_text del_sp (front ++ text) ≡ front ++ joinable_text del_sp text
joinable_text-append false front text ends = refl
joinable_text-append true front text ends =
    let some : 0 < length text = not_empty text ends in
    let last : length (front ++ text) - 1 ≡ length front + (length text - 1) = omega (arith, length-append front text) in
    ap (λ n. take n (front ++ text)) last ∙ take-append-add front text (length text - 1)

onto-twice : (first second : List ℕ) (paras : List Para) → onto_first_para first (onto_first_para second paras) ≡ onto_first_para (first ++ second) paras
onto-twice first second [] = refl
onto-twice first second (para ∷ paras) = ap (λ t. record { depth = para.depth; text = t } ∷ paras) (sym (append_assoc first second para.text))

continue_para-at : (del_sp : Bool) (front : List ℕ) (line : Para) (more : List Para)
    → continue_para del_sp true (record { depth = line.depth; text = front }) (line ∷ more) ≡ continue_para del_sp (is_flowing line.text) (record { depth = line.depth; text = joinable_text del_sp front ++ line.text }) more
continue_para-at del_sp front line more = rw (eq-eqb line.depth line.depth refl) (elim (cases_Bool (is_flowing line.text && first_has_depth line.depth more)) [
  | inl goes ↦
      let flowing = and_parts (ends_in_space line.text && not (bytes_eq line.text signature)) (first_has_depth line.depth more) goes in
      let ends = and_parts (ends_in_space line.text) (not (bytes_eq line.text signature)) flowing.0 in
      rw goes (onto-twice (joinable_text del_sp front) (joinable_text del_sp line.text) (join_lines del_sp more)
      ∙ ap (λ t. onto_first_para t (join_lines del_sp more)) (sym (joinable_text-append del_sp (joinable_text del_sp front) line.text ends.0)))
  | inr stops ↦ rw stops refl
])

-- a paragraph that flows into a line goes on after that one
pub continue_para-join_lines : (del_sp : Bool) (depth : ℕ) (front : List ℕ) (line : Para) (more : List Para) → line.depth ≡ depth
    → continue_para del_sp true (record { depth = depth; text = front }) (line ∷ more) ≡ continue_para del_sp (is_flowing line.text) (record { depth = depth; text = joinable_text del_sp front ++ line.text }) more
continue_para-join_lines del_sp depth front line more same =
    subst (λ d. continue_para del_sp true (record { depth = d; text = front }) (line ∷ more) ≡ continue_para del_sp (is_flowing line.text) (record { depth = d; text = joinable_text del_sp front ++ line.text }) more)
    same (continue_para-at del_sp front line more)

-- a paragraph that flows is continued by the next line of its depth
pub joined_line : (del_sp : Bool) (begun next : OpenPara) (text : List ℕ) (lines_left more : List Para) → begun.flowing ≡ true → lines_left ≡ record { depth = begun.depth; text = text } ∷ more
    → para_of next ≡ record { depth = begun.depth; text = joinable_text del_sp (string_bytes begun.text) ++ text } → next.flowing ≡ is_flowing text
    → continue_open_para del_sp next more ≡ continue_open_para del_sp begun lines_left
joined_line del_sp begun next text lines_left more flowing left para last =
    ap (λ f. continue_para del_sp f (para_of next) more) last ∙ ap (λ p. continue_para del_sp (is_flowing text) p more) para
    ∙ sym (continue_para-join_lines del_sp begun.depth (string_bytes begun.text) (record { depth = begun.depth; text = text }) more refl)
    ∙ ap (λ f. continue_para del_sp f (para_of begun) (record { depth = begun.depth; text = text } ∷ more)) (sym flowing)
    ∙ ap (λ ls. continue_open_para del_sp begun ls) (sym left)

closed_by : (del_sp flowing : Bool) (para : Para) (more : List Para) → (flowing ≡ true → first_has_depth para.depth more ≡ false) → continue_para del_sp flowing para more ≡ para ∷ join_lines del_sp more
closed_by del_sp false para more ends = refl
closed_by del_sp true para more ends = rw (ends refl) refl

-- a paragraph that flows into no line ends
pub closed_para : (del_sp : Bool) (begun : OpenPara) (rest : List ℕ) → (begun.flowing ≡ true → first_has_depth begun.depth (map read_line (lines rest)) ≡ false)
    → continue_open_para del_sp begun (map read_line (lines rest)) ≡ para_of begun ∷ paras_of rest del_sp
unfolding paras_of
closed_para del_sp begun rest ends = closed_by del_sp begun.flowing (para_of begun) (map read_line (lines rest)) ends

pub read_depth : (depth more whole : ℕ) → min (depth + more) 4294967295 ≡ min whole 4294967295 → depth ≤ 4294967295 → more ≡ 0 → depth ≡ min whole 4294967295
read_depth depth more whole same small none = omega arith

pub paras_of-none : (text : List ℕ) (del_sp : Bool) → lines text ≡ [] → paras_of text del_sp ≡ []
unfolding paras_of
paras_of-none text del_sp none = ap (λ ls. join_lines del_sp (map read_line ls)) none

pub paras_of-first : (text line rest : List ℕ) (del_sp : Bool) → lines text ≡ line ∷ lines rest
    → continue_para del_sp (is_flowing (read_line line).text) (read_line line) (map read_line (lines rest)) ≡ paras_of text del_sp
unfolding paras_of
paras_of-first text line rest del_sp cut = sym (ap (λ ls. join_lines del_sp (map read_line ls)) cut)

pub begun_first : (text line rest : List ℕ) (del_sp : Bool) (begun : OpenPara) (depth : ℕ) (first : List ℕ) → lines text ≡ line ∷ lines rest
    → depth ≡ (read_line line).depth → first ≡ (read_line line).text → para_of begun ≡ record { depth = depth; text = first } → begun.flowing ≡ is_flowing first
    → continue_open_para del_sp begun (map read_line (lines rest)) ≡ paras_of text del_sp
begun_first text line rest del_sp begun depth first cut d t para flowing =
    let more = map read_line (lines rest) in
    let same : para_of begun ≡ read_line line = para ∙ ap (λ n. record { depth = n; text = first }) d ∙ ap (λ s. record { depth = (read_line line).depth; text = s }) t in
    ap (λ p. continue_para del_sp begun.flowing p more) same
    ∙ ap (λ f. continue_para del_sp f (read_line line) more) (flowing ∙ ap is_flowing t)
    ∙ paras_of-first text line rest del_sp cut
