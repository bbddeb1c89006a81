use Rattle.std.proofs.Common.{rules, ◌≡◌, refl, ap, sym, ◌∙◌, ◌++◌, [], ◌∷◌, ◌<◌, length, append_assoc, List, ℕ}
use lib.Utf8.{encode}
use Rattle.std.specs.Prelude.{string_bytes}
use Rattle.std.specs.Str.Chunks.{utf8_chunks_rest}
use Rattle.std.specs.Str.Lossy.{utf8_lossy, replacement_bytes}
use Rattle.std.proofs.lemmas.List.{append-nil}
use Rattle.std.proofs.lemmas.Str.{utf8_lossy_chunk, utf8_lossy_last_chunk, utf8_lossy_empty}
use Rattle.mail_pages.specs.Text.{with_line_feeds}
use Rattle.page_frames.specs.Elements.{text}
use Rattle.mail_pages.proofs.Gathering.{gathers-all, gathers-two, gathers-from}
use Rattle.mail_pages.proofs.LineFeeds.{line_feeds-replaced, line_feeds-nil}
use Rattle.mail_pages.proofs.text.write_lossily.Goals as goal

pub loop-chunk-preserved-in-Continue-branch-2 : goal.loop-chunk-preserved-in-Continue-branch-2
unfolding encode
loop-chunk-preserved-in-Continue-branch-2 c =
    let out = c.loop-chunk.out in
    let before = string_bytes c.loop-chunk.gathered in
    let steps = c.in-Some.ensures.steps in
    let some : 0 < length c.in-Some.chunk.invalid.now = search rules in
    let valid : List ℕ = c.valid.result.now in
    let rest : List ℕ = utf8_chunks_rest c.loop-chunk.chunk-iterator in
    let left : List ℕ = utf8_lossy (utf8_chunks_rest c.next.new.self) in
    let lossy : utf8_lossy rest ≡ valid ++ (replacement_bytes ++ left) =
    utf8_lossy_chunk _ _ _ _ steps.0 steps.3.0 steps.3.1 some ∙ ap (λ t. t ++ (replacement_bytes ++ left)) (sym c.valid.ensures) in
    let cut : with_line_feeds (utf8_lossy rest) ≡ with_line_feeds valid ++ (239 ∷ 191 ∷ 189 ∷ with_line_feeds left) = ap with_line_feeds lossy ∙ line_feeds-replaced valid left in
    record {
      written = λ more.
          gathers-two out c.add_lines.new.out c.add_text.new.out before (string_bytes c.add_lines.new.gathered) (string_bytes c.add_text.new.gathered) (with_line_feeds valid) (239 ∷ 191 ∷ 189 ∷ []) (with_line_feeds left ++ more)
          c.in_ok-add_lines.ensures c.in_ok-add_text.ensures
          ∙ ap (λ t. out.written ++ (text before ++ text t))
          (sym (append_assoc (with_line_feeds valid) (239 ∷ 191 ∷ 189 ∷ with_line_feeds left) more) ∙ ap (λ t. t ++ more) (sym cut))
          ∙ c.loop-chunk.invariant.written more;
      opened = c.in_ok-add_text.ensures.opened ∙ c.in_ok-add_lines.ensures.opened ∙ c.loop-chunk.invariant.opened;
    }

pub loop-chunk-preserved : goal.loop-chunk-preserved
loop-chunk-preserved c =
    let out = c.loop-chunk.out in
    let before = string_bytes c.loop-chunk.gathered in
    let steps = c.in-Some.ensures.steps in
    let none : length c.in-Some.chunk.invalid.now ≡ 0 = search rules in
    let valid : List ℕ = c.valid.result.now in
    let rest : List ℕ = utf8_chunks_rest c.loop-chunk.chunk-iterator in
    let left : List ℕ = utf8_lossy (utf8_chunks_rest c.next.new.self) in
    let ends : left ≡ [] = utf8_lossy_empty _ (steps.2 none) in
    let lossy : utf8_lossy rest ≡ valid =
    utf8_lossy_last_chunk _ _ _ _ steps.0 steps.3.0 none (steps.2 none) ∙ ap (λ t. t ++ left) (sym c.valid.ensures) ∙ ap (λ t. valid ++ t) ends ∙ append-nil valid in
    record {
      written = λ more.
          ap (λ t. c.add_lines.new.out.written ++ (text (string_bytes c.add_lines.new.gathered) ++ text (with_line_feeds t ++ more))) ends
          ∙ ap (λ t. c.add_lines.new.out.written ++ (text (string_bytes c.add_lines.new.gathered) ++ text (t ++ more))) line_feeds-nil
          ∙ c.in_ok-add_lines.ensures.written more
          ∙ ap (λ t. out.written ++ (text before ++ text (with_line_feeds t ++ more))) (sym lossy)
          ∙ c.loop-chunk.invariant.written more;
      opened = c.in_ok-add_lines.ensures.opened ∙ c.loop-chunk.invariant.opened;
    }

pub returns : goal.returns
returns c =
    let left : List ℕ = utf8_lossy (utf8_chunks_rest c.loop-chunk.chunk-iterator) in
    let ends : left ≡ [] = utf8_lossy_empty _ c.in-None.ensures.steps.0 in
    gathers-all c.chars.result c.args.out.now c.loop-chunk.out c.chars.new.self [] (string_bytes c.loop-chunk.gathered) c.deref.result.now (with_line_feeds (utf8_lossy c.args.bytes.now))
    refl (gathers-from c.args.out.now c.loop-chunk.out (string_bytes c.loop-chunk.gathered) left (with_line_feeds (utf8_lossy c.args.bytes.now)) ends c.loop-chunk.invariant.written c.loop-chunk.invariant.opened)
    c.deref.ensures c.chars.ensures.ok
