use Rattle.std.proofs.Common.{◌≡◌, ◌+◌, ◌++◌, length, arith, ap, sym, ◌∙◌, List, ℕ, take, drop, ◌-◌, ◌*◌}
use Rattle.std.proofs.lemmas.List.{append-nil, append_assoc}
use Rattle.base64.specs.Rfc4648.{padding_len, unpadded_len}
use Rattle.transfer_codings.specs.Base64.{base64_line, base64_lines, line_piece}
use Rattle.transfer_codings.proofs.Base64Blocks.{base64_lines-more, base64_lines-none, block-written}
use Rattle.transfer_codings.proofs.Base64Written.{length-encoding}
use Rattle.transfer_codings.proofs.base64_text.push_lines.Goals as goal

pub loop-number-init : goal.loop-number-init
loop-number-init c =
    let before = c.args.text.now.items in
    sym (ap (λ xs. before ++ xs) (base64_lines-none c.args.bytes.now c.args.first) ∙ append-nil before)

pub loop-number-preserved : goal.loop-number-preserved
loop-number-preserved c =
    let bytes = c.args.bytes.now in
    let first = c.args.first in
    let number = c.loop-number.number in
    let before = c.args.text.now.items in
    let piece : List ℕ = take (c.min-end.result - 57 * first) (drop (57 * first) bytes) in
    let fits = c.in-Ok.ensures.fits (omega arith) in
    let size : c.in-Ok.size ≡ unpadded_len (length piece) + padding_len (length piece) = cc in
    let written : List ℕ = base64_line (line_piece bytes (first + number)) in
    let line = block-written bytes c.encode_slice.new.output _ first c.args.count number c.min-end.result c.min.result c.in-Ok.size
    c.requires.lines (omega arith) c.min-end.ensures c.in-Ok.ensures.written (size ∙ sym (length-encoding piece)) c.min.ensures in
    c.in_ok-push_line.ensures.added
    ∙ ap (λ xs. c.loop-number.text.items ++ xs) line
    ∙ ap (λ xs. xs ++ written) c.loop-number.invariant
    ∙ append_assoc before (base64_lines bytes first number) written
    ∙ ap (λ xs. before ++ xs) (sym (base64_lines-more bytes first number))
