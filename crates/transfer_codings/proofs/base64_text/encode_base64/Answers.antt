use Rattle.std.proofs.Common.{◌≡◌, ◌+◌, ◌*◌, ◌/◌, min, length, arith, ap, sym, ◌∙◌, ◌++◌, subst}
use Rattle.transfer_codings.specs.Base64.{base64_lines, base64_bytes}
use Rattle.std.specs.Str.{IsAscii}
use Rattle.transfer_codings.proofs.Ascii.{base64_lines-ascii}
use Rattle.transfer_codings.proofs.Base64Blocks.{base64_lines-join, base64_lines-none}
use Rattle.transfer_codings.proofs.Base64Written.{base64_lines-decode, base64_lines-short}
use Rattle.transfer_codings.proofs.base64_text.encode_base64.Goals as goal

pub loop-block-init : goal.loop-block-init
loop-block-init c =
    let none : 0 ≡ min 0 c.div_ceil-count.result = omega arith in
    c.in_ok-text.ensures.items ∙ sym (base64_lines-none c.args.bytes.now 0) ∙ ap (base64_lines c.args.bytes.now 0) none

pub loop-block-preserved : goal.loop-block-preserved
loop-block-preserved c =
    let bytes = c.args.bytes.now in
    let count = c.div_ceil-count.result in
    let block = c.loop-block.block in
    let before : min (16 * block) count ≡ 16 * block = omega arith in
    let place : 16 * block ≡ 0 + 16 * block = omega arith in
    let after : 16 * block + c.min.result ≡ min (16 * (block + 1)) count = omega arith in
    c.in_ok-push_lines.ensures.added
    ∙ ap (λ xs. xs ++ base64_lines bytes (16 * block) c.min.result) (c.loop-block.invariant ∙ ap (base64_lines bytes 0) before)
    ∙ ap (λ n. base64_lines bytes 0 (16 * block) ++ base64_lines bytes n c.min.result) place
    ∙ sym (base64_lines-join bytes 0 (16 * block) c.min.result)
    ∙ ap (base64_lines bytes 0) after

pub returns-clause-text : goal.returns-clause-text
returns-clause-text c =
    let bytes = c.args.bytes.now in
    let all : min (16 * c.loop-block.block) c.div_ceil-count.result ≡ (length bytes + 56) / 57 = omega arith in
    c.loop-block.invariant ∙ ap (base64_lines bytes 0) all

pub returns-clause-decodes : goal.returns-clause-decodes
returns-clause-decodes c =
    let bytes = c.args.bytes.now in
    let count : min (16 * c.loop-block.block) c.div_ceil-count.result ≡ (length bytes + 56) / 57 = omega arith in
    ap base64_bytes c.loop-block.invariant
    ∙ base64_lines-decode bytes 0 (min (16 * c.loop-block.block) c.div_ceil-count.result) (λ i. omega (arith, c.type_inv.bytes i)) (omega arith)

pub returns-clause-lines : goal.returns-clause-lines
returns-clause-lines c =
    let short = base64_lines-short c.args.bytes.now 0 (min (16 * c.loop-block.block) c.div_ceil-count.result) (λ i. omega (arith, c.type_inv.bytes i)) in
    rw c.loop-block.invariant short

pub returns-clause-ascii : goal.returns-clause-ascii
returns-clause-ascii c =
    subst IsAscii (sym c.loop-block.invariant) (base64_lines-ascii c.args.bytes.now 0 (min (16 * c.loop-block.block) c.div_ceil-count.result))
