use Rattle.std.proofs.Common.{ap, length, arith}
use Rattle.header_words.proofs.WholeLines.{length-fields_at}
use Rattle.header_words.proofs.header.Fields.len.Goals as goal

pub returns : goal.returns
returns c =
    let all = length-fields_at c.self.inside.bytes.now c.self.inside.starts.items c.self.inside.end in
    let seen = ap (λ h. length h.fields) c.self.view_is in
    omega (arith, c.self.inside.starts.ok.0)
