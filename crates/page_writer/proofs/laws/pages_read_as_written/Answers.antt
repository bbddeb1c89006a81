use Rattle.std.proofs.Common.{[]}
use Rattle.page_writer.proofs.Law.{law_of_bytes}
use Rattle.page_writer.proofs.laws.pages_read_as_written.Goals as goal

pub returns : goal.returns
returns c = λ page led. law_of_bytes page [] led
