use Rattle.std.proofs.Common.{is_ok}
use Rattle.page_writer.proofs.Bytes.{Extends-if}
use Rattle.page_writer.proofs.spelling.push.Goals as goal

pub returns-clause-extends : goal.returns-clause-extends
returns-clause-extends c = Extends-if (is_ok c.extend_from_slice.result) _ _ c.args.bytes.now c.extend_from_slice.ensures.items
