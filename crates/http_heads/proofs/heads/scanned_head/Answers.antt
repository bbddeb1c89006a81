use Rattle.std.proofs.Common.{sym, ◌∙◌}
use Rattle.http_heads.proofs.Rooms.{scans_if_ok}
use Rattle.http_heads.proofs.Scans.{dead_is_not_http, not_whole}
use Rattle.http_heads.proofs.heads.scanned_head.Goals as goal

pub returns-in-Dead : goal.returns-in-Dead
returns-in-Dead c = dead_is_not_http c.args.bytes.now (sym c.requires.scanned ∙ c.in-Dead.is)

pub returns-in_default : goal.returns-in_default
returns-in_default c = not_whole c.args.bytes.now c.args.place c.requires.scanned c.in_default.not-Whole

pub returns-in-Whole : goal.returns-in-Whole
returns-in-Whole c = scans_if_ok c.args.bytes.now c.read_head.new.spans.items c.read_head.result c.read_head.ensures
