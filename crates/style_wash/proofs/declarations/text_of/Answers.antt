use Rattle.std.proofs.Common.{◌≡◌, true, false}
use Rattle.std.proofs.lemmas.Str.{IsUtf8-from_ascii}
use Rattle.style_wash.proofs.declarations.text_of.Goals as goal

pub unreachable-requires : goal.unreachable-requires
unreachable-requires c = let failed : false ≡ true = c.in-Err.ensures.succeeds (IsUtf8-from_ascii c.args.bytes.items c.requires) in cc
