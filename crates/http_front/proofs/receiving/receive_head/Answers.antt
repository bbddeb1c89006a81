use Rattle.std.proofs.Common.{refl, subst, sym, arith}
use Rattle.httparse.specs.Grammar.{HasNoRequest}
use Rattle.http_heads.proofs.Scans.{nothing_heard}
use Rattle.http_front.proofs.Hearing.{hears_nothing, hears_trans, keeps_all}
use Rattle.http_front.proofs.receiving.receive_head.Goals as goal

pub parts-init : goal.parts-init
parts-init g c = record {
  hears = hears_nothing (g.C.Caller.heard c.args.caller.now) c.args.bytes.now.items c.requires.empty;
  within = rw c.requires.empty (omega arith);
  scanned = rw c.requires.empty refl;
  unfinished = subst HasNoRequest (sym c.requires.empty) nothing_heard;
  keeps_sent = keeps_all (g.C.Caller.sent c.args.caller.now);
  kept = refl;
}

pub returns-in_err-after-clause-hears : goal.returns-in_err-after-clause-hears
returns-in_err-after-clause-hears g c = hears_trans _ _ _ _ _ _ c.parts.invariant.hears c.receive_head_part.ensures.hears

pub returns-in-Finished-clause-hears : goal.returns-in-Finished-clause-hears
returns-in-Finished-clause-hears g c = hears_trans _ _ _ _ _ _ c.parts.invariant.hears c.receive_head_part.ensures.hears
