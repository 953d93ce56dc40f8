use Rattle.std.proofs.Common.{refl, subst, sym}
use Rattle.std.specs.Prelude.{IsNone}
use Rattle.std.proofs.BufReadLemmas.{Consumes_shown}
use Rattle.std.specs.Io.BufRead.{FillKeeps}
use Rattle.canbusd_audit.proofs.HeldLines.{goes_on_by, may_be_at_fault, still_there, stops_after}
use Rattle.canbusd_audit.proofs.buffered.take_held.Goals as goal

pub returns-in-Err-clause-became : goal.returns-in-Err-clause-became
returns-in-Err-clause-became g c = still_there _ _ c.args.audit.now c.unfilled.result c.fill_buf.follows.holds-at-none.0 c.unfilled.ensures

pub returns-in-None-clause-became : goal.returns-in-None-clause-became
returns-in-None-clause-became g c =
    let shown = c.in-Ok.held.now in
    let len = c.carry_held-len.result.0 in
    let rested = c.fill_buf.follows.lender-at-none in
    let filled = subst (FillKeeps _ (g.R.Read.remaining rested) (g.R.BufRead.consumable_len rested)) c.in-Ok.is c.fill_buf.follows.holds-at-none in
    let moved = Consumes_shown _ _ _ _ shown len c.carry_held-len.ensures.within c.in-Ok.ensures.front c.in-Ok.ensures.end filled.0 filled.1 c.consume.ensures.bytes in
    goes_on_by _ _ _ _ _ moved.0 (c.carry_held-len.ensures.taken (subst IsNone (sym c.in-None.is) refl))

pub returns-in-Some-clause-became : goal.returns-in-Some-clause-became
returns-in-Some-clause-became g c =
    let shown = c.in-Ok.held.now in
    let len = c.carry_held-len.result.0 in
    let rested = c.fill_buf.follows.lender-at-none in
    let filled = subst (FillKeeps _ (g.R.Read.remaining rested) (g.R.BufRead.consumable_len rested)) c.in-Ok.is c.fill_buf.follows.holds-at-none in
    let moved = Consumes_shown _ _ _ _ shown len c.carry_held-len.ensures.within c.in-Ok.ensures.front c.in-Ok.ensures.end filled.0 filled.1 c.consume.ensures.bytes in (
      may_be_at_fault _ c.args.audit.now c.carry_held-len.result.1 c.in-Some.fault c.in-Ok.held.now c.in-Some.is c.in-Ok.ensures.front c.carry_held-len.ensures.fault,
      stops_after _ _ c.args.audit.now c.carry_held-len.new.audit shown len c.carry_held-len.result.1 c.in-Some.fault c.in-Some.is moved.0 c.in-Ok.ensures.front c.carry_held-len.ensures.before,
    )
