use Rattle.std.proofs.Common.{Err, Ok, OnOk, Result}
use Rattle.std.proofs.KnownBytes.{Appends-kept}
use Rattle.canbusd_audit.proofs.events.write_out.Goals as goal

so : {A E : Type 0} (P : Type 0) (r : Result A E) → P → OnOk r P
so P (Ok a) h = h
so P (Err e) h = tt

pub returns : goal.returns
returns g c = so _ c.flush.result (Appends-kept _ _ _ _ c.in_ok-write_all.ensures.bytes c.flush.ensures.bytes)
