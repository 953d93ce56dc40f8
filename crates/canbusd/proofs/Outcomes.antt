use Rattle.std.proofs.Common.{Bool, true, false, List, ℕ, Option, inl, inr}
use Rattle.std.specs.Io.KnownBytes.{Keeps}
use Rattle.std.proofs.KnownBytes.{Appends-kept, Keeps-trans}
use Rattle.can_replay.specs.declared.wanted.Wanted.{Wanted}
use Rattle.canbusd_options.specs.declared.command_line.Job.{Job}
use Rattle.canbusd_options.specs.declared.command_line.Job.TheVariants as job
use Rattle.canbusd_audit.specs.Audited.{IsAudited, IsAuditedBy, ifaces_named}
use Rattle.canbusd.specs.Outcomes.{IsDone}

-- A finished job stays finished if its output is kept.

-- an audit that succeeded still counts as done if its output is kept
whole-kept : (asked : Option Wanted) (ifaces : Option ℕ) (text : List ℕ) (old mid new : Option (List ℕ)) → IsAudited asked ifaces text old mid → Keeps mid new → IsAudited asked ifaces text old new
whole-kept asked ifaces text old mid new done kept = record {
  config = done.config;
  entries = done.entries;
  whole = done.whole;
  legal = done.legal;
  named = done.named;
  wrote = Appends-kept old mid new _ done.wrote kept;
}

audited-kept : (is_cut : Bool) (asked : Option Wanted) (ifaces : Option ℕ) (text : List ℕ) (old mid new : Option (List ℕ)) →
    IsAuditedBy is_cut asked ifaces text old mid → Keeps mid new → IsAuditedBy is_cut asked ifaces text old new
audited-kept false asked ifaces text old mid new done kept = whole-kept asked ifaces text old mid new done kept
audited-kept true asked ifaces text old mid new (inl done) kept = inl (whole-kept asked ifaces text old mid new done kept)
audited-kept true asked ifaces text old mid new (inr done) kept = inr (record {
  config = done.config;
  entries = done.entries;
  front = done.front;
  legal = done.legal;
  named = done.named;
  wrote = Appends-kept old mid new _ done.wrote kept;
})

-- a job that succeeded still counts as done if its output is kept
pub done-kept : {W : Type 0} (contents : W → Option (List ℕ)) (j : Job) (input : Option (List ℕ)) (old mid new : W) → IsDone contents j input old mid → Keeps (contents mid) (contents new) → IsDone contents j input old new
done-kept contents (job.Bench o) input old mid new done kept = record {
  named = done.named;
  kept = done.kept;
  written = done.written;
  run = done.run;
  flushed = Keeps-trans (contents done.written) (contents mid) (contents new) done.flushed kept;
  strict = done.strict;
}
done-kept contents (job.Audit o) input old mid new done kept =
    let (asked, by, audited) = done in
    (asked, by, (audited.0, audited-kept o.is_cut asked (ifaces_named o.output) audited.0 (contents old) (contents mid) (contents new) audited.1 kept))
done-kept contents (job.Serve o) input old mid new done kept = record {
  named = done.named;
  ends = done.ends;
  each = done.each;
  configured = done.configured;
  legal = done.legal;
  heard = done.heard;
  address = done.address;
  wrote = Appends-kept (contents old) (contents mid) (contents new) _ done.wrote kept;
}
done-kept contents (job.Bits o) input old mid new (text, is, wrote) kept = (text, is, Appends-kept (contents old) (contents mid) (contents new) _ wrote kept)
