use Rattle.std.proofs.Common.{◌≡◌, ◌∷◌, ◌++◌, ◌∙◌, ℕ, suc, List, [], false, true, ap, drop, length, refl, rules, subst, sym, take}
use Rattle.std.specs.List.{AllZip}
use Rattle.std.proofs.KnownBytes.{Appends-trans}
use Rattle.std.proofs.Math.Seq.{take-append_seam}
use Rattle.std.specs.declared.fs.File.{File}
use Rattle.std.specs.declared.io.traits.Write.{contents-default}
use Rattle.can_bus.specs.Long.{LongJournal, journal_of}
use Rattle.can_station.specs.declared.pass.Settled.{Settled}
use Rattle.canbusd_serve.specs.LongRuns.{AreAllThere, AreAllWhole, ServesFiles}
use Rattle.canbusd_serve.specs.Served.{journals}
use Rattle.canbusd_serve.specs.declared.live_files.LiveFiles.{LiveFiles}
use Rattle.canbusd_serve.proofs.Serving.{put-lines}
use Rattle.canbusd_serve.proofs.serve_job.ServerRun.run_live.Goals as goal

zip_length : {A B : Type 0} (R : A → B → Type 0) (xs : List A) (ys : List B) → AllZip R xs ys → length xs ≡ length ys
zip_length R [] [] all = refl
zip_length R (x ∷ xs) (y ∷ ys) all = ap suc (zip_length R xs ys all.1)
zip_length R [] (y ∷ ys) all = absurd all
zip_length R (x ∷ xs) [] all = absurd all

-- after a list is written to a vector of the same length, the vector contains this list
written : {A : Type 0} (xs ys : List A) (n : ℕ) → length xs ≡ n → take n (xs ++ drop (length xs) ys) ≡ xs
written xs ys n is = ap (λ (k : ℕ). take k (xs ++ drop (length xs) ys)) (sym is) ∙ take-append_seam xs (drop (length xs) ys)

pub returns-clause-served : goal.returns-clause-served
returns-clause-served g c = λ quiet.
    let both : (c.has_reported.result ≡ false) × (c.finish_all-are_there.result ≡ true) = search (rules, quiet) in
    let kept = contents-default File in
    let o = c.args.self.now.options.now in
    let old = c.in_ok-settled.files in
    let new = c.finish_all-are_there.new.files in
    let settled = c.in_ok-settled.settled.items in
    let listening = c.in_ok-settled.ensures.listening in
    let whole = subst (λ (s : List (Settled LongJournal)). AreAllWhole kept new s) c.deref-5.ensures.value c.finish_all-are_there.ensures.whole in
    let there = subst (λ (s : List (Settled LongJournal)). AreAllThere o new s) c.deref-5.ensures.value (c.finish_all-are_there.ensures.there both.1) in
    let each : length new ≡ old.len = zip_length _ new settled whole ∙ sym (zip_length _ old.items settled c.in_ok-settled.ensures.handed) ∙ sym old.ok.0 in
    let lines = put-lines g.W.Write.contents journal_of c.settle.new.output c.put_ends.new.output c.put_ends.result _ _ _ o.buses.items _ settled c.report.ensures.reported c.finish_all-are_there.ensures.told (sym c.has_reported.ensures ∙ both.0)
    c.deref.ensures.value c.deref-2.ensures.value c.put_ends.ensures in
    subst (λ (f : List (LiveFiles File)). ServesFiles g.W.Write.contents kept o c.args.benches.items c.args.output.now c.put_ends.new.output f) (sym (written new old.items old.len each)) (record {
      serves = record {
        ends = journals journal_of settled;
        are = c.in_ok-settled.ensures.ends;
        heard = listening.0;
        address = listening.1;
        wrote = Appends-trans _ _ _ _ _ listening.2 lines;
      };
      settled = settled;
      ends = refl;
      whole = whole;
      there = there;
    })
