-- A run does not change the configuration of its bus.
use Rattle.std.proofs.Common.{◌≡◌, inl, inr, ℕ, zero, suc, Bool, List, [], ◌∷◌, Result, Ok, Err, refl, ap, ◌∙◌}
use Rattle.can_fault.specs.Sources.{VerdictMap}
use Rattle.can_fault.specs.declared.verdict.Verdict.{Verdict}
use Rattle.can_event.specs.declared.attempt.Attempt.{Attempt as AnAttempt}
use Rattle.can_event.specs.declared.bus_config.BusConfig.{BusConfig}
use Rattle.can_event.specs.declared.event.Event.{Event}
use Rattle.can_event.specs.declared.refusal.Refusal.{Refusal}
use Rattle.can_event.specs.declared.refusal.Refusal.TheVariants as refusal
use Rattle.can_event.specs.declared.reply.Reply.{Reply}
use Rattle.can_record.specs.Journal.{Journal}
use Rattle.can_bus.specs.Answer.{Answers, Refuses}
use Rattle.can_event.specs.declared.reply.Reply.TheVariants as reply
use Rattle.can_proto.specs.declared.message.Incoming.{Incoming}
use Rattle.can_dialog.specs.declared.stage.Stage.{Stage}
use Rattle.can_dialog.specs.declared.stage.Stage.TheVariants.{NoBus, Opened, Raw, Ended}
use Rattle.can_dialog.specs.declared.stage.Dialog.{Dialog}
use Rattle.can_dialog.specs.Calls.{Call}
use Rattle.can_dialog.specs.Calls.{Reply as CallReply}
use Rattle.can_dialog.specs.Calls.Call.{Names, Attach, Open, Close, SetFilters, SetOption, Send, Receive, Restart, Attempt, CountsOfSocket, CountsOfIface, CountersOfIface, LoadAt, Inject, CountsRules, EndsRules, Down}
use Rattle.can_dialog.specs.Plans.{Plan, Plays}
use Rattle.can_dialog.specs.Plans.Plan.{Tell, Ask}
use Rattle.can_dialog.specs.Sessions.{SessionState, Turns}
use Rattle.can_dialog.specs.Deliveries.{AreGiven}
use Rattle.can_session.specs.BusSteps.{NamedBus, BusStep, plan_left, verdict_on, waits_in_time}
use Rattle.can_session.specs.Orders.{Effect}
use Rattle.can_session.specs.Orders.Effect.{Does_nothing, Sets, Starts, Feeds, Drains, Ends, Attempts, Runs, Injects, TakesDown, BringsUp}
use Rattle.can_session.specs.Benches.{BenchState, IsFedAt, IsTried, AreTried, NoneFollows, AreMade, Does, AreCarriedOut, passed, sourced}

-- the configuration of a bus with names, and the configuration of a bench
abbrev of_bus : NamedBus → BusConfig
of_bus p = p.journal.config

abbrev of_bench : BenchState → BusConfig
of_bench b = b.bus.journal.config

refused : (old : Journal) (e : Event) (why : Refusal) (new : Journal) → Refuses old e why new → new.config ≡ old.config
refused old e refusal.RecordFull new h = ap (λ (j : Journal). j.config) h.1
refused old e refusal.NoMemory new h = ap (λ (j : Journal). j.config) h.2
refused old e why new h = ap (λ (j : Journal). j.config) h.new_is

answered : {A : Type 0} (told : A → Reply) (old : Journal) (e : Event) (outcome : Result A Refusal) (new : Journal) → Answers told old e outcome new → new.config ≡ old.config
answered told old e (Ok a) new h = ap (λ (j : Journal). j.config) h.new_is
answered told old e (Err why) new h = refused old e why new h

stepped : (old : NamedBus) (call : Call) (answer : CallReply call) (new : NamedBus) → BusStep old call answer new → of_bus new ≡ of_bus old
stepped old (Attach name) answer new h = ap of_bus h.1
stepped old (Open iface capacity) answer new h = answered _ old.journal _ h.0 new.journal h.2
stepped old (Close socket) answer new h = answered _ old.journal _ h.0 new.journal h.2
stepped old (SetFilters socket filters) answer new h = answered _ old.journal _ h.0 new.journal h.2
stepped old (SetOption socket option) answer new h = answered _ old.journal _ h.0 new.journal h.2
stepped old (Send socket frame) answer new h = answered _ old.journal _ h.0 new.journal h.2
stepped old (Receive socket) answer new h = answered _ old.journal _ h.0 new.journal h.2
stepped old (Restart iface moment) answer new h = answered _ old.journal _ h.0 new.journal h.2
stepped old (Attempt moment verdict) answer new h = answered _ old.journal _ h.0 new.journal h.2
stepped old (CountsOfSocket socket) answer new h = ap of_bus h.1
stepped old (CountsOfIface iface) answer new h = ap of_bus h.1
stepped old (CountersOfIface iface) answer new h = ap of_bus h.1
stepped old (LoadAt moment) answer new h = ap of_bus h.1
stepped old (Inject rule) answer new h = ap of_bus h.3
stepped old Names answer new h = ap of_bus h.1
stepped old CountsRules answer new h = ap of_bus h.1
stepped old EndsRules answer new h = ap of_bus h
stepped old (Down iface moment) answer new h = answered _ old.journal _ h.0 new.journal h.2

played : {A : Type 0} (plan : Plan A) (p q : NamedBus) (text : List ℕ) (outcome : A) → Plays BusStep plan p q text outcome → of_bus q ≡ of_bus p
played (Tell said after) p q text outcome h = ap of_bus h.0
played (Ask call next) p q text outcome (reply, mid, step, more) = played (next reply) mid q text outcome more ∙ stepped p call reply mid step

turned : (moment : ℕ) (d : Dialog) (forgotten : List Bool) (items : List Incoming) (p q : NamedBus) (text : List ℕ) (after : Dialog) → Turns BusStep moment d forgotten items p q text after → of_bus q ≡ of_bus p
turned moment d [] [] p q text after h = ap of_bus h.0
turned moment d (forgot ∷ more) (item ∷ items) p q text after (first, mid, port, others, plays, turns, is) =
    turned moment mid more items port q others after turns ∙ played _ p port first mid plays
turned moment d [] (item ∷ items) p q text after h = absurd h
turned moment d (forgot ∷ more) [] p q text after h = absurd h

fed : (stage : Stage) (moment : ℕ) (bytes : List ℕ) (old : SessionState) (p : NamedBus) (text : List ℕ) (new : SessionState) (q : NamedBus) → IsFedAt stage moment bytes old p text new q → of_bus q ≡ of_bus p
fed Ended moment bytes old p text new q h = ap of_bus h.2
fed NoBus moment bytes old p text new q h = turned moment old.dialog h.forgotten _ p q text new.dialog h.turns
fed (Opened iface) moment bytes old p text new q h = turned moment old.dialog h.forgotten _ p q text new.dialog h.turns
fed (Raw raw) moment bytes old p text new q h = turned moment old.dialog h.forgotten _ p q text new.dialog h.turns

given : (n : ℕ) (stage : Stage) (p : NamedBus) (text : List ℕ) (q : NamedBus) → AreGiven BusStep n stage p text q → of_bus q ≡ of_bus p
given zero stage p text q h = ap of_bus h.1
given (suc n) stage p text q (before, mid, last, first, plays, is) = played _ mid q last _ plays ∙ given n stage p before mid first

-- the time that an attempt takes does not change the configuration
passing : (waits : Bool) (v : Verdict) (outcome : Result AnAttempt Refusal) (b : BenchState) → of_bench (passed waits v outcome b) ≡ of_bench b
passing waits v (Ok a) b = refl
passing waits v (Err why) b = refl

tried : (v : VerdictMap) (b : BenchState) (text : List ℕ) (after : BenchState) → IsTried v b text after → of_bench after ≡ of_bench b
tried v b text after h =
    let left = record b { bus = record b.bus { journal = h.journal; plan = plan_left b.bus (sourced v b.bus) } } in
    let time : of_bench after ≡ h.journal.config = ap of_bench h.after_is ∙ passing (waits_in_time b.bus) (verdict_on b.bus (sourced v b.bus)) h.outcome left in
    time ∙ answered reply.Attempted b.bus.journal _ h.outcome h.journal h.answers

all_tried : (v : VerdictMap) (moment n : ℕ) (b : BenchState) (text : List ℕ) (after : BenchState) → AreTried v moment n b text after → of_bench after ≡ of_bench b
all_tried v moment zero b text after h = ap of_bench h.1
all_tried v moment (suc n) b text after (before, mid, last, first, due, one, said) = tried v mid last after one.0 ∙ all_tried v moment n b before mid first

ended : (v : VerdictMap) (moment : ℕ) (b : BenchState) (text : List ℕ) (after : BenchState) → NoneFollows v moment b text after → of_bench after ≡ of_bench b
ended v moment b text after (inl (none, said, same)) = ap of_bench same
ended v moment b text after (inr (due, full, one)) = tried v b text after one

made : (v : VerdictMap) (moment : ℕ) (b : BenchState) (text : List ℕ) (after : BenchState) → AreMade v moment b text after → of_bench after ≡ of_bench b
made v moment b text after h = ended v moment h.mid h.last after h.ends ∙ all_tried v moment h.count b h.before h.mid h.tried

done : (v : VerdictMap) (effect : Effect) (b : BenchState) (text : List ℕ) (after : BenchState) → Does v effect b text after → of_bench after ≡ of_bench b
done v Does_nothing b text after h = ap of_bench h.1
done v (Sets moment) b text after h = ap of_bench h.1
done v (Starts s) b text after h = ap of_bench h.2
done v (Feeds s bytes) b text after h = ap of_bench h.after_is ∙ fed h.old.dialog.stage b.moment bytes h.old b.bus h.said h.new h.bus h.done
done v (Drains s) b text after h =
    ap of_bench h.after_is ∙ played _ h.done.mid h.bus h.done.last _ h.done.ends ∙ given h.done.items h.old.dialog.stage b.bus h.done.before h.done.mid h.done.given
done v (Ends s) b text after h = ap of_bench h.after_is ∙ played _ b.bus h.bus h.said _ h.done.ends
done v Attempts b text after h = tried v b text after h
done v (Runs moment) b text after h = ap of_bench h.after_is ∙ made v moment b text h.over h.made
done v (Injects rule) b text after h = ap of_bench h.1.after_is
done v (TakesDown name) b text after h = ap of_bench h.after_is ∙ answered _ b.bus.journal _ h.outcome h.journal h.answers
done v (BringsUp name) b text after h = ap of_bench h.after_is ∙ answered _ b.bus.journal _ h.outcome h.journal h.answers

-- carrying out lines does not change the configuration
pub carried_out : (v : VerdictMap) (lines : List (List ℕ)) (b : BenchState) (text : List ℕ) (after : BenchState) → AreCarriedOut v lines b text after → of_bench after ≡ of_bench b
carried_out v [] b text after h = ap of_bench h.1
carried_out v (line ∷ lines) b text after (first, mid, others, one, more, is) = carried_out v lines mid others after more ∙ done v one.effect b first mid one.does
