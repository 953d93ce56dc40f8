use Rattle.std.proofs.Common.{◌≡◌, ℕ, suc, ◌+◌, ◌<◌, ◌≤◌, ◌==◌, nat_le, nat_lt, Bool, true, false, ◌&&◌, if◌then◌else◌, List, length, filter, get_or, Option, Some, None, IfSome, refl, sym, ap, subst, ◌∙◌, arith}
use Rattle.std.specs.List.{range_with_len}
use Rattle.std.specs.Option.{option_map}
use Rattle.can_frame.specs.Sets.{is_in, bits_where}
use Rattle.can_frame.specs.declared.iface.IfaceSet.{IfaceSet}
use Rattle.can_attempt.specs.Attempts.{is_among}
use Rattle.can_attempt.proofs.Places.{is_among-filter, is_among-range, bits_where_same}
use Rattle.can_event.specs.declared.bus_config.BusConfig.{BusConfig}
use Rattle.can_event.specs.declared.entry.Entry.{Entry}
use Rattle.can_event.specs.declared.event.Event.{Event}
use Rattle.can_event.specs.declared.event.Event.TheVariants.{Open, Close, SetFilters, SetOption, Send, Receive, Attempt, Restart, Down}
use Rattle.can_event.specs.declared.reply.Reply.{Reply}
use Rattle.can_event.specs.declared.attempt.Attempt.TheVariants as attempt
use Rattle.can_event.specs.declared.reply.Reply.TheVariants as reply
use Rattle.can_bus.specs.AutoRestart.{attempts_off, attempts_off_after, is_due, restarted_next}
use Rattle.can_replay.proofs.EntriesBefore.{before_more}
use Rattle.can_replay.specs.Histories.{before}

-- The interfaces that the next attempt restarts.

-- the interface exists and is due for a restart
abbrev pub is_due_at : BusConfig → List Entry → ℕ → Bool
is_due_at c past i = nat_lt i c.ifaces && is_due c past i

among-due : (c : BusConfig) (past : List Entry) (i : ℕ) → is_due_at c past i ≡ is_among i (filter (is_due c past) (range_with_len 0 c.ifaces))
among-due c past i = swap (nat_lt i c.ifaces) (is_due c past i)
    ∙ sym (is_among-filter (is_due c past) i (range_with_len 0 c.ifaces) ∙ ap (λ b. is_due c past i && b) (is_among-range i 0 c.ifaces ∙ below i c.ifaces))
  where
    swap : (a b : Bool) → (a && b) ≡ (b && a)
    swap true true = refl
    swap true false = refl
    swap false true = refl
    swap false false = refl

    below : (i n : ℕ) → (nat_le 0 i && nat_lt i (0 + n)) ≡ nat_lt i n
    below i n = grind arith

pub due-all : (c : BusConfig) (past : List Entry) (set : IfaceSet) → set.0 ≡ bits_where (is_due_at c past) 16 → set ≡ restarted_next c past
due-all c past set is = ap (λ (n : ℕ). record { 0 = n }) (is ∙ bits_where_same _ _ 16 (λ i lt. among-due c past i))

-- ---- the number of attempts since an interface went bus off, after successive entries

pub off-more : (es : List Entry) (k : ℕ) (e : Entry) (i : ℕ) (old new : Option ℕ) → k < length es → e ≡ get_or es k e
    → old ≡ attempts_off (before es k) i → new ≡ attempts_off_after e.event e.reply i old → new ≡ attempts_off (before es (k + 1)) i
off-more es k e i old new lt read so_far after = after ∙ ap (attempts_off_after e.event e.reply i) so_far ∙ ap (λ (h : List Entry). attempts_off h i) (sym (before_more es k e lt read))

one-more : (old : Option ℕ) (k : ℕ) → IfSome old (λ n. n ≤ k) → IfSome (option_map suc old) (λ n. n ≤ k + 1)
one-more None k h = tt
one-more (Some n) k h = omega (arith, h)

no-more : (old : Option ℕ) (k : ℕ) → IfSome old (λ n. n ≤ k) → IfSome old (λ n. n ≤ k + 1)
no-more None k h = tt
no-more (Some n) k h = omega (arith, h)

few-then : (e : Event) (r : Reply) (i k : ℕ) (old : Option ℕ) → IfSome old (λ n. n ≤ k) → IfSome (attempts_off_after e r i old) (λ n. n ≤ k + 1)
few-then e (reply.Attempted (attempt.Idle set)) i k old h = when (is_in i set)
  where
    when : (b : Bool) → IfSome (if b then None else option_map suc old) (λ n. n ≤ k + 1)
    when true = tt
    when false = one-more old k h
few-then e (reply.Attempted (attempt.Tried t)) i k old h = when (is_in i t.restarted) (is_in i t.off)
  where
    when : (b d : Bool) → IfSome (if b then None else if d then Some 0 else option_map suc old) (λ n. n ≤ k + 1)
    when true d = tt
    when false true = omega arith
    when false false = one-more old k h
few-then (Restart j m) reply.Done i k old h = when (j == i)
  where
    when : (b : Bool) → IfSome (if b then None else old) (λ n. n ≤ k + 1)
    when true = tt
    when false = no-more old k h
few-then (Down j m) reply.Done i k old h = when (j == i)
  where
    when : (b : Bool) → IfSome (if b then None else old) (λ n. n ≤ k + 1)
    when true = tt
    when false = no-more old k h
few-then (Open j n) _ i k old h = no-more old k h
few-then (Close s) _ i k old h = no-more old k h
few-then (SetFilters s f) _ i k old h = no-more old k h
few-then (SetOption s o) _ i k old h = no-more old k h
few-then (Send s f) _ i k old h = no-more old k h
few-then (Receive s) _ i k old h = no-more old k h
few-then (Attempt m v) _ i k old h = no-more old k h
few-then (Restart j m) _ i k old h = no-more old k h
few-then (Down j m) _ i k old h = no-more old k h

pub few-more : (e : Entry) (i k : ℕ) (old new : Option ℕ) → IfSome old (λ n. n ≤ k) → new ≡ attempts_off_after e.event e.reply i old → IfSome new (λ n. n ≤ k + 1)
few-more e i k old new h after = subst (λ (o : Option ℕ). IfSome o (λ n. n ≤ k + 1)) (sym after) (few-then e.event e.reply i k old h)
