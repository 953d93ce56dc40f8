use Rattle.std.proofs.Common.{◌≡◌, List, refl, sym, ap, ◌∙◌, subst}
use Rattle.std.specs.Prelude.{Option, Some, None, is_some}
use Rattle.can_event.specs.declared.entry.Entry.{Entry}
use Rattle.can_event.specs.declared.event.Event.{Event}
use Rattle.can_event.specs.declared.reply.Reply.{Reply}
use Rattle.can_bus.specs.Run.{history_after}
use Rattle.can_roll.specs.Seen.{SlipSeen}
use Rattle.can_station.specs.Held.{slip_after}
use Rattle.can_station.specs.Passes.{AreListedCalls, listed_after, pass_after, pass_seen}

-- A pass's list after its own call.

still_keeps : (listed : Option (List Entry)) (e : Event) (r : Reply) → is_some (listed_after e r listed) ≡ is_some listed
still_keeps None e r = refl
still_keeps (Some calls) e r = refl

kept_longer : (listed : Option (List Entry)) (calls : List Entry) (e : Event) (r : Reply) → AreListedCalls listed calls → AreListedCalls (listed_after e r listed) (history_after e r calls)
kept_longer None calls e r kept = tt
kept_longer (Some listed) calls e r kept = ap (history_after e r) kept

module _ (slip slip' : SlipSeen) (listed listed' : Option (List Entry)) (e : Event) (r : Reply) where
  -- The list holds the pass's calls.
  pub kept_after : AreListedCalls listed slip.calls → slip' ≡ slip_after e r slip → listed' ≡ listed_after e r listed → AreListedCalls listed' slip'.calls
  kept_after kept noted longer =
      subst (λ (x : Option (List Entry) × SlipSeen). AreListedCalls x.0 x.1.calls) (λ k. (sym longer k, sym noted k)) (kept_longer listed slip.calls e r kept)

  -- The contract's view of the pass has one more call.
  pub seen_after : slip' ≡ slip_after e r slip → listed' ≡ listed_after e r listed → pass_seen slip' listed' ≡ pass_after e r (pass_seen slip listed)
  seen_after noted longer =
      (λ k. pass_seen (noted k) (longer k)) ∙ ap (λ b. record { number = slip.number; pass = slip.pass; calls = history_after e r slip.calls; keeps = b }) (still_keeps listed e r)
