use Rattle.std.proofs.Common.{◌≡◌, ℕ, ◌+◌, ◌≤◌, List, [], ◌∷◌, length, reverse, arith, ap}
use Rattle.std.proofs.lemmas.List.{length-reverse, length_push}
use Rattle.can_event.specs.declared.entry.Entry.{Entry}
use Rattle.can_event.specs.declared.event.Event.{Event}
use Rattle.can_event.specs.declared.event.Event.TheVariants.{Open}
use Rattle.can_event.specs.declared.pending.Pending.{Pending}
use Rattle.can_event.specs.declared.reply.Reply.{Reply}
use Rattle.can_event.specs.declared.reply.Reply.TheVariants as reply
use Rattle.can_bus.specs.Sockets.{Place, places, places_after}
use Rattle.can_bus.specs.Transmit.{sent_by}
use Rattle.can_bus.proofs.Lawful.{sent_by-le}

-- There are no more frames or sockets than entries.

pub sent-short : (es : List Entry) (i : ℕ) (ps : List Pending) → ps ≡ sent_by (reverse es) i → length ps ≤ length es
sent-short es i ps are = omega (arith, ap length are, sent_by-le (reverse es) i, length-reverse es)

places-le : (past : List Entry) → length (places past) ≤ length past
places-le [] = omega arith
places-le (e ∷ past) = omega (arith, one e.event e.reply (places past), places-le past)
  where
    one : (e : Event) (r : Reply) (ps : List Place) → length (places_after e r ps) ≤ length ps + 1
    one (Open i n) (reply.Opened s) ps = omega (arith, length_push ps (record { iface = i; capacity = n }))
    one _ _ ps = omega arith

pub places-short : (es : List Entry) (ps : List Place) → ps ≡ places (reverse es) → length ps ≤ length es
places-short es ps are = omega (arith, ap length are, places-le (reverse es), length-reverse es)
