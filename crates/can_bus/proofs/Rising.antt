use Rattle.std.proofs.Common.{◌≡◌, ℕ, ◌+◌, ◌==◌, not, List, [], ◌∷◌, ◌++◌, length, sym, subst, arith}
use Rattle.std.proofs.lemmas.List.{length_push}
use Rattle.can_event.specs.declared.entry.Entry.{Entry}
use Rattle.can_event.specs.declared.event.Event.{Event}
use Rattle.can_event.specs.declared.event.Event.TheVariants.{Open, Close}
use Rattle.can_event.specs.declared.reply.Reply.{Reply}
use Rattle.can_event.specs.declared.reply.Reply.TheVariants as reply
use Rattle.can_bus.specs.Sockets.{Place, places, places_after, open_sockets, open_after}
use Rattle.can_bus.proofs.Lists.{Rises, Rises-push, Rises-filter}

after : (e : Event) (r : Reply) (ps : List Place) (os : List ℕ) → Rises 0 (length ps) os → Rises 0 (length (places_after e r ps)) (open_after (length ps) e r os)
after (Open i c) (reply.Opened s) ps os h = let n : length ps + 1 ≡ length (ps ++ record { iface = i; capacity = c } ∷ []) = sym (length_push ps _) in subst (λ m. Rises 0 m (os ++ length ps ∷ [])) n (Rises-push 0 (length ps) os h)
after (Close s) (reply.Closed c) ps os h = Rises-filter (λ k. not (k == s.0)) 0 (length ps) os h
after _ _ ps os h = h

-- the numbers of the open sockets increase, and are below the number of sockets ever opened
pub open_sockets-rise : (past : List Entry) → Rises 0 (length (places past)) (open_sockets past)
open_sockets-rise [] = omega arith
open_sockets-rise (e ∷ past) = after e.event e.reply (places past) (open_sockets past) (open_sockets-rise past)
