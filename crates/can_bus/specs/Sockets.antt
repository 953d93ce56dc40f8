use Rattle.std.specs.Prelude.{ℕ, ◌==◌, Bool, not, List, [], ◌∷◌, ◌++◌, length}
use Rattle.std.specs.Prelude.{filter, slice_get, Option, Some, None, if◌then◌else◌}
use Rattle.std.specs.List.{list_any}
use Rattle.can_filter.specs.Filters.{CanFilter}
use Rattle.can_filter.specs.declared.options.Options.{Options}
use Rattle.can_filter.specs.Passing.{receives_all, default_options}
use Rattle.can_event.specs.declared.event.Event.{Event}
use Rattle.can_event.specs.declared.event.Event.TheVariants.{Open, Close, SetFilters, SetOption}
use Rattle.can_event.specs.declared.reply.Reply.{Reply}
use Rattle.can_event.specs.declared.reply.Reply.TheVariants as reply
use Rattle.can_event.specs.declared.entry.Entry.{Entry}
use Rattle.can_event.specs.Events.{with_option}

-- The sockets of a bus, from its history. A history is the list of a bus's entries so far, the newest first: each entry
-- follows the entries before it.

-- The interface and the capacity with which a socket was opened.
pub record Place : Type 0 where
  pub iface : ℕ
  pub capacity : ℕ

-- places after one more entry (own choice).
abbrev pub places_after : Event → Reply → List Place → List Place
places_after (Open i capacity) (reply.Opened s) before = before ++ record { iface = i; capacity = capacity } ∷ []
places_after _ _ before = before

-- The sockets opened so far, the first one first. A socket's number is its place, which is never used again (own
-- choice).
abbrev pub places : List Entry → List Place
places [] = []
places (e ∷ past) = places_after e.event e.reply (places past)

-- open_sockets after one more entry, if n sockets were opened before (own choice).
abbrev pub open_after : ℕ → Event → Reply → List ℕ → List ℕ
open_after n (Open i capacity) (reply.Opened s) before = before ++ n ∷ []
open_after n (Close s) (reply.Closed c) before = filter (λ k. not (k == s.0)) before
open_after n _ _ before = before

-- The numbers of the open sockets, in increasing order.
abbrev pub open_sockets : List Entry → List ℕ
open_sockets [] = []
open_sockets (e ∷ past) = open_after (length (places past)) e.event e.reply (open_sockets past)

-- Socket s was opened and not closed.
abbrev pub is_open : List Entry → ℕ → Bool
is_open past s = list_any (λ k. k == s) (open_sockets past)

-- The interface of a socket, or 0 if there is none (own choice).
abbrev pub iface_in : Option Place → ℕ
iface_in None = 0
iface_in (Some p) = p.iface

-- The capacity of a socket, or 0 if there is none (own choice).
abbrev pub capacity_in : Option Place → ℕ
capacity_in None = 0
capacity_in (Some p) = p.capacity

-- The interface on which socket s was opened.
abbrev pub iface_of : List Entry → ℕ → ℕ
iface_of past s = iface_in (slice_get (places past) s)

-- The number of items that may wait on socket s.
abbrev pub capacity_of : List Entry → ℕ → ℕ
capacity_of past s = capacity_in (slice_get (places past) s)

-- options_of after one more entry (own choice).
abbrev pub options_after : Event → Reply → ℕ → Options → Options
options_after (SetOption s option) reply.Done k before = if k == s.0 then with_option option before else before
options_after _ _ k before = before

-- The options of socket s as last set (linux/can/raw.h).
abbrev pub options_of : List Entry → ℕ → Options
options_of [] s = default_options
options_of (e ∷ past) s = options_after e.event e.reply s (options_of past s)

-- filters_of after one more entry (own choice).
abbrev pub filters_after : Event → Reply → ℕ → List CanFilter → List CanFilter
filters_after (SetFilters s filters) reply.Done k before = if k == s.0 then filters else before
filters_after _ _ k before = before

-- The filters of socket s as last set; a new socket receives everything (linux/can/raw.h).
abbrev pub filters_of : List Entry → ℕ → List CanFilter
filters_of [] s = receives_all
filters_of (e ∷ past) s = filters_after e.event e.reply s (filters_of past s)
