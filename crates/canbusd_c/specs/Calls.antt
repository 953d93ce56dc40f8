use Rattle.std.specs.Prelude.{◌≡◌, ◌⊎◌, ℕ, ◌^◌, Bool, true, false, nat_lt, nat_le, if◌then◌else◌, List, [], ◌∷◌, ◌++◌}
use Rattle.std.specs.Prelude.{length, take, drop, Option, Some, None, Result, Ok, Err, Vec, bit_and, ◌==◌, MatchBool}
use Rattle.can_frame.specs.Frames.{CanFrame}
use Rattle.can_filter.specs.Filters.{CanFilter}
use Rattle.can_event.specs.declared.event.Event.{Event}
use Rattle.can_event.specs.declared.event.Event.TheVariants as event
use Rattle.can_event.specs.declared.reply.Reply.{Reply}
use Rattle.can_event.specs.declared.reply.Reply.TheVariants as reply
use Rattle.can_event.specs.declared.reply.Closed.{Closed}
use Rattle.can_event.specs.declared.socket_id.SocketId.{SocketId}
use Rattle.can_event.specs.declared.received.Received.{Received}
use Rattle.can_event.specs.declared.attempt.Attempt.{Attempt}
use Rattle.can_event.specs.declared.opt.Opt.{Opt}
use Rattle.can_event.specs.declared.refusal.Refusal.{Refusal}
use Rattle.can_rules.specs.declared.rules.RuleRefusal.{RuleRefusal}
use Rattle.can_event.specs.Replies.{taken_reply}
use Rattle.can_event.specs.declared.stats.IfaceStats.{IfaceStats}
use Rattle.can_event.specs.declared.stats.SocketStats.{SocketStats}
use Rattle.can_record.specs.Outcomes.{done_reply}
use Rattle.can_rules.specs.Plans.{Injected, without_rules}
use Rattle.can_record_text.specs.Texts.{text_of}
use Rattle.can_bus.specs.Lean.{record_of}
use Rattle.can_bus.specs.Stats.{socket_stats_of, iface_stats_of}
use Rattle.can_session.specs.Wires.{load_at}
use Rattle.canbusd_c.specs.Locals.{Local, IsLocalEvent, IsLocalTry, IsLocalRun, local_at_moment, local_with_plan}
use Rattle.canbusd_c.specs.Codes.{IsTold, refusal_code, rule_code, run_code}
use Rattle.canbusd_c.specs.Shapes.{frame_of_struct, item_out, tried_out, option_of_numbers, status_out}
use Rattle.canbusd_c.specs.Shapes.{stats_out, load_out}
use Rattle.canbusd_c.specs.declared.local_bus.RunFault.{RunFault}
use Rattle.canbusd_c.specs.declared.shapes.CFrame.{CFrame}
use Rattle.canbusd_c.specs.declared.shapes.CFilter.{CFilter}
use Rattle.canbusd_c.specs.declared.shapes.CClosed.{CClosed}
use Rattle.canbusd_c.specs.declared.shapes.CItem.{CItem}
use Rattle.canbusd_c.specs.declared.shapes.CTried.{CTried}
use Rattle.canbusd_c.specs.declared.shapes.CStatus.{CStatus}
use Rattle.canbusd_c.specs.declared.shapes.CStats.{CStats}
use Rattle.canbusd_c.specs.declared.shapes.CLoad.{CLoad}

-- The effect of each C function, and the code that it returns.

-- the socket with this number
abbrev pub socket : ℕ → SocketId
socket s = record { 0 = s }

-- the call is refused with this code before it reaches the bus
abbrev pub IsBadCall : ℕ → Local → ℕ → Local → Type 0
IsBadCall bad old code new = (code ≡ bad) × (new ≡ old)

-- one event on the bus; the call returns its code and writes its value
abbrev pub IsToldEvent : {A : Type 0} → (A → Reply) → Local → Event → ℕ → A → Local → Type 0
IsToldEvent {A} reply_of old event code value new =
    (outcome : Result A Refusal)
    × IsLocalEvent reply_of old event outcome new
    × IsTold refusal_code outcome code value

-- the interface with this number; there are 16 interfaces
abbrev pub iface_of_number : ℕ → Option ℕ
iface_of_number number = if nat_lt number 16 then Some number else None

-- the moment at this number of microseconds, which is below 10^16
abbrev pub moment_of_micros : ℕ → Option ℕ
moment_of_micros micros = if nat_lt micros (10 ^ 16) then Some micros else None

-- a socket is opened on an interface
abbrev pub IsOpenCall : Option ℕ → ℕ → Local → ℕ → ℕ → Local → Type 0
IsOpenCall None capacity old code number new = IsBadCall 2 old code new
IsOpenCall (Some iface) capacity old code number new =
    IsToldEvent reply.Opened old (event.Open iface capacity) code (socket number) new

-- a socket is closed
abbrev pub IsCloseCall : ℕ → Local → ℕ → CClosed → Local → Type 0
IsCloseCall s old code left new =
    IsToldEvent reply.Closed old (event.Close (socket s)) code
    (record { unread = left.unread; dropped = left.dropped }) new

-- the list with one more filter, if the filter is valid
abbrev pub filter_before : CFilter → Bool → Option (List CanFilter) → Option (List CanFilter)
filter_before f true (Some filters) = Some (record { id = f.id; mask = f.mask } ∷ filters)
filter_before f _ _ = None

-- all filters, or no list if one filter is invalid; a mask with bit 29 is invalid
unfoldable pub filters_of_structs : List CFilter → Option (List CanFilter)
filters_of_structs [] = Some []
filters_of_structs (f ∷ fs) = filter_before f (bit_and f.mask (2 ^ 29) == 0) (filters_of_structs fs)

-- the filters, or the code for the reason why there are none: one is invalid, or memory was refused
abbrev pub AreFilters : {A : Type 0} → Option (List CanFilter) → Result (Vec CanFilter A) ℕ → Type 0
AreFilters all (Ok filters) = all ≡ Some filters.items
AreFilters all (Err code) = (code ≡ 10) ⊎ ((code ≡ 16) × (all ≡ None))

-- a frame is put into a transmit queue and gets this number
abbrev pub IsSendCall : ℕ → Option CanFrame → Local → ℕ → ℕ → Local → Type 0
IsSendCall s None old code number new = IsBadCall 13 old code new
IsSendCall s (Some frame) old code number new =
    IsToldEvent reply.Sent old (event.Send (socket s) frame) code number new

-- an option of a socket is set
abbrev pub IsOptionCall : ℕ → Option Opt → Local → ℕ → Local → Type 0
IsOptionCall s None old code new = IsBadCall 15 old code new
IsOptionCall s (Some option) old code new =
    IsToldEvent done_reply old (event.SetOption (socket s) option) code tt new

-- the item that was taken is written; code 12 means that no item is waiting
abbrev pub IsItemTold : Received → Result Bool Refusal → ℕ → CItem → Type 0
IsItemTold room (Ok true) code item = (code ≡ 0) × (item ≡ item_out room)
IsItemTold room (Ok false) code item = code ≡ 12
IsItemTold room (Err why) code item = code ≡ refusal_code why

-- the oldest item of a socket is taken, if there is one
abbrev pub IsReceiveCall : ℕ → Local → ℕ → CItem → Local → Type 0
IsReceiveCall s old code item new =
    (room : Received) × (outcome : Result Bool Refusal)
    × IsLocalEvent (taken_reply room) old (event.Receive (socket s)) outcome new
    × IsItemTold room outcome code item

-- the result of an attempt is written, or the code is that of the refusal
abbrev pub IsAttemptTold : Result Attempt Refusal → ℕ → CTried → Type 0
IsAttemptTold (Ok attempt) code tried = (code ≡ 0) × (tried ≡ tried_out attempt)
IsAttemptTold (Err why) code tried = code ≡ refusal_code why

-- an attempt is made at this moment
abbrev pub IsAttemptCall : Option ℕ → Local → ℕ → CTried → Local → Type 0
IsAttemptCall None old code tried new = IsBadCall 14 old code new
IsAttemptCall (Some moment) old code tried new =
    (outcome : Result Attempt Refusal)
    × IsLocalTry (local_at_moment moment old) outcome new
    × IsAttemptTold outcome code tried

-- a run to a moment; how many attempts it made is written
abbrev pub IsRunCall : Option ℕ → Local → ℕ → ℕ → Local → Type 0
IsRunCall None old code made new = IsBadCall 14 old code new
IsRunCall (Some moment) old code made new =
    (outcome : Result ℕ RunFault)
    × IsLocalRun moment old outcome new
    × IsTold run_code outcome code made

-- an interface is restarted or taken down
abbrev pub IsChangeCall : (ℕ → ℕ → Event) → Option ℕ → Option ℕ → Local → ℕ → Local → Type 0
IsChangeCall event_of None moment old code new = IsBadCall 2 old code new
IsChangeCall event_of (Some iface) None old code new = IsBadCall 14 old code new
IsChangeCall event_of (Some iface) (Some moment) old code new =
    IsToldEvent done_reply old (event_of iface moment) code tt new

-- a rule is added, or refused
abbrev pub IsInjectCall : List ℕ → Local → ℕ → Local → Type 0
IsInjectCall rule old code new =
    (outcome : Result (Unit {0}) RuleRefusal)
    × Injected old.bus.names rule old.bus.plan outcome new.bus.plan
    × (new ≡ local_with_plan old new.bus.plan)
    × IsTold rule_code outcome code tt

-- the counts of an interface or a socket are written if it exists; otherwise the code is `missing`, and nothing is
-- written
abbrev pub IsCountsCall : {A B : Type 0} → ℕ → (A → B) → Option A → B → ℕ → B → Type 0
IsCountsCall missing out None before code after = (code ≡ missing) × (after ≡ before)
IsCountsCall missing out (Some a) before code after = (code ≡ 0) × (after ≡ out a)

-- the counts of an interface
abbrev pub iface_counts : Local → Option ℕ → Option IfaceStats
iface_counts b None = None
iface_counts b (Some iface) = iface_stats_of b.bus.journal.config b.bus.journal.history iface

-- the counts of a socket
abbrev pub socket_counts : Local → ℕ → Option SocketStats
socket_counts b s = socket_stats_of b.bus.journal.config b.bus.journal.history s

-- as much of the text as fits into the buffer; the rest of the buffer is unchanged
abbrev pub IsFront : List ℕ → List ℕ → List ℕ → Type 0
IsFront text before after = after ≡ take (length before) text ++ drop (length text) before

-- the load of the wire at a moment is written
abbrev pub IsLoadCall : Option ℕ → Local → ℕ → CLoad → Type 0
IsLoadCall None b code load = code ≡ 14
IsLoadCall (Some moment) b code load = (code ≡ 0) × (load ≡ load_out (load_at moment b.bus.schedule))

-- the text of the record
abbrev pub record_text_at : Local → List ℕ
record_text_at b = text_of (record_of b.bus.journal.config b.bus.journal.history)

-- the text of the record is written, as much as fits into the buffer, and so is its full length; or memory was refused
abbrev pub IsRecordCall : Local → List ℕ → ℕ → ℕ → List ℕ → Type 0
IsRecordCall b before code len after =
    MatchBool (code == 0) ((len ≡ length (record_text_at b)) × IsFront (record_text_at b) before after) (code ≡ 10)

-- the filters of a socket are set; or a filter is invalid, memory was refused, or there are more than 512 filters
abbrev pub IsFiltersCall : ℕ → Option (List CanFilter) → Local → ℕ → Local → Type 0
IsFiltersCall s None old code new = ((code ≡ 16) ⊎ (code ≡ 10)) × (new ≡ old)
IsFiltersCall s (Some set) old code new =
    MatchBool (nat_le (length set) 512)
    (IsToldEvent done_reply old (event.SetFilters (socket s) set) code tt new ⊎ IsBadCall 10 old code new)
    (((code ≡ 17) ⊎ (code ≡ 10)) × (new ≡ old))
