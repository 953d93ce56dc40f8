use Rattle.std.specs.Prelude.{◌≡◌, ◌≤◌, ℕ, ◌-◌, ◌/◌, ◌||◌, length, nat_lt, Bool, true}
use Rattle.std.specs.Prelude.{false, Option, Some, None, is_some, if◌then◌else◌}
use Rattle.can_event.specs.declared.stats.SocketStats.{SocketStats}
use Rattle.can_record.specs.Journal.{Journal}
use Rattle.can_event.specs.declared.stats.IfaceStats.{IfaceStats}
use Rattle.can_bus.specs.Stats.{socket_stats_of, iface_stats_of}
use Rattle.can_bus.specs.Attempts.{winner}
use Rattle.can_bus.specs.AutoRestart.{is_counting}
use Rattle.can_station.specs.Held.{Held}
use Rattle.can_station.specs.declared.waits.WakeReason.{WakeReason}
use Rattle.can_station.specs.declared.waits.WakeReason.TheVariants as wake

-- The conditions that end a wait and the queries of a station that are not events (own).

-- The reason `Stopped`, which ends every wait, if the station was stopped.
abbrev pub stopped_wake : Bool → Option WakeReason
stopped_wake stopped = if stopped then Some wake.Stopped else None

-- The reason, if any, that a wait for an item ends: the socket is not open, an item is ready to be taken, or the
-- station was stopped.
abbrev pub item_wake : Option SocketStats → Bool → Option WakeReason
item_wake None stopped = Some wake.Closed
item_wake (Some counts) stopped = if nat_lt counts.taken counts.queued then Some wake.Ready else stopped_wake stopped

-- The reason, if any, that a wait for an item at socket s of a station ends.
abbrev pub frame_wake : {F : Type 0} → Held F → ℕ → Option WakeReason
frame_wake h s = item_wake (socket_stats_of h.journal.config h.journal.history s) h.stopped

-- The bus has work for its driver: an interface has a frame to send, or counts towards its automatic restart.
abbrev pub has_work : Journal → Bool
has_work j = is_some (winner j.config j.history) || is_counting j.config j.history

-- The bus has at least nine tenths of the maximum number of entries.
abbrev pub IsNearlyFull : Journal → Type 0
IsNearlyFull j = j.config.limit - j.config.limit / 10 ≤ length j.history

-- The reason, if any, that a wait for work ends: there is work, or the station was stopped.
abbrev pub work_wake : {F : Type 0} → Held F → Option WakeReason
work_wake h = if has_work h.journal then Some wake.Ready else stopped_wake h.stopped

-- There is no work and the station was stopped, so the driver stops.
abbrev pub IsIdleAndStopped : {F : Type 0} → Held F → Type 0
IsIdleAndStopped h = (has_work h.journal ≡ false) × (h.stopped ≡ true)

-- The number of items that are queued and not yet taken, 0 if the socket is not open.
abbrev pub items_left : Option SocketStats → ℕ
items_left None = 0
items_left (Some counts) = counts.queued - counts.taken

-- The number of items that are waiting at socket s.
abbrev pub items_waiting_at : Journal → ℕ → ℕ
items_waiting_at j s = items_left (socket_stats_of j.config j.history s)

-- A wait for an item at socket s ends with this reason and this number of waiting items.
abbrev pub EndsItemWait : {F : Type 0} → Held F → ℕ → WakeReason × ℕ → Type 0
EndsItemWait h s end = (frame_wake h s ≡ Some end.0) × (end.1 ≡ items_waiting_at h.journal s)

-- The counts are the statistics of socket s and of interface i.
abbrev pub AreCounts : Journal → ℕ → ℕ → Option SocketStats × Option IfaceStats → Type 0
AreCounts j s i counts =
    (counts.0 ≡ socket_stats_of j.config j.history s) × (counts.1 ≡ iface_stats_of j.config j.history i)
