use Rattle.std.specs.Prelude.{◌≡◌, ℕ, suc, Bool, ◌==◌, ◌&&◌, ◌<◌, ◌⊎◌, List, [], ◌∷◌, length, All}
use Rattle.std.specs.Prelude.{slice_index_or, Option, Some, None, Result, Ok, Err, if◌then◌else◌}
use Rattle.std.specs.Bool.{beq}
use mathlib.Core.List.{IsSuffix}
use Rattle.can_confine.specs.Confinement.{ErrorCounts, at_start}
use Rattle.can_event.specs.declared.bus_config.BusConfig.{BusConfig}
use Rattle.can_event.specs.declared.entry.Entry.{Entry}
use Rattle.can_event.specs.declared.event.Event.{Event}
use Rattle.can_event.specs.declared.event.Event.TheVariants as event
use Rattle.can_bus.specs.Counters.{counts_of}
use Rattle.can_record.specs.Journal.{Journal, Kept}
use Rattle.can_bus.specs.Stats.{all_counts}
use Rattle.can_meter.specs.declared.status.Status.{Status}
use Rattle.can_meter.specs.Publications.{published, newest, AreEndsOf}
use Rattle.can_meter.specs.Readings.{Readings}
use Rattle.can_station.specs.Passes.{PassSeen, AllOf, SomeOther}

-- The publications of a history: the error counters of each interface after each change, and whether the interface is
-- down (own).

-- The error counters are equal, and the interface is down in both states or in neither.
abbrev pub are_same : ErrorCounts → ErrorCounts → Bool
are_same a b = a.tec == b.tec && (a.rec == b.rec && beq a.down b.down)

-- An interface's publications, newest first, after the entry with which the record reaches length `at`.
abbrev pub published_after : ErrorCounts → ErrorCounts → ℕ → List Status → List Status
published_after old new at before =
    if are_same old new then before else record { at = at; counters = new } ∷ before

-- The publications of interface i, newest first. Each entry that changes the interface's error counters adds a
-- publication: the length of the record including that entry, and the new counters.
abbrev pub publications_of : BusConfig → List Entry → ℕ → List Status
publications_of c [] i = []
publications_of c (e ∷ past) i =
    published_after (counts_of c past i) (counts_of c (e ∷ past) i) (suc (length past)) (publications_of c past i)

-- The counters of all interfaces before an event that can change them. Such an event is an attempt, a restart or a
-- down.
abbrev pub counts_before : Journal → Event → Option (List ErrorCounts)
counts_before j (event.Attempt m v) = Some (all_counts j.config j.history)
counts_before j (event.Restart i m) = Some (all_counts j.config j.history)
counts_before j (event.Down i m) = Some (all_counts j.config j.history)
counts_before j _ = None

-- The counters at index i of a list.
abbrev pub counters_at : List ErrorCounts → ℕ → ErrorCounts
counters_at counts i = slice_index_or counts i at_start

-- The keeper belongs to this station and has published each change of the counters in the history.
pub record IsPublished (keeper : Readings) (number : ℕ) (j : Journal) : Type 0 where
  pub number_is : keeper.number ≡ number
  pub ifaces_are : keeper.ifaces ≡ j.config.ifaces
  pub each : (i : ℕ) → i < j.config.ifaces → published keeper.lists i ≡ publications_of j.config j.history i

-- The keeper has published only for records shorter than `at`.
abbrev pub AllEarlier : Readings → ℕ → Type 0
AllEarlier keeper at = (i : ℕ) → i < keeper.ifaces → (newest (published keeper.lists i)).at < at

-- The keeper publishes the counters of interface i, with the length of the record, if they changed.
abbrev pub PublishesOf : Readings → ℕ → ErrorCounts → ErrorCounts → ℕ → Readings → Type 0
PublishesOf old i before after at new = published new.lists i ≡ published_after before after at (published old.lists i)

-- The keeper publishes the counters of each interface that changed, with the length of the record.
abbrev pub Publishes : Readings → List ErrorCounts → List ErrorCounts → ℕ → Readings → Type 0
Publishes old before after at new =
    (i : ℕ) → i < old.ifaces → PublishesOf old i (counters_at before i) (counters_at after i) at new

-- All gauges belong to the station with this number.
abbrev pub GaugesOf : ℕ → List Readings → Type 0
GaugesOf number gauges = All (λ g. g.number ≡ number) gauges

-- At least one gauge belongs to another station.
abbrev pub SomeOtherGauge : ℕ → List Readings → Type 0
SomeOtherGauge number gauges = ¬ GaugesOf number gauges

-- The station takes passes and gauges back exactly if they all belong to the station with this number.
abbrev pub TakesBack : {A E : Type 0} → ℕ → List PassSeen → List Readings → Result A E → Type 0
TakesBack number passes gauges (Ok left) = AllOf number passes × GaugesOf number gauges
TakesBack number passes gauges (Err refused) = SomeOther number passes ⊎ SomeOtherGauge number gauges

-- The station takes a scroll, passes and gauges back exactly if they all belong to the station with this number.
abbrev pub TakesBackScroll : {A E : Type 0} → ℕ → ℕ → List PassSeen → List Readings → Result A E → Type 0
TakesBackScroll number scroll passes gauges (Ok left) = (scroll ≡ number) × AllOf number passes × GaugesOf number gauges
TakesBackScroll number scroll passes gauges (Err refused) =
    ¬ (scroll ≡ number) ⊎ (SomeOther number passes ⊎ SomeOtherGauge number gauges)

-- Everything that a gauge has seen was published by the keeper.
abbrev pub AllSeen : List Readings → Readings → Type 0
AllSeen gauges keeper = All (λ g. AreEndsOf g.lists keeper.lists) gauges

-- Each gauge has seen publications of this history: all of them, or all except the newest ones.
abbrev pub AreTrue : Journal → List Readings → Type 0
AreTrue left gauges =
    All
    (λ g. (i : ℕ) → i < left.config.ifaces
    → IsSuffix (published g.lists i) (publications_of left.config left.history i))
    gauges

-- `AreTrue` for a kept record.
abbrev pub AllTrue : Kept → List Readings → Type 0
AllTrue left gauges = AreTrue (record { config = left.config; history = left.history }) gauges
