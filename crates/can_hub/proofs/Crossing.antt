-- Values that may move to another thread, and values that threads may share. The history of a long run is an enum, and
-- the language's own rules do not cover enums.
use denote.RattleType.{RattleType}
use denote.Ref.{NamedLft}
use denote.Hole.{as_row}
use denote.Builtin.{One}
use denote.Struct.Field.{shr_ref_field}
use denote.Param.Send.{IsSend, IsSync, sendable, shr_send, shr_sync, view_send, view_sync}
use denote.Param.SendFields.{as_row_send, as_row_sync, declared_send, declared_sync, variants_send}
use Rattle.std.proofs.Crossing.{Vec-sync, crosses}
use Rattle.std.proofs.alloc.Global.TheSendSync as heap
use Rattle.can_frame.proofs.names.Names.TheSendSync as names
use Rattle.can_queue.specs.declared.bounded_queue.BoundedQueue as queue
use Rattle.can_queue.proofs.ring_queue.RingQueue.TheSendSync as ring
use Rattle.can_arbiter.specs.declared.arbiter.Arbiter as arbiter
use Rattle.can_arbiter.proofs.index_arbiter.IndexArbiter.TheSendSync as index
use Rattle.can_fault.specs.declared.fault_source.FaultSource as source
use Rattle.can_event.specs.declared.pending.Pending.{Pending}
use Rattle.can_event.specs.declared.received.Received.{Received}
use Rattle.can_event.proofs.pending.Pending.TheSendSync as pending
use Rattle.can_event.proofs.received.Received.TheSendSync as received
use Rattle.can_event.proofs.bus_config.BusConfig.TheSendSync as config
use Rattle.can_record.proofs.packed_record.PackedRecord.TheSendSync as packed
use Rattle.can_meter.specs.declared.blank.MeterName as meter
use Rattle.can_meter.proofs.gauge.Gauge.TheSendSync as gauge
use Rattle.can_bus.proofs.bus.Bus.TheSendSync as bus
use Rattle.can_bus.proofs.state.State.TheSendSync as state
use Rattle.can_bus.specs.contracts.history.History as history
use Rattle.can_bus.specs.contracts.long_bus.LongBus as long
use Rattle.can_bus.specs.contracts.long_bus.LongBus.TheInside as long_inside
use Rattle.can_roll.specs.declared.roll_name.RollName as roll
use Rattle.can_station.proofs.station.Station.TheSendSync as station
use Rattle.can_station.proofs.pass.Pass.TheSendSync as pass
use Rattle.can_wire.proofs.timing.Timing.TheSendSync as timing
use Rattle.can_hub.specs.contracts.hub_bus.AnyBus as any
use Rattle.can_hub.specs.contracts.hub_bus.HubBus as hub
use Rattle.can_hub.specs.contracts.hub_bus.HubBus.TheInside as hub_inside
use Rattle.can_hub.specs.contracts.hub_bus.HubBusJournaled.TheImpl as journaled
use Rattle.can_hub.specs.contracts.hub_bus.HubEnd as hub_end
use Rattle.can_hub.proofs.returned.ReturnedPasses.TheSendSync as returned
use Rattle.can_hub.proofs.shown_time.ShownTime.TheSendSync as shown
use Rattle.can_hub.proofs.tally.Tally.TheSendSync as tally
use Rattle.can_hub.specs.contracts.buses.Network as network
use Rattle.can_hub.specs.contracts.buses.Network.TheInside as network_inside
use Rattle.can_hub.specs.contracts.buses.Buses as buses
use Rattle.can_hub.specs.contracts.buses.Buses.TheInside as buses_inside
use Rattle.can_hub.specs.contracts.pass_port.PassPort as port
use Rattle.can_hub.specs.contracts.pass_port.PassPort.TheInside as port_inside
use Rattle.can_hub.specs.contracts.pass_port.EnteredStation as entered
use Rattle.can_hub.specs.contracts.pass_port.EnteredStation.TheInside as entered_inside

-- Threads may share or move a field that is a reference if they may share the target of the reference.
pub shared : (κ : NamedLft) (R : RattleType) (one : One R.mir) → IsSync R → IsSync (as_row (shr_ref_field κ R one))
shared κ R one r = as_row_sync (shr_ref_field κ R one) (shr_sync κ.mir κ.lft R r)

pub lent : (κ : NamedLft) (R : RattleType) (one : One R.mir) → IsSync R → IsSend (as_row (shr_ref_field κ R one))
lent κ R one r = as_row_send (shr_ref_field κ R one) (shr_send κ.mir κ.lft R r)

-- The history value that contracts see may move between threads.
pub history_send : IsSend history.the_row
history_send = search sendable depth 20

-- The bus of a long run may move between threads if its queues and its arbiter may.
pub long_send : (T T' T'' : RattleType) (g : queue.Ghosts T.Denot Pending) (g' : queue.Ghosts T'.Denot Received) (g'' : arbiter.Ghosts T''.Denot)
    → IsSend T → IsSend T' → IsSend T'' → IsSend (long.the_row T T' T'' g g' g'')
long_send T T' T'' g g' g'' s s' s'' =
    let states = state.the_send T T' T'' g g' g'' s s' s'' in
    let inside : IsSend (long_inside.the_row T T' T'' g g' g'') = declared_send (long_inside.the_type T T' T'' g g' g'') (heap.the_send, (config.the_send, (states, (history_send, (packed.the_send, (search (sendable, as_row_send) depth 20, tt)))))) in
    view_send _ _ _ _ _ inside

-- A bus of either kind may move between threads.
pub any_send : IsSend any.the_row
any_send = search (sendable, bus.the_send, long_send, ring.the_send, index.the_send, pending.the_send, received.the_send, as_row_send, variants_send) depth 20

-- The bus of a hub may move between threads.
pub bus_send : IsSend hub.the_row
bus_send = let inside : IsSend hub_inside.the_row = search (sendable, any_send, declared_send) depth 20 in view_send _ _ _ _ _ inside

module _ (N F G : RattleType) (g : roll.Ghosts N.Denot) (g' : meter.Ghosts N.Denot) (g'' : source.Ghosts F.Denot) (f : IsSend F) (s : IsSync G) where
  -- Threads may share a bus with its names.
  pub network_sync : IsSync (network.the_row N F G g g' g'')
  network_sync =
      let inside : IsSync (network_inside.the_row N F G g g' g'') = declared_sync (network_inside.the_type N F G g g' g'') (names.the_sync, (station.the_sync N F G hub.the_row hub_end.the_row g g' g'' journaled.ghosts f bus_send s, (search (sendable, as_row_sync, timing.the_sync) depth 20, (search (sendable, as_row_sync) depth 20, (search (sendable, as_row_sync) depth 20, (shown.the_sync, tt)))))) in
      view_sync _ _ _ _ _ inside

  -- Threads may share the buses of a hub.
  pub buses_sync : IsSync (buses.the_row N F G g g' g'')
  buses_sync =
      let inside : IsSync (buses_inside.the_row N F G g g' g'') = declared_sync (buses_inside.the_type N F G g g' g'') (Vec-sync _ network_sync, tt) in
      view_sync _ _ _ _ _ inside

  module _ (κ : NamedLft) where
    -- An entered station may move between threads.
    pub entered_send : IsSend (entered.the_row κ N F G g g' g'')
    entered_send =
        let stations = station.the_sync N F G hub.the_row hub_end.the_row g g' g'' journaled.ghosts f bus_send s in
        let inside : IsSend (entered_inside.the_row κ N F G g g' g'') = declared_send (entered_inside.the_type κ N F G g g' g'') (lent κ _ _ stations, (gauge.the_send N g', (pass.the_send N g, tt))) in
        view_send _ _ _ _ _ inside

    -- A port that uses the pass of a session may move between threads.
    pub port_send : (R : RattleType) → IsSync R → IsSend (port.the_row κ N F G R g g' g'')
    port_send R r =
        let inside : IsSend (port_inside.the_row κ N F G R g g' g'') = declared_send (port_inside.the_type κ N F G R g g' g'')
        (search (sendable, as_row_send, r) depth 20, (heap.the_send, (lent κ _ _ buses_sync, (search (sendable, crosses, as_row_send, returned.the_send) depth 20, (search (sendable, as_row_send, entered_send) depth 20, (tally.the_send, tt)))))) in
        view_send _ _ _ _ _ inside
