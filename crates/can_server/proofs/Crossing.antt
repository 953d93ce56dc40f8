-- Values that are sent from one thread of a server to another, and values that threads share. The list of entries given to a keeper
-- is an enum, which the rules of the language do not cover.
use denote.RattleType.{RattleType}
use denote.Ref.{NamedLft}
use denote.Param.Send.{IsSend, IsSync, sendable}
use denote.Param.SendFields.{declared_send, declared_sync}
use Rattle.std.proofs.Crossing.{Vec-send, crosses}
use Rattle.std.specs.contracts.sync.Mutex as mutex
use Rattle.std.proofs.sync.Mutex.TheSendSync as mutex_sync
use Rattle.std.proofs.alloc.Global.TheSendSync as heap
use Rattle.std.proofs.os.unix.net.UnixStream.TheSendSync as stream
use Rattle.can_fault.specs.declared.fault_source.FaultSource as source
use Rattle.can_meter.specs.declared.blank.MeterName as meter
use Rattle.can_roll.specs.declared.roll_name.RollName as roll
use Rattle.can_dialog.proofs.session.Session.TheSendSync as session
use Rattle.can_hub.proofs.returned.ReturnedPasses.TheSendSync as returned
use Rattle.can_hub.proofs.Crossing.{buses_sync, port_send, shared}
use Rattle.can_server.proofs.batch.Batch.TheSendSync as batch
use Rattle.can_server.proofs.conn.Conn.TheSendSync as conn
use Rattle.can_server.proofs.acceptor.Acceptor.TheSendSync as acceptor
use Rattle.can_server.proofs.clients.Clients.TheSendSync as clients
use Rattle.can_server.proofs.opening.Opening.TheSendSync as opening
use Rattle.can_server.proofs.scribing.Scribe.TheSendSync as scribe
use Rattle.can_server.specs.contracts.given.Given as given
use Rattle.can_server.specs.declared.scribing.Keeper as keeper
use Rattle.can_server.specs.contracts.server.Server as server
use Rattle.can_server.specs.contracts.serving.LongServer as long_server
use Rattle.can_server.specs.contracts.conversation.Conversation as talk
use Rattle.can_server.specs.contracts.delivering.Delivery as delivery

-- the entries given to a keeper, as contracts see them
pub given_send : IsSend given.the_row
given_send = search sendable depth 20

module _ (N F G : RattleType) (g : roll.Ghosts N.Denot) (g' : meter.Ghosts N.Denot) (g'' : source.Ghosts F.Denot) (f : IsSend F) (s : IsSync G) (κ : NamedLft) where
  -- the values shared by all threads of a server
  pub server_sync : (C R : RattleType) → IsSync C → IsSync R → IsSync (server.the_row κ N F G C R g g' g'')
  server_sync C R c r =
      declared_sync (server.the_type κ N F G C R g g' g'') (
        search (sendable, r) depth 20,
        (
          heap.the_sync,
          (
            shared κ _ _ (buses_sync N F G g g' g'' f s),
            (
              search (sendable, c) depth 20,
              (
                search (sendable, crosses, clients.the_send) depth 20,
                (
                  search (sendable, crosses, returned.the_send) depth 20,
                  (search sendable depth 20, (search (sendable, crosses) depth 20, tt)),
                ),
              ),
            ),
          ),
        ),
      )

  -- a session and its port can be sent to another thread
  pub talk_send : (R : RattleType) → IsSync R → IsSend (talk.the_row κ N F G R g g' g'')
  talk_send R r =
      declared_send (talk.the_type κ N F G R g g' g'') (session.the_send, (port_send N F G g g' g'' f s κ R r, (batch.the_send, (opening.the_send, (search sendable depth 20, tt)))))

  -- the values of the thread that delivers items can be shared
  pub delivery_sync : (ν : NamedLft) (C R : RattleType) → IsSync C → IsSync R → IsSync (delivery.the_row ν κ N F G C R g g' g'')
  delivery_sync ν C R c r =
      let talks : IsSync (mutex.the_row (talk.the_row κ N F G R g g' g'')) = mutex_sync.the_sync _ (talk_send R r) in
      declared_sync (delivery.the_type ν κ N F G C R g g' g'') (search (sendable, r) depth 20, (search (sendable, c) depth 20, (shared ν _ _ (buses_sync N F G g g' g'' f s), (shared ν _ _ talks, (search (sendable, conn.the_sync) depth 20, (search sendable depth 20, tt))))))

  -- a server and its scribes can be shared between threads
  pub long_server_sync : (ν ι : NamedLft) (C R K : RattleType) (k : keeper.Ghosts K.Denot) → IsSync C → IsSync R → IsSend K → IsSync (long_server.the_row ν κ ι N F G C R K g g' g'' k)
  long_server_sync ν ι C R K k c r kept =
      declared_sync (long_server.the_type ν κ ι N F G C R K g g' g'' k)
      (shared ν _ _ (server_sync C R c r), (search (sendable, acceptor.the_sync) depth 20, (search (sendable, crosses, stream.the_sync) depth 20, (shared ν _ _ (mutex_sync.the_sync _ (Vec-send _ (scribe.the_send ι N K g k kept))), tt))))
