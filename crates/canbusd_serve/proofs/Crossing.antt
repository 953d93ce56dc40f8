-- Values that are sent to another thread. The rules of the language do not cover the parts of a keeper and of its files
-- that only contracts see.
use denote.RattleType.{RattleType}
use denote.Ref.{NamedLft}
use denote.Param.Send.{IsSend, IsSync, sendable, view_send}
use denote.Param.SendFields.{as_row_send, declared_send}
use denote.Struct.Field.{row_field}
use Rattle.std.proofs.Crossing.{crosses}
use Rattle.std.specs.declared.io.traits.Write as write
use Rattle.can_frame.proofs.names.Names.TheSendSync as names
use Rattle.can_frame.specs.contracts.names.Names as names_of
use Rattle.can_event.proofs.bus_config.BusConfig.TheSendSync as config
use Rattle.can_event.specs.contracts.bus_config.BusConfig as config_of
use Rattle.can_hub.proofs.Crossing.{lent}
use Rattle.can_server.proofs.Crossing.{given_send}
use Rattle.canbusd_io.proofs.draft.Draft.TheSendSync as draft
use Rattle.canbusd_io.proofs.live_file.LiveFile.TheSendSync as file
use Rattle.canbusd_io.proofs.live_faults.LiveFaults.TheSendSync as faults
use Rattle.canbusd_io.specs.contracts.live_faults.LiveFaults as faults_of
use Rattle.canbusd_io.specs.contracts.live.LiveText as text_of
use Rattle.canbusd_serve.specs.contracts.live_files.LiveFiles as live
use Rattle.canbusd_serve.specs.contracts.host.Host as host
use Rattle.canbusd_serve.proofs.host.Host.TheSendSync as host_sync
use Rattle.canbusd_serve.specs.contracts.file_keeper.FileKeeper as keeper
use Rattle.canbusd_serve.specs.contracts.file_keeper.KeptFiles as kept
use Rattle.canbusd_serve.specs.contracts.file_keeper.KeptFiles.TheInside as kept_inside

-- the text of a bus, and the value with which its lines are written
text_send : (F B : RattleType) → IsSend F → IsSend B → IsSend (text_of.the_row F B)
text_send F B s b = declared_send (text_of.the_type F B) (draft.the_send, (as_row_send (row_field B) b, (file.the_send F s, (search (sendable, as_row_send) depth 20, tt))))

-- the files of a bus
live_send : (F : RattleType) → IsSend F → IsSend (live.the_row F)
live_send F s =
    let one : IsSend (text_of.the_row F config_of.the_row) = text_send F config_of.the_row s config.the_send in
    let log : IsSend (text_of.the_row F names_of.the_row) = text_send F names_of.the_row s names.the_send in
    declared_send (live.the_type F) (search (sendable, as_row_send, one) depth 20, (search (sendable, as_row_send, log) depth 20, (search (sendable, as_row_send) depth 20, tt)))

-- the files of a bus, with the ghost record of the entries that they were given
pub kept_send : (F : RattleType) (g : write.Ghosts F.Denot) → IsSend F → IsSend (kept.the_row F g)
kept_send F g s =
    let inside : IsSend (kept_inside.the_row F g) = declared_send (kept_inside.the_type F g) (live_send F s, (given_send, tt)) in
    view_send _ _ _ _ _ inside

-- the keeper of a bus, which reports to the host that all keepers share
pub keeper_send : (o h a l : NamedLft) (F H E : RattleType) (g : write.Ghosts F.Denot) → IsSend F → IsSync H → IsSend E → IsSend (keeper.the_row o h a l F H E g)
keeper_send o h a l F H E g s r e =
    let hosts : IsSync (host.the_row h a l H E) = host_sync.the_sync h a l H E e r in
    let own : IsSend faults_of.the_row = faults.the_send in
    declared_send (keeper.the_type o h a l F H E g)
    (lent o _ _ hosts, (search (sendable, as_row_send) depth 20, (kept_send F g s, (search (sendable, as_row_send, own) depth 20, (search (sendable, crosses, as_row_send) depth 20, tt)))))
