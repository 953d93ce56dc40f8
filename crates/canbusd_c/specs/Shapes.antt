use Rattle.std.specs.Prelude.{ℕ, ◌+◌, ◌-◌, ◌^◌, ◌==◌, nat_lt, nat_le, Bool, true, false, not, ◌&&◌, ◌||◌, if◌then◌else◌}
use Rattle.std.specs.Prelude.{bit_and, List, [], ◌∷◌, ◌++◌, length, take, replicate, Option, Some, None}
use Rattle.can_frame.specs.Frames.{Identifier, CanFrame, ErrorMessage, is_fd, is_fd_length, flags_of, flags_number}
use Rattle.can_frame.specs.Frames.{payload_len, payload_bytes, payload_flags, word_of}
use Rattle.can_frame.specs.Frames.Payload.{Data, Remote, Fd}
use Rattle.can_frame.specs.declared.fd_flags.FdFlags.{FdFlags}
use Rattle.can_frame.specs.declared.item.Item.{Item}
use Rattle.can_frame.specs.declared.item.Item.TheVariants as item
use Rattle.can_attempt.specs.declared.class.Class.{Class}
use Rattle.can_attempt.specs.declared.class.Class.TheVariants as class
use Rattle.can_confine.specs.declared.state.State.{State}
use Rattle.can_confine.specs.declared.state.State.TheVariants as state
use Rattle.can_confine.specs.Confinement.{state_of}
use Rattle.can_event.specs.declared.received.Received.{Received}
use Rattle.can_event.specs.declared.attempt.Attempt.{Attempt}
use Rattle.can_event.specs.declared.attempt.Attempt.TheVariants as attempt
use Rattle.can_event.specs.declared.opt.Opt.{Opt}
use Rattle.can_event.specs.declared.opt.Opt.TheVariants as opt
use Rattle.can_event.specs.declared.stats.IfaceStats.{IfaceStats}
use Rattle.can_event.specs.declared.stats.SocketStats.{SocketStats}
use Rattle.can_proto.specs.declared.answer.BusLoad.{BusLoad}
use Rattle.canbusd_c.specs.declared.shapes.CFrame.{CFrame}
use Rattle.canbusd_c.specs.declared.shapes.CItem.{CItem}
use Rattle.canbusd_c.specs.declared.shapes.CTried.{CTried}
use Rattle.canbusd_c.specs.declared.shapes.CStatus.{CStatus}
use Rattle.canbusd_c.specs.declared.shapes.CStats.{CStats}
use Rattle.canbusd_c.specs.declared.shapes.CLoad.{CLoad}

-- The structs of canbusd.h. Frames have the layout of linux/can.h; the other structs are own choice.

-- whether a bit of a number is set
abbrev pub has_bit : ℕ → ℕ → Bool
has_bit n bit = not (bit_and n bit == 0)

-- the identifier in an identifier word: CAN_EFF_FLAG marks a 29-bit identifier; there is no identifier if the number is
-- out of range
abbrev pub id_of_word : ℕ → Option Identifier
id_of_word word =
    if has_bit word (2 ^ 31) then Some (record { extended = true; number = bit_and word (2 ^ 29 - 1) })
    else if nat_lt (bit_and word (2 ^ 29 - 1)) (2 ^ 11)
    then Some (record { extended = false; number = bit_and word (2 ^ 29 - 1) })
    else None

-- a data frame or a remote frame
abbrev pub classic_of_struct : Identifier → CFrame → Option CanFrame
classic_of_struct id f =
    if nat_lt 8 f.len then None
    else if has_bit f.id (2 ^ 30) then Some (record { id = id; payload = Remote f.len })
    else Some (record { id = id; payload = Data (take f.len f.bytes) })

-- an FD frame with these flags
abbrev pub fd_of_struct : Identifier → CFrame → Option FdFlags → Option CanFrame
fd_of_struct id f None = None
fd_of_struct id f (Some flags) =
    if has_bit f.id (2 ^ 30) then None
    else if is_fd_length f.len then Some (record { id = id; payload = Fd flags (take f.len f.bytes) })
    else None

-- the frame in a struct with this identifier: CANFD_FDF is 4, and classic frames have no flags
abbrev pub frame_of_struct_with : CFrame → Option Identifier → Option CanFrame
frame_of_struct_with f None = None
frame_of_struct_with f (Some id) =
    if f.flags == 0 then classic_of_struct id f
    else if nat_lt f.flags 4 then None
    else fd_of_struct id f (flags_of (f.flags - 4))

-- the frame in a struct, if it is valid; CAN_ERR_FLAG is not valid in a frame
abbrev pub frame_of_struct : CFrame → Option CanFrame
frame_of_struct f = if has_bit f.id (2 ^ 29) then None else frame_of_struct_with f (id_of_word f.id)

-- the bytes, padded with zeros to 64
abbrev pub padded_to_64 : List ℕ → List ℕ
padded_to_64 bytes = bytes ++ replicate (64 - length bytes) 0

-- a frame as a struct
abbrev pub frame_out : CanFrame → CFrame
frame_out f = record {
  id = word_of f;
  len = payload_len f.payload;
  flags = if is_fd f.payload then flags_number (payload_flags f.payload) + 4 else 0;
  unused = 0;
  bytes = padded_to_64 (payload_bytes f.payload);
}

-- an error message frame as a struct: its class with CAN_ERR_FLAG, and eight bytes
abbrev pub error_out : ErrorMessage → CFrame
error_out e = record { id = e.class + 2 ^ 29; len = 8; flags = 0; unused = 0; bytes = padded_to_64 e.bytes }

-- a received item as a struct
abbrev pub item_frame : Item → CFrame
item_frame (item.Data f) = frame_out f
item_frame (item.Error e) = error_out e

-- a received item with its origin, as a struct
abbrev pub item_out : Received → CItem
item_out r = record { frame = item_frame r.item; iface = r.from; number = r.number; moment = r.moment }

-- no frame
abbrev pub no_frame_struct : CFrame
no_frame_struct = record { id = 0; len = 0; flags = 0; unused = 0; bytes = replicate 64 0 }

-- the number of a class of attempts
abbrev pub class_out : Class → ℕ
class_out class.Done = 1
class_out class.LastBit = 2
class_out class.Destroyed = 3
class_out class.NoAck = 4

-- the result of an attempt as a struct
abbrev pub tried_out : Attempt → CTried
tried_out (attempt.Idle restarted) = record {
  frame = no_frame_struct;
  class = 0;
  iface = 0;
  number = 0;
  moment = 0;
  accepted = 0;
  off = 0;
  restarted = restarted.0;
  unused = 0;
}
tried_out (attempt.Tried t) = record {
  frame = frame_out t.frame;
  class = class_out t.class;
  iface = t.winner;
  number = t.number;
  moment = t.moment;
  accepted = t.accepted.0;
  off = t.off.0;
  restarted = t.restarted.0;
  unused = 0;
}

-- the socket option with this number, set to this value: CAN_RAW_ERR_FILTER 2, CAN_RAW_LOOPBACK 3,
-- CAN_RAW_RECV_OWN_MSGS 4, CAN_RAW_FD_FRAMES 5 and CAN_RAW_JOIN_FILTERS 6 of linux/can/raw.h
abbrev pub option_of_numbers : ℕ → ℕ → Option Opt
option_of_numbers option value =
    if option == 2 then Some (opt.ErrMask value)
    else if option == 3 then Some (opt.Loopback (not (value == 0)))
    else if option == 4 then Some (opt.RecvOwn (not (value == 0)))
    else if option == 5 then Some (opt.FdFrames (not (value == 0)))
    else if option == 6 then Some (opt.Join (not (value == 0)))
    else None

-- the number of an interface's state
abbrev pub state_out : State → ℕ
state_out state.Active = 0
state_out state.Warning = 1
state_out state.Passive = 2
state_out state.Off = 3
state_out state.Down = 4

-- the counts of an interface, as a struct
abbrev pub status_out : IfaceStats → CStatus
status_out s = record {
  state = state_out (state_of s.counters);
  tec = s.counters.tec;
  rec = s.counters.rec;
  unused = 0;
  sent = s.sent;
  done = s.done;
  waiting = s.waiting;
  lost = s.lost;
  refused = s.refused;
}

-- the counts of a socket, as a struct
abbrev pub stats_out : SocketStats → CStats
stats_out s = record { queued = s.queued; dropped = s.dropped; taken = s.taken }

-- the load of a wire, as a struct
abbrev pub load_out : BusLoad → CLoad
load_out l = record {
  permille = l.permille;
  bitrate = l.bitrate;
  data_bitrate = l.dbitrate;
  unused = 0;
  micros = l.micros;
}
