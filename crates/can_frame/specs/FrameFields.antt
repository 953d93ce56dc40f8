use Rattle.std.specs.Prelude.{◌≡◌, ℕ, ◌-◌, ◌≤◌, nat_le, Bool, IsTrue, List, ◌++◌, length, replicate, take, drop}
use Rattle.std.proofs.Common.{sym, ap, ◌∙◌, take-append-drop, length-take-le, arith}
use Rattle.can_frame.specs.Frames.{Identifier, Payload, CanFrame, payload_len, is_fd_length}
use Rattle.can_frame.specs.Frames.Payload.{Data, Remote, Fd}
use Rattle.can_frame.specs.declared.frame.Frame.TheInside.{Inside}
use Rattle.can_frame.specs.declared.frame.Kind.{Kind}
use Rattle.can_frame.specs.declared.frame.Kind.TheVariants as kind

-- How a frame is stored: in 64 bytes, of which only the first ones are used.

-- the payload of this kind and length, taken from the first stored bytes
abbrev pub payload_of : Kind → ℕ → List ℕ → Payload
payload_of kind.Data len bytes = Data (take len bytes)
payload_of kind.Remote len bytes = Remote len
payload_of (kind.Fd flags) len bytes = Fd flags (take len bytes)

-- the frame that the stored fields mean
abbrev pub frame_of : Inside → CanFrame
frame_of f = record { id = f.id; payload = payload_of f.kind f.len f.bytes }

-- how many of the 64 bytes are used
abbrev pub used : Kind → ℕ → ℕ
used kind.Data len = len
used kind.Remote len = 0
used (kind.Fd flags) len = len

-- whether a frame of this kind can have this length
abbrev pub is_length : Kind → ℕ → Bool
is_length kind.Data len = nat_le len 8
is_length kind.Remote len = nat_le len 8
is_length (kind.Fd flags) len = is_fd_length len

-- unused bytes are 0
pub record IsFrame (f : Inside) : Type 0 where
  pub short : f.len ≤ 64
  pub fits : IsTrue (is_length f.kind f.len)
  pub whole : length f.bytes ≡ 64
  pub rest : drop (used f.kind f.len) f.bytes ≡ replicate (64 - used f.kind f.len) 0

-- the kind of a payload: data, a request, or an FD frame with its flags
abbrev pub kind_of : Payload → Kind
kind_of (Data bytes) = kind.Data
kind_of (Remote len) = kind.Remote
kind_of (Fd flags bytes) = kind.Fd flags

-- the bytes of a payload, filled up with zeros to 64 bytes
abbrev pub padded : Payload → List ℕ
padded (Data bytes) = bytes ++ replicate (64 - length bytes) 0
padded (Remote len) = replicate 64 0
padded (Fd flags bytes) = bytes ++ replicate (64 - length bytes) 0

-- the fields in which a frame is stored
abbrev pub fields_of : CanFrame → Inside
fields_of v = record { id = v.id; kind = kind_of v.payload; len = payload_len v.payload; bytes = padded v.payload }

abbrev inside : Identifier → Kind → ℕ → List ℕ → Inside
inside id k len bytes = record { id = id; kind = k; len = len; bytes = bytes }

-- bytes taken and padded again
filled : (k : Kind) (id : Identifier) (len : ℕ) (bytes : List ℕ) → len ≤ 64
    → drop len bytes ≡ replicate (64 - len) 0 → length bytes ≡ 64
    → inside id k (length (take len bytes)) (take len bytes ++ replicate (64 - length (take len bytes)) 0)
    ≡ inside id k len bytes
filled k id len bytes short rest whole =
    let taken : length (take len bytes) ≡ len = length-take-le len bytes (omega arith) in
    let again : take len bytes ++ replicate (64 - length (take len bytes)) 0 ≡ bytes =
    rw (taken, ← rest) (take-append-drop len bytes) in
    ap (λ (n : ℕ). inside id k n (take len bytes ++ replicate (64 - length (take len bytes)) 0)) taken
    ∙ ap (inside id k len) again

with_bytes : (id : Identifier) (k : Kind) (len : ℕ) (bytes : List ℕ) → len ≤ 64
    → drop (used k len) bytes ≡ replicate (64 - used k len) 0 → length bytes ≡ 64
    → fields_of (frame_of (inside id k len bytes)) ≡ inside id k len bytes
with_bytes id kind.Remote len bytes short rest whole = ap (inside id kind.Remote len) (sym rest)
with_bytes id kind.Data len bytes short rest whole = filled kind.Data id len bytes short rest whole
with_bytes id (kind.Fd flags) len bytes short rest whole = filled (kind.Fd flags) id len bytes short rest whole

pub fields-frame_of : (f : Inside) → IsFrame f → fields_of (frame_of f) ≡ f
fields-frame_of f h = with_bytes f.id f.kind f.len f.bytes h.short h.rest h.whole
