use Rattle.std.specs.Prelude.{ℕ, Bool, true, false, List, [], ◌∷◌, ◌==◌, ◌||◌, if◌then◌else◌}
use Rattle.std.specs.Char.{is_ascii_control}
use Rattle.can_proto.specs.Words.{is_blank}
use Rattle.can_server.specs.declared.opening.Opening.{Opening}
use Rattle.can_server.specs.declared.opening.Opening.TheVariants.{Blank, Word, Client, Stranger}

-- The first bytes of a connection: either a client may begin with them or no client does (closing such a connection is
-- own choice). An HTTP request begins with a method and a space (RFC 9112, 3), and so does an RTSP request (RFC 7826).
-- TLS begins with the byte 22 (RFC 8446, 5.1).

-- whether more bytes are needed to decide (own choice)
abbrev pub is_undecided : Opening → Bool
is_undecided Blank = true
is_undecided Word = true
is_undecided Client = false
is_undecided Stranger = false

-- the state after one more byte. `<` begins the first message. Before the first message, a control byte that is not a
-- blank is not allowed, nor is a blank after other bytes (own choice).
abbrev pub after_byte : Opening → ℕ → Opening
after_byte Client b = Client
after_byte Stranger b = Stranger
after_byte Blank b =
    if b == 60 then Client else if is_blank b then Blank else if is_ascii_control b then Stranger else Word
after_byte Word b = if b == 60 then Client else if is_blank b || is_ascii_control b then Stranger else Word

-- the state after these bytes (own choice)
abbrev pub after_bytes : Opening → List ℕ → Opening
after_bytes o [] = o
after_bytes o (b ∷ bs) = after_bytes (after_byte o b) bs
