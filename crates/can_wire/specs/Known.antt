use Rattle.std.specs.Prelude.{ℕ, true, false, List, [], ◌∷◌, ◌++◌, replicate}
use Rattle.can_frame.specs.Frames.{CanFrame}
use Rattle.can_frame.specs.Frames.Payload.{Data, Fd}

-- Values whose bits are known from other sources.

-- the bytes of "123456789", which catalogues use to compare CRCs
abbrev pub known_bytes : List ℕ
known_bytes = 49 ∷ 50 ∷ 51 ∷ 52 ∷ 53 ∷ 54 ∷ 55 ∷ 56 ∷ 57 ∷ []

-- 123#11223344
abbrev pub known_classic : CanFrame
known_classic = record {
  id = record { extended = false; number = 0x123 };
  payload = Data (0x11 ∷ 0x22 ∷ 0x33 ∷ 0x44 ∷ []);
}

-- an FD frame with the short CRC: 1ABCDEF0 with both flags and bytes 00 01 02
abbrev pub known_short_fd : CanFrame
known_short_fd = record {
  id = record { extended = true; number = 0x1ABCDEF0 };
  payload = Fd (record { brs = true; esi = true }) (0x00 ∷ 0x01 ∷ 0x02 ∷ []);
}

-- an FD frame with the long CRC: 555 with BRS, 4 bytes 00 and 16 bytes 55
abbrev pub known_long_fd : CanFrame
known_long_fd = record {
  id = record { extended = false; number = 0x555 };
  payload = Fd (record { brs = true; esi = false }) (replicate 4 0x00 ++ replicate 16 0x55);
}
