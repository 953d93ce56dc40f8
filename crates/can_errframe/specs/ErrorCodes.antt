use Rattle.std.specs.Prelude.{ℕ}

-- The numbers of error message frames, with the names that linux/can/error.h gives them.

-- class: controller problems, given in byte 1
abbrev pub err_crtl : ℕ
err_crtl = 0x004

-- class: protocol violations, given in bytes 2 and 3
abbrev pub err_prot : ℕ
err_prot = 0x008

-- class: no acknowledgement on transmission
abbrev pub err_ack : ℕ
err_ack = 0x020

-- class: bus off
abbrev pub err_busoff : ℕ
err_busoff = 0x040

-- class: bus error
abbrev pub err_buserror : ℕ
err_buserror = 0x080

-- class: the controller was restarted
abbrev pub err_restarted : ℕ
err_restarted = 0x100

-- class: the transmit and receive error counts are in bytes 6 and 7
abbrev pub err_cnt : ℕ
err_cnt = 0x200

-- byte 1: the warning level for receive errors
abbrev pub crtl_rx_warning : ℕ
crtl_rx_warning = 0x04

-- byte 1: the warning level for transmit errors
abbrev pub crtl_tx_warning : ℕ
crtl_tx_warning = 0x08

-- byte 1: error passive by the receive count
abbrev pub crtl_rx_passive : ℕ
crtl_rx_passive = 0x10

-- byte 1: error passive by the transmit count
abbrev pub crtl_tx_passive : ℕ
crtl_tx_passive = 0x20

-- byte 1: recovered to error active
abbrev pub crtl_active : ℕ
crtl_active = 0x40

-- byte 2: unspecified
abbrev pub prot_unspec : ℕ
prot_unspec = 0x00

-- byte 2: a single bit error
abbrev pub prot_bit : ℕ
prot_bit = 0x01

-- byte 2: a frame format error
abbrev pub prot_form : ℕ
prot_form = 0x02

-- byte 2: a bit stuffing error
abbrev pub prot_stuff : ℕ
prot_stuff = 0x04

-- byte 2: the error occurred on transmission
abbrev pub prot_tx : ℕ
prot_tx = 0x80

-- byte 3: unspecified
abbrev pub loc_unspec : ℕ
loc_unspec = 0x00

-- byte 3: the CRC sequence
abbrev pub loc_crc_seq : ℕ
loc_crc_seq = 0x08

-- byte 3: the data section
abbrev pub loc_data : ℕ
loc_data = 0x0A

-- byte 3: the ACK slot
abbrev pub loc_ack : ℕ
loc_ack = 0x19

-- byte 3: the end of frame
abbrev pub loc_eof : ℕ
loc_eof = 0x1A

-- byte 3: the ACK delimiter
abbrev pub loc_ack_del : ℕ
loc_ack_del = 0x1B
