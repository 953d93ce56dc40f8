use Rattle.std.specs.Prelude.{ℕ, ◌==◌, Bool, true, false, not, ◌&&◌, ◌||◌, List, bit_and}
use Rattle.can_frame.specs.Frames.{word_of, is_fd}
use Rattle.can_frame.specs.declared.item.Item.{Item}
use Rattle.can_frame.specs.declared.item.Item.TheVariants.{Data, Error}
use Rattle.can_filter.specs.declared.options.Options.{Options}
pub use Rattle.can_filter.specs.Filters.{CanFilter, is_inverted, inverse_of, agrees}
pub use Rattle.can_filter.specs.Filters.{matches, passes, everything, receives_all}

-- The frames that a socket receives, as the kernel's networking/can document and linux/can/raw.h define them.

-- an error class and an error mask share a bit (can_err_mask_t of linux/can.h)
abbrev pub shares_class : ℕ → ℕ → Bool
shares_class class mask = not (bit_and class mask == 0)

-- the items that a socket receives: a data frame or remote frame that passes its filters, but the socket's own frames
-- only with recv_own (CAN_RAW_RECV_OWN_MSGS) and FD frames only with fd (CAN_RAW_FD_FRAMES); an error message frame if
-- its class shares a bit with the error mask (CAN_RAW_ERR_FILTER), whatever filters and join are (own choice)
abbrev pub wants : List CanFilter → Options → Item → Bool → Bool
wants filters options (Data frame) is_own =
    (passes filters options.join (word_of frame) && (not is_own || options.recv_own))
    && (not (is_fd frame.payload) || options.fd)
wants filters options (Error message) is_own = shares_class message.class options.err_mask

-- the options of a newly opened socket (linux/can/raw.h)
abbrev pub default_options : Options
default_options = record { loopback = true; recv_own = false; join = false; err_mask = 0; fd = false }
