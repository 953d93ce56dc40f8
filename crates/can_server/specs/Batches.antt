use Rattle.std.specs.Prelude.{ℕ, List}
use Rattle.std.specs.List.{flat_map}
use Rattle.can_server.specs.declared.batch.Room.{Room}
use Rattle.can_dialog.specs.Deliveries.{delivery_text}

-- The strings that a server writes to a client (own choice).

-- the strings for the items in these buffers, in order
abbrev pub texts_of : List Room → List ℕ
texts_of rooms = flat_map (λ r. delivery_text r.delivery r.item) rooms
