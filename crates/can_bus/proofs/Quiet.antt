use Rattle.std.proofs.Common.{◌≡◌, ℕ, zero, suc, ◌+◌, ◌-◌, Bool, true, false, List, [], ◌∷◌, ◌++◌, length, take, drop, if◌then◌else◌, refl, ap, ◌∙◌, append-nil}
use Rattle.can_event.specs.declared.bus_config.BusConfig.{BusConfig}
use Rattle.can_event.specs.declared.entry.Entry.{Entry}
use Rattle.can_bus.specs.Sockets.{is_open, iface_of, capacity_of, filters_of, options_of}
use Rattle.can_bus.specs.Posts.{posts_of}
use Rattle.can_bus.specs.Queues.{passing, candidates_of, queued_to, dropped_at, taken_from}

pub take_nil : {X : Type 0} (n : ℕ) → ◌≡◌ {A = List X} (take n []) []
take_nil zero = refl
take_nil (suc n) = refl

drop_nil : {X : Type 0} (n : ℕ) → ◌≡◌ {A = List X} (drop n []) []
drop_nil zero = refl
drop_nil (suc n) = refl

either_nil : {X : Type 0} (b : Bool) (xs : List X) → xs ≡ [] → (if b then xs else []) ≡ []
either_nil true xs h = h
either_nil false xs h = refl

-- an entry that posts nothing on the interface of a socket
pub candidates_of-none : (c : BusConfig) (past : List Entry) (e : Entry) (s : ℕ) → posts_of c past (iface_of past s) e.event e.reply ≡ [] → candidates_of c past s e.event e.reply ≡ []
candidates_of-none c past e s none = either_nil (is_open past s) _ (ap (passing (filters_of past s) (options_of past s) s) none)

-- an entry that offers a socket no item
pub queued_to-unoffered : (c : BusConfig) (past : List Entry) (e : Entry) (s : ℕ) → candidates_of c past s e.event e.reply ≡ [] → queued_to c (e ∷ past) s ≡ queued_to c past s
queued_to-unoffered c past e s none =
    let room = capacity_of past s + length (taken_from past s) - length (queued_to c past s) in
    ap (λ rs. queued_to c past s ++ take room rs) none ∙ ap (λ rs. queued_to c past s ++ rs) (take_nil room) ∙ append-nil (queued_to c past s)

pub dropped_at-unoffered : (c : BusConfig) (past : List Entry) (e : Entry) (s : ℕ) → candidates_of c past s e.event e.reply ≡ [] → dropped_at c (e ∷ past) s ≡ dropped_at c past s
dropped_at-unoffered c past e s none =
    let room = capacity_of past s + length (taken_from past s) - length (queued_to c past s) in
    ap (λ rs. dropped_at c past s ++ drop room rs) none ∙ ap (λ rs. dropped_at c past s ++ rs) (drop_nil room) ∙ append-nil (dropped_at c past s)

pub queued_to-quiet : (c : BusConfig) (past : List Entry) (e : Entry) (s : ℕ) → posts_of c past (iface_of past s) e.event e.reply ≡ [] → queued_to c (e ∷ past) s ≡ queued_to c past s
queued_to-quiet c past e s none = queued_to-unoffered c past e s (candidates_of-none c past e s none)

pub dropped_at-quiet : (c : BusConfig) (past : List Entry) (e : Entry) (s : ℕ) → posts_of c past (iface_of past s) e.event e.reply ≡ [] → dropped_at c (e ∷ past) s ≡ dropped_at c past s
dropped_at-quiet c past e s none = dropped_at-unoffered c past e s (candidates_of-none c past e s none)
