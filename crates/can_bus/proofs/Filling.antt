use Rattle.std.proofs.Common.{◌≡◌, ℕ, zero, suc, ◌+◌, ◌-◌, ◌^◌, ◌<◌, ◌≤◌, Bool, true, false, List, [], ◌∷◌, ◌++◌, length, map, take, drop, Option, Some, None, All, if◌then◌else◌, refl, sym, ap, ◌∙◌, arith, append_assoc, append-nil}
use Rattle.std.proofs.lemmas.List.{length-take, length-drop, length-append}
use Rattle.std.proofs.lemmas.List.Elements.{All-cons}
use Rattle.can_filter.specs.Filters.{CanFilter}
use Rattle.can_filter.specs.Passing.{wants}
use Rattle.can_filter.specs.declared.options.Options.{Options}
use Rattle.can_frame.specs.Frames.{ErrorMessage}
use Rattle.can_frame.specs.Sets.{is_in}
use Rattle.can_frame.specs.declared.iface.IfaceSet.{IfaceSet}
use Rattle.can_confine.specs.Confinement.{ErrorCounts, at_start}
use Rattle.can_fault.specs.declared.verdict.Verdict.{Verdict}
use Rattle.can_fault.specs.declared.verdict.Verdict.TheVariants as verdict
use Rattle.can_attempt.specs.Attempts.{Transmission, attempt_between, class_of, counts_at, counts_after, counts_in}
use Rattle.can_attempt.specs.declared.ack_mode.AckMode.{AckMode}
use Rattle.can_attempt.specs.declared.class.Class.{Class}
use Rattle.can_attempt.specs.declared.class.Class.TheVariants as class
use Rattle.can_attempt.specs.declared.nodes.Nodes.{Nodes}
use Rattle.can_attempt.proofs.Calm.{calm_stays, zero_at}
use Rattle.can_errframe.specs.declared.role.Role.{Role}
use Rattle.can_errframe.specs.declared.role.Role.TheVariants as role
use Rattle.can_event.specs.declared.pending.Pending.{Pending}
use Rattle.can_event.specs.declared.attempt.Tried.{Tried}
use Rattle.can_errframe.specs.ErrorMessages.{state_message}
use Rattle.can_event.specs.declared.received.Received.{Received}
use Rattle.can_bus.specs.Attempted.{Outcome, transmission_of}
use Rattle.can_bus.specs.News.{fault_posts, frame_posts}
use Rattle.can_bus.specs.Posts.{Post, is_own, attempt_posts, data_posts, error_posts, fault_message_for, role_at}
use Rattle.can_bus.specs.Queues.{passing}
use Rattle.can_bus.specs.State.{SocketState, filled, reached}
use Rattle.can_bus.proofs.Lawful.{data_posts-le, passing-le}

-- Items reach a socket one after another, or all together.

pub passing-append : (fs : List CanFilter) (o : Options) (s : ℕ) (ps qs : List Post) → passing fs o s (ps ++ qs) ≡ passing fs o s ps ++ passing fs o s qs
passing-append fs o s [] qs = refl
passing-append fs o s (p ∷ ps) qs =
    let rest = passing-append fs o s ps qs in
    elim (wants fs o p.received.item (is_own p.sender s)) as (λ b. (if b then p.received ∷ passing fs o s (ps ++ qs) else passing fs o s (ps ++ qs)) ≡ (if b then p.received ∷ passing fs o s ps else passing fs o s ps) ++ passing fs o s qs)
    [ true ↦ ap (λ rs. p.received ∷ rs) rest | false ↦ rest ]

take-both : (k : ℕ) (xs ys : List Received) → take k (xs ++ ys) ≡ take k xs ++ take (k - length xs) ys
take-both zero xs ys = let none : 0 - length xs ≡ 0 = omega arith in sym (ap (λ (n : ℕ). take n ys) none)
take-both (suc k) [] ys = let all : suc k ≡ suc k - 0 = omega arith in ap (λ (n : ℕ). take n ys) all
take-both (suc k) (x ∷ xs) ys = let rest : k - length xs ≡ suc k - suc (length xs) = omega arith in ap (λ (rs : List Received). x ∷ rs) (take-both k xs ys ∙ ap (λ (n : ℕ). take k xs ++ take n ys) rest)

length-dropped : (k : ℕ) (xs ys : List Received) → length (drop k (xs ++ ys)) ≡ length (drop k xs) + length (drop (k - length xs) ys)
length-dropped k xs ys = omega (arith, length-drop k (xs ++ ys), length-drop k xs, length-drop (k - length xs) ys, length-append xs ys)

room-left : (cap : ℕ) (ws xs : List Received) → cap - length (ws ++ take (cap - length ws) xs) ≡ cap - length ws - length xs
room-left cap ws xs = omega (arith, length-append ws (take (cap - length ws) xs), length-take (cap - length ws) xs)

pub filled-append : (v : SocketState) (xs ys : List Received) → filled (filled v xs) ys ≡ filled v (xs ++ ys)
filled-append v xs ys =
    let k = v.capacity - length v.waiting in
    let room : v.capacity - length (v.waiting ++ take (v.capacity - length v.waiting) xs) ≡ v.capacity - length v.waiting - length xs = room-left v.capacity v.waiting xs in
    let waits : (v.waiting ++ take k xs) ++ take (k - length xs) ys ≡ v.waiting ++ take k (xs ++ ys) = append_assoc v.waiting (take k xs) (take (k - length xs) ys) ∙ ap (λ rs. v.waiting ++ rs) (sym (take-both k xs ys)) in
    let counts : v.dropped + length (drop k xs) + length (drop (k - length xs) ys) ≡ v.dropped + length (drop k (xs ++ ys)) = omega (arith, length-dropped k xs ys) in
    ap (λ (n : ℕ). record v { waiting = (v.waiting ++ take k xs) ++ take n ys; dropped = v.dropped + length (drop k xs) + length (drop n ys) }) room
    ∙ ap (λ (rs : List Received). record v { waiting = rs; dropped = v.dropped + length (drop k xs) + length (drop (k - length xs) ys) }) waits
    ∙ ap (λ (n : ℕ). record v { waiting = v.waiting ++ take k (xs ++ ys); dropped = n }) counts

abbrev nothing : SocketState → List Received
nothing v = []

abbrev drop_of : ℕ → List Received
drop_of n = drop n []

pub filled-nil : (v : SocketState) → filled v [] ≡ v
filled-nil v =
    let k = v.capacity - length v.waiting in
    let none : ◌≡◌ {A = List Received} (take k []) [] = take_none k in
    let zero_more : v.dropped + length (drop_of k) ≡ v.dropped = omega (arith, length-drop k (nothing v)) in
    ap (λ (rs : List Received). record v { waiting = v.waiting ++ rs; dropped = v.dropped + length (drop_of k) }) none
    ∙ ap (λ (rs : List Received). record v { waiting = rs; dropped = v.dropped + length (drop_of k) }) (append-nil v.waiting)
    ∙ ap (λ (n : ℕ). record v { dropped = n }) zero_more
  where
    take_none : (n : ℕ) → ◌≡◌ {A = List Received} (take n []) []
    take_none zero = refl
    take_none (suc n) = refl

abbrev pub wanted : SocketState → List Post → List Received
wanted v ps = passing v.filters v.options v.number ps

-- two groups of posts, one after the other
pub filled-both : (v w x : SocketState) (ps qs : List Post) → w ≡ filled v (wanted v ps) → x ≡ filled w (wanted w qs) → x ≡ filled v (wanted v (ps ++ qs))
filled-both v w x ps qs first next =
    next
    ∙ ap (λ (u : SocketState). filled u (wanted u qs)) first
    ∙ filled-append v (wanted v ps) (wanted v qs)
    ∙ ap (filled v) (sym (passing-append v.filters v.options v.number ps qs))

-- the items that a socket drops from some posts
pub filled-dropped : (v w : SocketState) (ps : List Post) → w ≡ filled v (wanted v ps) → w.dropped ≤ v.dropped + length ps
filled-dropped v w ps is = omega (arith, ap (λ (u : SocketState). u.dropped) is, passing-le v.filters v.options v.number ps, length-drop (v.capacity - length v.waiting) (wanted v ps))

-- a fault and a change of state, one after the other
pub faults_told : (o : Outcome) (reporting : IfaceSet) (v s2 s3 : SocketState) (i : ℕ) (fault state : Option ErrorMessage) → i ≡ v.iface →
    s2 ≡ filled v (wanted v (if is_in i reporting then error_posts v.iface o.tried.moment fault else [])) →
    fault ≡ fault_message_for o.tried.class o.verdict (role_at (transmission_of o) i) →
    s3 ≡ filled s2 (wanted s2 (error_posts s2.iface o.tried.moment state)) →
    state ≡ state_message (counts_at o.nodes i) (counts_after (transmission_of o) i) →
    s3 ≡ reached (fault_posts reporting o) v
faults_told o reporting v s2 s3 i fault state at two fault_is three state_is =
    let same : s2.iface ≡ v.iface = ap (λ (u : SocketState). u.iface) two in
    let faults : (if is_in i reporting then error_posts v.iface o.tried.moment fault else []) ≡ (if is_in v.iface reporting then error_posts v.iface o.tried.moment (fault_message_for o.tried.class o.verdict (role_at (transmission_of o) v.iface)) else []) =
    ap (λ (e : Option ErrorMessage). if is_in i reporting then error_posts v.iface o.tried.moment e else []) fault_is
    ∙ ap (λ (k : ℕ). if is_in k reporting then error_posts v.iface o.tried.moment (fault_message_for o.tried.class o.verdict (role_at (transmission_of o) k)) else []) at in
    let states : error_posts s2.iface o.tried.moment state ≡ error_posts v.iface o.tried.moment (state_message (counts_at o.nodes v.iface) (counts_after (transmission_of o) v.iface)) =
    ap (λ (k : ℕ). error_posts k o.tried.moment state) same
    ∙ ap (error_posts v.iface o.tried.moment) state_is
    ∙ ap (λ (k : ℕ). error_posts v.iface o.tried.moment (state_message (counts_at o.nodes k) (counts_after (transmission_of o) k))) at in
    let fault_list = if is_in v.iface reporting then error_posts v.iface o.tried.moment (fault_message_for o.tried.class o.verdict (role_at (transmission_of o) v.iface)) else [] in
    let state_list = error_posts v.iface o.tried.moment (state_message (counts_at o.nodes v.iface) (counts_after (transmission_of o) v.iface)) in
    filled-both v s2 s3 fault_list state_list (two ∙ ap (λ (ps : List Post). filled v (wanted v ps)) faults) (three ∙ ap (λ (ps : List Post). filled s2 (wanted s2 ps)) states)

-- the items for all sockets, posted one after another or together
pub map-reached_both : (f g h : ℕ → List Post) → ((i : ℕ) → h i ≡ f i ++ g i) → (vs : List SocketState) → map (reached g) (map (reached f) vs) ≡ map (reached h) vs
map-reached_both f g h is [] = refl
map-reached_both f g h is (v ∷ vs) =
    let here : reached g (reached f v) ≡ reached h v = filled-both v (reached f v) (reached g (reached f v)) (f v.iface) (g v.iface) refl refl ∙ ap (λ (ps : List Post). filled v (wanted v ps)) (sym (is v.iface)) in
    let rest = map-reached_both f g h is vs in
    cc

pub map-reached_same : (f g : ℕ → List Post) → ((i : ℕ) → f i ≡ g i) → (vs : List SocketState) → map (reached f) vs ≡ map (reached g) vs
map-reached_same f g same [] = refl
map-reached_same f g same (v ∷ vs) =
    let here : reached f v ≡ reached g v = ap (λ (ps : List Post). filled v (wanted v ps)) (same v.iface) in
    let rest = map-reached_same f g same vs in
    cc

-- the items that an attempt posts on an interface, in two parts
pub in_two_parts : (reporting : IfaceSet) (o : Outcome) (p : Pending) (i : ℕ) → attempt_posts reporting (transmission_of o) o.tried (Some p) i ≡ frame_posts o.tried p i ++ fault_posts reporting o i
in_two_parts reporting o p i =
    append_assoc (data_posts i o.tried (Some p))
    (if is_in i reporting then error_posts i o.tried.moment (fault_message_for o.tried.class o.verdict (role_at (transmission_of o) i)) else [])
    (error_posts i o.tried.moment (state_message (counts_at o.nodes i) (counts_after (transmission_of o) i)))

-- a frame is one item that a socket may drop
pub frame-dropped : (t : Tried) (p : Pending) (vs : List SocketState) → All (λ (v : SocketState). v.dropped + 3 < 2 ^ 64) vs → All (λ (v : SocketState). v.dropped + 2 < 2 ^ 64) (map (reached (frame_posts t p)) vs)
frame-dropped t p [] few = λ k d h. absurd (omega (arith, h))
frame-dropped t p (v ∷ vs) few =
    let here : v.dropped + 3 < 2 ^ 64 = few 0 v (omega arith) in
    All-cons (λ (u : SocketState). u.dropped + 2 < 2 ^ 64) (reached (frame_posts t p) v) (map (reached (frame_posts t p)) vs)
    (omega (arith, here, filled-dropped v (reached (frame_posts t p) v) (frame_posts t p v.iface) refl, data_posts-le v.iface t (Some p)))
    (frame-dropped t p vs (λ k d h. few (suc k) d (omega (arith, h))))

-- without a fault, the frame is the only item that is posted
silent : (r : Option Role) → fault_message_for class.Done verdict.Good r ≡ None
silent None = refl
silent (Some role.Winner) = refl
silent (Some role.Named) = refl
silent (Some role.Other) = refl

neither : (b : Bool) → ◌≡◌ {A = List Post} (if b then [] else []) []
neither true = refl
neither false = refl

pub calm_posts : (reporting : IfaceSet) (nodes : Nodes) (w : ℕ) (v : Verdict) (a : AckMode) (t : Tried) (p : Option Pending) → v ≡ verdict.Good → t.class ≡ class.Done → class_of (attempt_between nodes w v a) ≡ class.Done
    → All (λ c. c ≡ at_start) nodes.counters → (i : ℕ) → attempt_posts reporting (attempt_between nodes w v a) t p i ≡ data_posts i t p
calm_posts reporting nodes w v a t p good done whole zeros i =
    let tr : Transmission = attempt_between nodes w v a in
    let r : Option Role = role_at tr i in
    let zero : counts_at nodes i ≡ at_start = zero_at nodes w zeros i in
    let after : counts_after tr i ≡ at_start = ap (λ (k : Class). counts_in k tr i) whole ∙ calm_stays tr i good zero in
    let no_fault : fault_message_for t.class v r ≡ None = ap (λ (k : Class). fault_message_for k v r) done ∙ ap (λ (u : Verdict). fault_message_for class.Done u r) good ∙ silent r in
    let no_change : state_message (counts_at nodes i) (counts_after tr i) ≡ None = ap (λ (k : ErrorCounts). state_message k (counts_after tr i)) zero ∙ ap (state_message at_start) after in
    ap (λ (e : Option ErrorMessage). data_posts i t p ++ (if is_in i reporting then error_posts i t.moment e else []) ++ error_posts i t.moment (state_message (counts_at nodes i) (counts_after tr i))) no_fault
    ∙ ap (λ (e : Option ErrorMessage). data_posts i t p ++ (if is_in i reporting then [] else []) ++ error_posts i t.moment e) no_change
    ∙ ap (λ (ps : List Post). data_posts i t p ++ ps ++ []) (neither (is_in i reporting))
    ∙ append-nil (data_posts i t p ++ [])
    ∙ append-nil (data_posts i t p)
