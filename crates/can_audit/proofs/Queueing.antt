use Rattle.std.proofs.Common.{◌≡◌, ℕ, ◌+◌, ◌<◌, Bool, true, false, List, [], ◌∷◌, ◌++◌, length, take, drop, get_or, filter, if◌then◌else◌, refl, sym, ap, ◌∙◌, subst, append-nil}
use Rattle.std.proofs.lemmas.Bool.{cond-true, cond-false}
use Rattle.std.proofs.lemmas.List.{take_more}
use Rattle.std.proofs.lemmas.List.Elements.{filter-append}
use Rattle.can_event.specs.declared.bus_config.BusConfig.{BusConfig}
use Rattle.can_event.specs.declared.entry.Entry.{Entry}
use Rattle.can_event.specs.declared.event.Event.{Event}
use Rattle.can_event.specs.declared.reply.Reply.{Reply}
use Rattle.can_event.specs.declared.received.Received.{Received}
use Rattle.can_filter.specs.Filters.{CanFilter}
use Rattle.can_filter.specs.declared.options.Options.{Options}
use Rattle.can_bus.specs.Posts.{Post, posts_of}
use Rattle.can_bus.specs.Queues.{passing, candidates_of, candidates_for, queued_to, dropped_at}
use Rattle.can_bus.specs.Sockets.{is_open, filters_of, options_of}
use Rattle.can_audit.specs.inner.Noted.{room_after}
use Rattle.can_replay.specs.Histories.{before, IsHistory}
use Rattle.can_replay.proofs.EntriesBefore.{before_more}
use Rattle.can_audit.proofs.Counting.{earlier}
use Rattle.can_audit.proofs.Replying.{IsOn}

-- The items that reach a socket after each entry.

-- an entry was read: the histories before and after it are legal
pub record Reads (c : BusConfig) (es : List Entry) (k : ℕ) (e : Entry) : Type 0 where
  pub more : before es (k + 1) ≡ e ∷ before es k
  pub now : IsHistory c (e ∷ before es k)
  pub past : IsHistory c (before es k)

pub reads : (c : BusConfig) (es : List Entry) (k : ℕ) (e : Entry) → k < length es → e ≡ get_or es k e → IsHistory c (before es (k + 1)) → Reads c es k e
reads c es k e lt read h =
    let more = before_more es k e lt read in
    let now : IsHistory c (e ∷ before es k) = subst (IsHistory c) more h in
    record { more = more; now = now; past = earlier c e (before es k) now }

pub offered_more : (c : BusConfig) (es : List Entry) (k s : ℕ) (e : Entry) (old more new : List Received) → Reads c es k e → old ≡ candidates_for c (before es k) s → more ≡ candidates_of c (before es k) s e.event e.reply → new ≡ old ++ more → new ≡ candidates_for c (before es (k + 1)) s
offered_more c es k s e old more new r so_far is all =
    all ∙ ap (λ (rs : List Received). rs ++ more) so_far ∙ ap (λ (rs : List Received). candidates_for c (before es k) s ++ rs) is ∙ ap (λ (h : List Entry). candidates_for c h s) (sym r.more)

abbrev room_at : BusConfig → List Entry → ℕ → ℕ
room_at c past s = room_after past s (length (queued_to c past s))

pub queued_more : (c : BusConfig) (es : List Entry) (k s : ℕ) (e : Entry) (room : ℕ) (old more new : List Received) → Reads c es k e → old ≡ queued_to c (before es k) s
    → more ≡ candidates_of c (before es k) s e.event e.reply → room ≡ room_after (before es k) s (length old)
    → new ≡ old ++ take room more → new ≡ queued_to c (before es (k + 1)) s
queued_more c es k s e room old more new r so_far is room_is all =
    let past = before es k in
    all
    ∙ ap (λ (n : ℕ). old ++ take n more) (room_is ∙ ap (λ (rs : List Received). room_after past s (length rs)) so_far)
    ∙ ap (λ (rs : List Received). rs ++ take (room_at c past s) more) so_far
    ∙ ap (λ (rs : List Received). queued_to c past s ++ take (room_at c past s) rs) is
    ∙ ap (λ (h : List Entry). queued_to c h s) (sym r.more)

pub dropped_more : (c : BusConfig) (es : List Entry) (k s : ℕ) (e : Entry) (room : ℕ) (queued old more new : List Received) → Reads c es k e
    → queued ≡ queued_to c (before es k) s → old ≡ dropped_at c (before es k) s → more ≡ candidates_of c (before es k) s e.event e.reply
    → room ≡ room_after (before es k) s (length queued) → new ≡ old ++ drop room more → new ≡ dropped_at c (before es (k + 1)) s
dropped_more c es k s e room queued old more new r queued_are so_far is room_is all =
    let past = before es k in
    all
    ∙ ap (λ (n : ℕ). old ++ drop n more) (room_is ∙ ap (λ (rs : List Received). room_after past s (length rs)) queued_are)
    ∙ ap (λ (rs : List Received). rs ++ drop (room_at c past s) more) so_far
    ∙ ap (λ (rs : List Received). dropped_at c past s ++ drop (room_at c past s) rs) is
    ∙ ap (λ (h : List Entry). dropped_at c h s) (sym r.more)

-- the items that an entry offers to an open socket
pub candidates-are : (c : BusConfig) (past : List Entry) (s : ℕ) (e : Event) (r : Reply) (i : ℕ) (fs : List CanFilter) (os : Options) (ps : List Post) → IsOn past s i → fs ≡ filters_of past s → os ≡ options_of past s → ps ≡ posts_of c past i e r → passing fs os s ps ≡ candidates_of c past s e r
candidates-are c past s e r i fs os ps on filters_are options_are posts_are =
    ap (λ (f : List CanFilter). passing f os s ps) filters_are
    ∙ ap (λ (o : Options). passing (filters_of past s) o s ps) options_are
    ∙ ap (passing (filters_of past s) (options_of past s) s) (posts_are ∙ ap (λ (k : ℕ). posts_of c past k e r) on.iface)
    ∙ sym (cond-true (is_open past s) _ _ on.there)

pub none-offered : (c : BusConfig) (past : List Entry) (s : ℕ) (e : Event) (r : Reply) → is_open past s ≡ false → [] ≡ candidates_of c past s e r
none-offered c past s e r shut = sym (cond-false (is_open past s) _ _ shut)

-- one more item is kept or not kept
pub kept_more : (test : Received → Bool) (items : List Received) (k : ℕ) (x : Received) (is_kept : Bool) (old new : List Received) → k < length items
    → x ≡ get_or items k x → is_kept ≡ test x → old ≡ filter test (take k items) → new ≡ (if is_kept then old ++ x ∷ [] else old) → new ≡ filter test (take (k + 1) items)
kept_more test items k x is_kept old new lt read asked so_far stepped =
    stepped
    ∙ ap (λ (rs : List Received). if is_kept then rs ++ x ∷ [] else rs) so_far
    ∙ choose is_kept
    ∙ ap (λ (b : Bool). filter test (take k items) ++ (if b then x ∷ [] else [])) asked
    ∙ sym (filter-append test (take k items) (x ∷ []))
    ∙ ap (λ (y : Received). filter test (take k items ++ y ∷ [])) read
    ∙ ap (filter test) (sym (take_more items k x lt))
  where
    choose : (b : Bool) → (if b then filter test (take k items) ++ x ∷ [] else filter test (take k items)) ≡ filter test (take k items) ++ (if b then x ∷ [] else [])
    choose true = refl
    choose false = sym (append-nil (filter test (take k items)))
