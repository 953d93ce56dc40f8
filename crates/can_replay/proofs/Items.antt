use Rattle.std.proofs.Common.{◌≡◌, ℕ, zero, suc, ◌+◌, ◌≤◌, List, [], ◌∷◌, ◌++◌, length, drop, slice_get, Option, Some, None, refl, sym, ap, ◌∙◌, arith}
use Rattle.std.specs.Option.{option_map}
use Rattle.std.proofs.Math.ListN.{drop_of_length-le}
use Rattle.can_event.specs.declared.received.Received.{Received}
use Rattle.can_event.specs.declared.reply.Closed.{Closed}
use Rattle.can_event.specs.declared.socket_id.SocketId.{SocketId}
use Rattle.can_bus.specs.State.{SocketState}
use Rattle.can_bus.specs.Stats.{numbered_counts, waiting_in}
use Rattle.can_replay.specs.EventsText.{put_words}
use Rattle.can_replay.specs.Words.{parted, put_word}
use Rattle.can_replay.specs.inner.Seen.{counts_in, dropped_in, item_in, put_in}
use Rattle.can_replay.proofs.Lists.{no_words, word_more}

-- The items of a socket. If the socket or the item does not exist, nothing is written.

pub no_dropped : (o : Option SocketState) (seen : Closed) → None ≡ option_map numbered_counts o → dropped_in o seen ≡ []
no_dropped None seen h = refl
no_dropped (Some v) seen h = cc

pub no_put : (o : Option SocketState) (seen : Closed) → None ≡ option_map numbered_counts o → put_in o seen ≡ []
no_put None seen h = refl
no_put (Some v) seen h = cc

pub no_item : (s : ℕ) (o : Option Received) → None ≡ o → item_in s o ≡ []
no_item s None h = refl
no_item s (Some r) h = cc

-- The counts of a socket equal the counts that were stored for it.
pub counts_seen : (o : Option SocketState) (p : SocketId × Closed) → Some p ≡ option_map numbered_counts o → Some p.1 ≡ option_map counts_in o
counts_seen None p h = cc
counts_seen (Some v) p h = cc

-- One item is written, and the items after it remain.
item_next : (s : ℕ) (items : List Received) (k : ℕ) (text new : List ℕ) → new ≡ text ++ parted (item_in s (slice_get items k)) → new ++ parted (put_words s (drop (suc k) items)) ≡ text ++ parted (put_words s (drop k items))
item_next s [] k text new next = ap (λ (x : List ℕ). x ++ parted []) (next ∙ sym (no_words text [] refl)) ∙ ends k
  where
    ends : (n : ℕ) → text ++ parted [] ≡ text ++ parted (put_words s (drop n []))
    ends zero = refl
    ends (suc n) = refl
item_next s (r ∷ items) zero text new next = word_more text new (put_word s r.item) (put_words s items) next
item_next s (r ∷ items) (suc k) text new next = item_next s items k text new next

pub item_more : (s : ℕ) (items : List Received) (k : ℕ) (start text new : List ℕ) (first : List (List ℕ)) → text ++ parted (put_words s (drop k items)) ≡ start ++ parted first → new ≡ text ++ parted (item_in s (slice_get items k)) → new ++ parted (put_words s (drop (k + 1) items)) ≡ start ++ parted first
item_more s items k start text new first before next =
    let after : k + 1 ≡ suc k = omega arith in
    ap (λ (n : ℕ). new ++ parted (put_words s (drop n items))) after ∙ item_next s items k text new next ∙ before

-- All items of a socket, starting at an index, were written.
pub items_whole : (o : Option SocketState) (id : SocketId) (counts seen : Closed) (k : ℕ) (start now : List ℕ) → Some (id, counts) ≡ option_map numbered_counts o → counts.unread ≤ k → now ++ parted (put_words id.0 (drop k (waiting_in o))) ≡ start ++ parted (put_words id.0 (drop seen.unread (waiting_in o))) → now ≡ start ++ parted (put_in o seen)
items_whole None id counts seen k start now is ended before = cc
items_whole (Some v) id counts seen k start now is ended before =
    let there : (id, counts) ≡ numbered_counts v = cc in
    let number : id.0 ≡ v.number = ap (λ (p : SocketId × Closed). p.0.0) there in
    let count : counts.unread ≡ length v.waiting = ap (λ (p : SocketId × Closed). p.1.unread) there in
    let none : drop k v.waiting ≡ [] = drop_of_length-le v.waiting (omega (arith, ended, count)) in
    no_words now (put_words id.0 (drop k v.waiting)) (ap (put_words id.0) none)
    ∙ before
    ∙ ap (λ (n : ℕ). start ++ parted (put_words n (drop seen.unread v.waiting))) number
