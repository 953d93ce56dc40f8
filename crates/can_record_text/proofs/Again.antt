-- A line that was written can be read again.
use Rattle.std.proofs.Common.{◌≡◌, ◌↔◌, ℕ, ◌^◌, ◌<◌, ◌≤◌, ◌==◌, Bool, true, false, IsTrue, List, [], ◌∷◌, ◌++◌, length, drop, Option, Some, None, Err, append_assoc, refl, sym, ap, subst, ◌∙◌, arith}
use Rattle.std.specs.Prelude.{All, codes, decimal}
use Rattle.std.proofs.lemmas.Bool.{lt-ltb, eqb-true, cond-true, cond-false}
use Rattle.std.proofs.lemmas.List.{append-nil}
use Rattle.std.proofs.Math.Seq.{drop-append_seam}
use Rattle.std.proofs.lemmas.List.Elements.{All-head, All-tail}
use Rattle.can_frame.specs.FrameText.{frame_spelling, IsItem}
use Rattle.can_frame.specs.Frames.{CanFrame}
use Rattle.can_frame.specs.declared.item.Item.{Item}
use Rattle.can_frame.specs.declared.item.Item.TheVariants as item
use Rattle.can_frame.specs.declared.iface.IfaceSet.{IfaceSet}
use Rattle.can_frame.specs.Sets.{no_ifaces}
use Rattle.can_filter.specs.Filters.{CanFilter}
use Rattle.can_fault.specs.declared.verdict.GlobalKind.TheVariants as global
use Rattle.can_fault.specs.declared.verdict.LocalKind.TheVariants as local
use Rattle.can_fault.specs.declared.verdict.Verdict.{Verdict}
use Rattle.can_fault.specs.declared.verdict.Verdict.TheVariants as verdict
use Rattle.can_attempt.specs.declared.class.Class.{Class}
use Rattle.can_attempt.specs.declared.class.Class.TheVariants as class
use Rattle.can_attempt.specs.Words.{class_word}
use Rattle.can_attempt.specs.declared.ack_mode.AckMode.{AckMode}
use Rattle.can_attempt.specs.declared.ack_mode.AckMode.TheVariants as ack
use Rattle.can_event.specs.declared.bus_config.BusConfig.{BusConfig}
use Rattle.can_event.specs.declared.socket_id.SocketId.{SocketId}
use Rattle.can_event.specs.declared.opt.Opt.{Opt}
use Rattle.can_event.specs.declared.opt.Opt.TheVariants as opt
use Rattle.can_event.specs.declared.event.Event.{Event}
use Rattle.can_event.specs.declared.event.Event.TheVariants.{Open, Close, SetFilters, SetOption, Send, Receive, Attempt, Restart, Down}
use Rattle.can_event.specs.declared.refusal.Refusal.{Refusal}
use Rattle.can_event.specs.declared.refusal.Refusal.TheVariants as refusal
use Rattle.can_event.specs.declared.received.Received.{Received}
use Rattle.can_event.specs.declared.attempt.Tried.{Tried}
use Rattle.can_event.specs.declared.attempt.Attempt.TheVariants as attempt
use Rattle.can_event.specs.declared.reply.Reply.{Reply}
use Rattle.can_event.specs.declared.reply.Reply.TheVariants as reply
use Rattle.can_event.specs.declared.entry.Entry.{Entry}
use Rattle.can_event.specs.Replies.{entry_of}
use Rattle.can_event.specs.Spelled.{LeavesEntry, MayRefuse, IsNumberOf, FitsReply}
use Rattle.std.proofs.lemmas.Option.{none-some, same_Some}
use Rattle.can_record_text.specs.declared.fault.Unread.{Unread}
use Rattle.can_record_text.specs.declared.fault.Unread.TheVariants as unread
use Rattle.can_record_text.specs.declared.version.Version.{Version}
use Rattle.can_record_text.specs.declared.version.Version.TheVariants as version
use Rattle.can_record_text.specs.inner.Words.{is_gap, is_word, word, after}
use Rattle.can_record_text.specs.Spelling.{gap_before, spell, set_word, mask_word, moment_word, flag_word, verdict_word, option_words, filter_words, refusal_words, received_words, event_words, restarted_words, reply_words, entry_words, entry_line, answered_line, ack_word, auto_restart_words, bus_words, end_words}
use Rattle.can_record_text.specs.Texts.{StartsWith, StartsWithLine}
use Rattle.can_frame.specs.Numbers.{number_in}
use Rattle.can_record_text.specs.Values.{HoldsFilter, HoldsOption, HoldsVerdict, HoldsEvent, HoldsTried, HoldsReply, HasLine, HasBusLine}
use Rattle.can_record_text.specs.inner.Reading.{Gives, number_at, long_at, mask_at, moment_at, socket_at, set_at, flag_at, item_at, frame_at, option_at, set_from, verdict_at, class_at, refusal_in, closed_at, data_at, error_at, tried_at, fixed_in, reply_at, moment_of}
use Rattle.can_record_text.specs.inner.Reading.{past_word, restarted_at, filter_at, filters_at, set_filters_at, setting_at, plain_at, event_at, entry_at, ack_at, auto_restart_at, config_at}
use Rattle.can_frame.proofs.Numerals.{value-digits}
use Rattle.can_record_text.proofs.Wording.{word-spelled, after-spelled}
use Rattle.can_record_text.proofs.Digits.{number_again, long_again, is_word-decimal, is_word-digits, moment_again, is_word-moment}
use Rattle.can_record_text.proofs.FrameWords.{item_again, is_word-item}

-- ---- fields

pub number_field : (limit n g : ℕ) (rest : List ℕ) → n < limit → limit ≤ 10 ^ 19 → is_gap g ≡ true → number_at limit (decimal n ++ g ∷ rest) ≡ Some (n, rest)
unfolding number_at
number_field limit n g rest lt wide gap =
    let small : n < 10 ^ 19 = omega (arith, lt, wide) in
    let plain = is_word-decimal n (omega (arith, small)) in
    rw (word-spelled (decimal n) rest g plain gap, after-spelled (decimal n) rest g plain gap, number_again n small, lt-ltb n limit lt) refl

long_field : (n g : ℕ) (rest : List ℕ) → n < 2 ^ 64 → is_gap g ≡ true → long_at (decimal n ++ g ∷ rest) ≡ Some (n, rest)
unfolding long_at
long_field n g rest lt gap =
    let plain = is_word-decimal n lt in
    rw (word-spelled (decimal n) rest g plain gap, after-spelled (decimal n) rest g plain gap, long_again n lt) refl

pub mask-plain : (n : ℕ) → is_word (mask_word n) ≡ true
unfolding mask_word
mask-plain n = is_word-digits 16 8 n

mask-again : (n : ℕ) → n < 2 ^ 32 → number_in 16 8 (mask_word n) ≡ Some n
unfolding mask_word
mask-again n lt = value-digits 16 8 n (omega arith) (omega arith) (omega (arith, lt))

mask_field : (n g : ℕ) (rest : List ℕ) → n < 2 ^ 32 → is_gap g ≡ true → mask_at (mask_word n ++ g ∷ rest) ≡ Some (n, rest)
unfolding mask_at
mask_field n g rest lt gap = rw (word-spelled (mask_word n) rest g (mask-plain n) gap, after-spelled (mask_word n) rest g (mask-plain n) gap, mask-again n lt) refl

pub set-plain : (set : IfaceSet) → is_word (set_word set) ≡ true
unfolding set_word
set-plain set = is_word-digits 16 4 set.0

set-again : (set : IfaceSet) → set.0 < 2 ^ 16 → number_in 16 4 (set_word set) ≡ Some set.0
unfolding set_word
set-again set lt = value-digits 16 4 set.0 (omega arith) (omega arith) (omega (arith, lt))

pub set_field : (set : IfaceSet) (g : ℕ) (rest : List ℕ) → set.0 < 2 ^ 16 → is_gap g ≡ true → set_at (set_word set ++ g ∷ rest) ≡ Some (set, rest)
unfolding set_at
set_field set g rest lt gap = rw (word-spelled (set_word set) rest g (set-plain set) gap, after-spelled (set_word set) rest g (set-plain set) gap, set-again set lt) refl

moment_field : (m g : ℕ) (rest : List ℕ) → m < 10 ^ 16 → is_gap g ≡ true → moment_at (moment_word m ++ g ∷ rest) ≡ Some (m, rest)
unfolding moment_at
moment_field m g rest lt gap =
    let plain = is_word-moment m lt in
    rw (word-spelled (moment_word m) rest g plain gap, after-spelled (moment_word m) rest g plain gap, moment_again m lt) refl

socket_field : (s : SocketId) (g : ℕ) (rest : List ℕ) → s.0 < 2 ^ 32 → is_gap g ≡ true → socket_at (decimal s.0 ++ g ∷ rest) ≡ Some (s, rest)
unfolding socket_at
socket_field s g rest lt gap = rw (number_field (2 ^ 32) s.0 g rest lt (omega arith) gap) refl

item_field : (i : Item) (g : ℕ) (rest : List ℕ) → IsItem i → is_gap g ≡ true → item_at (frame_spelling i ++ g ∷ rest) ≡ Some (i, rest)
unfolding item_at
item_field i g rest good gap =
    let plain = is_word-item i good in
    rw (word-spelled (frame_spelling i) rest g plain gap, after-spelled (frame_spelling i) rest g plain gap, item_again i good) refl

frame_field : (f : CanFrame) (g : ℕ) (rest : List ℕ) → IsItem (item.Data f) → is_gap g ≡ true → frame_at (frame_spelling (item.Data f) ++ g ∷ rest) ≡ Some (f, rest)
unfolding frame_at
frame_field f g rest good gap = rw (item_field (item.Data f) g rest good gap) refl

flag_field : (on : Bool) (rest : List ℕ) → flag_at (flag_word on ++ 32 ∷ rest) ≡ Some (on, rest)
unfolding flag_at word after
flag_field false rest = refl
flag_field true rest = refl

class_field : (c : Class) (rest : List ℕ) → class_at (class_word c ++ 32 ∷ rest) ≡ Some (c, rest)
unfolding class_at word after
class_field class.Done rest = refl
class_field class.LastBit rest = refl
class_field class.Destroyed rest = refl
class_field class.NoAck rest = refl

option_again : (o : Opt) (w : List ℕ) (ws : List (List ℕ)) (rest : List ℕ) → HoldsOption o → option_at (spell (option_words o ++ w ∷ ws) rest) ≡ Some (o, spell (w ∷ ws) rest)
unfolding option_at word after
option_again (opt.Loopback on) w ws rest h = rw (flag_field on (spell (w ∷ ws) rest)) refl
option_again (opt.RecvOwn on) w ws rest h = rw (flag_field on (spell (w ∷ ws) rest)) refl
option_again (opt.FdFrames on) w ws rest h = rw (flag_field on (spell (w ∷ ws) rest)) refl
option_again (opt.Join on) w ws rest h = rw (flag_field on (spell (w ∷ ws) rest)) refl
option_again (opt.ErrMask mask) w ws rest h = rw (mask_field mask 32 (spell (w ∷ ws) rest) h refl) refl

verdict_again : (v : Verdict) (rest : List ℕ) → HoldsVerdict v → verdict_at (verdict_word v ++ 32 ∷ rest) ≡ Some (v, rest)
unfolding verdict_at set_from word after
verdict_again verdict.Good rest h = refl
verdict_again (verdict.Global global.Bit) rest h = refl
verdict_again (verdict.Global global.Form) rest h = refl
verdict_again verdict.LastBit rest h = refl
verdict_again (verdict.Local set local.Stuff) rest h = rw (set_field set 32 rest h refl) refl
verdict_again (verdict.Local set local.Crc) rest h = rw (set_field set 32 rest h refl) refl
verdict_again (verdict.Local set local.Form) rest h = rw (set_field set 32 rest h refl) refl

pub gap_is : (ws : List (List ℕ)) → is_gap (gap_before ws) ≡ true
gap_is [] = refl
gap_is (w ∷ ws) = refl

filter_again : (acc : List CanFilter) (f : CanFilter) (g : ℕ) (rest : List ℕ) → HoldsFilter f → is_gap g ≡ true → filter_at acc (mask_word f.id ++ 32 ∷ (mask_word f.mask ++ g ∷ rest)) ≡ Some (acc ++ f ∷ [], rest)
unfolding filter_at
filter_again acc f g rest h gap = rw (mask_field f.id 32 (mask_word f.mask ++ g ∷ rest) h.id refl, mask_field f.mask g rest h.mask gap, h.unmarked) refl

filters_again : (fs acc : List CanFilter) (w : List ℕ) (ws : List (List ℕ)) (rest : List ℕ) → All HoldsFilter fs → filters_at acc (length fs) (spell (filter_words fs ++ w ∷ ws) rest) ≡ Some (acc ++ fs, spell (w ∷ ws) rest)
unfolding filters_at
filters_again [] acc w ws rest h = ap (λ (x : List CanFilter). Some (x, spell (w ∷ ws) rest)) (sym (append-nil acc))
filters_again (f ∷ fs) acc w ws rest h =
    rw (filter_again acc f (gap_before (filter_words fs ++ w ∷ ws)) (spell (filter_words fs ++ w ∷ ws) rest) (All-head HoldsFilter f fs h) (gap_is (filter_words fs ++ w ∷ ws)))
    (filters_again fs (acc ++ f ∷ []) w ws rest (All-tail HoldsFilter f fs h) ∙ ap (λ (x : List CanFilter). Some (x, spell (w ∷ ws) rest)) (append_assoc acc (f ∷ []) fs))

-- ---- replies

closed_again : (u d : ℕ) (rest : List ℕ) → u < 2 ^ 64 → d < 2 ^ 64 → closed_at (decimal u ++ 32 ∷ (decimal d ++ 10 ∷ rest)) ≡ Some (reply.Closed (record { unread = u; dropped = d }), rest)
unfolding closed_at
closed_again u d rest hu hd = rw (long_field u 32 (decimal d ++ 10 ∷ rest) hu refl, long_field d 10 rest hd refl) refl

data_again : (f : CanFrame) (from n m : ℕ) (rest : List ℕ) → IsItem (item.Data f) → from < 16 → n < 2 ^ 64 → m < 10 ^ 16
    → data_at (decimal from ++ 32 ∷ (decimal n ++ 32 ∷ (frame_spelling (item.Data f) ++ 32 ∷ (moment_word m ++ 10 ∷ rest)))) ≡ Some (reply.Received (Some (record { item = item.Data f; from = from; number = n; moment = m })), rest)
unfolding data_at
data_again f from n m rest good hi hn hm =
    rw (
      number_field 16 from 32 (decimal n ++ 32 ∷ (frame_spelling (item.Data f) ++ 32 ∷ (moment_word m ++ 10 ∷ rest))) hi (omega arith) refl,
      long_field n 32 (frame_spelling (item.Data f) ++ 32 ∷ (moment_word m ++ 10 ∷ rest)) hn refl,
      frame_field f 32 (moment_word m ++ 10 ∷ rest) good refl,
      moment_field m 10 rest hm refl,
    ) refl

error_again : (i : Item) (from m : ℕ) (rest : List ℕ) → IsItem i → from < 16 → m < 10 ^ 16 → error_at (decimal from ++ 32 ∷ (frame_spelling i ++ 32 ∷ (moment_word m ++ 10 ∷ rest))) ≡ Some (reply.Received (Some (record { item = i; from = from; number = 0; moment = m })), rest)
unfolding error_at
error_again i from m rest good hi hm =
    rw (
      number_field 16 from 32 (frame_spelling i ++ 32 ∷ (moment_word m ++ 10 ∷ rest)) hi (omega arith) refl,
      item_field i 32 (moment_word m ++ 10 ∷ rest) good refl,
      moment_field m 10 rest hm refl,
    ) refl

-- the text from the end of a word on
past_word-spelled : (w rest : List ℕ) (g : ℕ) → is_word w ≡ true → is_gap g ≡ true → past_word (w ++ g ∷ rest) ≡ g ∷ rest
past_word-spelled w rest g plain gap = rw (word-spelled w rest g plain gap) (drop-append_seam w (g ∷ rest))

none_restarted : (w rest : List ℕ) → is_word w ≡ true → restarted_at (w ++ 10 ∷ rest) ≡ Some (no_ifaces, rest)
unfolding restarted_at
none_restarted w rest plain = rw (past_word-spelled w rest 10 plain refl, after-spelled w rest 10 plain refl) refl

some_restarted : (w rest : List ℕ) (set : IfaceSet) → is_word w ≡ true → set.0 < 2 ^ 16 → restarted_at (w ++ 32 ∷ spell (codes "restarted" ∷ set_word set ∷ []) rest) ≡ Some (set, rest)
unfolding restarted_at set_from
some_restarted w rest set plain small = rw (past_word-spelled w (spell (codes "restarted" ∷ set_word set ∷ []) rest) 32 plain refl) (set_field set 10 rest small refl)

-- the restarted interfaces, after a word
restarted_again : (w rest : List ℕ) (set : IfaceSet) → is_word w ≡ true → set.0 < 2 ^ 16 → restarted_at (w ++ gap_before (restarted_words set) ∷ spell (restarted_words set) rest) ≡ Some (set, rest)
restarted_again w rest set plain small = when (set.0 == 0) refl
  where
    some : List (List ℕ)
    some = codes "restarted" ∷ set_word set ∷ []

    when : (b : Bool) → (set.0 == 0) ≡ b → restarted_at (w ++ gap_before (restarted_words set) ∷ spell (restarted_words set) rest) ≡ Some (set, rest)
    when true is =
        ap (λ (ws : List (List ℕ)). restarted_at (w ++ gap_before ws ∷ spell ws rest)) (cond-true (set.0 == 0) [] some is)
        ∙ none_restarted w rest plain
        ∙ ap (λ (n : ℕ). Some (record { 0 = n }, rest)) (sym (eqb-true set.0 0 is))
    when false is = ap (λ (ws : List (List ℕ)). restarted_at (w ++ gap_before ws ∷ spell ws rest)) (cond-false (set.0 == 0) [] some is) ∙ some_restarted w rest set plain small

idle_again : (moment : Option ℕ) (set : IfaceSet) (rest : List ℕ) → set.0 < 2 ^ 16 → reply_at moment (spell (codes "idle" ∷ restarted_words set) rest) ≡ Some (reply.Attempted (attempt.Idle set), rest)
unfolding reply_at
idle_again moment set rest small =
    let ws = restarted_words set in
    rw (word-spelled (codes "idle") (spell ws rest) (gap_before ws) refl (gap_is ws), restarted_again (codes "idle") rest set refl small) refl

-- the last words of a tried frame, and the text after them
abbrev tried_end : Tried → List ℕ → List ℕ
tried_end t rest = set_word t.off ++ gap_before (restarted_words t.restarted) ∷ spell (restarted_words t.restarted) rest

tried_again : (t : Tried) (rest : List ℕ) → HoldsTried t
    → tried_at t.moment (decimal t.winner ++ 32 ∷ (decimal t.number ++ 32 ∷ (frame_spelling (item.Data t.frame) ++ 32 ∷ (class_word t.class ++ 32 ∷ (set_word t.accepted ++ 32 ∷ tried_end t rest))))) ≡ Some (reply.Attempted (attempt.Tried t), rest)
unfolding tried_at
tried_again t rest h =
    let ws = restarted_words t.restarted in
    rw (
      number_field 16 t.winner 32 (decimal t.number ++ 32 ∷ (frame_spelling (item.Data t.frame) ++ 32 ∷ (class_word t.class ++ 32 ∷ (set_word t.accepted ++ 32 ∷ tried_end t rest)))) h.winner (omega arith) refl,
      long_field t.number 32 (frame_spelling (item.Data t.frame) ++ 32 ∷ (class_word t.class ++ 32 ∷ (set_word t.accepted ++ 32 ∷ tried_end t rest))) h.number refl,
      frame_field t.frame 32 (class_word t.class ++ 32 ∷ (set_word t.accepted ++ 32 ∷ tried_end t rest)) h.frame refl,
      class_field t.class (set_word t.accepted ++ 32 ∷ tried_end t rest),
      set_field t.accepted 32 (tried_end t rest) h.accepted refl,
      set_field t.off (gap_before ws) (spell ws rest) h.off (gap_is ws),
      restarted_again (set_word t.off) rest t.restarted (set-plain t.off) h.restarted,
    ) refl

-- the frame of an attempt was tried at the moment of the attempt
tried_moment : (e : Event) (t : Tried) → FitsReply e (reply.Attempted (attempt.Tried t)) → moment_of e ≡ Some t.moment
tried_moment (Attempt m v) t h = ap Some (sym h)
tried_moment (Open i c) t h = absurd h
tried_moment (Close s) t h = absurd h
tried_moment (SetFilters s fs) t h = absurd h
tried_moment (SetOption s o) t h = absurd h
tried_moment (Send s f) t h = absurd h
tried_moment (Receive s) t h = absurd h
tried_moment (Restart i m) t h = absurd h
tried_moment (Down i m) t h = absurd h

received_number : (e : Event) (r : Received) → FitsReply e (reply.Received (Some r)) → IsNumberOf r.item r.number
received_number (Receive s) r h = h
received_number (Attempt m v) r h = absurd h
received_number (Open i c) r h = absurd h
received_number (Close s) r h = absurd h
received_number (SetFilters s fs) r h = absurd h
received_number (SetOption s o) r h = absurd h
received_number (Send s f) r h = absurd h
received_number (Restart i m) r h = absurd h
received_number (Down i m) r h = absurd h

may_leave : (e : Event) (why : Refusal) → MayRefuse e why → LeavesEntry why
may_leave e refusal.FdOff h = refl
may_leave e refusal.NoInterface h = h
may_leave e refusal.BadCapacity h = h
may_leave e refusal.TooManySockets h = h
may_leave e refusal.NoSocket h = h
may_leave e refusal.BusOff h = h
may_leave e refusal.NoBuffers h = h
may_leave e refusal.NotBusOff h = h
may_leave e refusal.RecordFull h = h
may_leave e refusal.NoMemory h = h
may_leave e refusal.Down h = h

pub leaves : (e : Event) (why : Refusal) → FitsReply e (reply.Refused why) → LeavesEntry why
leaves (Receive s) why h = may_leave (Receive s) why h
leaves (Attempt m v) why h = may_leave (Attempt m v) why h
leaves (Open i c) why h = may_leave (Open i c) why h
leaves (Close s) why h = may_leave (Close s) why h
leaves (SetFilters s fs) why h = may_leave (SetFilters s fs) why h
leaves (SetOption s o) why h = may_leave (SetOption s o) why h
leaves (Send s f) why h = may_leave (Send s f) why h
leaves (Restart i m) why h = may_leave (Restart i m) why h
leaves (Down i m) why h = may_leave (Down i m) why h

received_again : (i : Item) (from n m : ℕ) (moment : Option ℕ) (rest : List ℕ) → IsNumberOf i n → IsItem i → from < 16 → n < 2 ^ 64 → m < 10 ^ 16
    → reply_at moment (spell (received_words i (record { item = i; from = from; number = n; moment = m })) rest) ≡ Some (reply.Received (Some (record { item = i; from = from; number = n; moment = m })), rest)
unfolding reply_at word after
received_again (item.Data f) from n m moment rest h good hi hn hm = data_again f from n m rest good hi hn hm
received_again (item.Error e) from n m moment rest h good hi hn hm = error_again (item.Error e) from m rest good hi hm ∙ ap (λ (k : ℕ). Some (reply.Received (Some (record { item = item.Error e; from = from; number = k; moment = m })), rest)) (sym h)

refused_again : (why : Refusal) (moment : Option ℕ) (rest : List ℕ) → LeavesEntry why → reply_at moment (spell (refusal_words why) rest) ≡ Some (reply.Refused why, rest)
unfolding reply_at fixed_in refusal_in word after
refused_again refusal.NoInterface moment rest h = refl
refused_again refusal.BadCapacity moment rest h = refl
refused_again refusal.TooManySockets moment rest h = refl
refused_again refusal.NoSocket moment rest h = refl
refused_again refusal.FdOff moment rest h = refl
refused_again refusal.BusOff moment rest h = refl
refused_again refusal.NoBuffers moment rest h = refl
refused_again refusal.NotBusOff moment rest h = refl
refused_again refusal.RecordFull moment rest h = absurd (cc (h))
refused_again refusal.NoMemory moment rest h = absurd (cc (h))
refused_again refusal.Down moment rest h = refl

reply_again : (e : Event) (r : Reply) (rest : List ℕ) → FitsReply e r → HoldsReply r → reply_at (moment_of e) (spell (reply_words r) rest) ≡ Some (r, rest)
unfolding reply_at fixed_in word after
reply_again e (reply.Opened s) rest fits h = rw (socket_field s 10 rest h refl) refl
reply_again e (reply.Closed c) rest fits h = closed_again c.unread c.dropped rest h.0 h.1
reply_again e reply.Done rest fits h = refl
reply_again e (reply.Sent n) rest fits h = rw (long_field n 10 rest h refl) refl
reply_again e (reply.Received None) rest fits h = refl
reply_again e (reply.Received (Some r)) rest fits h = received_again r.item r.from r.number r.moment (moment_of e) rest (received_number e r fits) h.0 h.1 h.2 h.3
reply_again e (reply.Attempted (attempt.Idle set)) rest fits h = idle_again (moment_of e) set rest h
reply_again e (reply.Attempted (attempt.Tried t)) rest fits h = rw (tried_moment e t fits) (tried_again t rest h)
reply_again e (reply.Refused why) rest fits h = refused_again why (moment_of e) rest (leaves e why fits)

-- ---- events, with the words that follow them

set_filters_again : (s : SocketId) (fs : List CanFilter) (w : List ℕ) (ws : List (List ℕ)) (rest : List ℕ) → HoldsEvent (SetFilters s fs)
    → set_filters_at (decimal s.0 ++ 32 ∷ (decimal (length fs) ++ gap_before (filter_words fs ++ w ∷ ws) ∷ spell (filter_words fs ++ w ∷ ws) rest)) ≡ Some (SetFilters s fs, spell (w ∷ ws) rest)
unfolding set_filters_at
set_filters_again s fs w ws rest holds =
    let behind = filter_words fs ++ w ∷ ws in
    rw (
      socket_field s 32 (decimal (length fs) ++ gap_before behind ∷ spell behind rest) holds.0 refl,
      number_field 513 (length fs) (gap_before behind) (spell behind rest) (omega (arith, holds.1)) (omega arith) (gap_is behind),
      filters_again fs [] w ws rest holds.2,
    ) refl

event_again : (e : Event) (w : List ℕ) (ws : List (List ℕ)) (rest : List ℕ) → HoldsEvent e → event_at (spell (event_words e ++ w ∷ ws) rest) ≡ Some (e, spell (w ∷ ws) rest)
unfolding event_at plain_at setting_at word after
event_again (Open i c) w ws rest h = rw (number_field 16 i 32 (decimal c ++ 32 ∷ spell (w ∷ ws) rest) h.0 (omega arith) refl, number_field (2 ^ 32) c 32 (spell (w ∷ ws) rest) h.1 (omega arith) refl) refl
event_again (Close s) w ws rest h = rw (socket_field s 32 (spell (w ∷ ws) rest) h refl) refl
event_again (SetFilters s fs) w ws rest h = set_filters_again s fs w ws rest h
event_again (SetOption s o) w ws rest h =
    let behind = option_words o ++ w ∷ ws in
    rw (socket_field s (gap_before behind) (spell behind rest) h.0 (gap_is behind), option_again o w ws rest h.1) refl
event_again (Send s f) w ws rest h = rw (socket_field s 32 (frame_spelling (item.Data f) ++ 32 ∷ spell (w ∷ ws) rest) h.0 refl, frame_field f 32 (spell (w ∷ ws) rest) h.1 refl) refl
event_again (Receive s) w ws rest h = rw (socket_field s 32 (spell (w ∷ ws) rest) h refl) refl
event_again (Attempt m v) w ws rest h = rw (moment_field m 32 (verdict_word v ++ 32 ∷ spell (w ∷ ws) rest) h.0 refl, verdict_again v (spell (w ∷ ws) rest) h.1) refl
event_again (Restart i m) w ws rest h = rw (number_field 16 i 32 (moment_word m ++ 32 ∷ spell (w ∷ ws) rest) h.0 (omega arith) refl, moment_field m 32 (spell (w ∷ ws) rest) h.1 refl) refl
event_again (Down i m) w ws rest h = rw (number_field 16 i 32 (moment_word m ++ 32 ∷ spell (w ∷ ws) rest) h.0 (omega arith) refl, moment_field m 32 (spell (w ∷ ws) rest) h.1 refl) refl

-- ---- entries

-- the entry that a line spells
pub entry_again : (v : Version) (c : BusConfig) (e : Entry) (rest : List ℕ) → HasLine v c e → entry_at (entry_line e rest) ≡ Some e
unfolding entry_at
entry_again v c e rest h =
    let ws = reply_words e.reply in
    rw (
      event_again e.event (codes "=") ws rest h.event,
      after-spelled (codes "=") (spell ws rest) (gap_before ws) refl (gap_is ws),
      reply_again e.event e.reply rest h.spelled.fits h.reply,
    ) refl

-- ---- the bus and the end

ack_field : (a : AckMode) (rest : List ℕ) → ack_at (ack_word a ++ 32 ∷ rest) ≡ Some (a, rest)
unfolding ack_at word after
ack_field ack.Always rest = refl
ack_field ack.Peers rest = refl

auto_restart_again : (v : Version) (c : BusConfig) (rest : List ℕ) → HasBusLine v c → auto_restart_at v (spell (auto_restart_words v c) rest) ≡ Some (c.auto_restart, rest)
unfolding auto_restart_at
auto_restart_again version.One c rest h = ap (λ (n : ℕ). Some (n, rest)) (sym h.restarts)
auto_restart_again version.Two c rest h = number_field (2 ^ 32) c.auto_restart 10 rest (omega (arith, h.proper.few_attempts)) (omega arith) refl
auto_restart_again version.Three c rest h = number_field (2 ^ 32) c.auto_restart 10 rest (omega (arith, h.proper.few_attempts)) (omega arith) refl
auto_restart_again version.Four c rest h = number_field (2 ^ 32) c.auto_restart 10 rest (omega (arith, h.proper.few_attempts)) (omega arith) refl
auto_restart_again version.Five c rest h = number_field (2 ^ 32) c.auto_restart 10 rest (omega (arith, h.proper.few_attempts)) (omega arith) refl
auto_restart_again version.Six c rest h = number_field (2 ^ 32) c.auto_restart 10 rest (omega (arith, h.proper.few_attempts)) (omega arith) refl

-- the configuration that the line of a bus spells
pub config_again : (v : Version) (c : BusConfig) (rest : List ℕ) → HasBusLine v c → config_at v (spell (bus_words v c) rest) ≡ Some c
unfolding config_at word after
config_again v c rest h =
    let few : c.ifaces < 256 = omega (arith, h.proper.few_ifaces) in
    let short : c.tx_capacity < 2 ^ 32 = omega (arith, h.proper.few_frames) in
    let small : c.limit < 2 ^ 32 = omega (arith, h.proper.few_entries) in
    let ws = auto_restart_words v c in
    let behind = decimal c.limit ++ gap_before ws ∷ spell ws rest in
    rw (
      number_field 256 c.ifaces 32 (ack_word c.ack ++ 32 ∷ (set_word c.reporting ++ 32 ∷ (decimal c.tx_capacity ++ 32 ∷ behind))) few (omega arith) refl,
      ack_field c.ack (set_word c.reporting ++ 32 ∷ (decimal c.tx_capacity ++ 32 ∷ behind)),
      set_field c.reporting 32 (decimal c.tx_capacity ++ 32 ∷ behind) h.reporting refl,
      number_field (2 ^ 32) c.tx_capacity 32 behind short (omega arith) refl,
      number_field (2 ^ 32) c.limit (gap_before ws) (spell ws rest) small (omega arith) (gap_is ws),
      auto_restart_again v c rest h,
    ) refl

-- the last line of a record is not the line of an entry
pub end_is_none : (count : ℕ) (rest : List ℕ) → entry_at (spell (end_words count) rest) ≡ None
unfolding entry_at event_at plain_at setting_at word after
end_is_none count rest = refl

-- if a text begins with a line, only a lack of memory prevents reading it
pub refused : (u : Unread) (text : List ℕ) → Gives (Err u) (entry_at text) → (v : Version) (c : BusConfig) (e : Entry) (rest : List ℕ) → HasLine v c e → text ≡ entry_line e rest → u ≡ unread.NoMemory
refused unread.NoMemory text h v c e rest spelled is = refl
refused unread.Bad text h v c e rest spelled is = absurd (none-some e (sym h ∙ ap entry_at is ∙ entry_again v c e rest spelled))

-- a text begins with the line of at most one entry
pub same_entry : (read : Entry) (text : List ℕ) → entry_at text ≡ Some read → (v : Version) (c : BusConfig) (e : Entry) (rest : List ℕ) → HasLine v c e → text ≡ entry_line e rest → e ≡ read
same_entry read text h v c e rest spelled is = same_Some e read (sym (ap entry_at is ∙ entry_again v c e rest spelled) ∙ h)

-- a line, and the text after it
pub spell-rest : (ws : List (List ℕ)) (rest : List ℕ) → spell ws [] ++ rest ≡ spell ws rest
spell-rest [] rest = refl
spell-rest (w ∷ ws) rest = append_assoc w (gap_before ws ∷ spell ws []) rest ∙ ap (λ (x : List ℕ). w ++ gap_before ws ∷ x) (spell-rest ws rest)

-- a text that begins with a line is that line and some more text
pub starts-with-line : (event : Event) (r : Reply) (text rest : List ℕ) → text ≡ answered_line event r rest → StartsWithLine event r text
starts-with-line event r text rest is =
    let ws = entry_words (entry_of event r) in
    let behind : drop (length (spell ws [])) text ≡ rest = ap (drop (length (spell ws []))) (is ∙ sym (spell-rest ws rest)) ∙ drop-append_seam (spell ws []) rest in
    is ∙ ap (spell ws) (sym behind)

-- a text begins with a line exactly if it begins with the bytes of the line
pub starts-with-bytes : (event : Event) (r : Reply) (text line : List ℕ) (same : Bool) → line ≡ answered_line event r [] → (IsTrue same → StartsWith line text) → ((rest : List ℕ) → text ≡ line ++ rest → IsTrue same)
    → IsTrue same ↔ StartsWithLine event r text
starts-with-bytes event r text line same is begins always =
    let ws = entry_words (entry_of event r) in
    let rest = drop (length (spell ws [])) text in (
      λ h. subst (λ (front : List ℕ). text ≡ front ++ drop (length front) text) is (begins h) ∙ spell-rest ws rest,
      λ starts. always rest (starts ∙ sym (spell-rest ws rest) ∙ ap (λ (front : List ℕ). front ++ rest) (sym is)),
    )

-- a buffer that was cleared contains what was appended to it
pub kept : (old new l : List ℕ) → old ≡ [] → new ≡ old ++ l → new ≡ l
kept old new l nothing h = h ∙ ap (λ (x : List ℕ). x ++ l) nothing

-- if the line of a bus is at the beginning of a text, it is read
pub config_refused : (v : Version) (text : List ℕ) → None ≡ config_at v text → (c : BusConfig) (rest : List ℕ) → HasBusLine v c → text ≡ spell (bus_words v c) rest → ⊥
config_refused v text h c rest good is = none-some c (h ∙ ap (config_at v) is ∙ config_again v c rest good)

-- a text begins with the line of at most one bus
pub same_config : (v : Version) (read : BusConfig) (text : List ℕ) → Some read ≡ config_at v text → (c : BusConfig) (rest : List ℕ) → HasBusLine v c → text ≡ spell (bus_words v c) rest → c ≡ read
same_config v read text h c rest good is = same_Some c read (sym (ap (config_at v) is ∙ config_again v c rest good) ∙ sym h)

pub nothing_is_none : entry_at [] ≡ None
unfolding entry_at event_at plain_at setting_at word after
nothing_is_none = refl

-- a line is not empty
pub line_some : (v : Version) (c : BusConfig) (e : Entry) → HasLine v c e → entry_line e [] ≡ [] → ⊥
line_some v c e h is = none-some e (sym (sym (entry_again v c e [] h) ∙ ap entry_at is ∙ nothing_is_none))
