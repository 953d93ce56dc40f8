-- The words of a line. No byte of a word is an LF.
use Rattle.std.proofs.Common.{◌≡◌, ◌^◌, ◌<◌, ◌==◌, cond, Bool, true, false, List, [], ◌∷◌, ◌++◌, length, Some, None, refl, arith}
use Rattle.std.specs.Prelude.{ℕ, codes, decimal}
use Rattle.can_frame.specs.declared.item.Item.{Item}
use Rattle.can_frame.specs.declared.item.Item.TheVariants as item
use Rattle.can_frame.specs.declared.iface.IfaceSet.{IfaceSet}
use Rattle.can_frame.specs.FrameText.{IsItem}
use Rattle.can_filter.specs.Filters.{CanFilter}
use Rattle.can_fault.specs.declared.verdict.GlobalKind.TheVariants as global
use Rattle.can_fault.specs.declared.verdict.LocalKind.TheVariants as local
use Rattle.can_fault.specs.declared.verdict.Verdict.{Verdict}
use Rattle.can_fault.specs.declared.verdict.Verdict.TheVariants as verdict
use Rattle.can_attempt.specs.declared.ack_mode.AckMode.{AckMode}
use Rattle.can_attempt.specs.declared.ack_mode.AckMode.TheVariants as ack
use Rattle.can_attempt.specs.declared.class.Class.{Class}
use Rattle.can_attempt.specs.declared.class.Class.TheVariants as class
use Rattle.can_attempt.specs.Words.{class_word}
use Rattle.can_event.specs.declared.bus_config.BusConfig.{BusConfig}
use Rattle.can_event.specs.declared.opt.Opt.{Opt}
use Rattle.can_event.specs.declared.opt.Opt.TheVariants as opt
use Rattle.can_event.specs.declared.entry.Entry.{Entry}
use Rattle.can_event.specs.declared.event.Event.{Event}
use Rattle.can_event.specs.declared.event.Event.TheVariants.{Open, Close, SetFilters, SetOption, Send, Receive, Attempt, Restart, Down}
use Rattle.can_event.specs.declared.received.Received.{Received}
use Rattle.can_event.specs.declared.refusal.Refusal.{Refusal}
use Rattle.can_event.specs.declared.refusal.Refusal.TheVariants as refusal
use Rattle.can_event.specs.declared.reply.Reply.{Reply}
use Rattle.can_event.specs.declared.reply.Reply.TheVariants as reply
use Rattle.can_event.specs.declared.attempt.Tried.{Tried}
use Rattle.can_event.specs.declared.attempt.Attempt.TheVariants as attempt
use Rattle.can_record_text.specs.declared.version.Version.{Version}
use Rattle.can_record_text.specs.declared.version.Version.TheVariants as version
use Rattle.can_record_text.specs.inner.Words.{is_word}
use Rattle.can_record_text.specs.Spelling.{flag_word, option_words, verdict_word, filter_words, refusal_words, received_words, event_words, restarted_words, reply_words, entry_words, ack_word, auto_restart_words, bus_words, end_words, set_word}
use Rattle.can_record_text.specs.Values.{HoldsEvent, HoldsReply, HoldsTried, HasLine, HasBusLine}
use Rattle.can_record_text.proofs.Again.{mask-plain, set-plain}
use Rattle.can_record_text.proofs.Digits.{is_word-decimal, is_word-moment}
use Rattle.can_record_text.proofs.FrameWords.{is_word-item}

-- Each element of the list is a word.
abbrev pub AreWords : List (List ℕ) → Type 0
AreWords [] = Unit {0}
AreWords (w ∷ ws) = (is_word w ≡ true) × AreWords ws

words-append : (ws vs : List (List ℕ)) → AreWords ws → AreWords vs → AreWords (ws ++ vs)
words-append [] vs h k = k
words-append (w ∷ ws) vs h k = (h.0, words-append ws vs h.1 k)

flag : (on : Bool) → is_word (flag_word on) ≡ true
flag false = refl
flag true = refl

class_is : (c : Class) → is_word (class_word c) ≡ true
class_is class.Done = refl
class_is class.LastBit = refl
class_is class.Destroyed = refl
class_is class.NoAck = refl

ack_is : (a : AckMode) → is_word (ack_word a) ≡ true
ack_is ack.Always = refl
ack_is ack.Peers = refl

verdict_is : (v : Verdict) → is_word (verdict_word v) ≡ true
verdict_is verdict.Good = refl
verdict_is (verdict.Global global.Bit) = refl
verdict_is (verdict.Global global.Form) = refl
verdict_is verdict.LastBit = refl
verdict_is (verdict.Local set local.Stuff) = set-plain set
verdict_is (verdict.Local set local.Crc) = set-plain set
verdict_is (verdict.Local set local.Form) = set-plain set

options : (o : Opt) → AreWords (option_words o)
options (opt.Loopback on) = (refl, (flag on, tt))
options (opt.RecvOwn on) = (refl, (flag on, tt))
options (opt.Join on) = (refl, (flag on, tt))
options (opt.FdFrames on) = (refl, (flag on, tt))
options (opt.ErrMask mask) = (refl, (mask-plain mask, tt))

filters : (fs : List CanFilter) → AreWords (filter_words fs)
filters [] = tt
filters (f ∷ fs) = (mask-plain f.id, (mask-plain f.mask, filters fs))

number : (n limit : ℕ) → n < limit → limit < 2 ^ 64 → is_word (decimal n) ≡ true
number n limit small wide = is_word-decimal n (omega (arith, small, wide))

events : (e : Event) → HoldsEvent e → AreWords (event_words e)
events (Open i c) h = (refl, (number i 16 h.0 (omega arith), (number c (2 ^ 32) h.1 (omega arith), tt)))
events (Close s) h = (refl, (number s.0 (2 ^ 32) h (omega arith), tt))
events (SetFilters s fs) h = (refl, (number s.0 (2 ^ 32) h.0 (omega arith), (is_word-decimal (length fs) (omega (arith, h.1)), filters fs)))
events (SetOption s o) h = (refl, (number s.0 (2 ^ 32) h.0 (omega arith), options o))
events (Send s f) h = (refl, (number s.0 (2 ^ 32) h.0 (omega arith), (is_word-item (item.Data f) h.1, tt)))
events (Receive s) h = (refl, (number s.0 (2 ^ 32) h (omega arith), tt))
events (Attempt m v) h = (refl, (is_word-moment m h.0, (verdict_is v, tt)))
events (Restart i m) h = (refl, (number i 16 h.0 (omega arith), (is_word-moment m h.1, tt)))
events (Down i m) h = (refl, (number i 16 h.0 (omega arith), (is_word-moment m h.1, tt)))

restarted : (set : IfaceSet) → AreWords (restarted_words set)
restarted set = when (set.0 == 0)
  where
    when : (b : Bool) → AreWords (cond b [] (codes "restarted" ∷ set_word set ∷ []))
    when true = tt
    when false = (refl, (set-plain set, tt))

received : (i : Item) (r : Received) → IsItem r.item → r.from < 16 → r.number < 2 ^ 64 → r.moment < 10 ^ 16 → AreWords (received_words i r)
received (item.Data f) r good from n m = (refl, (number r.from 16 from (omega arith), (is_word-decimal r.number n, (is_word-item r.item good, (is_word-moment r.moment m, tt)))))
received (item.Error e) r good from n m = (refl, (number r.from 16 from (omega arith), (is_word-item r.item good, (is_word-moment r.moment m, tt))))

tried : (t : Tried) → HoldsTried t → AreWords (reply_words (reply.Attempted (attempt.Tried t)))
tried t h = (refl, (number t.winner 16 h.winner (omega arith), (is_word-decimal t.number h.number, (is_word-item (item.Data t.frame) h.frame, (class_is t.class, (set-plain t.accepted, (set-plain t.off, restarted t.restarted)))))))

refused : (why : Refusal) → AreWords (refusal_words why)
refused refusal.NoInterface = (refl, tt)
refused refusal.BadCapacity = (refl, tt)
refused refusal.TooManySockets = (refl, tt)
refused refusal.NoSocket = (refl, tt)
refused refusal.FdOff = (refl, tt)
refused refusal.BusOff = (refl, tt)
refused refusal.NoBuffers = (refl, tt)
refused refusal.NotBusOff = (refl, tt)
refused refusal.Down = (refl, tt)
refused refusal.RecordFull = tt
refused refusal.NoMemory = tt

replies : (r : Reply) → HoldsReply r → AreWords (reply_words r)
replies (reply.Opened s) h = (refl, (number s.0 (2 ^ 32) h (omega arith), tt))
replies (reply.Closed c) h = (refl, (is_word-decimal c.unread h.0, (is_word-decimal c.dropped h.1, tt)))
replies reply.Done h = (refl, tt)
replies (reply.Sent n) h = (refl, (is_word-decimal n h, tt))
replies (reply.Received None) h = (refl, tt)
replies (reply.Received (Some r)) h = received r.item r h.0 h.1 h.2 h.3
replies (reply.Attempted (attempt.Idle set)) h = (refl, restarted set)
replies (reply.Attempted (attempt.Tried t)) h = tried t h
replies (reply.Refused why) h = refused why

pub entry_are_words : (v : Version) (c : BusConfig) (e : Entry) → HasLine v c e → AreWords (entry_words e)
entry_are_words v c e h = words-append (event_words e.event) (codes "=" ∷ reply_words e.reply) (events e.event h.event) (refl, replies e.reply h.reply)

restarts : (v : Version) (c : BusConfig) → HasBusLine v c → AreWords (auto_restart_words v c)
restarts version.One c h = tt
restarts version.Two c h = (is_word-decimal c.auto_restart (omega (arith, h.proper.few_attempts)), tt)
restarts version.Three c h = (is_word-decimal c.auto_restart (omega (arith, h.proper.few_attempts)), tt)
restarts version.Four c h = (is_word-decimal c.auto_restart (omega (arith, h.proper.few_attempts)), tt)
restarts version.Five c h = (is_word-decimal c.auto_restart (omega (arith, h.proper.few_attempts)), tt)
restarts version.Six c h = (is_word-decimal c.auto_restart (omega (arith, h.proper.few_attempts)), tt)

pub bus_are_words : (v : Version) (c : BusConfig) → HasBusLine v c → AreWords (bus_words v c)
bus_are_words v c h = (refl, (is_word-decimal c.ifaces (omega (arith, h.proper.few_ifaces)), (ack_is c.ack, (set-plain c.reporting, (is_word-decimal c.tx_capacity (omega (arith, h.proper.few_frames)), (is_word-decimal c.limit (omega (arith, h.proper.few_entries)), restarts v c h))))))

pub end_are_words : (n : ℕ) → n < 2 ^ 64 → AreWords (end_words n)
end_are_words n h = (refl, (is_word-decimal n h, tt))
