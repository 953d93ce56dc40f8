use Rattle.std.specs.Prelude.{ℕ, ◌-◌, List, [], ◌∷◌, ◌++◌, length, map, take, codes, decimal, if◌then◌else◌}
use Rattle.std.specs.Prelude.{Option, Some, None}
use Rattle.std.specs.List.{flat_map, range_with_len}
use Rattle.can_event.specs.declared.bus_config.BusConfig.{BusConfig}
use Rattle.can_event.specs.declared.attempt.Attempt.TheVariants as attempt
use Rattle.can_event.specs.declared.entry.Entry.{Entry}
use Rattle.can_event.specs.declared.event.Event.{Event}
use Rattle.can_event.specs.declared.event.Event.TheVariants.{Attempt}
use Rattle.can_event.specs.declared.received.Received.{Received}
use Rattle.can_event.specs.declared.reply.Reply.{Reply}
use Rattle.can_event.specs.declared.reply.Reply.TheVariants as reply
use Rattle.can_frame.specs.Frames.{word_of}
use Rattle.can_record_text.specs.declared.version.Version.{Version}
use Rattle.can_record_text.specs.Spelling.{spell, entry_line, bus_words, end_words}
use Rattle.can_bus.specs.Counters.{counts_of}
use Rattle.can_bus.specs.Sockets.{open_sockets}
use Rattle.can_rules.specs.Rules.{won_by}
use Rattle.can_rules.specs.RunFaults.{RunSeen, asked_run, rule_given}
use Rattle.can_wire.specs.Timings.{BusTiming}
use Rattle.can_replay.specs.declared.wanted.Wanted.{Wanted}
use Rattle.can_replay.specs.TakenRules.{first_rules, last_rules, next_rules}
use Rattle.can_replay.specs.Brought.{is_step, put_to, dropped_by, lost_by}
use Rattle.can_replay.specs.Words.{counts_part, lost_part, part_named, numbered, part, put_word, dropped_words}
use Rattle.can_replay.specs.Words.{wire_words}

-- The text of a record's events: each entry's line with the entry's effects. If the timing of the bus is given, the
-- line of a tried frame also contains its times and bits. If the run's fault rules are given, each rule has a line at
-- the point at which the bus accepts it, and the line of an attempt contains the number of the rule that gave its
-- verdict (own choice).

-- The error counts that the entry changed, by interface.
abbrev pub counts_parts : BusConfig → List Entry → Entry → List ℕ
counts_parts c past e =
    flat_map (λ i. counts_part i (counts_of c past i) (counts_of c (e ∷ past) i)) (range_with_len 0 16)

-- The number of frames lost because interfaces went bus off or down, by interface.
abbrev pub lost_parts : BusConfig → List Entry → Entry → List ℕ
lost_parts c past e = flat_map (λ i. lost_part i (lost_by past e i)) (range_with_len 0 c.ifaces)

-- The words for the items that were queued on socket s, one word for each item.
abbrev pub put_words : ℕ → List Received → List (List ℕ)
put_words s items = map (λ (r : Received). put_word s r.item) items

-- The part that lists the queued items, by socket.
abbrev pub put_part : BusConfig → List Entry → Entry → List ℕ
put_part c past e =
    part_named (codes "put") (flat_map (λ s. put_words s (put_to c past e s)) (open_sockets past))

-- The part that lists how many items were dropped because a socket had no room, by socket.
abbrev pub dropped_part : BusConfig → List Entry → Entry → List ℕ
dropped_part c past e =
    part_named (codes "dropped") (flat_map (λ s. dropped_words s (dropped_by c past e s)) (open_sockets past))

-- The effects of an entry. Only an attempt, a restart or a down has effects.
unfoldable pub parts_of : BusConfig → List Entry → Entry → List ℕ
parts_of c past e =
    if is_step e.event
    then counts_parts c past e ++ lost_parts c past e ++ put_part c past e ++ dropped_part c past e
    else []

-- The part with the times and the bits of the frame that an attempt tried.
abbrev pub tried_part : BusTiming → Event → Reply → List ℕ
tried_part t (Attempt m v) (reply.Attempted (attempt.Tried a)) = part (wire_words t a.frame a.class v)
tried_part t _ _ = []

-- The part of an entry's line with the times and the bits. It is empty if no timing is given or no frame was tried.
unfoldable pub wire_part : Option BusTiming → Entry → List ℕ
wire_part None e = []
wire_part (Some t) e = tried_part t e.event e.reply

-- The number of the rule that gave an attempt its verdict. It is None if the event is not an attempt that tried a
-- frame, if no rule gave a verdict, or if the attempt had another verdict.
abbrev pub rule_by : RunSeen → Event → Reply → Option ℕ
rule_by run (Attempt m v) (reply.Attempted (attempt.Tried a)) = rule_given run (won_by a.winner (word_of a.frame)) v
rule_by run _ _ = None

-- The number of the rule that gave an entry its verdict, if the faults before the entry are given.
unfoldable pub rule_in : Option RunSeen → Entry → Option ℕ
rule_in None e = None
rule_in (Some run) e = rule_by run e.event e.reply

-- The last part of an entry's line: the number of the rule that gave its verdict, if there is one.
abbrev pub rule_part : Option RunSeen → Entry → List ℕ
rule_part faults e = numbered (codes "rule") (rule_in faults e)

-- The lines before the line of an entry. If the entry is an attempt that tried a frame, they contain the rules that the
-- bus accepts before it, and a line for each removal of all rules.
abbrev pub rules_by : RunSeen → Event → Reply → List ℕ
rules_by run (Attempt m v) (reply.Attempted (attempt.Tried a)) = next_rules run
rules_by run _ _ = []

-- The lines before the line of an entry, if the faults are given.
unfoldable pub rules_before : Option RunSeen → Entry → List ℕ
rules_before None e = []
rules_before (Some run) e = rules_by run e.event e.reply

-- The fault rules after an entry. Only an attempt that tried a frame queries the rules.
abbrev pub asked_by : RunSeen → Event → Reply → RunSeen
asked_by run (Attempt m v) (reply.Attempted (attempt.Tried a)) = asked_run run (won_by a.winner (word_of a.frame))
asked_by run _ _ = run

-- The fault rules after an entry, if the rules before it are given.
unfoldable pub asked_of : Option RunSeen → Entry → Option RunSeen
asked_of None e = None
asked_of (Some run) e = Some (asked_by run e.event e.reply)

-- The fault rules after these entries, if the rules before them are given.
abbrev pub faults_after : Option RunSeen → List Entry → Option RunSeen
faults_after faults [] = faults
faults_after faults (e ∷ past) = asked_of (faults_after faults past) e

-- The wanted value for the entry after these entries: the timing, and the fault rules at that point.
abbrev pub wanted_after : Wanted → List Entry → Wanted
wanted_after w past = record w { faults = faults_after w.faults past }

-- The wanted value without additional parts: only the effects of entries are written.
abbrev pub nothing_wanted : Wanted
nothing_wanted = record { timing = None; faults = None }

-- A line without its final LF.
abbrev pub unended : List ℕ → List ℕ
unended line = take (length line - 1) line

-- The line of an entry, preceded by the lines of rules. The effects and the other wanted parts are inserted before its
-- LF.
unfoldable pub with_parts : Wanted → BusConfig → List Entry → Entry → List ℕ → List ℕ
with_parts w c past e line =
    rules_before w.faults e ++ unended line ++ parts_of c past e ++ wire_part w.timing e ++ rule_part w.faults e
    ++ 10 ∷ []

-- The line of an entry of the record, with its effects; `w` is the wanted value before the first entry.
abbrev pub events_line : Wanted → BusConfig → List Entry → Entry → List ℕ
events_line w c past e = with_parts (wanted_after w past) c past e (entry_line e [])

-- The lines of a history, the oldest entry first; `w` is the wanted value before the first entry.
abbrev pub events_lines : Wanted → BusConfig → List Entry → List ℕ
events_lines w c [] = []
events_lines w c (e ∷ past) = events_lines w c past ++ events_line w c past e

-- The first line, which has the version of the format.
abbrev pub events_version : List ℕ
events_version = codes "canbus events 1" ++ 10 ∷ []

-- The lines of the script's rules, if the faults are given.
unfoldable pub rules_at_start : Option RunSeen → List ℕ
rules_at_start None = []
rules_at_start (Some run) = first_rules run

-- The lines after all attempts, if the faults are given: the rules that the bus still accepts, and a line for each
-- removal of all rules.
unfoldable pub rules_at_end : Option RunSeen → List ℕ
rules_at_end None = []
rules_at_end (Some run) = last_rules run

-- The text up to a history's last entry. The second line is the bus's line of the record.
abbrev pub events_front : Wanted → Version → BusConfig → List Entry → List ℕ
events_front w v c past = events_version ++ spell (bus_words v c) [] ++ rules_at_start w.faults ++ events_lines w c past

-- The text after the last entry: the rules that come after the last attempt, and the last line.
abbrev pub events_end : Wanted → List Entry → List (List ℕ) → List ℕ
events_end w past words = rules_at_end (wanted_after w past).faults ++ spell words []

-- The words of the last line if the record's text is cut off, with the number of entries.
abbrev pub cut_words : ℕ → List (List ℕ)
cut_words count = codes "cut" ∷ decimal count ∷ []

-- The text of a history's events.
abbrev pub events_text : Wanted → Version → BusConfig → List Entry → List ℕ
events_text w v c past = events_front w v c past ++ events_end w past (end_words (length past))

-- The text of a history's events, if the record's text is cut off after these entries.
abbrev pub cut_events_text : Wanted → Version → BusConfig → List Entry → List ℕ
cut_events_text w v c past = events_front w v c past ++ events_end w past (cut_words (length past))
