-- The version of the text of a record.
use Rattle.std.proofs.Common.{◌≡◌, ◌%◌, ◌^◌, ◌<◌, ◌≤◌, nat_lt, ◌==◌, ◌||◌, ◌&&◌, cond, if◌then◌else◌, ℕ, zero, suc, ◌+◌, Bool, true, false, not, List, [], ◌∷◌, ◌++◌, length, Some, take, get_or, refl, sym, ap, subst, ◌∙◌, arith}
use Rattle.std.specs.Prelude.{All, slice_get}
use Rattle.std.proofs.lemmas.Bool.{and_parts, eqb-true, eqb-false, ne_eqb}
use Rattle.std.proofs.lemmas.Option.{slice_get_within, get_or_from_slice_get}
use Rattle.std.proofs.lemmas.List.Elements.{All-cons, All-head, All-nil, All-tail}
use Rattle.can_frame.specs.Frames.{CanFrame, Payload, is_fd, is_flagged}
use Rattle.can_frame.specs.Frames.Payload.{Data, Remote, Fd}
use Rattle.can_record.specs.FrameWords.{frame_in, is_remote_word}
use Rattle.can_event.specs.declared.bus_config.BusConfig.{BusConfig}
use Rattle.can_event.specs.declared.entry.Entry.{Entry}
use Rattle.can_event.specs.Events.{max_limit}
use Rattle.can_record_text.specs.declared.needs.Needs.{Needs}
use Rattle.can_record_text.specs.declared.version.Version.{Version}
use Rattle.can_record_text.specs.declared.version.Version.TheVariants as version
use Rattle.can_record_text.specs.Spelling.{all_needs, both_needs, frame_needs, is_needless, needs_of, no_needs, takes, takes_down, takes_fd, takes_flags, version_for, version_of}
use Rattle.can_record_text.specs.Values.{HasLine, HasBusLine, HasLines, HasText}

-- ---- the needs of lines

abbrev needs : Bool → Bool → Bool → Needs
needs fd flags down = record { fd = fd; flags = flags; down = down }

needs_are : (a b c d e f : Bool) → a ≡ b → c ≡ d → e ≡ f → needs a c e ≡ needs b d f
needs_are a b c d e f x y z = ap (λ (u : Bool). needs u c e) x ∙ ap (λ (u : Bool). needs b u e) y ∙ ap (needs b d) z

or_assoc : (a b c : Bool) → (a || (b || c)) ≡ ((a || b) || c)
or_assoc true b c = refl
or_assoc false b c = refl

or_none : (a : Bool) → (a || false) ≡ (false || a)
or_none true = refl
or_none false = refl

both_assoc : (a b c : Needs) → both_needs a (both_needs b c) ≡ both_needs (both_needs a b) c
both_assoc a b c = needs_are _ _ _ _ _ _ (or_assoc a.fd b.fd c.fd) (or_assoc a.flags b.flags c.flags) (or_assoc a.down b.down c.down)

both_none : (a : Needs) → both_needs a no_needs ≡ both_needs no_needs a
both_none a = needs_are _ _ _ _ _ _ (or_none a.fd) (or_none a.flags) (or_none a.down)

-- the needs after one more entry at the end
pub needs_push : (es : List Entry) (e : Entry) → all_needs (es ++ e ∷ []) ≡ both_needs (all_needs es) (needs_of e)
needs_push [] e = both_none (needs_of e)
needs_push (x ∷ es) e = ap (both_needs (needs_of x)) (needs_push es e) ∙ both_assoc (needs_of x) (all_needs es) (needs_of e)

-- the needs of the front part after one more entry
needs_next : (es : List Entry) (k : ℕ) (d : Entry) → k < length es → all_needs (take (suc k) es) ≡ both_needs (all_needs (take k es)) (needs_of (get_or es k d))
needs_next [] k d lt = absurd (omega arith)
needs_next (x ∷ es) zero d lt = both_none (needs_of x)
needs_next (x ∷ es) (suc k) d lt = ap (both_needs (needs_of x)) (needs_next es k d (omega arith)) ∙ both_assoc (needs_of x) (all_needs (take k es)) (needs_of (get_or es k d))

pub needs_at : (es : List Entry) (k : ℕ) (d : Entry) → k < length es → all_needs (take (k + 1) es) ≡ both_needs (all_needs (take k es)) (needs_of (get_or es k d))
needs_at es k d lt =
    let next : k + 1 ≡ suc k = omega arith in
    ap (λ (n : ℕ). all_needs (take n es)) next ∙ needs_next es k d lt

pub needs_more : (es : List Entry) (k : ℕ) (e : Entry) → slice_get es k ≡ Some e → all_needs (take (k + 1) es) ≡ both_needs (all_needs (take k es)) (needs_of e)
needs_more es k e there =
    needs_at es k e (slice_get_within es k e there)
    ∙ ap (λ (x : Entry). both_needs (all_needs (take k es)) (needs_of x)) (get_or_from_slice_get es k e e there)

-- a frame that is not an FD frame has no needs
pub classic_frame : (f : CanFrame) → is_fd f.payload ≡ false → frame_needs f ≡ no_needs
classic_frame f h = of_payload f.payload h
  where
    of_payload : (p : Payload) → is_fd p ≡ false → needs (is_fd p) (is_flagged p) false ≡ no_needs
    of_payload (Data bytes) h = refl
    of_payload (Remote len) h = refl
    of_payload (Fd flags bytes) h = absurd cc

-- a frame with an identifier word, a length and eight bytes is not an FD frame
pub classic : (word len : ℕ) (bytes : List ℕ) → frame_needs (frame_in word len bytes) ≡ no_needs
classic word len bytes = when (is_remote_word word) refl
  where
    when : (b : Bool) → is_remote_word word ≡ b → frame_needs (frame_in word len bytes) ≡ no_needs
    when true is = rw is refl
    when false is = rw is refl

-- ---- the limit that the version is of

-- no other version allows a limit of version 4
pub is_long : (c : BusConfig) → max_limit < c.limit → nat_lt max_limit c.limit ≡ true
is_long c h = grind (arith, h)

pub is_short : (c : BusConfig) → c.limit ≤ max_limit → nat_lt max_limit c.limit ≡ false
is_short c h = grind (arith, h)

pub of_long : (c : BusConfig) (needs : Needs) → max_limit < c.limit → version_for c needs ≡ version.Four
of_long c needs h = rw (is_long c h) refl

short_version : BusConfig → Needs → Version
short_version c needs = if needs.down then version.Six else if needs.flags then version.Five else if needs.fd then version.Three else if c.auto_restart == 0 then version.One else version.Two

of_short : (c : BusConfig) (needs : Needs) → c.limit ≤ max_limit → version_for c needs ≡ short_version c needs
unfolding short_version
of_short c needs h = rw (is_short c h) refl

-- ---- the lines that a version has

not_both : (b : Bool) → b ≡ false → b ≡ true → ⊥
not_both true e h = absurd cc
not_both false e h = absurd cc

one_takes : (x z p : Bool) → (not x || p) ≡ true → (not z || p) ≡ true → (not (x || z) || p) ≡ true
one_takes true z true h k = refl
one_takes true z false h k = absurd cc
one_takes false z p h k = k

one_left : (x z p : Bool) → (not (x || z) || p) ≡ true → (not x || p) ≡ true
one_left true z p h = h
one_left false z p h = refl

one_right : (x z p : Bool) → (not (x || z) || p) ≡ true → (not z || p) ≡ true
one_right true true p h = h
one_right true false p h = refl
one_right false z p h = h

all_three : (x y z : Bool) → x ≡ true → y ≡ true → z ≡ true → (x && y && z) ≡ true
all_three true true z h k l = l
all_three true false z h k l = absurd cc
all_three false y z h k l = absurd cc

each_of : (x y z : Bool) → (x && y && z) ≡ true → (x ≡ true) × (y ≡ true) × (z ≡ true)
each_of x y z h =
    let last = and_parts (x && y) z h in
    let front = and_parts x y last.0 in
    (front.0, front.1, last.1)

-- the three conditions for a version to have lines for these needs
takes_each : (v : Version) (n : Needs) → takes v n ≡ true → ((not n.fd || takes_fd v) ≡ true) × ((not n.flags || takes_flags v) ≡ true) × ((not n.down || takes_down v) ≡ true)
takes_each v n h = each_of (not n.fd || takes_fd v) (not n.flags || takes_flags v) (not n.down || takes_down v) h

takes_all : (v : Version) (n : Needs) → (not n.fd || takes_fd v) ≡ true → (not n.flags || takes_flags v) ≡ true → (not n.down || takes_down v) ≡ true → takes v n ≡ true
takes_all v n h k l = all_three (not n.fd || takes_fd v) (not n.flags || takes_flags v) (not n.down || takes_down v) h k l

-- a version that has lines for two needs has lines for both together
takes_both : (v : Version) (a b : Needs) → takes v a ≡ true → takes v b ≡ true → takes v (both_needs a b) ≡ true
takes_both v a b h k =
    let one = takes_each v a h in
    let other = takes_each v b k in
    takes_all v (both_needs a b) (one_takes a.fd b.fd (takes_fd v) one.0 other.0) (one_takes a.flags b.flags (takes_flags v) one.1 other.1) (one_takes a.down b.down (takes_down v) one.2 other.2)

takes_left : (v : Version) (a b : Needs) → takes v (both_needs a b) ≡ true → takes v a ≡ true
takes_left v a b h =
    let both = takes_each v (both_needs a b) h in
    takes_all v a (one_left a.fd b.fd (takes_fd v) both.0) (one_left a.flags b.flags (takes_flags v) both.1) (one_left a.down b.down (takes_down v) both.2)

takes_right : (v : Version) (a b : Needs) → takes v (both_needs a b) ≡ true → takes v b ≡ true
takes_right v a b h =
    let both = takes_each v (both_needs a b) h in
    takes_all v b (one_right a.fd b.fd (takes_fd v) both.0) (one_right a.flags b.flags (takes_flags v) both.1) (one_right a.down b.down (takes_down v) both.2)

taken : (x : Bool) → (not x || true) ≡ true
taken true = refl
taken false = refl

-- version 6 has lines for all needs
pub six_takes : (n : Needs) → takes version.Six n ≡ true
six_takes n = takes_all version.Six n (taken n.fd) (taken n.flags) (taken n.down)

-- if entries have lines in a version, the version has lines for their needs
all_taken : (v : Version) (c : BusConfig) (es : List Entry) → All (HasLine v c) es → takes v (all_needs es) ≡ true
all_taken v c [] lines = refl
all_taken v c (e ∷ es) lines = takes_both v (needs_of e) (all_needs es) (All-head (HasLine v c) e es lines).version (all_taken v c es (All-tail (HasLine v c) e es lines))

-- if a version has no lines for a feature, the entries do not need that feature
has_none : (x : Bool) → (not x || false) ≡ true → x ≡ false
has_none true h = absurd cc
has_none false h = refl

no_fd : (v : Version) (n : Needs) → takes_fd v ≡ false → takes v n ≡ true → n.fd ≡ false
no_fd v n none h = has_none n.fd (ap (λ (p : Bool). not n.fd || p) (sym none) ∙ (takes_each v n h).0)

no_flags_in : (v : Version) (n : Needs) → takes_flags v ≡ false → takes v n ≡ true → n.flags ≡ false
no_flags_in v n none h = has_none n.flags (ap (λ (p : Bool). not n.flags || p) (sym none) ∙ (takes_each v n h).1)

no_down_in : (v : Version) (n : Needs) → takes_down v ≡ false → takes v n ≡ true → n.down ≡ false
no_down_in v n none h = has_none n.down (ap (λ (p : Bool). not n.down || p) (sym none) ∙ (takes_each v n h).2)

-- a Boolean whose negation is false is true
there_is : (x : Bool) → not x ≡ false → x ≡ true
there_is true h = refl
there_is false h = absurd cc

-- the version of lines that need that version
pub version_is : (v : Version) (c : BusConfig) (es : List Entry) → HasLines v c es → is_needless v (all_needs es) ≡ false → v ≡ version_of c es
version_is version.One c es whole needed =
    let some = all_needs es in
    let taken = all_taken version.One c es whole.lines in
    rw (is_short c whole.bus.limit, no_down_in version.One some refl taken, no_flags_in version.One some refl taken, no_fd version.One some refl taken, whole.bus.restarts) refl
version_is version.Two c es whole needed =
    let some = all_needs es in
    let taken = all_taken version.Two c es whole.lines in
    rw (is_short c whole.bus.limit, no_down_in version.Two some refl taken, no_flags_in version.Two some refl taken, no_fd version.Two some refl taken, ne_eqb c.auto_restart 0 whole.bus.restarts) refl
version_is version.Three c es whole needed =
    let some = all_needs es in
    let taken = all_taken version.Three c es whole.lines in
    rw (is_short c whole.bus.limit, no_down_in version.Three some refl taken, no_flags_in version.Three some refl taken, there_is some.fd needed) refl
version_is version.Four c es whole needed = rw (is_long c whole.bus.limit) refl
version_is version.Five c es whole needed =
    let some = all_needs es in
    let taken = all_taken version.Five c es whole.lines in
    rw (is_short c whole.bus.limit, no_down_in version.Five some refl taken, there_is some.flags needed) refl
version_is version.Six c es whole needed = rw (is_short c whole.bus.limit, there_is (all_needs es).down needed) refl

-- no record is in a version that it does not need
never_needless : (c : BusConfig) (n : Needs) → is_needless (version_for c n) n ≡ false
never_needless c n = when (nat_lt max_limit c.limit) n.down n.flags n.fd (c.auto_restart == 0)
  where
    when : (long down flags fd b : Bool)
        → is_needless (cond long version.Four (cond down version.Six (cond flags version.Five (cond fd version.Three (cond b version.One version.Two))))) (needs fd flags down) ≡ false
    when true down flags fd b = refl
    when false true flags fd b = refl
    when false false true fd b = refl
    when false false false true b = refl
    when false false false false true = refl
    when false false false false false = refl

pub not_needless : (v : Version) (c : BusConfig) (es ds : List Entry) → v ≡ version_of c es → ds ≡ es → is_needless v (all_needs ds) ≡ true → ⊥
not_needless v c es ds is same none =
    not_both (is_needless (version_of c es) (all_needs es)) (never_needless c (all_needs es))
    (subst (λ (u : Version). is_needless u (all_needs es) ≡ true) is (subst (λ (xs : List Entry). is_needless v (all_needs xs) ≡ true) same none))

-- an entry that has a line in version 6 has one in each version with lines for its needs
pub line_in : (v : Version) (c : BusConfig) (e : Entry) → HasLine version.Six c e → takes v (needs_of e) ≡ true → HasLine v c e
line_in v c e h taken = record { spelled = h.spelled; version = taken; event = h.event; reply = h.reply }

lines_in : (v : Version) (c : BusConfig) (es : List Entry) → All (HasLine version.Six c) es → takes v (all_needs es) ≡ true → All (HasLine v c) es
lines_in v c [] lines taken = All-nil (HasLine v c)
lines_in v c (e ∷ es) lines taken =
    All-cons (HasLine v c) e es (line_in v c e (All-head (HasLine version.Six c) e es lines) (takes_left v (needs_of e) (all_needs es) taken))
    (lines_in v c es (All-tail (HasLine version.Six c) e es lines) (takes_right v (needs_of e) (all_needs es) taken))

bus_in : (c : BusConfig) (n : Needs) → HasBusLine version.Six c → HasBusLine (version_for c n) c
unfolding short_version
bus_in c n h = subst (λ (v : Version). HasBusLine v c) (sym (of_short c n h.limit)) (when n.down n.flags n.fd (c.auto_restart == 0) refl)
  where
    when : (down flags fd b : Bool) → (c.auto_restart == 0) ≡ b → HasBusLine (cond down version.Six (cond flags version.Five (cond fd version.Three (cond b version.One version.Two)))) c
    when true flags fd b is = h
    when false true fd b is = record { proper = h.proper; limit = h.limit; reporting = h.reporting; restarts = tt }
    when false false true b is = record { proper = h.proper; limit = h.limit; reporting = h.reporting; restarts = tt }
    when false false false true is = record { proper = h.proper; limit = h.limit; reporting = h.reporting; restarts = eqb-true c.auto_restart 0 is }
    when false false false false is = record { proper = h.proper; limit = h.limit; reporting = h.reporting; restarts = eqb-false c.auto_restart 0 is }

-- the version of a record has lines for the needs of the record
own_version : (c : BusConfig) (n : Needs) → c.limit ≤ max_limit → takes (version_for c n) n ≡ true
unfolding short_version
own_version c n short = ap (λ (v : Version). takes v n) (of_short c n short) ∙ when n.down n.flags n.fd (c.auto_restart == 0)
  where
    when : (down flags fd b : Bool) → takes (cond down version.Six (cond flags version.Five (cond fd version.Three (cond b version.One version.Two)))) (needs fd flags down) ≡ true
    when true flags fd b = six_takes (needs fd flags true)
    when false true true b = refl
    when false true false b = refl
    when false false true b = refl
    when false false false true = refl
    when false false false false = refl

-- lines that are right in version 6 are right in the version of their record
pub has_text : (c : BusConfig) (es : List Entry) → HasBusLine version.Six c → All (HasLine version.Six c) es → HasText c es
has_text c es bus lines = record {
  bus = bus_in c (all_needs es) bus;
  lines = lines_in (version_of c es) c es lines (own_version c (all_needs es) bus.limit);
}
