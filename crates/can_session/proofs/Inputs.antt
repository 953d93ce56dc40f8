-- The remaining bytes of an input after each step.
use Rattle.std.proofs.Common.{◌≡◌, ℕ, ◌+◌, inl, List, [], ◌∷◌, ◌++◌, length, take, drop, Option, Some, None, refl, sym, ap, subst, ◌∙◌, append_assoc, arith, false}
use Rattle.std.specs.Io.KnownBytes.{Consumes, Keeps, prepend_known}
use Rattle.std.proofs.lemmas.List.{take-append-drop, length-append, length-take-le}
use Rattle.can_session.specs.inner.Reads.{Gains}
use Rattle.can_session.specs.inner.Looks.{LineAt}
use Rattle.can_session.specs.Lines.{Input, Waits, Overruns, TakesInputLine, left_of}

-- a list of length one has one element
one_of : (xs : List ℕ) → length xs ≡ 1 → (x : ℕ) × (xs ≡ x ∷ [])
one_of [] h = absurd (omega (arith, h))
one_of (x ∷ []) h = (x, refl)
one_of (x ∷ (y ∷ ys)) h = absurd (omega (arith, h))

-- bytes from the reader are appended to the held bytes
pub joined : (w bytes : List ℕ) (a b : Option (List ℕ)) → Consumes a b bytes → Consumes (prepend_known w a) b (w ++ bytes)
joined w bytes None b h = tt
joined w bytes (Some x) None h = absurd h
joined w bytes (Some x) (Some y) h = ap (λ l. w ++ l) h ∙ sym (append_assoc w bytes y)

-- the reader returned one byte too many
pub overruns : (old new : Input) (all : List ℕ) (n : ℕ) → Gains old.held all old.coming new.coming n → n ≡ 1 → new.held ≡ old.held → new.given ≡ old.given → new.reads ≡ old.reads → new.given + length new.held ≡ 16777216 → Overruns old new
overruns old new all n gains one held given reads full =
    let single = one_of gains.bytes (gains.counted ∙ one) in
    record {
      byte = single.0;
      taken = subst (λ l. Consumes (left_of old) new.coming l) (ap (λ l. old.held ++ l) single.1 ∙ ap (λ l. l ++ single.0 ∷ []) (sym held)) (joined old.held gains.bytes old.coming new.coming gains.taken);
      given = given;
      reads = (let len : length new.held ≡ length old.held = ap length held in record { more = omega (arith, reads); bytes = omega (arith, reads, len, given) });
      full = full;
    }

-- the input returns the first held bytes
pub passed : (old coming : Option (List ℕ)) (held front rest : List ℕ) → Keeps old (prepend_known held coming) → held ≡ front ++ rest → Consumes old (prepend_known rest coming) front
passed None coming held front rest h e = tt
passed (Some x) None held front rest h e = absurd h
passed (Some x) (Some y) held front rest h e = sym h ∙ ap (λ l. l ++ y) e ∙ append_assoc front rest y

-- the current line was at the start of the held bytes
pub takes : (old mid new : Input) (len : ℕ) → old.ended ≡ false → mid.fault ≡ old.fault → Waits old mid → LineAt mid.held len → new ≡ record mid { line = take len mid.held; given = mid.given + (len + 1); held = drop (len + 1) mid.held } → TakesInputLine old new
takes old mid new len going fine waits at is =
    let front = take len mid.held ++ 10 ∷ [] in
    let split : mid.held ≡ front ++ drop (len + 1) mid.held = sym (take-append-drop (len + 1) mid.held) ∙ ap (λ l. l ++ drop (len + 1) mid.held) at.ended in
    let count : length front ≡ len + 1 = omega (arith, length-append (take len mid.held) (10 ∷ []), length-take-le len mid.held (omega (arith, at.within))) in
    subst (TakesInputLine old) (sym is) (
      going,
      at.line,
      inl (record {
        taken = passed (left_of old) mid.coming mid.held front (drop (len + 1) mid.held) waits.same split;
        counted = omega (arith, count, waits.given);
        reads = record { more = waits.reads.more; bytes = omega (arith, waits.reads.bytes, count, ap length split, length-append front (drop (len + 1) mid.held)) };
        fault = fine;
      }),
    )
