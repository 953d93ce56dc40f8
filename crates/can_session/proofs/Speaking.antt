use Rattle.std.proofs.Common.{◌≡◌, ℕ, ◌+◌, ◌-◌, ◌<◌, List, [], ◌∷◌, ◌++◌, length, Some, slice_get, slice_set, sym, ap, ◌∙◌, append_assoc, arith}
use Rattle.std.specs.Fmt.{decimal}
use Rattle.std.proofs.lemmas.List.{append-nil, length-append}
use Rattle.can_dialog.specs.Sessions.{SessionState}
use Rattle.can_session.specs.BusSteps.{NamedBus}
use Rattle.can_session.specs.Benches.{BenchState, Speaks, spoken}

-- if a session performed a step and its output was printed, the bench performed this step
pub speaks : (does : SessionState → NamedBus → List ℕ → SessionState → NamedBus → Type 0) (s k : ℕ) (b : BenchState) (old new : SessionState) (said text : List ℕ) (bus : NamedBus)
    → k ≡ s - 1 → slice_get b.sessions k ≡ Some (Some old) → does old b.bus said new bus → text ≡ spoken s said
    → Speaks does s b text (record b { sessions = slice_set b.sessions k (Some new); bus = bus })
speaks does s k b old new said text bus at there did put =
    record {
      old = old;
      said = said;
      new = new;
      bus = bus;
      started = ap (λ (n : ℕ). slice_get b.sessions n) (sym at) ∙ there;
      done = did;
      text_is = put;
      after_is = ap (λ (n : ℕ). record b { sessions = slice_set b.sessions n (Some new); bus = bus }) at;
    }

-- the bytes after a session's number and a space are ended with LF, or the line is removed if there are none
pub ends_spoken : (s n : ℕ) (text begun said after : List ℕ) → begun ≡ decimal s ++ 32 ∷ [] → n ≡ length begun → said ≡ begun ++ text
    → (length said ≡ n → after ≡ []) → (n < length said → after ≡ said ++ 10 ∷ []) → after ≡ spoken s text
ends_spoken s n [] begun said after front len is none some = none (ap length (is ∙ append-nil begun) ∙ sym len)
ends_spoken s n (b ∷ bs) begun said after front len is none some =
    let count : length said ≡ length begun + length (b ∷ bs) = ap length is ∙ length-append begun (b ∷ bs) in
    some (omega (arith, len, count))
    ∙ ap (λ (t : List ℕ). t ++ 10 ∷ []) (is ∙ ap (λ (t : List ℕ). t ++ (b ∷ bs)) front ∙ append_assoc (decimal s) (32 ∷ []) (b ∷ bs))
