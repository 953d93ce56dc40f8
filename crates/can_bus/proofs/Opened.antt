use Rattle.std.proofs.Common.{◌≡◌, ℕ, ◌==◌, true, false, ◌||◌, List, [], ◌∷◌, map, slice_get, Option, Some, None, refl, sym, ap, ◌∙◌}
use Rattle.std.specs.List.{list_any}
use Rattle.std.specs.Option.{option_map}
use Rattle.std.proofs.lemmas.Option.{slice_get-map}
use Rattle.std.proofs.lemmas.Bool.{eq-eqb}
use Rattle.can_event.specs.declared.bus_config.BusConfig.{BusConfig}
use Rattle.can_bus.specs.Sockets.{open_sockets, is_open}
use Rattle.can_bus.specs.State.{SocketState, kept_socket, kept_sockets}
use Rattle.can_bus.specs.Changes.{IsAt, IsNowhere}
use Rattle.can_event.specs.declared.entry.Entry.{Entry}
use Rattle.can_bus.proofs.Lists.{list_any_there}

-- place k of the list of open sockets has socket s, and the state v of that socket is the one that the history gives
pub record IsThere (c : BusConfig) (past : List Entry) (s k : ℕ) (v : SocketState) : Type 0 where
  pub listed : slice_get (open_sockets past) k ≡ Some s
  pub is_there : is_open past s ≡ true
  pub left : v ≡ kept_socket c past s

there : (c : BusConfig) (past : List Entry) (s k : ℕ) (v : SocketState) (found : Option ℕ) → slice_get (open_sockets past) k ≡ found → option_map (kept_socket c past) found ≡ Some v → v.number ≡ s → IsThere c past s k v
there c past s k v None at is number = cc
there c past s k v (Some o) at is number =
    let same : kept_socket c past o ≡ v = cc in
    let which : o ≡ s = ap (λ (w : SocketState). w.number) same ∙ number in
    let listed : slice_get (open_sockets past) k ≡ Some s = at ∙ ap (λ (n : ℕ). Some n) which in
    record {
      listed = listed;
      is_there = list_any_there (λ n. n == s) (open_sockets past) k s listed (eq-eqb s s refl);
      left = sym same ∙ ap (kept_socket c past) which;
    }

pub IsThere-at : (c : BusConfig) (past : List Entry) (sockets : List SocketState) (s k : ℕ) (v : SocketState) → sockets ≡ kept_sockets c past → IsAt sockets s k v → IsThere c past s k v
unfolding kept_sockets
IsThere-at c past sockets s k v are is_at =
    there c past s k v (slice_get (open_sockets past) k) refl (sym (slice_get-map (kept_socket c past) (open_sockets past) k) ∙ ap (λ (l : List SocketState). slice_get l k) (sym are) ∙ is_at.there) is_at.number

list_any_map : (c : BusConfig) (past : List Entry) (s : ℕ) (os : List ℕ) → list_any (λ (v : SocketState). v.number == s) (map (kept_socket c past) os) ≡ list_any (λ n. n == s) os
list_any_map c past s [] = refl
list_any_map c past s (o ∷ os) = ap (λ b. (o == s) || b) (list_any_map c past s os)

-- a number that is not in the list is not the number of an open socket
pub closed-nowhere : (c : BusConfig) (past : List Entry) (sockets : List SocketState) (s : ℕ) → sockets ≡ kept_sockets c past → IsNowhere sockets s → is_open past s ≡ false
unfolding kept_sockets
closed-nowhere c past sockets s are nowhere =
    sym (list_any_map c past s (open_sockets past)) ∙ ap (list_any (λ (v : SocketState). v.number == s)) (sym are) ∙ nowhere
