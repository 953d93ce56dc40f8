use Rattle.std.proofs.Common.{◌≡◌, ◌≢◌, ℕ, ◌+◌, ◌<◌, List, ◌∷◌, length, slice_get, slice_set, Some, sym, ap, ◌∙◌, subst, arith}
use Rattle.std.specs.List.{range_with_len}
use Rattle.std.specs.Option.{option_map}
use Rattle.std.proofs.lemmas.Option.{slice_get-map, slice_get_within}
use Rattle.std.proofs.lemmas.List.FromFn.{length-map-range_with_len}
use Rattle.can_event.specs.declared.entry.Entry.{Entry}
use Rattle.can_event.specs.declared.bus_config.BusConfig.{BusConfig}
use Rattle.can_bus.specs.State.{InterfaceState, kept_interface, kept_interfaces}
use Rattle.can_bus.proofs.Lists.{map_one, range-rises, slice_get-range}

-- the state of an interface is the one that the history gives
pub record IsInterface (c : BusConfig) (past : List Entry) (i : ℕ) (l : InterfaceState) : Type 0 where
  pub below : i < c.ifaces
  pub left : l ≡ kept_interface c past i

pub length-kept_interfaces : (c : BusConfig) (past : List Entry) → length (kept_interfaces c past) ≡ c.ifaces
unfolding kept_interfaces
length-kept_interfaces c past = length-map-range_with_len (kept_interface c past) 0 c.ifaces

pub IsInterface-at : (c : BusConfig) (past : List Entry) (interfaces : List InterfaceState) (i : ℕ) (l : InterfaceState) → interfaces ≡ kept_interfaces c past → slice_get interfaces i ≡ Some l → IsInterface c past i l
unfolding kept_interfaces
IsInterface-at c past interfaces i l are at =
    let here : slice_get (kept_interfaces c past) i ≡ Some l = ap (λ (ls : List InterfaceState). slice_get ls i) (sym are) ∙ at in
    let below : i < c.ifaces = subst (λ n. i < n) (length-map-range_with_len (kept_interface c past) 0 c.ifaces) (slice_get_within (kept_interfaces c past) i l here) in
    let there : slice_get (kept_interfaces c past) i ≡ Some (kept_interface c past (0 + i)) = slice_get-map (kept_interface c past) (range_with_len 0 c.ifaces) i ∙ ap (option_map (kept_interface c past)) (slice_get-range 0 c.ifaces i below) in
    let zeroth : 0 + i ≡ i = omega arith in
    let same : l ≡ kept_interface c past (0 + i) = cc in
    record { below = below; left = same ∙ ap (kept_interface c past) zeroth }

-- an entry that changes only one interface
pub kept_interfaces-one : (c : BusConfig) (past : List Entry) (e : Entry) (i : ℕ) → i < c.ifaces → ((j : ℕ) → j ≢ i → kept_interface c (e ∷ past) j ≡ kept_interface c past j) → kept_interfaces c (e ∷ past) ≡ slice_set (kept_interfaces c past) i (kept_interface c (e ∷ past) i)
unfolding kept_interfaces
kept_interfaces-one c past e i below others =
    map_one (kept_interface c past) (kept_interface c (e ∷ past)) i i 0 c.ifaces (range_with_len 0 c.ifaces) (slice_get-range 0 c.ifaces i below ∙ ap (λ (m : ℕ). Some m) (omega arith)) (range-rises 0 c.ifaces c.ifaces (omega arith)) others
