-- A roll whose only pass is a scroll.
use Rattle.std.proofs.Common.{◌≡◌, ℕ, ◌<◌, List, [], ◌∷◌, ◌++◌, length, reverse, ap, sym, ◌∙◌, arith}
use Rattle.std.proofs.lemmas.List.{reverse-append, reverse-reverse}
use Rattle.can_event.specs.declared.entry.Entry.{Entry}
use Rattle.can_roll.specs.Lists.{row, added_all}
use Rattle.can_roll.specs.Seen.{RollSeen, SlipSeen, with_calls, slip_with_calls, scroll_seen}

-- The slip's pass is the first pass.
pub first_pass : (lists : List (List Entry)) (p : ℕ) → lists ≡ row lists 0 ∷ [] → p < length lists → p ≡ 0
first_pass lists p one below = let long : length lists ≡ 1 = ap length one in omega (arith, long, below)

-- Calls that are added in front of a roll's only list.
added_to_one : (lists : List (List Entry)) (p : ℕ) (calls : List Entry) → lists ≡ row lists 0 ∷ [] → p ≡ 0 → added_all lists p calls ≡ (calls ++ row lists 0) ∷ []
added_to_one lists p calls one is = (λ k. added_all (one k) (is k) calls)

-- A roll with one list still has one list after calls are noted.
pub one_still : (old new : RollSeen) (p : ℕ) (calls : List Entry) → old.lists ≡ row old.lists 0 ∷ [] → p < length old.lists → new ≡ with_calls p calls old → new.lists ≡ row new.lists 0 ∷ []
one_still old new p calls one below noted =
    let lists = ap (λ (r : RollSeen). r.lists) noted ∙ added_to_one old.lists p calls one (first_pass old.lists p one below) in
    lists ∙ sym (ap (λ ls. row ls 0 ∷ []) lists)

-- A block that is added at the end of the entries handed out.
reversed_end : (block calls : List Entry) → reverse (reverse block ++ calls) ≡ reverse calls ++ block
reversed_end block calls = reverse-append (reverse block) calls ∙ ap (λ b. reverse calls ++ b) (reverse-reverse block)

-- The roll's view of the entries after one more block is handed out.
pub handed_then : (old new : RollSeen) (p : ℕ) (block : List Entry) → old.lists ≡ row old.lists 0 ∷ [] → p < length old.lists → new ≡ with_calls p (reverse block) old
    → scroll_seen new.number (reverse (row new.lists 0)) ≡ scroll_seen old.number (reverse (row old.lists 0) ++ block)
handed_then old new p block one below noted =
    let lists = ap (λ (r : RollSeen). r.lists) noted ∙ added_to_one old.lists p (reverse block) one (first_pass old.lists p one below) in
    (λ k. scroll_seen (noted k).number (reverse (row (lists k) 0))) ∙ ap (scroll_seen old.number) (reversed_end block (row old.lists 0))

-- The scroll's view of the entries after one more block is handed out.
pub scroll_then : (old new : SlipSeen) (block : List Entry) → new ≡ slip_with_calls (reverse block) old
    → scroll_seen new.number (reverse new.calls) ≡ scroll_seen old.number (reverse old.calls ++ block)
scroll_then old new block noted = (λ k. scroll_seen (noted k).number (reverse (noted k).calls)) ∙ ap (scroll_seen old.number) (reversed_end block old.calls)

-- The roll and the scroll have the same view of the entries.
pub same_entries : (roll : RollSeen) (slip : SlipSeen) → roll.lists ≡ row roll.lists 0 ∷ [] → slip.pass < length roll.lists → row roll.lists slip.pass ≡ slip.calls
    → reverse slip.calls ≡ reverse (row roll.lists 0)
same_entries roll slip one below same = ap reverse (sym same ∙ ap (row roll.lists) (first_pass roll.lists slip.pass one below))
