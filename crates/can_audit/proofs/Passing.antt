use Rattle.std.proofs.Common.{◌≡◌, ℕ, ◌+◌, ◌<◌, Bool, true, false, List, [], ◌∷◌, ◌++◌, length, take, get_or, if◌then◌else◌, refl, sym, ap, ◌∙◌, append-nil}
use Rattle.std.proofs.lemmas.Bool.{cond-true, cond-false}
use Rattle.std.proofs.lemmas.List.{take_more}
use Rattle.can_filter.specs.Filters.{CanFilter}
use Rattle.can_filter.specs.Passing.{wants}
use Rattle.can_filter.specs.declared.options.Options.{Options}
use Rattle.can_event.specs.declared.received.Received.{Received}
use Rattle.can_bus.specs.Posts.{Post, is_own}
use Rattle.can_bus.specs.Queues.{passing}
use Rattle.can_bus.proofs.Filling.{passing-append}

-- one more post is checked: it passes the filters and options, or it does not
pub passing_more : (fs : List CanFilter) (o : Options) (s : ℕ) (posts : List Post) (k : ℕ) (p : Post) (now new : List Received) (wanted : Bool) → k < length posts
    → p ≡ get_or posts k p → wanted ≡ wants fs o p.received.item (is_own p.sender s) → now ≡ passing fs o s (take k posts)
    → new ≡ (if wanted then now ++ p.received ∷ [] else now) → new ≡ passing fs o s (take (k + 1) posts)
passing_more fs o s posts k p now new wanted lt read asked so_far stepped =
    stepped
    ∙ ap (λ (rs : List Received). if wanted then rs ++ p.received ∷ [] else rs) so_far
    ∙ choose wanted
    ∙ ap (λ (b : Bool). passing fs o s (take k posts) ++ (if b then p.received ∷ [] else [])) asked
    ∙ sym (passing-append fs o s (take k posts) (p ∷ []))
    ∙ ap (λ (q : Post). passing fs o s (take k posts ++ q ∷ [])) read
    ∙ ap (passing fs o s) (sym (take_more posts k p lt))
  where
    choose : (b : Bool) → (if b then passing fs o s (take k posts) ++ p.received ∷ [] else passing fs o s (take k posts)) ≡ passing fs o s (take k posts) ++ (if b then p.received ∷ [] else [])
    choose true = refl
    choose false = sym (append-nil (passing fs o s (take k posts)))

-- an item is appended to the list, or left out
pub pushed : (b : Bool) (xs new : List Received) (x : Received) → b ≡ true → new ≡ xs ++ x ∷ [] → new ≡ (if b then xs ++ x ∷ [] else xs)
pushed b xs new x is_true is = is ∙ sym (cond-true b _ _ is_true)

pub left_out : (b : Bool) (xs new : List Received) (x : Received) → b ≡ false → new ≡ xs → new ≡ (if b then xs ++ x ∷ [] else xs)
left_out b xs new x is_false is = is ∙ sym (cond-false b _ _ is_false)
