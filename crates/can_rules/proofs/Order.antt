use Rattle.std.proofs.Common.{◌≡◌, Bool, true, false, not, ◌&&◌, List, [], ◌∷◌, ◌++◌, Some, if◌then◌else◌, refl, ap, sym, ◌∙◌, ◌==◌, ◌-◌}
use Rattle.can_rules.specs.Rules.{Head, chosen, after_chosen, asked_rule, gives, is_rule_due, is_used_up, one_less, rule_matches, verdicts, AreSwapped}
use Rattle.can_rules.specs.declared.rule.Rule.{Rule}

-- Swapping two neighbouring rules does not change the verdicts if no attempt matches both.

-- Asking a rule does not change which attempts it matches.
matches-asked : (rule : Rule) (now head : Head) → rule_matches (asked_rule rule now) head ≡ rule_matches rule head
matches-asked rule now head =
    elim (is_rule_due rule now) as (λ b. rule_matches (if b then (if rule.skip == 0 then record rule { left = one_less rule.left } else record rule { skip = rule.skip - 1 }) else rule) head ≡ rule_matches rule head) [
      | true ↦ elim (rule.skip == 0) as (λ b. rule_matches (if b then record rule { left = one_less rule.left } else record rule { skip = rule.skip - 1 }) head ≡ rule_matches rule head) [ true ↦ refl | false ↦ refl ]
      | false ↦ refl
    ]

-- A rule matches each attempt to which it gives a verdict.
gives-matches : (rule : Rule) (head : Head) → gives rule head ≡ true → rule_matches rule head ≡ true
gives-matches rule head gave = parts (not (is_used_up rule)) (rule_matches rule head) (rule.skip == 0) gave where
  parts : (a b c : Bool) → (a && b && c) ≡ true → b ≡ true
  parts true true c h = refl
  parts true false c h = cc
  parts false b c h = cc

-- A rule that does not match gives no verdict and does not change.
asked-other : (rule : Rule) (head : Head) → rule_matches rule head ≡ false → asked_rule rule head ≡ rule
asked-other rule head other =
    ap (λ b. if b then (if rule.skip == 0 then record rule { left = one_less rule.left } else record rule { skip = rule.skip - 1 }) else rule) (never (not (is_used_up rule)) (rule_matches rule head) other) where
      never : (a b : Bool) → b ≡ false → (a && b) ≡ false
      never true b h = h
      never false b h = refl

gives-other : (rule : Rule) (head : Head) → rule_matches rule head ≡ false → gives rule head ≡ false
gives-other rule head other = never (not (is_used_up rule)) (rule_matches rule head) (rule.skip == 0) other where
  never : (a b c : Bool) → b ≡ false → (a && b && c) ≡ false
  never true true c h = cc
  never true false c h = refl
  never false b c h = refl

-- The first rule gives the verdict. If it does not, the other rules decide.
chosen-gives : (rule : Rule) (rules : List Rule) (head : Head) → gives rule head ≡ true → chosen (rule ∷ rules) head ≡ Some rule.verdict
chosen-gives rule rules head gave = ap (λ b. if b then Some rule.verdict else chosen rules head) gave

chosen-past : (rule : Rule) (rules : List Rule) (head : Head) → gives rule head ≡ false → chosen (rule ∷ rules) head ≡ chosen rules head
chosen-past rule rules head past = ap (λ b. if b then Some rule.verdict else chosen rules head) past

after-gives : (rule : Rule) (rules : List Rule) (head : Head) → gives rule head ≡ true → after_chosen (rule ∷ rules) head ≡ asked_rule rule head ∷ rules
after-gives rule rules head gave = ap (λ b. asked_rule rule head ∷ (if b then rules else after_chosen rules head)) gave

after-past : (rule : Rule) (rules : List Rule) (head : Head) → gives rule head ≡ false → after_chosen (rule ∷ rules) head ≡ asked_rule rule head ∷ after_chosen rules head
after-past rule rules head past = ap (λ b. asked_rule rule head ∷ (if b then rules else after_chosen rules head)) past

-- No attempt matches both rules.
abbrev pub AreApart : Rule → Rule → Type 0
AreApart first second = (head : Head) → (rule_matches first head && rule_matches second head) ≡ false

apart-back : (first second : Rule) → AreApart first second → AreApart second first
apart-back first second apart = λ head. turned (rule_matches first head) (rule_matches second head) (apart head) where
  turned : (a b : Bool) → (a && b) ≡ false → (b && a) ≡ false
  turned true true h = h
  turned true false h = refl
  turned false true h = refl
  turned false false h = refl

-- If no attempt matches both rules and one gives a verdict, the other does not match.
other-apart : (first second : Rule) (head : Head) → AreApart first second → gives first head ≡ true → rule_matches second head ≡ false
other-apart first second head apart gave = ap (λ b. b && rule_matches second head) (sym (gives-matches first head gave)) ∙ apart head

-- Two neighbouring rules at the front of the list.
front_chosen : (first second : Rule) (back : List Rule) (head : Head) → AreApart first second → chosen (first ∷ second ∷ back) head ≡ chosen (second ∷ first ∷ back) head
front_chosen first second back head apart = elim (gives first head) as (λ b. gives first head ≡ b → chosen (first ∷ second ∷ back) head ≡ chosen (second ∷ first ∷ back) head) [
  | true ↦ λ gave.
      let past : gives second head ≡ false = gives-other second head (other-apart first second head apart gave) in
      chosen-gives first (second ∷ back) head gave ∙ sym (chosen-past second (first ∷ back) head past ∙ chosen-gives first back head gave)
  | false ↦ λ past. chosen-past first (second ∷ back) head past ∙ ap (λ given. if gives second head then Some second.verdict else given) (sym (chosen-past first back head past))
] refl

front_after : (first second : Rule) (back : List Rule) (head : Head) → AreApart first second → AreSwapped (after_chosen (first ∷ second ∷ back) head) (after_chosen (second ∷ first ∷ back) head)
front_after first second back head apart =
    let still : AreApart (asked_rule first head) (asked_rule second head) = λ h.
    ap (λ m. m && rule_matches (asked_rule second head) h) (matches-asked first head h) ∙ ap (λ m. rule_matches first h && m) (matches-asked second head h) ∙ apart h in
    elim (gives first head) as (λ b. gives first head ≡ b → AreSwapped (after_chosen (first ∷ second ∷ back) head) (after_chosen (second ∷ first ∷ back) head)) [
      | true ↦ λ gave.
          let unlike : rule_matches second head ≡ false = other-apart first second head apart gave in
          record {
            front = [];
            first = asked_rule first head;
            second = asked_rule second head;
            back = back;
            one_is = after-gives first (second ∷ back) head gave ∙ ap (λ r. asked_rule first head ∷ r ∷ back) (sym (asked-other second head unlike));
            other_is = after-past second (first ∷ back) head (gives-other second head unlike) ∙ ap (λ rs. asked_rule second head ∷ rs) (after-gives first back head gave);
            apart = still;
          }
      | false ↦ λ past. elim (gives second head) as (λ b. gives second head ≡ b → AreSwapped (after_chosen (first ∷ second ∷ back) head) (after_chosen (second ∷ first ∷ back) head)) [
        | true ↦ λ gave.
            let unlike : rule_matches first head ≡ false = other-apart second first head (apart-back first second apart) gave in
            record {
              front = [];
              first = asked_rule first head;
              second = asked_rule second head;
              back = back;
              one_is = after-past first (second ∷ back) head past ∙ ap (λ rs. asked_rule first head ∷ rs) (after-gives second back head gave);
              other_is = after-gives second (first ∷ back) head gave ∙ ap (λ r. asked_rule second head ∷ r ∷ back) (sym (asked-other first head unlike));
              apart = still;
            }
        | false ↦ λ past_too. record {
          front = [];
          first = asked_rule first head;
          second = asked_rule second head;
          back = after_chosen back head;
          one_is = after-past first (second ∷ back) head past ∙ ap (λ rs. asked_rule first head ∷ rs) (after-past second back head past_too);
          other_is = after-past second (first ∷ back) head past_too ∙ ap (λ rs. asked_rule second head ∷ rs) (after-past first back head past);
          apart = still;
        }
      ] refl
    ] refl

-- Two neighbouring rules anywhere in the list.
place_chosen : (front : List Rule) (first second : Rule) (back : List Rule) (head : Head) → AreApart first second → chosen (front ++ first ∷ second ∷ back) head ≡ chosen (front ++ second ∷ first ∷ back) head
place_chosen [] first second back head apart = front_chosen first second back head apart
place_chosen (rule ∷ front) first second back head apart = ap (λ given. if gives rule head then Some rule.verdict else given) (place_chosen front first second back head apart)

place_after : (front : List Rule) (first second : Rule) (back : List Rule) (head : Head) → AreApart first second
    → AreSwapped (after_chosen (front ++ first ∷ second ∷ back) head) (after_chosen (front ++ second ∷ first ∷ back) head)
place_after [] first second back head apart = front_after first second back head apart
place_after (rule ∷ front) first second back head apart =
    let one : List Rule = front ++ first ∷ second ∷ back in
    let other : List Rule = front ++ second ∷ first ∷ back in
    elim (gives rule head) as (λ b. gives rule head ≡ b → AreSwapped (after_chosen (rule ∷ one) head) (after_chosen (rule ∷ other) head)) [
      | true ↦ λ gave. record {
        front = asked_rule rule head ∷ front;
        first = first;
        second = second;
        back = back;
        one_is = after-gives rule one head gave;
        other_is = after-gives rule other head gave;
        apart = apart;
      }
      | false ↦ λ past.
          let rest = place_after front first second back head apart in
          record {
            front = asked_rule rule head ∷ rest.front;
            first = rest.first;
            second = rest.second;
            back = rest.back;
            one_is = after-past rule one head past ∙ ap (λ rs. asked_rule rule head ∷ rs) rest.one_is;
            other_is = after-past rule other head past ∙ ap (λ rs. asked_rule rule head ∷ rs) rest.other_is;
            apart = rest.apart;
          }
    ] refl

pub swapped_chosen : (one other : List Rule) (head : Head) → AreSwapped one other → chosen one head ≡ chosen other head
swapped_chosen one other head s = ap (λ rs. chosen rs head) s.one_is ∙ place_chosen s.front s.first s.second s.back head s.apart ∙ ap (λ rs. chosen rs head) (sym s.other_is)

pub swapped_after : (one other : List Rule) (head : Head) → AreSwapped one other → AreSwapped (after_chosen one head) (after_chosen other head)
swapped_after one other head s =
    let t = place_after s.front s.first s.second s.back head s.apart in
    record {
      front = t.front;
      first = t.first;
      second = t.second;
      back = t.back;
      one_is = ap (λ rs. after_chosen rs head) s.one_is ∙ t.one_is;
      other_is = ap (λ rs. after_chosen rs head) s.other_is ∙ t.other_is;
      apart = t.apart;
    }

pub swapped_verdicts : (heads : List Head) (one other : List Rule) → AreSwapped one other → verdicts one heads ≡ verdicts other heads
swapped_verdicts [] one other s = refl
swapped_verdicts (head ∷ heads) one other s =
    ap (λ v. v ∷ verdicts (after_chosen one head) heads) (swapped_chosen one other head s)
    ∙ ap (λ vs. chosen other head ∷ vs) (swapped_verdicts heads (after_chosen one head) (after_chosen other head) (swapped_after one other head s))
