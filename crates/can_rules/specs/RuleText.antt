use Rattle.std.specs.Prelude.{ℕ, ◌+◌, ◌-◌, ◌^◌, ◌==◌, ◌&&◌, nat_lt, nat_le, Bool, List, [], ◌∷◌, ◌++◌, codes, decimal}
use Rattle.std.specs.Prelude.{Option, Some, None, if◌then◌else◌}
use Rattle.can_frame.specs.FrameText.{digits}
use Rattle.can_frame.specs.Sets.{is_in}
use Rattle.can_frame.specs.declared.iface.IfaceSet.{IfaceSet}
use Rattle.can_filter.specs.Filters.{CanFilter}
use Rattle.can_fault.specs.declared.verdict.GlobalKind.{GlobalKind}
use Rattle.can_fault.specs.declared.verdict.GlobalKind.TheVariants as global
use Rattle.can_fault.specs.declared.verdict.LocalKind.{LocalKind}
use Rattle.can_fault.specs.declared.verdict.LocalKind.TheVariants as local
use Rattle.can_fault.specs.declared.verdict.Verdict.{Verdict}
use Rattle.can_fault.specs.declared.verdict.Verdict.TheVariants.{Good, Global, Local, LastBit}
use Rattle.can_rules.specs.declared.rule.Rule.{Rule}
use Rattle.can_rules.specs.RuleWords.{standard_bits, extended_bits}

-- The text written for a rule, which is read back as the same rule (own choice).

-- The names of the interfaces in the set. The first name in `names` is that of interface i.
abbrev pub members : ℕ → List (List ℕ) → IfaceSet → List (List ℕ)
members i [] set = []
members i (name ∷ names) set =
    if is_in i set then name ∷ members (i + 1) names set else members (i + 1) names set

-- The names, each with a byte before it: `mark` before the first name, and a comma before every other name.
abbrev pub names_after_mark : ℕ → List (List ℕ) → List ℕ
names_after_mark mark [] = []
names_after_mark mark (name ∷ names) = mark ∷ name ++ names_after_mark 44 names

-- A space, then the names of the set's interfaces, separated by commas.
unfoldable pub set_words : List (List ℕ) → IfaceSet → List ℕ
set_words names set = names_after_mark 32 (members 0 names set)

-- The words for the number of verdicts that a rule gives.
unfoldable pub count_words : Option ℕ → List ℕ
count_words None = codes "always"
count_words (Some n) = codes "next " ++ decimal n

-- The words for the senders of a rule, or no words if the rule names no senders.
unfoldable pub senders_words : List (List ℕ) → Option IfaceSet → List ℕ
senders_words names None = []
senders_words names (Some set) = codes " from" ++ set_words names set

-- The filter passes every identifier word.
abbrev pub is_open_filter : CanFilter → Bool
is_open_filter f = (f.id == 0) && (f.mask == 0)

-- The filter passes only one 11-bit identifier; its mask is 0x800007FF.
abbrev pub is_standard : CanFilter → Bool
is_standard f = (f.mask == standard_bits) && nat_lt f.id (2 ^ 11)

-- The filter passes only one 29-bit identifier; its mask is 0x9FFFFFFF.
abbrev pub is_one_extended_id : CanFilter → Bool
is_one_extended_id f = (f.mask == extended_bits) && nat_le (2 ^ 31) f.id && nat_lt f.id (2 ^ 31 + 2 ^ 29)

-- The hexadecimal text of a filter: 3 digits, 8 digits, or 8 digits, a colon and a mask of 8 digits.
unfoldable pub filter_words : CanFilter → List ℕ
filter_words f =
    if is_standard f then digits 16 3 f.id
    else if is_one_extended_id f then digits 16 8 (f.id - 2 ^ 31)
    else digits 16 8 f.id ++ 58 ∷ digits 16 8 f.mask

-- The words for the identifiers of a rule, or no words if the rule matches every identifier.
unfoldable pub id_words : CanFilter → List ℕ
id_words f = if is_open_filter f then [] else codes " id " ++ filter_words f

-- The words for the number of attempts that a rule skips, or no words if the number is 0.
unfoldable pub skip_words : ℕ → List ℕ
skip_words k = if k == 0 then [] else codes " skip " ++ decimal k

-- The words for a fault that every interface sees.
abbrev pub global_words : GlobalKind → List ℕ
global_words global.Bit = codes " global bit"
global_words global.Form = codes " global form"

-- The words for a fault that some interfaces see.
abbrev pub local_words : LocalKind → List ℕ
local_words local.Stuff = codes " local stuff"
local_words local.Crc = codes " local crc"
local_words local.Form = codes " local form"

-- The words for a verdict.
unfoldable pub verdict_words : List (List ℕ) → Verdict → List ℕ
verdict_words names Good = codes " good"
verdict_words names LastBit = codes " lastbit"
verdict_words names (Global kind) = global_words kind
verdict_words names (Local set kind) = local_words kind ++ set_words names set

-- The text of a rule for a bus whose interfaces have these names.
unfoldable pub rule_words : List (List ℕ) → Rule → List ℕ
rule_words names rule =
    count_words rule.left ++ senders_words names rule.senders ++ id_words rule.filter ++ skip_words rule.skip
    ++ verdict_words names rule.verdict
