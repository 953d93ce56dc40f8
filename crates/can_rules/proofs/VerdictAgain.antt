use Rattle.std.proofs.Common.{◌≡◌, ℕ, false, List, ◌∷◌, ◌++◌, Result, Ok, refl, ap, ◌∙◌, codes}
use Rattle.std.specs.Str.{bytes_eq}
use Rattle.can_frame.specs.Names.{AreNames}
use Rattle.can_frame.specs.declared.iface.IfaceSet.{IfaceSet}
use Rattle.can_fault.specs.Scripts.{◌>>=◌, word, set_spelling, verdict_spelling, local_spelling}
use Rattle.can_fault.specs.declared.script_lines.LineFault.{LineFault}
use Rattle.can_fault.specs.declared.verdict.GlobalKind.TheVariants as global
use Rattle.can_fault.specs.declared.verdict.LocalKind.{LocalKind}
use Rattle.can_fault.specs.declared.verdict.LocalKind.TheVariants as local
use Rattle.can_fault.specs.declared.verdict.Verdict.{Verdict}
use Rattle.can_fault.specs.declared.verdict.Verdict.TheVariants.{Good, Global, Local, LastBit}
use Rattle.can_rules.specs.RuleText.{local_words, verdict_words}
use Rattle.can_rules.proofs.GoodVerdicts.{IsVerdict}
use Rattle.can_rules.proofs.SetAgain.{set-again}

-- The words written for a verdict are read back as that verdict.

-- The text does not begin with the keyword of an optional part of a rule.
pub record IsLast (text : List ℕ) : Type 0 where
  pub from : bytes_eq (word text) (codes "from") ≡ false
  pub id : bytes_eq (word text) (codes "id") ≡ false
  pub skip : bytes_eq (word text) (codes "skip") ≡ false

-- The words written for a verdict, without the space before them.
pub record VerdictText (names : List (List ℕ)) (verdict : Verdict) : Type 0 where
  pub text : List ℕ
  pub written : verdict_words names verdict ≡ 32 ∷ text
  pub last : IsLast text
  pub read : verdict_spelling names text ≡ Ok verdict

abbrev local-kind : LocalKind → List ℕ
local-kind local.Stuff = codes "local stuff "
local-kind local.Crc = codes "local crc "
local-kind local.Form = codes "local form "

local-written : (kind : LocalKind) (list : List ℕ) → local_words kind ++ 32 ∷ list ≡ 32 ∷ (local-kind kind ++ list)
local-written local.Stuff list = refl
local-written local.Crc list = refl
local-written local.Form list = refl

local-last : (kind : LocalKind) (list : List ℕ) → IsLast (local-kind kind ++ list)
local-last local.Stuff list = record { from = refl; id = refl; skip = refl }
local-last local.Crc list = record { from = refl; id = refl; skip = refl }
local-last local.Form list = record { from = refl; id = refl; skip = refl }

local-read : (names : List (List ℕ)) (kind : LocalKind) (list : List ℕ) → verdict_spelling names (local-kind kind ++ list) ≡ (set_spelling names list >>= λ set. Ok (Local set kind))
unfolding verdict_spelling local_spelling
local-read names local.Stuff list = refl
local-read names local.Crc list = refl
local-read names local.Form list = refl

pub verdict-again : (names : List (List ℕ)) (verdict : Verdict) → AreNames names → IsVerdict names verdict → VerdictText names verdict
unfolding verdict_words verdict_spelling
verdict-again names Good are known = record { text = codes "good"; written = refl; last = record { from = refl; id = refl; skip = refl }; read = refl }
verdict-again names LastBit are known = record { text = codes "lastbit"; written = refl; last = record { from = refl; id = refl; skip = refl }; read = refl }
verdict-again names (Global global.Bit) are known = record { text = codes "global bit"; written = refl; last = record { from = refl; id = refl; skip = refl }; read = refl }
verdict-again names (Global global.Form) are known = record { text = codes "global form"; written = refl; last = record { from = refl; id = refl; skip = refl }; read = refl }
verdict-again names (Local set kind) are known =
    let (list, written, lacks, read) = set-again names set are known in
    record {
      text = local-kind kind ++ list;
      written = ap (λ (t : List ℕ). local_words kind ++ t) written ∙ local-written kind list;
      last = local-last kind list;
      read = local-read names kind list ∙ ap (λ (r : Result IfaceSet LineFault). r >>= λ s. Ok (Local s kind)) read;
    }
