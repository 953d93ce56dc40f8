use Rattle.std.specs.Prelude.{◌≡◌, ◌⊎◌, List, [], ◌∷◌}
use Rattle.clap.specs.Words.{HasKind, IsAmong, Kinds, Text, fault_of, kind_of}
use Rattle.clap.specs.declared.error.Error.{Error}
use Rattle.clap.specs.declared.error.kind.ErrorKind.TheVariants.{DisplayHelp, DisplayVersion}
use Rattle.clap.specs.declared.error.kind.ErrorKind.TheVariants.{OutOfMemory, ValueValidation}
use Rattle.canbusd_options.specs.Program.{program}

-- Command lines that ask for no job (own choice). clap's definition `fault_of` says how they fail.

-- the words ask for help or for the version
abbrev pub AskHelp : List Text → Type 0
AskHelp words = IsAmong DisplayHelp (fault_of program words) ⊎ IsAmong DisplayVersion (fault_of program words)

-- the error shows help or the version
abbrev pub ShowsHelp : Error → Type 0
ShowsHelp e = (kind_of e ≡ DisplayHelp) ⊎ (kind_of e ≡ DisplayVersion)

-- the error reports that memory was refused
abbrev pub IsNoMemory : Error → Type 0
IsNoMemory e = kind_of e ≡ OutOfMemory

-- the error reports that a value or memory was refused
abbrev pub RefusesValue : Error → Type 0
RefusesValue e = IsNoMemory e ⊎ (kind_of e ≡ ValueValidation)

-- the error has one of these kinds, which clap finds in the words; if clap finds none, a value or memory was refused
abbrev pub IsOfKinds : Kinds → Error → Type 0
IsOfKinds [] e = RefusesValue e
IsOfKinds (k ∷ ks) e = HasKind (k ∷ ks) e
