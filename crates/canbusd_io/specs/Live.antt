use Rattle.std.specs.Prelude.{◌≡◌, ℕ, List, Option, Some, None, Result, Ok, Err}
use Rattle.std.specs.Io.Buffered.{writer_contents}
use Rattle.std.specs.Io.KnownBytes.{Appends, Keeps}
use Rattle.std.specs.declared.io.buffered.BufWriter.{BufWriter}
use Rattle.std.specs.declared.alloc.Global.{Global}
use Rattle.canbusd_io.specs.declared.whole_lines.WholeLines.{WholeLines}

-- Files that are written while a server runs. Contracts see the lines that are written to a file. After a file has
-- ended (`None`), no more lines are written to it.

-- the bytes that were written to a writer that counts complete lines
abbrev pub whole_contents : {F : Type 0} → (F → Option (List ℕ)) → BufWriter (WholeLines F) Global → Option (List ℕ)
whole_contents contents w = writer_contents (λ (lines : WholeLines _). contents lines.inner) w

-- a file was opened, and nothing was written to it yet
abbrev pub Begins : {W : Type 0} → (W → Option (List ℕ)) → Option (List ℕ) → Option W → Type 0
Begins contents before None = ⊥
Begins contents before (Some new) = contents new ≡ before

-- a file that has ended remains ended, and any other file keeps its bytes
abbrev pub Stays : {W : Type 0} → (W → Option (List ℕ)) → Option W → Option W → Type 0
Stays contents None new = new ≡ None
Stays contents (Some old) None = ⊥
Stays contents (Some old) (Some new) = Keeps (contents old) (contents new)

-- this text was appended to the file, unless the file had already ended
abbrev pub Gets : {W : Type 0} → (W → Option (List ℕ)) → Option W → Option W → List ℕ → Type 0
Gets contents None new text = new ≡ None
Gets contents (Some old) None text = ⊥
Gets contents (Some old) (Some new) text = Appends (contents old) (contents new) text

-- the text was appended to the file; or there was an error, and the file has ended
abbrev pub TakesText : {W A E : Type 0} → (W → Option (List ℕ)) → Option W → Option W → List ℕ → Result A E → Type 0
TakesText contents old new text (Ok u) = Gets contents old new text
TakesText contents old new text (Err why) = new ≡ None

-- the text was appended to the file, or the file has ended
abbrev pub MayGet : {W : Type 0} → (W → Option (List ℕ)) → Option W → Option W → List ℕ → Type 0
MayGet contents old None text = Unit {0}
MayGet contents None (Some new) text = ⊥
MayGet contents (Some old) (Some new) text = Appends (contents old) (contents new) text
