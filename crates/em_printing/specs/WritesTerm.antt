-- How a text is written to a sink.
use Rattle.std.specs.Prelude.{◌≡◌, ◌≤◌, ℕ, List, length, take, Option}
use Rattle.em_outside.specs.Bytes.{Appended}
use Rattle.em_outside.specs.Causes.{Rose}
use Rattle.em_printing.specs.declared.term_writer.TermStop.{TermStop}
use Rattle.em_printing.specs.declared.term_writer.TermStop.TheVariants.{Stopped, Memory}

-- a text of this kind was written whole
abbrev pub WritesText : (List ℕ → Type 0) → Option (List ℕ) → Option (List ℕ) → Type 0
WritesText IsIt old new = (text : List ℕ) × IsIt text × Appended old new text

-- the sink failed, and so many bytes of a text of this kind were written; or memory was refused, and none were
abbrev pub StopsText : (List ℕ → Type 0) → Option (List ℕ) → Option (List ℕ) → ℕ → ℕ → TermStop → Type 0
StopsText IsIt old new before now (Stopped gone) =
    Rose before now × ((text : List ℕ) × IsIt text × (gone ≤ length text) × Appended old new (take gone text))
StopsText IsIt old new before now Memory = new ≡ old
