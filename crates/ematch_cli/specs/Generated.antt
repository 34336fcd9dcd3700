-- What is told of the generated script of a size.
use Rattle.std.specs.Prelude.{◌≡◌, ◌⊎◌, ℕ, List, ◌++◌, codes}
use Rattle.std.specs.Fmt.{decimal}
use Rattle.em_outside.specs.declared.limits.Limits.{Limits}
use Rattle.em_generated.specs.GeneratedScript.{script_text}
use Rattle.ematch_cli.specs.Counting.{IsCountOf, IsCountFrontOf}
use Rattle.ematch_cli.specs.Listing.{line}
use Rattle.ematch_cli.specs.Output.{Answer, Finished, BeginsWith, behind, last}

-- its text
abbrev pub IsMade : ℕ → Answer → Type 0
IsMade count answer = answer ≡ last (script_text count) Finished

abbrev pub IsMadeFront : ℕ → List ℕ → Type 0
IsMadeFront count front = BeginsWith front (script_text count)

-- `drill N`
abbrev pub drill_line : ℕ → List ℕ
drill_line count = line (codes "drill " ++ decimal count)

-- that line, and then what is told where its matches are counted
abbrev pub IsDrill : Limits → ℕ → Answer → Type 0
IsDrill limits count answer =
    (told : Answer) × IsCountOf limits (script_text count) told × (answer ≡ behind (drill_line count) told)

abbrev pub IsDrillFront : Limits → ℕ → List ℕ → Type 0
IsDrillFront limits count front =
    BeginsWith front (drill_line count)
    ⊎ ((told : List ℕ) × IsCountFrontOf limits (script_text count) told × (front ≡ drill_line count ++ told))
