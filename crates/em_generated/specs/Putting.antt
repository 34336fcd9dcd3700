-- A text that is written in pieces.
use Rattle.std.specs.Prelude.{◌≡◌, ℕ, ◌+◌, ◌≤◌, List, length, take, Option, Result, IfOk, IfErr, map}
use Rattle.std.specs.List.{range_with_len, flat_map}
use Rattle.em_outside.specs.Bytes.{Appended}
use Rattle.em_outside.specs.Causes.{HasCause}
use Rattle.em_generated.specs.GeneratedScript.{line}
use Rattle.em_outside.specs.declared.writing.WriteStop.{WriteStop}

-- Behind so many bytes that had gone out, the whole text was added, and its bytes were counted on; or the sink failed,
-- and a front of the text was added, and so many bytes were counted on.
pub record Puts (before : ℕ) (old new : Option (List ℕ)) (faults_before faults_now : ℕ) (result : Result ℕ WriteStop)
    (text : List ℕ) : Type 0 where
  pub whole : IfOk result (λ end. (end ≡ before + length text) × Appended old new text)
  pub front : IfErr result (λ stop. (n : ℕ)
      × (stop.gone ≡ before + n) × (n ≤ length text) × Appended old new (take n text))
  pub cause : HasCause faults_before faults_now result

-- the line of each index below a number
unfoldable pub each_line : (ℕ → List ℕ) → ℕ → List ℕ
each_line form n = flat_map line (map form (range_with_len 0 n))
