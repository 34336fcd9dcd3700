-- What a run leaves of its work.
use Rattle.std.proofs.Common.{◌≢◌, inl, inr, ℕ, List, [], ◌++◌, refl, Option, Some, None, IfSome, subst}
use Rattle.em_outside.specs.Bytes.{Appended}
use Rattle.em_outside.proofs.BytesLaws.{Appended-none, Appended-then}
use Rattle.em_outside.specs.declared.limits.Limits.{Limits}
use Rattle.em_generated.specs.GeneratedScript.{script_text}
use Rattle.em_words.specs.declared.work.Work.{Work}
use Rattle.em_words.specs.declared.work.Work.TheVariants as work
use Rattle.ematch_cli.specs.Counting.{StandsCounted}
use Rattle.ematch_cli.specs.Generated.{drill_line, IsDrill, IsDrillFront}
use Rattle.ematch_cli.specs.Headline.{StandsOf}
use Rattle.ematch_cli.specs.Leaves.{KeepsInput, Leaves}
use Rattle.ematch_cli.specs.Output.{Answer, behind}
use Rattle.ematch_cli.specs.declared.status.Status.{Status}
use Rattle.ematch_cli.specs.declared.status.Status.TheVariants as status
use Rattle.ematch_cli.proofs.Exits.{nothing_read}

module _ (IsIt : Answer → Type 0) (IsFront : List ℕ → Type 0) (old new : Option (List ℕ)) (s : Status) (stands : StandsOf IsIt IsFront old new s) where
  -- where nothing is read no read fails
  pub no_read_fault : s ≢ status.ReadFault
  no_read_fault same = subst (StandsOf IsIt IsFront old new) same stands

  -- and no words are refused
  pub no_words_refused : s ≢ status.WordsRefused
  no_words_refused same = subst (StandsOf IsIt IsFront old new) same stands

-- behind the line of a drill the script was counted
pub drilled : (limits : Limits) (count : ℕ) (out0 out1 out2 : Option (List ℕ)) (s : Status) → Appended out0 out1 (drill_line count)
    → StandsCounted limits (script_text count) out1 out2 s → StandsOf (IsDrill limits count) (IsDrillFront limits count) out0 out2 s
drilled limits count out0 out1 out2 status.Done wrote (told, is, ends, added) =
    (behind (drill_line count) told, (told, is, refl), ends, Appended-then out0 out1 out2 (drill_line count) told.bytes wrote added)
drilled limits count out0 out1 out2 status.ScriptError wrote (told, is, ends, added) =
    (behind (drill_line count) told, (told, is, refl), ends, Appended-then out0 out1 out2 (drill_line count) told.bytes wrote added)
drilled limits count out0 out1 out2 status.WriteFault wrote (front, is, added) =
    (drill_line count ++ front, inr (front, is, refl), Appended-then out0 out1 out2 (drill_line count) front wrote added)
drilled limits count out0 out1 out2 status.NoMemory wrote (front, is, added) =
    (drill_line count ++ front, inr (front, is, refl), Appended-then out0 out1 out2 (drill_line count) front wrote added)
drilled limits count out0 out1 out2 status.ReadFault wrote stands = stands
drilled limits count out0 out1 out2 status.WordsRefused wrote stands = stands

-- where memory for the words is refused nothing is done
nothing_done : (work : Work) (limits : Limits) (input out : Option (List ℕ)) → Leaves work limits input input out out status.NoMemory
nothing_done (work.Answer task) limits input out = nothing_read task limits input out
nothing_done (work.Make count) limits input out = ([], (script_text count, refl), Appended-none out)
nothing_done (work.Drill count) limits input out = ([], inl (drill_line count, refl), Appended-none out)

pub nothing_left : {A : Type 0} (asked : Option A) (work_in : A → Work) (limits : Limits) (input out : Option (List ℕ)) → IfSome asked (λ a. Leaves (work_in a) limits input input out out status.NoMemory)
nothing_left None work_in limits input out = tt
nothing_left (Some a) work_in limits input out = nothing_done (work_in a) limits input out

keeps_same : {I : Type 0} (work : Work) (input : I) → KeepsInput work input input
keeps_same (work.Answer task) input = tt
keeps_same (work.Make count) input = refl
keeps_same (work.Drill count) input = refl

-- and the input is as before
pub nothing_taken : {A I : Type 0} (asked : Option A) (work_in : A → Work) (input : I) → IfSome asked (λ a. KeepsInput (work_in a) input input)
nothing_taken None work_in input = tt
nothing_taken (Some a) work_in input = keeps_same (work_in a) input
