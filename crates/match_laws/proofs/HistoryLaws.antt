-- That owed work is complete and justified after any steps.
use Rattle.std.proofs.Common.{⊎_elim, inl, inr, List, [], ◌++◌, refl, sym, ap, subst, ◌∙◌, arith, append_assoc, append-nil}
use Rattle.graph_meaning.specs.declared.done.Done.{Done}
use Rattle.graph_meaning.specs.Lawful.{IsLawful}
use Rattle.graph_meaning.proofs.LawfulLaws.{IsLawful-first}
use Rattle.match_laws.proofs.WalkLaws.{Continues}
use Rattle.match_laws.proofs.StepLaws.{continues_front}
use Rattle.match_laws.proofs.GrowLaws.{justified_stays, justified_since}
use Rattle.match_laws.proofs.GivenLaws.{given, given_justified, join_up}
use Rattle.graph_meaning.specs.declared.claim.Claim.{Claim}
use Rattle.match_laws.specs.Due.{Stored, IsComplete, IsSound, IsSoundTuple}
use Rattle.match_laws.proofs.OwedLaws.{complete_after, sound_after, sound_tuple, same_match, complete_late, complete_first}
use Rattle.match_laws.specs.History.{Seen, Holds, Gives, Answers, Step, Steps, AllHold, no_level, level_holds, HistoryLaw, GivesLaw, operates, answers, settles, pushes, pops, none, then}

-- the standing list has what its base had
goes_on : {seen : Seen} → Holds seen → Continues seen.base seen.standing
goes_on {seen} holds = subst (Continues seen.base) (sym holds.front) (continues_front seen.base holds.since (subst IsLawful holds.front holds.lawful))

gave : {old : Seen} {later : List Done} {owed' : List Claim} → Gives old later owed' → Holds old → Holds (record old { standing = old.standing ++ later; owed = owed' })
gave {old} {later} {owed'} gives holds = record {
  lawful = gives.lawful;
  since = holds.since ++ later;
  front = ap (λ (s : List Done). s ++ later) holds.front ∙ append_assoc old.base holds.since later;
  complete = complete_after old.standing later gives.lawful old.owed owed' old.stored gives.stay gives.come holds.complete;
  justified = λ claim has. ⊎_elim (λ was. justified_stays (continues_front old.standing later gives.lawful) (holds.justified claim was)) (λ came. justified_since (goes_on holds) came) (gives.only claim has);
  sound = sound_after old.standing later gives.lawful old.stored holds.sound;
}

module _ {old : Seen} {owed' : List Claim} {stored' : Stored} (of : Answers old owed' stored') (holds : Holds old) where
  lawful_front : IsLawful (of.before ++ of.later)
  lawful_front = subst IsLawful of.front holds.lawful

  complete_now : IsComplete old.standing owed' stored'
  complete_now = complete_late of.before old.standing old.owed owed' of.came old.stored stored' of.covers of.stay of.answered of.kept holds.complete

  sound_now : IsSound old.standing stored'
  sound_now number tuple has = ⊎_elim (λ was. holds.sound number tuple was)
      (λ came. subst (λ (s : List Done). IsSoundTuple s number tuple) (sym of.front) (sound_tuple of.before of.later lawful_front number tuple (came.0, tuple, came.1, came.2, same_match of.before (continues_front of.before of.later lawful_front).ends came.0 tuple came.2)))
      (of.matches number tuple has)

-- a step keeps it, now and at each open push
pub step_holds : {old new : Seen} {levels levels' : List Seen} → Step old levels new levels' → Holds old → AllHold levels → Holds new × AllHold levels'
step_holds (operates gives) holds all = (gave gives holds, all)
step_holds (answers of) holds all = (record { lawful = holds.lawful; since = holds.since; front = holds.front; complete = complete_now of holds; justified = λ claim has. holds.justified claim (of.only claim has); sound = sound_now of holds }, all)
step_holds {old} (settles of) holds all = (record { lawful = holds.lawful; since = []; front = sym (append-nil old.standing); complete = complete_now of holds; justified = λ claim has. absurd (omega (arith, has.1)); sound = sound_now of holds }, all)
step_holds (pushes gives) holds all = (gave gives holds, level_holds holds all)
step_holds pops holds (level_holds there all) = (there, all)

-- and so do steps
pub steps_hold : {old new : Seen} {levels levels' : List Seen} → Steps old levels new levels' → Holds old → AllHold levels → Holds new × AllHold levels'
steps_hold none holds all = (holds, all)
steps_hold (then steps step) holds all = let mid = steps_hold steps holds all in step_holds step mid.0 mid.1

pub history_law : HistoryLaw
history_law new levels steps = steps_hold steps (record { lawful = IsLawful-first; since = []; front = refl; complete = complete_first; justified = λ claim has. absurd (omega (arith, has.1)); sound = λ number tuple has. absurd (omega (arith, has.1)) }) no_level

pub gives_law : GivesLaw
gives_law old later unions owed' lawful few are each =
    let now : List Done = old.standing ++ later in
    let continues = continues_front old.standing later lawful in
    let joins = join_up old.standing now unions are in
    record {
      lawful = lawful;
      stay = λ claim has. (each claim).1 (inl has);
      come = λ claim on why. (each claim).1 (inr (given continues lawful.whole.table lawful.whole.ends unions joins few claim on why));
      only = λ claim has. ⊎_elim inl (λ is. inr (given_justified continues lawful.whole.table lawful.whole.ends unions joins claim is)) ((each claim).0 has);
    }
