-- The live triggers after an operation, and the forest that keeps step with them.
use Rattle.std.proofs.Common.{◌≡◌, ◌≢◌, ℕ, ◌≤◌, List, [], ◌∷◌, ◌++◌, Result, Ok, Err, length, take, drop, append-nil, length-append, refl, sym, ap, ◌∙◌, arith}
use Rattle.std.specs.Prelude.{OnOk, OnErr}
use Rattle.std.specs.List.{before_last}
use Rattle.std.proofs.Math.Seq.{take-append_seam}
use Rattle.std.proofs.lemmas.List.{take-append-drop}
use Rattle.std.proofs.lemmas.List.Elements.{filter_map-append}
use Rattle.graph_meaning.specs.declared.done.Done.{Done}
use Rattle.graph_meaning.specs.declared.op.Op.{Op}
use Rattle.graph_meaning.specs.declared.op.Op.TheVariants.{Add, Merge, Differ, Live, Push, Pop}
use Rattle.graph_trigger.specs.declared.trigger.Trigger.{Trigger}
use Rattle.graph_meaning.proofs.LawfulLaws.{triggers_of-push}
use Rattle.graph_meaning.specs.Standing.{is_push, live_trigger, standing_after, triggers_of}
use Rattle.graph_meaning.specs.State.{GraphState, state_after}

-- the live triggers of a front are the first ones
triggers_split : (k : ℕ) (standing : List Done) → triggers_of standing ≡ triggers_of (take k standing) ++ triggers_of (drop k standing)
triggers_split k standing = ap triggers_of (sym (take-append-drop k standing)) ∙ filter_map-append live_trigger (take k standing) (drop k standing)

pub triggers_front : (k : ℕ) (standing : List Done) → take (length (triggers_of (take k standing))) (triggers_of standing) ≡ triggers_of (take k standing)
triggers_front k standing = ap (take (length (triggers_of (take k standing)))) (triggers_split k standing) ∙ take-append_seam (triggers_of (take k standing)) (triggers_of (drop k standing))

-- a Pop leaves the first live triggers
pub triggers_popped : (standing : List Done) → take (length (triggers_of (before_last is_push standing))) (triggers_of standing) ≡ triggers_of (before_last is_push standing)
triggers_popped standing = triggers_front _ standing

pub few_front : (k : ℕ) (standing : List Done) → length (triggers_of (take k standing)) ≤ length (triggers_of standing)
few_front k standing = omega (arith, ap length (triggers_split k standing), length-append (triggers_of (take k standing)) (triggers_of (drop k standing)))

pub few_popped : (standing : List Done) → length (triggers_of (before_last is_push standing)) ≤ length (triggers_of standing)
few_popped standing = few_front _ standing

-- an operation that makes no trigger live, and is no Pop, leaves all of them
pub triggers_kept : (standing : List Done) (serial : ℕ) (op : Op) → ((trigger : Trigger) → op ≢ Live trigger) → op ≢ Pop → triggers_of (standing_after standing serial op) ≡ triggers_of standing
triggers_kept standing serial (Add symbol args) not_live not_pop = triggers_of-push standing serial (Add symbol args) ∙ append-nil (triggers_of standing)
triggers_kept standing serial (Merge left right) not_live not_pop = triggers_of-push standing serial (Merge left right) ∙ append-nil (triggers_of standing)
triggers_kept standing serial (Differ left right) not_live not_pop = triggers_of-push standing serial (Differ left right) ∙ append-nil (triggers_of standing)
triggers_kept standing serial (Live trigger) not_live not_pop = absurd (not_live trigger refl)
triggers_kept standing serial Push not_live not_pop = triggers_of-push standing serial Push ∙ append-nil (triggers_of standing)
triggers_kept standing serial Pop not_live not_pop = absurd (not_pop refl)

-- a forest that was grown and cut again
pub take_grown : (triggers : List Trigger) (trigger : Trigger) (count : ℕ) → count ≡ length triggers → take count (triggers ++ trigger ∷ []) ≡ triggers
take_grown triggers trigger count is = ap (λ n. take n (triggers ++ trigger ∷ [])) is ∙ take-append_seam triggers (trigger ∷ [])

-- a merge leaves all of them, whatever its answer
pub triggers_merged : {U E : Type 0} (before after : GraphState) (left right : ℕ) (result : Result U E) → OnOk result (after ≡ state_after before (Merge left right)) → OnErr result (after ≡ before) → triggers_of after.standing ≡ triggers_of before.standing
triggers_merged before after left right (Ok u) ok err = ap (λ (g : GraphState). triggers_of g.standing) ok ∙ triggers_of-push before.standing before.done (Merge left right) ∙ append-nil (triggers_of before.standing)
triggers_merged before after left right (Err e) ok err = ap (λ (g : GraphState). triggers_of g.standing) err
