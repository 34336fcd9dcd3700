-- Operations that opened no level and ended none, taken back one by one.
use Rattle.std.proofs.Common.{◌≡◌, ◌≢◌, ℕ, ◌+◌, ◌-◌, ◌<◌, ◌≤◌, false, List, [], ◌∷◌, length, slice_get, Some, All, refl, sym, ap, subst, arith}
use Rattle.std.proofs.lemmas.List.{length-append}
use Rattle.std.proofs.lemmas.List.Elements.{All-head, All-tail}
use Rattle.graph_meaning.specs.declared.done.Done.{Done}
use Rattle.graph_meaning.specs.declared.op.Op.{Op}
use Rattle.graph_meaning.specs.declared.op.Op.TheVariants.{Add, Merge, Differ, Live, Push, Pop}
use Rattle.graph_meaning.proofs.LawfulLaws.{then_op}
use Rattle.graph_meaning.specs.Standing.{is_push}
use Rattle.graph_meaning.specs.State.{GraphState, replay, state_after}
use Rattle.graph_terms.proofs.ListLaws.{slice_get-push}
use Rattle.formula_assert.specs.InLevel.{IsInLevel, GrowsGraph}
use Rattle.formula_assert.proofs.Growth.{grows_none, grows_both, grows_by}

-- the last operation, and the state before it
pub record LastStep (before here : GraphState) : Type 0 where
  pub previous : GraphState
  pub last : Op
  pub inside : IsInLevel last
  pub grew : GrowsGraph before previous
  pub is : here ≡ state_after previous last

last_step : (before : GraphState) (op : Op) (ops : List Op) → All IsInLevel (op ∷ ops) → LastStep before (replay before (op ∷ ops))
last_step before op [] each = record { previous = before; last = op; inside = All-head IsInLevel op [] each; grew = grows_none before; is = refl }
last_step before op (next ∷ ops) each =
    let step = last_step (state_after before op) next ops (All-tail IsInLevel op (next ∷ ops) each) in
    record {
      previous = step.previous;
      last = step.last;
      inside = step.inside;
      grew = grows_both before (state_after before op) step.previous (grows_by before (state_after before op) op (All-head IsInLevel op (next ∷ ops) each) refl) step.grew;
      is = step.is;
    }

done_more : (before : GraphState) (ops : List Op) → before.done ≤ (replay before ops).done
done_more before [] = omega arith
done_more before (op ∷ ops) = let rest = done_more (state_after before op) ops in omega (arith, rest)

-- where more operations count as done, there is a last one
pub step_back : (before here : GraphState) → GrowsGraph before here → before.done < here.done → LastStep before here
step_back before here grows more = by grows.operations grows.in_level grows.after_is
  where
    by : (ops : List Op) → All IsInLevel ops → here ≡ replay before ops → LastStep before here
    by [] each is = let same : here.done ≡ before.done = ap (λ (g : GraphState). g.done) is in absurd (omega (arith, same))
    by (op ∷ ops) each is = subst (LastStep before) (sym is) (last_step before op ops each)

-- where no more count as done, none was done
pub all_back : (before here : GraphState) → GrowsGraph before here → here.done ≤ before.done → here ≡ before
all_back before here grows few = by grows.operations grows.after_is
  where
    by : (ops : List Op) → here ≡ replay before ops → here ≡ before
    by [] is = is
    by (op ∷ ops) is = let same : here.done ≡ (replay before (op ∷ ops)).done = ap (λ (g : GraphState). g.done) is in let more = done_more (state_after before op) ops in absurd (omega (arith, same, more))

-- an operation in a level is no Pop
pub no_pop : (op : Op) → IsInLevel op → op ≢ Pop
no_pop op inside = λ is. subst IsInLevel is inside

stands_last : (standing : List Done) (serial : ℕ) (op : Op) → is_push (record { serial = serial; op = op }) ≡ false → (last : Done) × (slice_get (then_op standing serial op) (length (then_op standing serial op) - 1) ≡ Some last) × (last.serial + 1 ≡ serial + 1) × (is_push last ≡ false)
stands_last standing serial op opens =
    let done : Done = record { serial = serial; op = op } in
    let longer = length-append standing (done ∷ []) in
    let place : length standing ≡ length (then_op standing serial op) - 1 = omega (arith, longer) in
    (done, subst (λ (n : ℕ). slice_get (then_op standing serial op) n ≡ Some done) place (slice_get-push standing done), refl, opens)

-- the operation that was done last stands last, and opens no level
abbrev pub EndsInLevel : GraphState → Type 0
EndsInLevel state = (last : Done) × (slice_get state.standing (length state.standing - 1) ≡ Some last) × (last.serial + 1 ≡ state.done) × (is_push last ≡ false)

-- an operation in a level can be taken back
pub can_take_back : (previous : GraphState) (op : Op) → IsInLevel op → EndsInLevel (state_after previous op)
can_take_back previous (Add symbol args) inside = stands_last previous.standing previous.done (Add symbol args) refl
can_take_back previous (Merge left right) inside = stands_last previous.standing previous.done (Merge left right) refl
can_take_back previous (Differ left right) inside = stands_last previous.standing previous.done (Differ left right) refl
can_take_back previous (Live trigger) inside = stands_last previous.standing previous.done (Live trigger) refl
can_take_back previous Push inside = absurd inside
can_take_back previous Pop inside = absurd inside
