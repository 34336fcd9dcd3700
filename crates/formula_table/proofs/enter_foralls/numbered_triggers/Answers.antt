use Rattle.std.proofs.Common.{◌≡◌, ◌+◌, ◌++◌, [], ◌∷◌, ℕ, List, length, take, sym, ap, ◌∙◌, arith}
use Rattle.std.proofs.lemmas.List.{length-take}
use Rattle.std.proofs.lemmas.Option.{slice_get_within}
use Rattle.graph_trigger.specs.declared.trigger.Trigger.{Trigger}
use Rattle.graph_terms.proofs.ListLaws.{take-slice_get}
use Rattle.formula_table.specs.Entry.{numbered, placed}
use Rattle.formula_table.proofs.ForallLemmas.{numbered-push}
use Rattle.formula_table.proofs.enter_foralls.numbered_triggers.Goals as goal

pub loop-place-preserved : goal.loop-place-preserved
loop-place-preserved c =
    let triggers = c.args.triggers.now in
    let place = c.loop-place.place in
    let trigger = c.get.result.now in
    let within = slice_get_within triggers place trigger c.get.ensures in
    let here : 0 + length (take place triggers) ≡ place = omega (arith, length-take place triggers) in
    c.in_ok-push.ensures.ok
    ∙ ap (λ (xs : List Trigger). xs ++ placed c.args.number place c.in_ok-trigger.trigger ∷ []) c.loop-place.invariant
    ∙ ap (λ (t : Trigger). numbered c.args.number 0 (take place triggers) ++ placed c.args.number place t ∷ []) c.in_ok-trigger.ensures
    ∙ ap (λ (k : ℕ). numbered c.args.number 0 (take place triggers) ++ placed c.args.number k trigger ∷ []) (sym here)
    ∙ sym (numbered-push c.args.number 0 (take place triggers) trigger)
    ∙ ap (numbered c.args.number 0) (sym (take-slice_get triggers place trigger c.get.ensures))
