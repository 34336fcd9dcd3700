use Rattle.std.proofs.Common.{◌≡◌, slice_get, not, refl, sym, ap, subst, ◌∙◌, ⊎_elim, arith}
use Rattle.std.proofs.lemmas.Bool.{cases_lt}
use Rattle.std.proofs.lemmas.Option.{same_Some, slice_get_within}
use Rattle.graph_trigger.specs.Trigger.{HasSize}
use Rattle.graph_trigger.proofs.ValidLemmas.{small_size}
use Rattle.graph_trigger.proofs.validity.are_small.Goals as goal

pub loop-i-preserved : goal.loop-i-preserved
loop-i-preserved c = λ i root size below at is.
    ⊎_elim (λ less. c.loop-i.invariant i root size less at is)
    (λ no_less.
    let here : i ≡ c.loop-i.i = omega arith in
    let one : root ≡ c.get.result = same_Some _ _ (sym at ∙ ap (slice_get c.args.roots.now) here ∙ c.get.ensures.value) in
    small_size c.args.rows.now c.get.result 256 c.tree_size.result c.tree_size.ensures.some (c.is_none.ensures ∙ ap not c.if-is_none.false) size (subst (λ r. HasSize c.args.rows.now r size) one is))
    (cases_lt i c.loop-i.i)

pub returns : goal.returns
returns c = (λ _ i root size at is. let within = slice_get_within c.args.roots.now i root at in c.loop-i.invariant i root size (omega arith) at is, λ _. refl)
