use Rattle.std.proofs.Common.{subst, ℕ, arith, slice_index, Contains, List}
use Rattle.graph_classes.proofs.MoveLemmas.{contains_index}
use Rattle.graph_classes.proofs.signing.signature.Goals as goal

pub bounds-labels-arg : goal.bounds-labels-arg
bounds-labels-arg c =
    let P : List ℕ → Type 0 = λ xs. Contains xs (slice_index c.as_slice-arg-items.result.now c.loop-arg.arg-index) in
    c.requires (slice_index c.as_slice-arg-items.result.now c.loop-arg.arg-index) (subst P c.as_slice-arg-items.ensures (contains_index c.as_slice-arg-items.result.now c.loop-arg.arg-index (omega arith)))
