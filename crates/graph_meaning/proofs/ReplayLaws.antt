-- A replay, one operation after another.
use Rattle.std.proofs.Common.{◌≡◌, ◌+◌, List, [], ◌∷◌, ◌++◌, length, refl, arith}
use Rattle.graph_meaning.specs.declared.op.Op.{Op}
use Rattle.graph_meaning.specs.State.{GraphState, replay, state_after}

-- each operation counts once
pub done-replay : (state : GraphState) (ops : List Op) → (replay state ops).done ≡ state.done + length ops
done-replay state [] = omega arith
done-replay state (op ∷ ops) = let rest = done-replay (state_after state op) ops in omega (arith, rest)

-- the last one comes last
pub replay-push : (state : GraphState) (ops : List Op) (op : Op) →
    replay state (ops ++ op ∷ []) ≡ state_after (replay state ops) op
replay-push state [] op = refl
replay-push state (first ∷ ops) op = replay-push (state_after state first) ops op

-- one replay after another
pub replay-append : (state : GraphState) (ops more : List Op) →
    replay state (ops ++ more) ≡ replay (replay state ops) more
replay-append state [] more = refl
replay-append state (first ∷ ops) more = replay-append (state_after state first) ops more
