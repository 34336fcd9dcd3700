use Rattle.std.proofs.Common.{◌≡◌, ◌++◌, ◌∷◌, map, take}
use Rattle.match_store.proofs.candidates.put_tuples.Given as goal

abbrev pub invariant-loop-tuple : goal.invariant-loop-tuple
invariant-loop-tuple l = l.keys ≡ l.fn.keys ++ map (λ tuple. l.forall ∷ tuple) (take l.tuple-index l.tuples)
