use Rattle.std.proofs.Common.{map, take}
use Rattle.match_store.specs.Candidates.{AreLeft}
use Rattle.match_store.specs.Instance.{key_of}
use Rattle.match_store.proofs.find_new.left_over.Given as goal

abbrev pub invariant-loop-key : goal.invariant-loop-key
invariant-loop-key l = AreLeft l.done (take l.key-index l.candidates) (map key_of l.instances.items)
