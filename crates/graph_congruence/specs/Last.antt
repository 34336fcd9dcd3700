-- What the last operation that stands added, and what taking it off leaves.
use Rattle.std.specs.Prelude.{◌≡◌, ◌-◌, Bool, List, [], ◌∷◌, ◌++◌, length, Some, slice_get}
use Rattle.graph_meaning.specs.declared.done.Done.{Done}
use Rattle.graph_meaning.specs.Standing.{is_push, levels_of, differs_added, triggers_added}
use Rattle.graph_meaning.specs.State.{GraphState}
use Rattle.graph_congruence.specs.declared.share.Share.{Share}

-- what the last operation added
pub record IsLastShare (standing : List Done) (share : Share) : Type 0 where
  pub last : Done
  pub is_last : slice_get standing (length standing - 1) ≡ Some last
  pub opens : share.opens ≡ is_push last
  pub levels : share.levels ≡ levels_of (last ∷ [])
  pub triggers : share.triggers ≡ length (triggers_added last.op)
  pub differs : share.differs ≡ length (differs_added last.op)

-- the last operation was taken off, and this is whether it opened a level
pub record DropsLast (old new : GraphState) (opened : Bool) : Type 0 where
  pub last : Done
  pub standing : old.standing ≡ new.standing ++ last ∷ []
  pub opens : opened ≡ is_push last
  pub done : new.done ≡ old.done
  pub limit : new.limit ≡ old.limit
