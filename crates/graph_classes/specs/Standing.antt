-- When the parts of a graph are in order, and what an operation does to them.
use Rattle.std.specs.Prelude.{◌≡◌, ◌≤◌, ℕ, [], ◌++◌, length}
use Rattle.graph_meaning.specs.declared.op.Op.{Op}
use Rattle.graph_meaning.specs.Standing.{terms_of, merges_of, rows_added, then_op}
use Rattle.graph_meaning.specs.Lawful.{IsLawful}
use Rattle.graph_classes.specs.State.{State}
use Rattle.graph_classes.specs.Indexed.{IsIndexed, IsClosing}
use Rattle.graph_classes.specs.Listed.{IsListed}

-- the rows are the standing terms, the lists are in order, and the classes are the closure of the merges
pub record IsGood (s : State) : Type 0 where
  pub terms : s.rows ≡ terms_of s.log
  pub lawful : IsLawful s.log
  pub within : length s.rows ≤ s.limit
  pub indexed : IsIndexed s
  pub listed : IsListed s
  pub closed : IsClosing (merges_of s.log) s [] []

-- the operation was done: it came last, with the row that it adds, and all else is for it to say
pub record Follows (old new : State) (serial : ℕ) (op : Op) : Type 0 where
  pub rows : new.rows ≡ old.rows ++ rows_added op
  pub limit : new.limit ≡ old.limit
  pub log : new.log ≡ then_op old.log serial op
