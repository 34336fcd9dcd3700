-- Lists that are made one item after another.
use Rattle.std.proofs.Common.{List, ◌++◌}
use Rattle.smt_names.specs.Making.{Making, gives, ◌>>=◌}

-- items that are there, and those that are made
abbrev pub behind : {A : Type 0} → List A → Making (List A) → Making (List A)
behind front making = do
  more ← making
  gives (front ++ more)
