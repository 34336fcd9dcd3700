-- Instances of foralls.
use Rattle.std.specs.Prelude.{ℕ, List, ◌∷◌}
use Rattle.match_store.specs.declared.instance.Instance.{Instance}

-- the forall at these terms
abbrev pub instance_of : ℕ → List ℕ → Instance
instance_of forall tuple = record { forall = forall; tuple = tuple }

-- the forall, and then the terms
abbrev pub key_of : Instance → List ℕ
key_of instance = instance.forall ∷ instance.tuple
