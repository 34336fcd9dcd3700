-- Texts one after another.
use Rattle.std.specs.Prelude.{ℕ, List, [], ◌∷◌, ◌++◌}

-- a text for each thing in order, one after another
pub data AreJoined {A : Type 0} (IsTextOf : A → List ℕ → Type 0) : List A → List ℕ → Type 0 where
  joined_none : AreJoined IsTextOf [] []
  joined_more : {thing : A} {things : List A} {text texts : List ℕ} → IsTextOf thing text
      → AreJoined IsTextOf things texts → AreJoined IsTextOf (thing ∷ things) (text ++ texts)
