-- What a conjunction and a disjunction of values are.
use Rattle.std.specs.Prelude.{◌≡◌, ◌↔◌, List, Contains}
use Rattle.formula_truth.specs.declared.truth.Truth.{Truth}
use Rattle.formula_truth.specs.declared.truth.Truth.TheVariants.{Yes, No, Unset}
use Rattle.formula_truth.specs.Truths.{all_of, some_of}

-- the one value just where all parts have it, the other just where some part has that
pub record IsJoin (of : List Truth → Truth) (each any : Truth) : Type 0 where
  pub all : (parts : List Truth) → (of parts ≡ each) ↔ ((part : Truth) → Contains parts part → part ≡ each)
  pub some : (parts : List Truth) → (of parts ≡ any) ↔ Contains parts any
  pub unset : (parts : List Truth) → of parts ≡ Unset → Contains parts Unset

-- a conjunction is Yes where all parts are and No where some is, and a disjunction the other way round
pub record AreJoins : Type 0 where
  pub conjunction : IsJoin all_of Yes No
  pub disjunction : IsJoin some_of No Yes
