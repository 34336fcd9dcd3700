-- Which instances are new.
use Rattle.std.specs.Prelude.{◌≡◌, ◌↔◌, List, AllPairs, Contains}
use Rattle.std.specs.Ordering.{nat_cmp}
use Rattle.std.specs.Cmp.Lexicographic.{slice_cmp}
use Rattle.std.specs.declared.cmp.Ordering.TheVariants.{Less}
use Rattle.graph_meaning.specs.declared.done.Done.{Done}
use Rattle.graph_meaning.specs.Match.{IsMatch}
use Rattle.graph_meaning.specs.Standing.{triggers_of}
use Rattle.graph_trigger.specs.declared.trigger.Trigger.{Trigger}
use Rattle.match_store.specs.declared.instance.Instance.{Instance}
use Rattle.match_store.specs.DoneInstances.{IsDone}
use Rattle.match_store.specs.Instance.{key_of}

-- a live trigger of the forall has the tuple as a match, and no done tuple of the forall is equal to it
pub record IsNew (standing : List Done) (done : List Instance) (instance : Instance) : Type 0 where
  pub trigger : Trigger
  pub live : Contains (triggers_of standing) trigger
  pub of_forall : trigger.forall ≡ instance.forall
  pub matches : IsMatch standing trigger instance.tuple
  pub not_done : IsDone standing done instance → ⊥

-- by forall and then by tuple, none twice
abbrev pub AreInOrder : List Instance → Type 0
AreInOrder instances = AllPairs (λ a b. slice_cmp nat_cmp (key_of a) (key_of b) ≡ Less) instances

-- exactly the new instances, in order, each once
pub record AreNew (standing : List Done) (done instances : List Instance) : Type 0 where
  pub in_order : AreInOrder instances
  pub exact : (instance : Instance) → Contains instances instance ↔ IsNew standing done instance
