-- What a matcher takes from deques.
use Rattle.std.specs.Prelude.{◌≡◌, ℕ, List, [], Option, Some, None}
use Rattle.std.specs.declared.alloc.Global.{Global}
use Rattle.atomic_blocks.specs.Lent.{RowsId}
use Rattle.crossbeam_deque.specs.Handles.{view, stealer_deque, worker_deque, worker_flavor, worker_view}
use Rattle.crossbeam_deque.specs.declared.handles.Worker.{Worker}
use Rattle.match_pool.specs.declared.share.Share.{Share}
use Rattle.match_pool.specs.declared.deal.Deal.{Deal}
use Rattle.match_pool.specs.declared.thief.Thief.{Thief}

abbrev pub Owner : Type 0
Owner = Worker ℕ Global Share Deal

-- what the owner knows of its deque
abbrev pub known : Owner → Share
known owner = worker_view owner

-- what the thief has stolen
abbrev pub stolen : Option Thief → List ℕ
stolen None = []
stolen (Some thief) = (view thief.pass).taken

-- which deque it steals from
abbrev pub robbed : Option Thief → Option (RowsId × Global)
robbed None = None
robbed (Some thief) = Some (stealer_deque thief.robber)

-- the number, if there is one, weighs so much
abbrev pub weight_of : (ℕ → ℕ) → Option ℕ → ℕ
weight_of h None = 0
weight_of h (Some number) = h number

-- it is the owner of the same deque, pushed nothing more and has the same parts
pub record IsSameOwner (old new : Owner) : Type 0 where
  pub deque : worker_deque new ≡ worker_deque old
  pub flavor : worker_flavor new ≡ worker_flavor old
  pub parts : (worker_view new).parts ≡ (worker_view old).parts
  pub pushed : (worker_view new).pushed ≡ (worker_view old).pushed

-- it steals from this deque, if anyone does, and has the part that the owner lacks
abbrev pub Fits : Option Thief → Owner → Type 0
Fits None owner = (worker_view owner).parts ≡ 2
Fits (Some thief) owner = ((worker_view owner).parts ≡ 1) × (stealer_deque thief.robber ≡ worker_deque owner)
