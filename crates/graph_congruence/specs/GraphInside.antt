-- What a `Graph` keeps true of its fields.
use Rattle.std.specs.Prelude.{◌≡◌, ◌<◌, ◌≤◌, ◌+◌, ◌^◌, ℕ, List, length, take, slice_index}
use Rattle.graph_meaning.specs.declared.done.Done.{Done}
use Rattle.graph_meaning.specs.Standing.{levels_of, triggers_of}
use Rattle.graph_meaning.specs.State.{GraphState}
use Rattle.graph_classes.specs.declared.classes.Classes.{Classes}
use Rattle.graph_congruence.specs.declared.graph.Graph.TheInside.{Inside}
use Rattle.graph_congruence.specs.Clash.{apart_of}
use Rattle.graph_classes.specs.State.{State}
use Rattle.graph_classes.specs.History.{now, notes, state_at}
use Rattle.graph_classes.specs.Standing.{IsGood}

-- the graph that the fields hold
abbrev pub shown_graph : Inside → GraphState
shown_graph graph = record {
  standing = (now graph.classes).log;
  done = graph.done;
  limit = (now graph.classes).limit;
}

-- the state was in order, and had these operations
pub record HasStood (s : State) (log : List Done) (limit : ℕ) : Type 0 where
  pub is_log : s.log ≡ log
  pub is_limit : s.limit ≡ limit
  pub good : IsGood s

-- going back to the mark at which an operation began gives the state before it
pub record AreStarts (classes : Classes) (starts : List ℕ) : Type 0 where
  pub each : length starts ≡ length (now classes).log
  pub marks : (i : ℕ) → i < length starts → slice_index starts i ≤ length (notes classes)
  pub rise : (i j : ℕ) → i ≤ j → j < length starts → slice_index starts i ≤ slice_index starts j
  pub stood : (i : ℕ) → i < length starts → HasStood (state_at classes (slice_index starts i))
      (take i (now classes).log) (now classes).limit
  pub good : IsGood (now classes)

-- what the fields keep true; each open level keeps a serial free for its Pop
pub record IsGraph (graph : Inside) : Type 0 where
  pub starts : AreStarts graph.classes graph.starts.items
  pub levels : graph.levels ≡ levels_of (now graph.classes).log
  pub live : graph.live.items ≡ triggers_of (now graph.classes).log
  pub apart : graph.apart.items ≡ apart_of (now graph.classes).log
  pub room : graph.done + graph.levels < 2 ^ 64
