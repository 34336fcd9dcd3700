-- Changes of chains that were noted, so that they can be taken back.
use Rattle.std.specs.Prelude.{◌≡◌, List, [], ◌++◌}
use Rattle.graph_trail.specs.Undo.{state_before}
use Rattle.search_watch.specs.declared.link.Link.{Link}
use Rattle.search_watch.specs.declared.noted_chains.NotedChains.{NotedChains}
use Rattle.search_watch.specs.Chains.{before_link, no_chains}

-- more was noted since then, and undoing that, the last first, gives the chains of then
pub record IsNotedSince (before now : NotedChains) : Type 0 where
  pub more : List Link
  pub trail : now.trail ≡ before.trail ++ more
  pub undone : state_before before_link more now.chains ≡ before.chains

-- no terms, and nothing to take back
abbrev pub no_noted : NotedChains
no_noted = record { chains = no_chains; trail = [] }
