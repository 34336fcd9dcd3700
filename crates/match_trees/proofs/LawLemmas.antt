-- The laws of trees.
use Rattle.std.proofs.Common.{inl, inr, ⊎_elim}
use Rattle.match_trees.specs.TreeLaws.{PathLaws, WayLaws, GrowthLaws}
use Rattle.match_trees.proofs.WayLemmas.{path_some, path_end, path_on, path_cases, way_cut}
use Rattle.match_trees.proofs.NodeLemmas.{extends_same, extends_on, path_extends, way_extends, front_front}
use Rattle.match_trees.proofs.FrontLemmas.{one_way, one_node, front_node, on_way}

pub path_laws : (L : Type 0) → PathLaws L
path_laws L = record {
  some = λ trees node end code path. path_some path;
  within = λ trees node end code path. path_end path;
  on = λ trees node end next code label path below has. path_on label path below has;
  parts = λ trees node end label rest path. ⊎_elim (λ one. (one.1, inl one.2)) (λ goes. (goes.is, inr (goes.next, goes.below, goes.path))) (path_cases path);
}

pub way_laws : (L : Type 0) → WayLaws L
way_laws L = record {
  one_way = λ trees end code code' are. one_way trees are end code code';
  one_node = λ trees code n m are. one_node trees are code n m;
  front = λ trees front rest end are. front_node trees are front rest end;
  on_way = λ trees node end code are. on_way trees are node end code;
}

pub growth_laws : (L : Type 0) → GrowthLaws L
growth_laws L = record {
  same = λ trees are. extends_same trees are;
  on = λ old mid new. extends_on old mid new;
  path = λ old new node end code extends path. path_extends extends path;
  way = λ old new end code extends way. way_extends extends way;
  cut = λ n trees end code are below way. way_cut n are.later below way;
  front = λ m n trees le. front_front m n trees le;
}
