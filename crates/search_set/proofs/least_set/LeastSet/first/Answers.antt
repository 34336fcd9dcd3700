use Rattle.std.proofs.Common.{◌≡◌, ℕ, List, Bool, false, drop, slice_index_or, sym, subst}
use Rattle.search_set.specs.Members.{HasNone}
use Rattle.search_set.proofs.TreeLemmas.{none_at_all}
use Rattle.search_set.proofs.least_set.LeastSet.first.Goals as goal

pub returns-then-not-index : goal.returns-then-not-index
returns-then-not-index c =
    let sound = c.self.invariant in
    let off : slice_index_or c.self.inside.marks.items 1 false ≡ false = sym (subst (λ (v : Bool). v ≡ slice_index_or c.self.inside.marks.items 1 v) c.if-not-index.true c.index.ensures) in
    let P : ℕ → Type 0 = λ r. HasNone (drop r c.self.inside.marks.items) in
    let Q : List Bool → Type 0 = λ set. HasNone set in
    subst Q c.self.view_is (subst P (sym sound.room) (none_at_all c.self.inside.marks.items c.self.inside.height sound.tree off))
