use Rattle.std.proofs.Common.{◌≡◌, ℕ, ◌+◌, ◌/◌, slice_set, subst, sym, ◌∙◌, arith}
use Rattle.search_set.proofs.TreeLemmas.{IsTreeBut, raise_first, raise_more, raise_last, drop-set_below, drop-set_above}
use Rattle.search_set.proofs.tree.set_mark.Goals as goal

pub loop-at-init : goal.loop-at-init
loop-at-init c =
    let P : ℕ → Type 0 = λ r. IsTreeBut (slice_set c.args.marks.now (r + c.args.number) c.args.on) c.args.height ((r + c.args.number) / 2) in
    record {
      one = omega arith;
      within = omega arith;
      tree = subst P (sym c.requires.room) (raise_first c.args.marks.now c.args.height c.args.number c.args.on c.requires.tree);
      bottom = drop-set_above c.args.marks.now c.args.room c.args.number c.args.on (omega (arith, c.requires.tree.len, c.requires.room));
    }

pub loop-at-preserved : goal.loop-at-preserved
loop-at-preserved c = record {
  one = omega arith;
  within = omega arith;
  tree = raise_more c.loop-at.marks c.args.height (c.loop-at.at / 2) c.is_set_below-joined.result (omega arith) (omega (arith, c.requires.room)) c.loop-at.invariant.tree c.is_set_below-joined.ensures;
  bottom = drop-set_below c.loop-at.marks c.args.room (c.loop-at.at / 2) c.is_set_below-joined.result (omega arith) ∙ c.loop-at.invariant.bottom;
}

pub returns-clause-tree : goal.returns-clause-tree
returns-clause-tree c =
    let e : c.loop-at.at / 2 ≡ 0 = omega arith in
    let P : ℕ → Type 0 = λ k. IsTreeBut c.loop-at.marks c.args.height k in
    raise_last c.loop-at.marks c.args.height (subst P e c.loop-at.invariant.tree)
