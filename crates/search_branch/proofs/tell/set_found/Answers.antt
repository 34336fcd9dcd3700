use Rattle.std.proofs.Common.{ℕ, ◌+◌, drop, get_or, sym, ◌∙◌, Contains}
use Rattle.std.proofs.lemmas.Option.{slice_get-get_or, get_or_from_slice_get}
use Rattle.search_values.specs.Kept.{given_of}
use Rattle.search_branch.proofs.TellLemmas.{keeps_more, told_more, drop_waits}
use Rattle.search_branch.proofs.tell.set_found.Goals as goal

pub loop-i-preserved : goal.loop-i-preserved
loop-i-preserved c =
    let tells = c.in_ok-set_one.ensures.tells in
    let standing = c.args.stack.now.graph.standing in
    let nodes = c.args.stack.now.formulas.nodes in
    let found = c.args.found.now in
    let n = get_or found c.loop-i.i 0 in
    let at = slice_get-get_or found c.loop-i.i 0 c.loop-i-test.true in
    let is = sym (get_or_from_slice_get found c.loop-i.i n n at) in
    let waits = λ (i m : ℕ). Contains (drop i found) m in
    record {
      kinds = tells.sets.kinds ∙ c.loop-i.invariant.kinds;
      told = told_more (waits c.loop-i.i) (waits (c.loop-i.i + 1)) standing nodes n (given_of c.loop-i.values)
          (given_of c.set_one.new.values)
          (λ m within other. drop_waits found c.loop-i.i n m c.loop-i-test.true is within other) tells
          c.loop-i.invariant.told;
      keeps = keeps_more standing nodes n (given_of c.args.values.now) (given_of c.loop-i.values)
          (given_of c.set_one.new.values) c.loop-i.invariant.keeps tells;
      saved = c.in_ok-set_one.ensures.saved ∙ c.loop-i.invariant.saved;
    }
