use Rattle.std.proofs.Common.{ap, sym, ◌∙◌, arith, ◌≡◌}
use Rattle.smt_terms.specs.Reading.{from}
use Rattle.smt_terms.specs.Cursor.{trees_from}
use Rattle.smt_terms.proofs.CursorLemmas.{from_more}
use Rattle.smt_terms.proofs.cursor.behind_some.Goals as goal

pub loop-passed-preserved : goal.loop-passed-preserved
loop-passed-preserved c = record {
  in_range = omega arith;
  stands = c.behind_one-at.ensures ∙ ap (from 1) c.loop-passed.invariant.stands ∙ sym (from_more c.loop-passed.passed (trees_from c.args.tree.now c.args.i));
}

pub returns : goal.returns
returns c = let e : c.loop-passed.passed ≡ c.args.count = omega (arith, c.loop-passed.invariant.in_range) in c.loop-passed.invariant.stands ∙ ap (λ n. from n (trees_from c.args.tree.now c.args.i)) e
