use Rattle.std.proofs.Common.{refl, ◌∙◌, arith}
use Rattle.search_values.specs.Kept.{given_of}
use Rattle.search_branch.proofs.StartLemmas.{so_many, parts_stand, none_behind, next_behind}
use Rattle.search_branch.proofs.build.enter_nodes.Goals as goal

pub loop-n-init : goal.loop-n-init
loop-n-init c = record {
  from = omega arith;
  behind = none_behind c.args.formulas.now.nodes c.args.first (given_of c.args.values.now) c.requires.first
      c.requires.kinds c.requires.parts;
  saved = refl;
}

pub enter-requires-clause-earlier : goal.enter-requires-clause-earlier
enter-requires-clause-earlier c =
    let table = c.args.formulas.now in
    let values = c.loop-n.values in
    let within = c.loop-n-test.true in
    let count = c.len-n-end.ensures.value in
    parts_stand table c.loop-n.n c.node-node.result.now c.in_ok-parts.parts values.shown.kinds c.len-n-end.ensures.table
    c.node-node.ensures c.in_ok-parts.ensures
    (so_many table.nodes c.args.first c.loop-n.n (given_of c.args.values.now) (given_of values)
    (omega (arith, within, count)) c.loop-n.invariant.behind)

pub loop-n-preserved : goal.loop-n-preserved
loop-n-preserved c =
    let from = c.loop-n.invariant.from in
    record {
      from = omega (arith, from);
      behind = next_behind c.args.formulas.now.nodes c.args.first c.loop-n.n c.node-node.result.now c.kind_of.result
          c.in_ok-parts.parts (given_of c.args.values.now) (given_of c.loop-n.values) (given_of c.enter.new.self) from
          c.node-node.ensures c.kind_of.ensures c.in_ok-parts.ensures c.in_ok-enter.ensures.enters
          c.loop-n.invariant.behind;
      saved = c.in_ok-enter.ensures.saved ∙ c.loop-n.invariant.saved;
    }
