use Rattle.std.proofs.Common.{arith}
use Rattle.std.proofs.lemmas.Option.{slice_get_within}
use Rattle.match_paths.proofs.ClimbLemmas.{ends_there, finds_none, finds_next, finds_all}
use Rattle.match_paths.proofs.climb.find_at.Goals as goal

pub entry-entry-requires : goal.entry-entry-requires
entry-entry-requires c =
    let lt = slice_get_within c.args.entries.now.ends _ c.args.node (ends_there c.args.entries.now c.args.node c.args.root c.ends_at-number-items.result.now c.ends_at-number-items.ensures c.loop-number.number-index c.loop-number-test.true) in
    omega (arith, lt, c.len-entries.ensures.each)

pub loop-number-init : goal.loop-number-init
loop-number-init c = finds_none c.args.entries.now c.args.node c.args.root c.ends_at-number-items.result.now c.args.claims.now

pub loop-number-preserved : goal.loop-number-preserved
loop-number-preserved c = finds_next c.args.entries.now c.args.node c.args.root c.ends_at-number-items.result.now c.ends_at-number-items.ensures c.loop-number.number-index c.args.claims.now c.loop-number.claims c.put.new.self c.entry-entry.result c.loop-number-test.true c.entry-entry.ensures c.in_ok-put.ensures c.loop-number.invariant

pub returns : goal.returns
returns c = finds_all c.args.entries.now c.args.node c.args.root c.ends_at-number-items.result.now c.ends_at-number-items.ensures c.loop-number.number-index c.args.claims.now c.loop-number.claims c.loop-number-test.false c.loop-number.invariant
