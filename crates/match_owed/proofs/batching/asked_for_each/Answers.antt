use Rattle.std.proofs.Common.{List, ◌+◌, subst, sym}
use Rattle.graph_terms.proofs.ListLaws.{Contains-slice_get}
use Rattle.match_owed.specs.declared.asked.Asked.{Asked}
use Rattle.match_owed.proofs.BatchLemmas.{AskFirst, ask_next}
use Rattle.match_owed.proofs.batching.asked_for_each.Goals as goal

pub asked_for-requires : goal.asked_for-requires
asked_for-requires c = c.requires c.claim_at.result (Contains-slice_get c.args.claims.now c.loop-i.i c.claim_at.result c.claim_at.ensures)

pub loop-i-preserved : goal.loop-i-preserved
loop-i-preserved c = subst (AskFirst c.args.forest.now c.args.claims.now (c.loop-i.i + 1)) (sym c.in_ok-push.ensures.items)
    (ask_next c.args.forest.now c.args.claims.now c.loop-i.i c.loop-i.asked.items c.claim_at.result c.asked_for.result c.claim_at.ensures c.asked_for.ensures c.loop-i.invariant)
