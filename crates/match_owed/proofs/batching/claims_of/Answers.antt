use Rattle.std.proofs.Common.{◌+◌, refl, subst, sym, arith}
use Rattle.graph_terms.proofs.ListLaws.{Contains-slice_get}
use Rattle.graph_meaning.specs.declared.claim.Claim.{Claim}
use Rattle.match_owed.proofs.BatchLemmas.{AreFirstClaims, claims_next, claims_all, entry_made}
use Rattle.match_owed.proofs.batching.claims_of.Goals as goal

pub trigger_of-requires : goal.trigger_of-requires
trigger_of-requires c = c.requires c.get-entry.result (Contains-slice_get c.args.entries.now c.loop-i.i c.get-entry.result c.get-entry.ensures.value)

pub start_of-requires : goal.start_of-requires
start_of-requires c = c.requires c.get-entry.result (Contains-slice_get c.args.entries.now c.loop-i.i c.get-entry.result c.get-entry.ensures.value)

pub loop-i-preserved : goal.loop-i-preserved
loop-i-preserved c =
    let made : Claim = record { trigger = c.trigger_of.result; start = c.start_of.result; root = c.args.root } in
    subst (AreFirstClaims c.args.forest.now c.args.root c.args.entries.now (c.loop-i.i + 1)) (sym c.in_ok-push.ensures.ok)
    (claims_next c.args.forest.now c.args.root c.args.entries.now c.loop-i.i c.get-entry.result made c.loop-i.claims c.get-entry.ensures.value
    (entry_made c.args.forest.now c.get-entry.result made (c.requires c.get-entry.result (Contains-slice_get c.args.entries.now c.loop-i.i c.get-entry.result c.get-entry.ensures.value)) c.trigger_of.ensures c.start_of.ensures) refl c.loop-i.invariant)

pub returns : goal.returns
returns c = claims_all c.args.forest.now c.args.root c.args.entries.now c.loop-i.i c.loop-i.claims (omega (arith, c.loop-i-test.false, c.len-i-end.ensures)) c.loop-i.invariant
