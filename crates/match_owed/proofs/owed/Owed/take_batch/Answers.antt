use Rattle.std.proofs.Common.{◌≡◌, List, Contains, subst, sym}
use Rattle.graph_meaning.specs.declared.claim.Claim.{Claim}
use Rattle.match_owed.specs.declared.asked.Asked.{Asked}
use Rattle.match_owed.specs.OwedLog.{OwedLog, Owes, AreOwed}
use Rattle.match_owed.specs.Asked.{AsksFor, Joins}
use Rattle.match_owed.proofs.BatchLemmas.{are_items, asked_below}
use Rattle.match_owed.proofs.owed.Owed.take_batch.Goals as goal

pub asked_in_order-requires : goal.asked_in_order-requires
asked_in_order-requires c claim has =
    c.requires.entries claim (subst (λ (s : OwedLog). Owes s.log claim) c.self.view_is ((c.in_ok-claims.ensures.exact claim).0 (subst (λ (xs : List Claim). Contains xs claim) c.deref.ensures.value has)))

pub joined-requires-clause-entries : goal.joined-requires-clause-entries
joined-requires-clause-entries c one has = asked_below c.args.forest.now c.deref.result.now c.in_ok-asked.asked.items c.in_ok-asked.ensures.exact one (subst (λ (xs : List Asked). Contains xs one) c.deref-2.ensures.value has)

pub returns-clause-items : goal.returns-clause-items
returns-clause-items c = are_items c.args.forest.now c.args.self.now.log c.in_ok-claims.claims.items c.in_ok-asked.asked.items c.in_ok-batch.batch (subst (λ (s : OwedLog). AreOwed s.log c.in_ok-claims.claims.items) c.self.view_is c.in_ok-claims.ensures)
    (subst (λ (xs : List Claim). AsksFor c.args.forest.now xs c.in_ok-asked.asked.items) c.deref.ensures.value c.in_ok-asked.ensures.exact)
    (subst (λ (xs : List Asked). Joins xs c.in_ok-batch.batch) c.deref-2.ensures.value c.in_ok-batch.ensures.joins)
