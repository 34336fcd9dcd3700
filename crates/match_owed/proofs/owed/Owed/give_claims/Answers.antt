use Rattle.std.proofs.Common.{Contains, arith}
use Rattle.graph_terms.proofs.ListLaws.{Contains-slice_get}
use Rattle.match_owed.proofs.GiveLemmas.{AtPlace, all_places, at_place, below_next, below_none, below_some, some_none}
use Rattle.match_owed.proofs.owed.Owed.give_claims.Goals as goal

pub loop-i-init : goal.loop-i-init
loop-i-init c = below_none (AtPlace c.args.claims.now) c.args.self.now

pub loop-i-preserved : goal.loop-i-preserved
loop-i-preserved c = below_next (AtPlace c.args.claims.now) c.loop-i.i (at_place c.args.claims.now c.loop-i.i c.at.result c.at.ensures c.in_ok-give.ensures.ok) c.loop-i.invariant

pub returns-in_err-give-clause-some : goal.returns-in_err-give-clause-some
returns-in_err-give-clause-some c = below_some (AtPlace c.args.claims.now) (λ claim. Contains c.args.claims.now claim) c.loop-i.i (λ j claim le at. Contains-slice_get c.args.claims.now j claim at)
    (some_none (AtPlace c.args.claims.now c.loop-i.i) c.loop-i.self c.give.new.self c.in_err-give.ensures.err) c.loop-i.invariant

pub returns-clause-ok : goal.returns-clause-ok
returns-clause-ok c = all_places c.args.claims.now c.loop-i.i (omega (arith, c.loop-i-test.false, c.len-i-end.ensures.value)) c.loop-i.invariant

pub returns-clause-some : goal.returns-clause-some
returns-clause-some c = (all_places c.args.claims.now c.loop-i.i (omega (arith, c.loop-i-test.false, c.len-i-end.ensures.value)) c.loop-i.invariant).some
