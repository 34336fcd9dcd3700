use Rattle.std.proofs.Common.{arith}
use Rattle.graph_terms.proofs.ListLaws.{Contains-slice_get}
use Rattle.match_owed.specs.Due.{IsOfEntries}
use Rattle.match_owed.proofs.GiveLemmas.{below_next, below_none, below_some, some_none}
use Rattle.match_owed.proofs.DueLemmas.{AtEntry, all_entries, at_entry, from_entry}
use Rattle.match_owed.proofs.owed.Owed.give_entries.Goals as goal

pub loop-i-init : goal.loop-i-init
loop-i-init c = below_none (AtEntry c.args.starts.now c.args.numbers.now c.args.term) c.args.self.now

pub entry-entry-requires : goal.entry-entry-requires
entry-entry-requires c = c.requires c.number_at.result (Contains-slice_get c.args.numbers.now c.loop-i.i c.number_at.result c.number_at.ensures)

pub loop-i-preserved : goal.loop-i-preserved
loop-i-preserved c = below_next (AtEntry c.args.starts.now c.args.numbers.now c.args.term) c.loop-i.i
    (at_entry c.args.starts.now c.args.numbers.now c.args.term c.loop-i.i c.number_at.result c.entry-entry.result c.number_at.ensures c.entry-entry.ensures c.in_ok-give.ensures.ok) c.loop-i.invariant

pub returns-in_err-give-clause-some : goal.returns-in_err-give-clause-some
returns-in_err-give-clause-some c = below_some (AtEntry c.args.starts.now c.args.numbers.now c.args.term) (IsOfEntries c.args.starts.now c.args.numbers.now c.args.term) c.loop-i.i (λ j claim le at. from_entry c.args.starts.now c.args.numbers.now c.args.term j claim at)
    (some_none (AtEntry c.args.starts.now c.args.numbers.now c.args.term c.loop-i.i) c.loop-i.self c.give.new.self c.in_err-give.ensures.err) c.loop-i.invariant

pub returns-clause-ok : goal.returns-clause-ok
returns-clause-ok c = all_entries c.args.starts.now c.args.numbers.now c.args.term c.loop-i.i (omega (arith, c.loop-i-test.false)) c.loop-i.invariant

pub returns-clause-some : goal.returns-clause-some
returns-clause-some c = (all_entries c.args.starts.now c.args.numbers.now c.args.term c.loop-i.i (omega (arith, c.loop-i-test.false)) c.loop-i.invariant).some
