use Rattle.std.proofs.Common.{take, List, sym, subst, arith}
use Rattle.graph_terms.proofs.ListLaws.{take-slice_get}
use Rattle.match_trees.specs.Growth.{Leads}
use Rattle.match_trees.proofs.WayLemmas.{path_end}
use Rattle.match_trees.proofs.NodeLemmas.{leads_first, leads_more}
use Rattle.match_trees.proofs.node_table.NodeTable.put_way.Goals as goal

pub loop-i-init : goal.loop-i-init
loop-i-init g c = record { some = omega arith; leads = leads_first c.args.self.now c.put.new.self c.label_at.result.now c.args.way.now c.in_ok-end.end c.label_at.ensures c.in_ok-end.ensures.ok }

pub put-requires-in-loop-i : goal.put-requires-in-loop-i
put-requires-in-loop-i g c = path_end c.loop-i.invariant.leads.way.path

pub loop-i-preserved : goal.loop-i-preserved
loop-i-preserved g c = record {
  some = omega arith;
  leads = subst (λ (code : List g.row.L.Denot). Leads c.args.self.now c.put-in-loop-i.new.self code c.in_ok-end-2.end) (sym (take-slice_get c.args.way.now c.loop-i.i c.label_at-in-loop-i.result.now c.label_at-in-loop-i.ensures))
      (leads_more c.args.self.now c.loop-i.self c.put-in-loop-i.new.self (take c.loop-i.i c.args.way.now) c.label_at-in-loop-i.result.now c.loop-i.end c.in_ok-end-2.end c.loop-i.invariant.leads c.in_ok-end-2.ensures.ok);
}
