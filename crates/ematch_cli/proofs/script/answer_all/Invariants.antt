use Rattle.std.proofs.Common.{◌≡◌, ◌≤◌, ◌-◌, None}
use Rattle.ematch_cli.proofs.Reached.{Reached, ahead}
use Rattle.ematch_cli.proofs.script.answer_all.Given as goal

abbrev pub invariant-loop-tree : goal.invariant-loop-tree
invariant-loop-tree g l = record {
  reached : Reached l.task l.limits (g.I.Source.left l.fn.input) (g.I.Source.left l.input) (g.O.Sink.written l.fn.out) (g.O.Sink.written l.out) l.situation (ahead l.reader);
  no_fault : l.reader.fault ≡ None;
  limits : l.reader.limits ≡ l.limits;
  input_later : g.I.Source.fault_count l.fn.input ≤ g.I.Source.fault_count l.input;
  out_later : g.O.Sink.fault_count l.fn.out ≤ g.O.Sink.fault_count l.out;
  input_quiet : g.I.Source.fault_count l.input ≡ g.I.Source.fault_count l.fn.input;
  out_quiet : g.O.Sink.fault_count l.out ≡ g.O.Sink.fault_count l.fn.out;
}

abbrev pub decreases-loop-tree : goal.decreases-loop-tree
decreases-loop-tree g l = l.reader.limits.bytes - l.reader.before
