use Rattle.std.proofs.Common.{◌≤◌, ◌+◌, ◌*◌, Ok}
use Rattle.em_generated.specs.GeneratedScript.{square}
use Rattle.em_generated.specs.Putting.{Puts, each_line}
use Rattle.em_generated.proofs.script.write_squares.Given as goal

abbrev pub invariant-loop-index : goal.invariant-loop-index
invariant-loop-index g l = record {
  puts : Puts l.gone (g.K.Sink.written l.fn.sink) (g.K.Sink.written l.sink) (g.K.Sink.fault_count l.fn.sink)
      (g.K.Sink.fault_count l.sink) (Ok l.end) (each_line square l.index);
  within : l.end ≤ l.gone + 200 * l.index;
}
