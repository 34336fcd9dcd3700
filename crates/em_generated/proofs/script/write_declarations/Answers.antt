use Rattle.std.proofs.Common.{◌∙◌, arith}
use Rattle.em_generated.proofs.PutsLaws.{puts_none, puts_then, puts_stop}
use Rattle.em_generated.proofs.Lines.{each_none, each_more, each_split, led, followed}
use Rattle.em_generated.proofs.Pieces.{declaration_is}
use Rattle.em_generated.specs.GeneratedScript.{declaration}
use Rattle.em_generated.specs.Putting.{each_line}
use Rattle.em_generated.proofs.script.write_declarations.Goals as goal

pub loop-index-init : goal.loop-index-init
loop-index-init g c = record {
  puts = rw each_none (puts_none c.args.gone (g.K.Sink.written c.args.sink.now) (g.K.Sink.fault_count c.args.sink.now));
  within = omega arith;
}

pub returns-in_err-end-clause-puts : goal.returns-in_err-end-clause-puts
returns-in_err-end-clause-puts g c = puts_then _ c.loop-index.invariant.puts
    (puts_stop _ _ c.in_err-end.ensures.puts c.from_residual.ensures.1 (led _ (declaration_is c.loop-index.index)))
    (each_split declaration c.args.count c.loop-index.index (omega arith))

pub loop-index-preserved : goal.loop-index-preserved
loop-index-preserved g c = record {
  puts = puts_then _ c.loop-index.invariant.puts c.in_ok-end.ensures.puts
      (each_more declaration c.loop-index.index ∙ followed (each_line declaration c.loop-index.index) (declaration_is c.loop-index.index));
  within = omega (arith, c.in_ok-end.ensures.within);
}
