use Rattle.std.proofs.Common.{get_or, arith}
use Rattle.std.proofs.lemmas.Option.{slice_get-get_or}
use Rattle.ematch_cli.proofs.Quotes.{quoted_step, quoted_all}
use Rattle.ematch_cli.proofs.error_line.push_quoted.Goals as goal

pub loop-i-preserved : goal.loop-i-preserved
loop-i-preserved c =
    quoted_step c.args.name.now c.loop-i.i (get_or c.args.name.now c.loop-i.i 0) c.loop-i.text.items c.push_quoted_byte.new.text.items _ (slice_get-get_or c.args.name.now c.loop-i.i 0 (omega arith))
    c.in_ok-push_quoted_byte.ensures c.loop-i.invariant

pub returns : goal.returns
returns c = quoted_all c.args.name.now c.loop-i.i c.loop-i.text.items _ (omega arith) c.loop-i.invariant
