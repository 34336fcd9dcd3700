use Rattle.std.proofs.Common.{length, take}
use Rattle.search_watch.specs.Back.{CanGoBack}
use Rattle.search_watch.specs.Service.{Serves, service}
use Rattle.search_branch.specs.Given.{ends_of}
use Rattle.search_branch.proofs.build.add_literals.Given as goal

abbrev pub invariant-loop-n : goal.invariant-loop-n
invariant-loop-n l =
    let nodes = l.stack.formulas.nodes in
    record {
      serves : Serves (service l.stack.graph.standing (ends_of 0 (take l.n nodes)) (length nodes)) l.watch;
      back : CanGoBack l.fn.watch l.watch;
    }
