use Rattle.smt_forms.proofs.MovedLemmas.{drop_at}
use Rattle.smt_forms.proofs.moved.node_from.Goals as goal

pub returns : goal.returns
returns c = drop_at c.args.source.now.nodes c.args.i c.node_at.result.now c.node_at.ensures
