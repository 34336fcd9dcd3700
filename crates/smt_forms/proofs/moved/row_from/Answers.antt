use Rattle.smt_forms.proofs.MovedLemmas.{drop_at}
use Rattle.smt_forms.proofs.moved.row_from.Goals as goal

pub returns : goal.returns
returns c = drop_at c.args.source.now.rows c.args.i c.row_at.result.now c.row_at.ensures
