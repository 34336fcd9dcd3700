use Rattle.std.proofs.Common.{true, false}
use Rattle.smt_text.specs.Script.{script_of}
use Rattle.ematch_cli.specs.Output.{opening}
use Rattle.ematch_cli.proofs.OneAnswer.{answer_once, right_opening}
use Rattle.ematch_cli.proofs.laws.one_answer.Goals as goal

pub returns-clause-output : goal.returns-clause-output
returns-clause-output c task limits bytes a b one other = answer_once task limits c.run_law.ensures true (script_of limits bytes) (opening limits) a b (right_opening c.run_law.ensures limits) one other

pub returns-clause-so_far : goal.returns-clause-so_far
returns-clause-so_far c task limits bytes a b one other = answer_once task limits c.run_law.ensures false (script_of limits bytes) (opening limits) a b (right_opening c.run_law.ensures limits) one other
