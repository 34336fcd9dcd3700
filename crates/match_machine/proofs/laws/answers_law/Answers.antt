use Rattle.match_machine.proofs.RunLemmas.{answers_are_matches}
use Rattle.match_machine.proofs.laws.answers_law.Goals as goal

pub returns : goal.returns
returns c = answers_are_matches
