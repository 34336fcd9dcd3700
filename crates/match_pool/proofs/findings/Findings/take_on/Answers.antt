use Rattle.match_pool.proofs.Finding.{takes-on}
use Rattle.match_pool.proofs.findings.Findings.take_on.Goals as goal

pub returns-clause-takes : goal.returns-clause-takes
returns-clause-takes g c = takes-on _ _ _ _ _ c.answer_to-answer.ensures.item c.answer_to-answer.ensures.answer c.put.ensures.puts
