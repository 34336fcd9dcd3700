use Rattle.match_code.proofs.ClassLaws.{yields_same}
use Rattle.match_code.proofs.laws.classes_law.Goals as goal

pub returns : goal.returns
returns c = λ standing root code contents others tuple lawful same run. yields_same lawful same run
