use Rattle.graph_meaning.proofs.LawfulLaws.{IsLawful-take, IsLawful-after}
use Rattle.graph_meaning.proofs.laws.lawful_law.Goals as goal

pub returns-clause-front : goal.returns-clause-front
returns-clause-front c = λ standing k lawful. IsLawful-take k standing lawful

pub returns-clause-after : goal.returns-clause-after
returns-clause-after c = IsLawful-after
