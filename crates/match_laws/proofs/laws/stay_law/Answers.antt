use Rattle.match_laws.proofs.StepLaws.{continues_front}
use Rattle.match_laws.proofs.GrowLaws.{item_stays, justified_stays, justified_since}
use Rattle.match_laws.proofs.laws.stay_law.Goals as goal

pub returns-clause-item : goal.returns-clause-item
returns-clause-item c before more lawful = item_stays (continues_front before more lawful)

pub returns-clause-claim : goal.returns-clause-claim
returns-clause-claim c earlier before more claim lawful = justified_stays (continues_front before more lawful)

pub returns-clause-front : goal.returns-clause-front
returns-clause-front c before more now claim lawful = justified_since (continues_front before more lawful)
