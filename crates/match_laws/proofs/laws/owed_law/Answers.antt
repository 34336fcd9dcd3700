use Rattle.match_laws.proofs.OwedLaws.{complete_after, justified_after, sound_after, covers_none, covers_after, complete_late, settled}
use Rattle.match_laws.proofs.laws.owed_law.Goals as goal

pub returns-clause-complete : goal.returns-clause-complete
returns-clause-complete c = complete_after

pub returns-clause-justified : goal.returns-clause-justified
returns-clause-justified c = justified_after

pub returns-clause-sound : goal.returns-clause-sound
returns-clause-sound c = sound_after

pub returns-clause-nothing_came : goal.returns-clause-nothing_came
returns-clause-nothing_came c = covers_none

pub returns-clause-covers : goal.returns-clause-covers
returns-clause-covers c = covers_after

pub returns-clause-late : goal.returns-clause-late
returns-clause-late c = complete_late

pub returns-clause-settled : goal.returns-clause-settled
returns-clause-settled c = settled
