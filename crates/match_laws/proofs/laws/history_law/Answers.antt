use Rattle.match_laws.proofs.HistoryLaws as laws
use Rattle.match_laws.proofs.laws.history_law.Goals as goal

pub returns-clause-step : goal.returns-clause-step
returns-clause-step c = λ old new levels levels'. laws.step_holds

pub returns-clause-history : goal.returns-clause-history
returns-clause-history c = laws.history_law

pub returns-clause-gives : goal.returns-clause-gives
returns-clause-gives c = laws.gives_law
