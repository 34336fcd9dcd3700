use Rattle.std.proofs.Common.{List, [], ◌∷◌, ◌++◌, ◌+◌, subst}
use Rattle.graph_trigger.specs.declared.trigger.Trigger.{Trigger}
use Rattle.match_owed.specs.Starts.{StartList, Serves}
use Rattle.match_owed.proofs.StartLemmas.{serves_more}
use Rattle.match_owed.proofs.starts.Starts.insert.Goals as goal

pub returns-in-Ok-clause-serves : goal.returns-in-Ok-clause-serves
returns-in-Ok-clause-serves c =
    subst (λ (s : StartList). (triggers : List Trigger) → Serves s triggers → Serves (record { list = c.add_starts.new.entries; triggers = c.self.inside.triggers + 1 }) (triggers ++ c.args.trigger.now ∷ [])) c.self.view_is
    (λ triggers serves. serves_more c.args.trigger.now c.self.inside.entries c.add_starts.new.entries c.self.inside.triggers triggers c.in-Ok.ensures.ok serves)
