use Rattle.std.proofs.Common.{List, subst}
use Rattle.match_paths.specs.declared.task.Task.{Task}
use Rattle.match_paths.specs.Climbing.{PutsIn}
use Rattle.match_paths.proofs.ClimbLemmas.{put_in}
use Rattle.match_paths.proofs.TaskLemmas.{same_task}
use Rattle.match_paths.proofs.task_list.TaskList.put.Goals as goal

pub returns : goal.returns
returns c = subst (λ (old : List Task). PutsIn old c.insert.new.self.keys c.args.task) c.self.view_is (put_in _ same_task c.self.inside.tasks.keys c.insert.new.self.keys c.args.task c.in_ok-insert.ensures.keys)
