use Rattle.std.proofs.Common.{◌≤◌, map, subst, sym}
use Rattle.std.specs.Prelude.{string_bytes}
use Rattle.em_words.specs.declared.asked.Asked.{Asked}
use Rattle.em_words.specs.Work.{HasSize}
use Rattle.em_words.proofs.Bounds.{in_bounds}
use Rattle.em_words.proofs.asked.read_asked.Goals as goal

pub returns-in-Ok-clause-workers : goal.returns-in-Ok-clause-workers
returns-in-Ok-clause-workers c =
    subst (λ (asked : Asked). asked.workers ≤ 64) (sym c.asked_in.ensures)
    (in_bounds (map string_bytes c.args.words.now) c.in-Ok.read c.in-Ok.ensures.ok).workers

pub returns-in-Ok-clause-size : goal.returns-in-Ok-clause-size
returns-in-Ok-clause-size c =
    subst (λ (asked : Asked). HasSize asked.work) (sym c.asked_in.ensures)
    (in_bounds (map string_bytes c.args.words.now) c.in-Ok.read c.in-Ok.ensures.ok).size
