use Rattle.std.proofs.Common.{map, subst, sym}
use Rattle.std.specs.Prelude.{string_bytes}
use Rattle.em_words.specs.Work.{HasSize}
use Rattle.em_words.proofs.Bounds.{in_bounds}
use Rattle.em_words.proofs.work.read_work.Goals as goal

pub returns-in-Ok-clause-size : goal.returns-in-Ok-clause-size
returns-in-Ok-clause-size c = subst HasSize (sym c.work_of.ensures) (in_bounds (map string_bytes c.args.words.now) c.in-Ok.read c.in-Ok.ensures.ok).size
