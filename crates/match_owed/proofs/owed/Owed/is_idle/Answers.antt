use Rattle.std.proofs.Common.{◌≡◌, ◌<◌, length, subst, arith}
use Rattle.std.proofs.lemmas.Grind.{common_steps}
use Rattle.match_owed.specs.OwedLog.{OwedLog, IsBusy, IsIdle}
use Rattle.match_owed.specs.OwedInside.{owed_of}
use Rattle.match_owed.proofs.DischargeLemmas.{busy_from, idle_from}
use Rattle.match_owed.proofs.owed.Owed.is_idle.Goals as goal

pub returns-clause-yes : goal.returns-clause-yes
returns-clause-yes c h =
    let none : length c.self.inside.levels.items ≡ 0 = omega (arith, c.if-len-gt0.false, c.len.ensures, c.self.inside.levels.ok.0) in
    let zero : c.owed.result ≡ 0 = grind (arith, common_steps) in
    subst (λ (s : OwedLog). IsIdle s) c.self.view_is (idle_from (owed_of c.self.inside) c.owed.result c.owed.ensures none zero)

pub returns-clause-no : goal.returns-clause-no
returns-clause-no c h =
    let some : 0 < c.owed.result = grind (arith, common_steps) in
    subst (λ (s : OwedLog). IsBusy s) c.self.view_is (busy_from (owed_of c.self.inside) c.owed.result c.owed.ensures some)
