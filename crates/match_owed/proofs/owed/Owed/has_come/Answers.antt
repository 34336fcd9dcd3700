use Rattle.std.proofs.lemmas.Grind.{common_steps}
use Rattle.std.proofs.Common.{◌≡◌, ◌≤◌, ◌∙◌, Some, Option, ℕ, ap, refl, sym, subst, arith}
use Rattle.std.proofs.lemmas.Option.{none-some, same_Some}
use Rattle.match_owed.specs.OwedLog.{OwedLog}
use Rattle.match_owed.specs.Giving.{HasCome}
use Rattle.match_owed.specs.OwedInside.{owed_of}
use Rattle.match_owed.proofs.GiveLemmas.{has_come}
use Rattle.match_owed.proofs.owed.Owed.has_come.Goals as goal

pub returns-in-Some-batch : goal.returns-in-Some-batch
returns-in-Some-batch c late = subst (λ (s : OwedLog). HasCome s c.args.claim) c.self.view_is
    (has_come (owed_of c.self.inside) c.args.claim c.in-Some.place (c.in-Some.ensures.some c.in-Some.place refl) (λ mark out. let is : c.in-Some-batch.mark ≡ mark = same_Some c.in-Some-batch.mark mark (sym c.in-Some-batch.is ∙ out) in let le : c.in-Some-batch.mark ≤ c.in-Some.place = grind (arith, common_steps) in omega (arith, is, le)))

pub returns-in-None-batch : goal.returns-in-None-batch
returns-in-None-batch c late = subst (λ (s : OwedLog). HasCome s c.args.claim) c.self.view_is
    (has_come (owed_of c.self.inside) c.args.claim c.in-Some.place (c.in-Some.ensures.some c.in-Some.place refl) (λ mark out. absurd (none-some mark (sym c.in-None-batch.is ∙ out))))
