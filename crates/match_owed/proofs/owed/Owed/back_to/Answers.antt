use Rattle.std.proofs.Common.{◌≡◌, ◌≤◌, ◌∙◌, ℕ, None, Option, Some, slice_get, length, take, arith, ap, subst, sym}
use Rattle.std.proofs.lemmas.List.{length-take-le}
use Rattle.std.proofs.lemmas.Option.{none-some}
use Rattle.match_owed.specs.OwedLog.{OwedLog}
use Rattle.match_owed.specs.OwedInside.{owed_of}
use Rattle.match_owed.proofs.owed.Owed.back_to.Goals as goal

pub invariant_of-self : goal.invariant_of-self
invariant_of-self c =
    let old : OwedLog = owed_of c.self.inside in
    let within : c.args.mark ≤ length old.log = subst (λ (s : OwedLog). c.args.mark ≤ length s.log) (sym c.self.view_is) c.requires.within in
    let levels : (k opened : ℕ) → slice_get old.levels k ≡ Some opened → opened ≤ c.args.mark = subst (λ (s : OwedLog). (k opened : ℕ) → slice_get s.levels k ≡ Some opened → opened ≤ c.args.mark) (sym c.self.view_is) c.requires.levels in
    let free : old.batch ≡ None = subst (λ (s : OwedLog). s.batch ≡ None) (sym c.self.view_is) c.requires.free in
    let long : length c.cut.new.self ≡ c.args.mark = ap length c.cut.ensures ∙ length-take-le c.args.mark old.log within in
    record {
      within = λ k mark at. let le = levels k mark at in omega (arith, le, long);
      rising = c.self.invariant.rising;
      taken = λ mark is. absurd (none-some mark (sym free ∙ is));
      begin = λ mark is. absurd (none-some mark is);
      after_levels = λ mark m k is at. absurd (none-some mark is);
      after_batch = λ mark m is at. absurd (none-some mark is);
    }
