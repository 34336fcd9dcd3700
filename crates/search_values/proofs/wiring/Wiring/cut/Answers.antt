use Rattle.std.proofs.Common.{◌≡◌, ◌-◌, ◌+◌, ◌≤◌, ℕ, length, take, ap, sym, ◌∙◌, arith}
use Rattle.std.proofs.lemmas.List.{take_all}
use Rattle.search_values.proofs.WireLemmas.{cut_at, cut_next}
use Rattle.search_values.proofs.wiring.Wiring.cut.Goals as goal

pub loop-gone-init : goal.loop-gone-init
loop-gone-init c = (sym (take_all (length c.args.self.now.parts - (c.args.count - c.args.count)) c.args.self.now.parts (omega arith)), omega arith)

pub loop-gone-preserved : goal.loop-gone-preserved
loop-gone-preserved c =
    let parts = c.args.self.now.parts in
    let kept = length parts - (c.loop-gone._gone - c.args.count) in
    let one : kept - 1 ≡ length parts - ((c.loop-gone._gone + 1) - c.args.count) = omega arith in
    (c.drop_last.ensures ∙ cut_next parts c.loop-gone.self.parts kept c.loop-gone.invariant.0 (omega arith) ∙ ap (λ (k : ℕ). take k parts) one, omega (arith, c.len-len.ensures.len))

pub returns-clause-parts : goal.returns-clause-parts
returns-clause-parts c = c.loop-gone.invariant.0 ∙ cut_at c.args.self.now.parts c.args.count (c.loop-gone._gone - c.args.count) (omega (arith, c.len-len.ensures.len, c.loop-gone.invariant.1))
