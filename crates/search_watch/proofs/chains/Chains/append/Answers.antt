use Rattle.std.proofs.Common.{ℕ, take, ap, ◌∙◌, arith}
use Rattle.search_watch.specs.Chains.{slot_at, chain_at, grown}
use Rattle.search_watch.proofs.ChainLemmas.{append_step, source_at, source_len}
use Rattle.search_watch.proofs.chains.Chains.append.Goals as goal

pub loop-i-preserved : goal.loop-i-preserved
loop-i-preserved c =
    let s = c.args.self.now in
    let into = slot_at s c.args.kept in
    let item = c.get-item.ensures ∙ source_at s c.loop-i.self c.args.moved into c.loop-i.i (take c.loop-i.i (chain_at s c.args.moved)) c.requires.kept.slot_stands c.loop-i.invariant (omega (arith, c.len-i-end.ensures)) in
    append_step s c.loop-i.self c.grow.new.self into c.loop-i.i c.get-item.result (chain_at s c.args.kept) (chain_at s c.args.moved) c.requires.kept.slot_stands c.loop-i.invariant
    (c.in_ok-grow.ensures.ok ∙ ap (λ (slot : ℕ). grown c.loop-i.self slot c.get-item.result) c.slot-into.ensures) item (omega (arith, c.len-i-end.ensures))

pub get-item-requires-clause-item : goal.get-item-requires-clause-item
get-item-requires-clause-item c =
    let s = c.args.self.now in
    let longer = source_len s c.loop-i.self c.args.moved (slot_at s c.args.kept) (take c.loop-i.i (chain_at s c.args.moved)) c.requires.kept.slot_stands c.loop-i.invariant in
    omega (arith, longer, c.len-i-end.ensures)
