use Rattle.std.proofs.Common.{◌≡◌, ◌+◌, ℕ, ap, arith}
use Rattle.std.proofs.lemmas.Result.{on_ok_weaker}
use Rattle.crossbeam_deque.specs.Handles.{worker_view}
use Rattle.match_pool.specs.Stealing.{stolen}
use Rattle.match_pool.specs.Weights.{weigh}
use Rattle.match_pool.proofs.Weighing.{weigh-append}
use Rattle.match_pool.proofs.ring.close.Goals as goal

pub returns : goal.returns
returns c = on_ok_weaker c.drain.result
    (λ (e : (h : ℕ → ℕ) → weigh h (worker_view c.absorb.new.own).pushed + weigh h c.args.starved.now.items ≡ weigh h (worker_view c.absorb.new.own).taken + weigh h c.drain.new.starved.items) h.
    let pushed = ap (weigh h) c.absorb.ensures.pushed in
    let taken = ap (weigh h) c.absorb.ensures.taken in
    omega (arith, e h, pushed, taken, weigh-append h (worker_view c.args.own.now).taken (stolen c.args.thief)))
    c.drain.ensures
