use Rattle.std.proofs.Common.{rules, ◌≡◌, ◌++◌, ◌∙◌, ℕ, Option, Some, List, ap, sym, subst, arith}
use Rattle.std.proofs.lemmas.List.{append-nil}
use Rattle.crossbeam_deque.specs.Handles.{view, worker_view}
use Rattle.match_pool.specs.declared.thief.Thief.{Thief}
use Rattle.match_pool.specs.declared.share.Share.{Share}
use Rattle.match_pool.specs.Stealing.{Fits, stolen}
use Rattle.match_pool.proofs.Deals.{merges}
use Rattle.match_pool.proofs.ring.absorb.Goals as goal

pub absorb-requires-clause-rule : goal.absorb-requires-clause-rule
absorb-requires-clause-rule c =
    let fits : Fits (Some c.in-Some.thief) c.args.own.now = subst (λ (r : Option Thief). Fits r c.args.own.now) c.in-Some.is c.requires in
    merges _ _ _ _ (omega (arith, fits.0))
