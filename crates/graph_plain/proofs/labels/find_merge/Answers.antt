use Rattle.std.proofs.Common.{◌≡◌, ℕ, sym, ap, subst, ◌∙◌}
use Rattle.std.proofs.lemmas.List.{take_all}
use Rattle.std.proofs.lemmas.Option.{same_Some}
use Rattle.graph_meaning.specs.Standing.{merges_of}
use Rattle.graph_plain.specs.Labels.{label_of, AreMerged}
use Rattle.graph_plain.proofs.StandingLemmas.{Contains-merge, AreMerged-more}
use Rattle.graph_plain.proofs.labels.find_merge.Goals as goal
use Rattle.graph_plain.proofs.labels.find_merge.Goals.{in-Some+else-labels-left, in_default}

pub bounds-labels-left : goal.bounds-labels-left
bounds-labels-left c = (c.requires c.in-Some.left c.in-Some.right (Contains-merge c.args.standing.now c.loop-done.done-index c.done-item.result _ _ c.loop-done-test.true c.done-item.is c.merged_ends.ensures c.in-Some.is)).0

pub bounds-labels-right : goal.bounds-labels-right
bounds-labels-right c = (c.requires c.in-Some.left c.in-Some.right (Contains-merge c.args.standing.now c.loop-done.done-index c.done-item.result _ _ c.loop-done-test.true c.done-item.is c.merged_ends.ensures c.in-Some.is)).1

pub returns-then-labels-left-clause-found : goal.returns-then-labels-left-clause-found
returns-then-labels-left-clause-found c = Contains-merge c.args.standing.now c.loop-done.done-index c.done-item.result _ _ c.loop-done-test.true c.done-item.is c.merged_ends.ensures c.in-Some.is

pub loop-done-preserved : goal.loop-done-preserved
loop-done-preserved c =
    AreMerged-more c.args.standing.now c.loop-done.done-index c.done-item.result c.args.labels.now c.loop-done-test.true c.done-item.is c.loop-done.invariant
    (λ s t e. elim c.match-merged_ends.branch [
      | in-Some+else-labels-left w ↦
          let same : (w.in-Some.left, w.in-Some.right) ≡ (s, t) = same_Some _ _ (sym w.in-Some.is ∙ c.merged_ends.ensures ∙ e) in
          let label = label_of c.args.labels.now in
          sym (ap (λ (p : ℕ × ℕ). label p.0) same) ∙ w.if-labels-left.false ∙ ap (λ (p : ℕ × ℕ). label p.1) same
      | in_default w ↦ absurd (w.in_default.not-Some (s, t) (c.merged_ends.ensures ∙ e))
    ])

pub returns-clause-none : goal.returns-clause-none
returns-clause-none c = subst (λ standing. AreMerged (merges_of standing) c.args.labels.now) (take_all c.loop-done.done-index c.args.standing.now c.loop-done-test.false) c.loop-done.invariant
