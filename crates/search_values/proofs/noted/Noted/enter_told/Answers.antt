use Rattle.std.proofs.Common.{ap, ◌∙◌}
use Rattle.search_board.specs.Board.{Shown, with_truth}
use Rattle.search_values.specs.History.{now}
use Rattle.search_values.specs.Settled.{value_at}
use Rattle.search_values.proofs.EnterLemmas.{entered_with}
use Rattle.search_values.proofs.noted.Noted.enter_told.Goals as goal

pub returns-clause-ok : goal.returns-clause-ok
returns-clause-ok c =
    let is = c.value_at-value.ensures ∙ ap (λ (s : Shown). value_at s c.len-n.result) c.in_ok-enter.ensures.ok in
    c.in_ok-set_truth.ensures.ok ∙ ap (λ (s : Shown). with_truth s c.len-n.result c.value_at-value.result) c.in_ok-enter.ensures.ok
    ∙ entered_with (now c.args.self.now) c.args.kind c.args.places c.len-n.result c.value_at-value.result c.len-n.ensures.aligned c.len-n.ensures.len is
