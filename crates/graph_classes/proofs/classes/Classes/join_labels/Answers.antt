use Rattle.std.proofs.Common.{inl, inr}
use Rattle.graph_classes.proofs.SigningLemmas.{on_ok}
use Rattle.graph_classes.proofs.classes.Classes.join_labels.Goals as goal

pub returns-then-left_count-right_count-clause-closing : goal.returns-then-left_count-right_count-clause-closing
returns-then-left_count-right_count-clause-closing c = on_ok c.join.result (λ closing merges a b ha hb ea eb before. closing merges a b ha hb (inl (ea, eb)) before) c.join.ensures.closing

pub returns-else-left_count-right_count-clause-closing : goal.returns-else-left_count-right_count-clause-closing
returns-else-left_count-right_count-clause-closing c = on_ok c.join-else-left_count-right_count.result (λ closing merges a b ha hb ea eb before. closing merges a b ha hb (inr (ea, eb)) before) c.join-else-left_count-right_count.ensures.closing
