use Rattle.std.proofs.Common.{◌≡◌, length, ap, ◌∙◌, subst, arith, ℕ, refl, slice_get}
use Rattle.graph_terms.specs.declared.term_row.TermRow.{TermRow}
use Rattle.graph_classes.specs.History.{now}
use Rattle.graph_classes.proofs.HistoryLemmas.{history_trans, same_history}
use Rattle.graph_classes.proofs.MoveLemmas.{read_is}
use Rattle.graph_classes.proofs.ListingLemmas.{ListsMore-none, AreListedBelow-none, AreListedBelow-more, AreListedBelow, AreParentsListed-all, rows_same, row_stays, is_arg_now, has_now, label_stands}
use Rattle.graph_classes.proofs.classes.Classes.list_parents.Goals as goal

pub row-requires-in-loop-argument : goal.row-requires-in-loop-argument
row-requires-in-loop-argument c = let e = ap length (rows_same _ _ c.loop-argument.invariant.more) in let h = c.requires.term_in in omega arith

pub index-label-requires : goal.index-label-requires
index-label-requires c = let h = label_stands (now c.args.self.now) (now c.loop-argument.self) c.row.result.now c.row-in-loop-argument.result.now c.args.term c.loop-argument.argument c.get-arg.result
    c.loop-argument.invariant.more c.row.ensures c.row-in-loop-argument.ensures c.len-terms.ensures.table c.requires.labels c.get-arg.ensures.value in omega (arith, c.loop-argument.self.parts.labels.ok)

pub loop-argument-init : goal.loop-argument-init
loop-argument-init c = record { more = ListsMore-none _; listed = AreListedBelow-none (now c.args.self.now) c.args.term; history = same_history _ _ refl refl }

pub loop-argument-preserved : goal.loop-argument-preserved
loop-argument-preserved c =
    let more = c.loop-argument.invariant.more in
    let stands = label_stands (now c.args.self.now) (now c.loop-argument.self) c.row.result.now c.row-in-loop-argument.result.now c.args.term c.loop-argument.argument c.get-arg.result
    more c.row.ensures c.row-in-loop-argument.ensures c.len-terms.ensures.table c.requires.labels c.get-arg.ensures.value in
    let is_label = read_is c.loop-argument.self.parts.labels.items c.get-arg.result c.index-label.result.now stands c.index-label.ensures in
    let is_arg = is_arg_now (now c.args.self.now) (now c.loop-argument.self) c.row.result.now c.row-in-loop-argument.result.now c.args.term c.loop-argument.argument c.get-arg.result
    more c.row.ensures c.row-in-loop-argument.ensures c.get-arg.ensures.value in
    let has = has_now (now c.args.self.now) (now c.loop-argument.self) c.row.result.now c.row-in-loop-argument.result.now c.args.term c.loop-argument.argument c.get-arg.result
    more c.row.ensures c.row-in-loop-argument.ensures in
    let step = AreListedBelow-more (now c.args.self.now) (now c.loop-argument.self) (now c.list_term.new.self) c.row.result.now c.args.term c.loop-argument.argument c.get-arg.result c.index-label.result.now
    more c.loop-argument.invariant.listed has is_arg is_label c.in_ok-list_term.ensures.ok in
    record { more = step.0; listed = step.1; history = history_trans _ _ _ c.loop-argument.invariant.history c.in_ok-list_term.ensures.history }

pub returns-clause-listed : goal.returns-clause-listed
returns-clause-listed c =
    let rows_one = row_stays (now c.args.self.now) (now c.args.self.now) c.row-2.result.now c.row.result.now c.args.term (ListsMore-none _) c.row-2.ensures c.row.ensures in
    let all : c.loop-argument.argument ≡ length c.row.result.now.args = omega (arith, c.len-count.ensures, ap (λ (r : TermRow). length r.args) rows_one) in
    let P : ℕ → Type 0 = λ k. AreListedBelow (now c.loop-argument.self) c.args.term k in
    AreParentsListed-all (now c.loop-argument.self) c.row.result.now c.args.term (ap (λ rows. slice_get rows c.args.term) (rows_same _ _ c.loop-argument.invariant.more) ∙ c.row.ensures) (subst P all c.loop-argument.invariant.listed)
