use Rattle.std.proofs.Common.{◌≡◌, ◌∙◌, ap, subst, refl, Some, None, Option, ℕ, insert, OnOk, OnErr, ◌++◌, ◌∷◌, []}
use Rattle.graph_classes.specs.declared.change.Change.TheVariants.{Listed}
use Rattle.graph_classes.specs.Lists.{EntersAt, with_list}
use Rattle.graph_classes.specs.Shown.{lists_in}
use Rattle.graph_classes.specs.State.{State, before_change}
use Rattle.graph_classes.specs.History.{now, notes}
use Rattle.graph_classes.proofs.HistoryLemmas.{same_history, kept_history, kept_err}
use Rattle.graph_classes.proofs.SigningLemmas.{on_ok, on_err}
use Rattle.graph_classes.proofs.ListsLemmas.{entry_undone, IsListing-entered, IsListing-there}
use Rattle.graph_classes.proofs.classes.Classes.list_term.Goals as goal

pub returns-in_err-at-clause-history : goal.returns-in_err-at-clause-history
returns-in_err-at-clause-history c = same_history _ _ refl (ap (λ ls. record (now c.args.self.now) { lists = ls }) c.in_err-at.ensures.err)

entered : (c : goal.After-keep) → EntersAt (now c.args.self.now).lists (lists_in c.enter.new.self) c.args.place c.args.term (Some c.in-Some.at)
entered c = let P : Option ℕ → Type 0 = λ o. EntersAt (now c.args.self.now).lists (lists_in c.enter.new.self) c.args.place c.args.term o in subst P c.in-Some.is c.in_ok-at.ensures.ok

-- the state with the term in the list
mid : (c : goal.After-keep) → State
mid c = record (now c.args.self.now) { lists = with_list (now c.args.self.now).lists c.args.place (insert ((now c.args.self.now).lists c.args.place) c.in-Some.at c.args.term) }

mid_is : (c : goal.After-keep) → record (now c.args.self.now) { lists = lists_in c.enter.new.self } ≡ mid c
unfolding mid
mid_is c = ap (λ ls. record (now c.args.self.now) { lists = ls }) (entered c).1

undone : (c : goal.After-keep) → before_change (mid c) (Listed c.args.place c.in-Some.at) ≡ now c.args.self.now
unfolding mid
undone c = entry_undone (now c.args.self.now) c.args.place c.args.term c.in-Some.at (entered c).0

ok : (c : goal.After-keep) → OnOk c.keep.result ((now c.keep.new.self ≡ mid c) × (notes c.keep.new.self ≡ notes c.args.self.now ++ Listed c.args.place c.in-Some.at ∷ []))
ok c = on_ok c.keep.result (λ h. (h.0 ∙ mid_is c, h.1)) c.keep.ensures.ok

err : (c : goal.After-keep) → OnErr c.keep.result ((now c.keep.new.self ≡ before_change (mid c) (Listed c.args.place c.in-Some.at)) × (notes c.keep.new.self ≡ notes c.args.self.now))
err c = on_err c.keep.result (λ h. (h.0 ∙ ap (λ s. before_change s (Listed c.args.place c.in-Some.at)) (mid_is c), h.1)) c.keep.ensures.err

pub returns-in-Some-clause-ok : goal.returns-in-Some-clause-ok
unfolding mid
returns-in-Some-clause-ok c = on_ok c.keep.result (λ h. IsListing-entered (now c.args.self.now) (now c.keep.new.self) c.args.place c.args.term c.in-Some.at h.0) (ok c)

pub returns-in-Some-clause-err : goal.returns-in-Some-clause-err
returns-in-Some-clause-err c = kept_err c.keep.result c.args.self.now c.keep.new.self (mid c) (Listed c.args.place c.in-Some.at) (undone c) (err c)

pub returns-in-Some-clause-history : goal.returns-in-Some-clause-history
returns-in-Some-clause-history c = kept_history c.keep.result c.args.self.now c.keep.new.self (mid c) (Listed c.args.place c.in-Some.at) (undone c) (ok c) (err c)

there : (c : goal.In-None) → EntersAt (now c.args.self.now).lists (lists_in c.enter.new.self) c.args.place c.args.term None
there c = let P : Option ℕ → Type 0 = λ o. EntersAt (now c.args.self.now).lists (lists_in c.enter.new.self) c.args.place c.args.term o in subst P c.in-None.is c.in_ok-at.ensures.ok

pub returns-in-None-clause-ok : goal.returns-in-None-clause-ok
returns-in-None-clause-ok c = IsListing-there (now c.args.self.now) _ c.args.place c.args.term (ap (λ ls. record (now c.args.self.now) { lists = ls }) (there c).0) (there c).1

pub returns-in-None-clause-history : goal.returns-in-None-clause-history
returns-in-None-clause-history c = same_history _ _ refl (ap (λ ls. record (now c.args.self.now) { lists = ls }) (there c).0)
