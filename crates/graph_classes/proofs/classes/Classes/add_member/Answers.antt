use Rattle.std.proofs.Common.{◌≡◌, List, ℕ, OnOk, OnErr, ap, subst, slice_set, ◌++◌, ◌∷◌, []}
use Rattle.graph_classes.specs.declared.change.Change.TheVariants.{Joined}
use Rattle.graph_classes.specs.State.{list_at, before_change}
use Rattle.graph_classes.specs.History.{now, notes}
use Rattle.graph_classes.proofs.HistoryLemmas.{kept_history, kept_err, member_undone, list_grown}
use Rattle.graph_classes.proofs.classes.Classes.add_member.Goals as goal

list_is : (c : goal.After-keep) → c.push.new.self ≡ list_at c.args.self.now.parts.members.items c.args.label ++ c.args.term ∷ []
list_is c = list_grown c.args.self.now.parts.members.items c.args.label c.args.term c.index_mut-list.result.now c.push.new.self c.requires c.index_mut-list.ensures.value c.in_ok-push.ensures.ok

undone : (c : goal.After-keep) → before_change (record (now c.args.self.now) { members = slice_set c.args.self.now.parts.members.items c.args.label (list_at c.args.self.now.parts.members.items c.args.label ++ c.args.term ∷ []) }) (Joined c.args.label) ≡ now c.args.self.now
undone c = ap (λ ls. record (now c.args.self.now) { members = ls }) (member_undone c.args.self.now.parts.members.items c.args.label c.args.term c.requires)

ok : (c : goal.After-keep) → OnOk c.keep.result ((now c.keep.new.self ≡ record (now c.args.self.now) { members = slice_set c.args.self.now.parts.members.items c.args.label (list_at c.args.self.now.parts.members.items c.args.label ++ c.args.term ∷ []) }) × (notes c.keep.new.self ≡ notes c.args.self.now ++ Joined c.args.label ∷ []))
ok c =
    let P : List ℕ → Type 0 = λ l. OnOk c.keep.result ((now c.keep.new.self ≡ record (now c.args.self.now) { members = slice_set c.args.self.now.parts.members.items c.args.label l }) × (notes c.keep.new.self ≡ notes c.args.self.now ++ Joined c.args.label ∷ [])) in
    subst P (list_is c) c.keep.ensures.ok

err : (c : goal.After-keep) → OnErr c.keep.result ((now c.keep.new.self ≡ before_change (record (now c.args.self.now) { members = slice_set c.args.self.now.parts.members.items c.args.label (list_at c.args.self.now.parts.members.items c.args.label ++ c.args.term ∷ []) }) (Joined c.args.label)) × (notes c.keep.new.self ≡ notes c.args.self.now))
err c =
    let P : List ℕ → Type 0 = λ l. OnErr c.keep.result ((now c.keep.new.self ≡ before_change (record (now c.args.self.now) { members = slice_set c.args.self.now.parts.members.items c.args.label l }) (Joined c.args.label)) × (notes c.keep.new.self ≡ notes c.args.self.now)) in
    subst P (list_is c) c.keep.ensures.err

pub returns-clause-err : goal.returns-clause-err
returns-clause-err c = kept_err c.keep.result c.args.self.now c.keep.new.self _ (Joined c.args.label) (undone c) (err c)

pub returns-clause-history : goal.returns-clause-history
returns-clause-history c = kept_history c.keep.result c.args.self.now c.keep.new.self _ (Joined c.args.label) (undone c) (ok c) (err c)
