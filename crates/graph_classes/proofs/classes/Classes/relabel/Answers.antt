use Rattle.std.proofs.Common.{◌<◌, ap, sym, ◌∙◌, subst, arith, length, ℕ, take, Contains, slice_set}
use Rattle.graph_classes.specs.State.{State, list_at}
use Rattle.graph_classes.specs.History.{now}
use Rattle.graph_classes.proofs.HistoryLemmas.{history_trans}
use Rattle.graph_classes.proofs.MoveLemmas.{moving_item, count_at, contains_index, length-written, take_one_more, moved_more}
use Rattle.graph_classes.proofs.classes.Classes.relabel.Goals as goal

pub set_label-requires : goal.set_label-requires
set_label-requires c =
    let moving = list_at c.args.self.now.parts.members.items c.args.from in
    let same_labels = ap (λ (s : State). s.labels) c.loop-i.invariant.so_far in
    let item = moving_item c.args.self.now.parts.members.items c.loop-i.self.parts.members.items c.args.from c.args.into c.loop-i.i c.get-term.result _ c.index-in-loop-i.result.now
    (ap (λ (s : State). s.members) c.loop-i.invariant.so_far) c.requires.apart c.requires.from_in c.index-in-loop-i.ensures c.get-term.ensures in
    let within : c.loop-i.i < length moving = omega (arith, count_at c.args.self.now.parts.members.items c.args.from c.len-count.result c.index.result.now c.requires.from_in c.index.ensures c.len-count.ensures) in
    let P : ℕ → Type 0 = λ t. Contains moving t in
    let below = c.requires.members_in c.get-term.result (subst P (sym item) (contains_index moving c.loop-i.i within)) in
    rw same_labels (omega (arith, length-written c.args.self.now.parts.labels.items (take c.loop-i.i moving) c.args.into))

pub loop-i-preserved : goal.loop-i-preserved
loop-i-preserved c =
    let moving = list_at c.args.self.now.parts.members.items c.args.from in
    let item = moving_item c.args.self.now.parts.members.items c.loop-i.self.parts.members.items c.args.from c.args.into c.loop-i.i c.get-term.result _ c.index-in-loop-i.result.now
    (ap (λ (s : State). s.members) c.loop-i.invariant.so_far) c.requires.apart c.requires.from_in c.index-in-loop-i.ensures c.get-term.ensures in
    let within : c.loop-i.i < length moving = omega (arith, count_at c.args.self.now.parts.members.items c.args.from c.len-count.result c.index.result.now c.requires.from_in c.index.ensures c.len-count.ensures) in
    let first = c.in_ok-set_label.ensures.ok ∙ ap (λ (s : State). record s { labels = slice_set s.labels c.get-term.result c.args.into }) c.loop-i.invariant.so_far in
    let taken = take_one_more moving c.loop-i.i within in
    record {
      so_far = rw (taken, ← item) (moved_more (now c.args.self.now) (take c.loop-i.i moving) c.get-term.result c.args.into (now c.set_label.new.self) (now c.add_member.new.self) c.requires.into_in first c.in_ok-add_member.ensures.ok);
      history = history_trans _ _ _ (history_trans _ _ _ c.loop-i.invariant.history c.in_ok-set_label.ensures.history) c.in_ok-add_member.ensures.history;
    }
