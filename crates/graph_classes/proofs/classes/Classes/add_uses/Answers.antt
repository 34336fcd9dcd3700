use Rattle.std.proofs.Common.{◌<◌, ap, sym, ◌∙◌, subst, arith, length, ℕ, slice_index, take}
use Rattle.graph_classes.specs.State.{State}
use Rattle.graph_classes.specs.History.{now}
use Rattle.graph_classes.proofs.HistoryLemmas.{history_trans}
use Rattle.graph_classes.proofs.MoveLemmas.{contains_index, take_one_more, read_is}
use Rattle.graph_classes.proofs.AddLemmas.{length-used, used_more}
use Rattle.graph_classes.proofs.classes.Classes.add_uses.Goals as goal

pub index-label-requires : goal.index-label-requires
index-label-requires c =
    let within : c.loop-arg.arg-index < length c.args.args.now = omega arith in
    let below = c.requires.args_in (slice_index c.args.args.now c.loop-arg.arg-index) (contains_index c.args.args.now c.loop-arg.arg-index within) in
    let labels = ap (λ (s : State). length s.labels) c.loop-arg.invariant.so_far in
    omega (arith, c.loop-arg.self.parts.labels.ok)

pub add_use-requires : goal.add_use-requires
add_use-requires c =
    let arg = slice_index c.args.args.now c.loop-arg.arg-index in
    let within : c.loop-arg.arg-index < length c.args.args.now = omega arith in
    let is_in = contains_index c.args.args.now c.loop-arg.arg-index within in
    let labels = ap (λ (s : State). s.labels) c.loop-arg.invariant.so_far in
    let uses = ap (λ (s : State). length s.uses) c.loop-arg.invariant.so_far in
    let is_label = read_is c.loop-arg.self.parts.labels.items arg c.index-label.result.now (rw labels (c.requires.args_in arg is_in)) c.index-label.ensures in
    let P : ℕ → Type 0 = λ l. l < length c.args.self.now.parts.uses.items in
    let below = subst P (ap (λ ls. slice_index ls arg) (sym labels) ∙ is_label) (c.requires.labels_in arg is_in) in
    omega (arith, length-used c.args.self.now.parts.uses.items c.args.self.now.parts.labels.items (take c.loop-arg.arg-index c.args.args.now) c.args.term)

pub loop-arg-preserved : goal.loop-arg-preserved
loop-arg-preserved c =
    let arg = slice_index c.args.args.now c.loop-arg.arg-index in
    let within : c.loop-arg.arg-index < length c.args.args.now = omega arith in
    let is_in = contains_index c.args.args.now c.loop-arg.arg-index within in
    let labels = ap (λ (s : State). s.labels) c.loop-arg.invariant.so_far in
    let is_label = read_is c.loop-arg.self.parts.labels.items arg c.index-label.result.now (rw labels (c.requires.args_in arg is_in)) c.index-label.ensures in
    let taken = take_one_more c.args.args.now c.loop-arg.arg-index within in
    record {
      so_far = rw taken (used_more (now c.args.self.now) (now c.loop-arg.self) (now c.add_use.new.self) (take c.loop-arg.arg-index c.args.args.now) arg c.args.term c.index-label.result.now
          c.loop-arg.invariant.so_far (ap (λ ls. slice_index ls arg) (sym labels) ∙ is_label) c.in_ok-add_use.ensures.ok);
      history = history_trans _ _ _ c.loop-arg.invariant.history c.in_ok-add_use.ensures.history;
    }
