use Rattle.std.proofs.Common.{◌≡◌, ap, sym, ◌∙◌, subst, length, List, ℕ, refl, [], ◌∷◌, ◌++◌, slice_index}
use Rattle.graph_meaning.specs.declared.union.Union.{Union}
use Rattle.graph_classes.specs.History.{now as state_now}
use Rattle.graph_classes.specs.Indexed.{HaveOneLabel}
use Rattle.graph_meaning.specs.Lawful.{EndsBelow}
use Rattle.graph_meaning.specs.Unions.{AreUnions, union_of}
use Rattle.graph_classes.proofs.HistoryLemmas.{history_trans, same_history}
use Rattle.graph_classes.proofs.MoveLemmas.{read_is}
use Rattle.graph_classes.proofs.UnionLemmas.{no_unions}
use Rattle.graph_classes.proofs.SettleLemmas.{own_label, unions_step, fewer_step}
use Rattle.graph_classes.proofs.classes.Classes.settle.Goals as goal

pub loop-left-init : goal.loop-left-init
loop-left-init c =
    let Q : List Union → Type 0 = λ us. AreUnions (length c.args.self.now.parts.rows.rows) (HaveOneLabel (length c.args.self.now.parts.rows.rows) c.args.self.now.parts.labels.items) (HaveOneLabel (length c.args.self.now.parts.rows.rows) c.args.self.now.parts.labels.items) us in
    record {
      rows = refl;
      log = refl;
      limit = refl;
      indexed = c.requires.indexed;
      listed = c.requires.listed;
      pending_in = c.requires.pending_in;
      closing = λ merges closing. closing;
      unions = subst Q (sym c.new-unions.ensures) (no_unions (length c.args.self.now.parts.rows.rows) c.args.self.now.parts.labels.items);
      history = same_history _ _ refl refl;
    }

pub loop-left-preserved : goal.loop-left-preserved
loop-left-preserved c =
    let s = state_now c.loop-left.self in
    let indexed = c.loop-left.invariant.indexed in
    let left = own_label s c.in-Some.left c.index-left_label.result.now indexed c.in-Some.ensures.first_in c.index-left_label.ensures in
    let right = own_label s c.in-Some.right c.index-right_label.result.now indexed c.in-Some.ensures.second_in c.index-right_label.ensures in
    let leads = c.loop-left.invariant.listed.leaders.each in
    let left_leader = read_is c.loop-left.self.parts.leaders.items c.index-left_label.result.now c.index.result.now (rw leads left.1.0) c.index.ensures in
    let right_leader = read_is c.loop-left.self.parts.leaders.items c.index-right_label.result.now c.index-in-Some.result.now (rw leads right.1.0) c.index-in-Some.ensures in
    let step = unions_step s c.join_labels.new.self.parts.labels.items c.index-left_label.result.now c.index-right_label.result.now indexed left.1 right.1 (λ e. c.in-Some.ensures.apart (left.0 ∙ e ∙ sym right.0)) c.in_ok-join_labels.ensures.relabelled
    c.args.self.now.parts.labels.items c.loop-left.unions c.loop-left.invariant.listed c.loop-left.invariant.unions in
    let pushed : c.push.new.self ≡ c.loop-left.unions ++ union_of (slice_index c.loop-left.self.parts.leaders.items c.index-left_label.result.now) (slice_index c.loop-left.self.parts.leaders.items c.index-right_label.result.now) ∷ [] =
    c.in_ok-push.ensures.ok ∙ ap (λ l. c.loop-left.unions ++ union_of l c.index-in-Some.result.now ∷ []) (sym left_leader)
    ∙ ap (λ r. c.loop-left.unions ++ union_of (slice_index c.loop-left.self.parts.leaders.items c.index-left_label.result.now) r ∷ []) (sym right_leader) in
    let Q : List Union → Type 0 = λ us. AreUnions (length c.loop-left.self.parts.rows.rows) (HaveOneLabel (length c.loop-left.self.parts.rows.rows) c.args.self.now.parts.labels.items) (HaveOneLabel (length c.loop-left.self.parts.rows.rows) c.join_labels.new.self.parts.labels.items) us in
    let R : ℕ → Type 0 = λ n. AreUnions n (HaveOneLabel n c.args.self.now.parts.labels.items) (HaveOneLabel n c.join_labels.new.self.parts.labels.items) c.push.new.self in
    record {
      rows = c.in_ok-join_labels.ensures.rows ∙ c.loop-left.invariant.rows;
      log = c.in_ok-join_labels.ensures.log ∙ c.loop-left.invariant.log;
      limit = c.in_ok-join_labels.ensures.limit ∙ c.loop-left.invariant.limit;
      indexed = c.in_ok-join_labels.ensures.indexed;
      listed = c.in_ok-join_labels.ensures.listed;
      pending_in = let P : ℕ → Type 0 = λ n. EndsBelow c.join_labels.new.pending.items n in subst P (sym (ap length c.in_ok-join_labels.ensures.rows)) c.in_ok-join_labels.ensures.pending_in;
      closing = λ merges before. c.in_ok-join_labels.ensures.closing merges c.in-Some.left c.in-Some.right c.in-Some.ensures.first_in c.in-Some.ensures.second_in left.0 right.0 (c.in-Some.ensures.closing merges (c.loop-left.invariant.closing merges before));
      unions = subst R (sym (ap length c.in_ok-join_labels.ensures.rows)) (subst Q (sym pushed) step);
      history = history_trans _ _ _ c.loop-left.invariant.history c.in_ok-join_labels.ensures.history;
    }

pub loop-left-smaller : goal.loop-left-smaller
loop-left-smaller c =
    let s = state_now c.loop-left.self in
    let indexed = c.loop-left.invariant.indexed in
    let left = own_label s c.in-Some.left c.index-left_label.result.now indexed c.in-Some.ensures.first_in c.index-left_label.ensures in
    let right = own_label s c.in-Some.right c.index-right_label.result.now indexed c.in-Some.ensures.second_in c.index-right_label.ensures in
    fewer_step s c.join_labels.new.self.parts.labels.items c.index-left_label.result.now c.index-right_label.result.now indexed left.1 right.1 (λ e. c.in-Some.ensures.apart (left.0 ∙ e ∙ sym right.0)) c.in_ok-join_labels.ensures.relabelled
