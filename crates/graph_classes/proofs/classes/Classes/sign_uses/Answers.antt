use Rattle.std.proofs.Common.{◌≡◌, ◌<◌, ◌+◌, ap, sym, ◌∙◌, subst, arith, length, List, ℕ, ◌∷◌, take, drop, Contains}
use Rattle.graph_classes.specs.State.{State, list_at}
use Rattle.graph_classes.specs.History.{now}
use Rattle.graph_classes.specs.Indexed.{IsClosing}
use Rattle.graph_meaning.specs.Lawful.{EndsBelow}
use Rattle.graph_classes.proofs.HistoryLemmas.{history_trans}
use Rattle.graph_classes.proofs.MoveLemmas.{moving_item, count_at, contains_index, take_one_more}
use Rattle.graph_classes.proofs.UsesLemmas.{IsSignable-uses, IsClosing-uses, HasUsesMoved-more, drop_one}
use Rattle.graph_classes.proofs.classes.Classes.sign_uses.Goals as goal

pub sign-requires-clause-signable : goal.sign-requires-clause-signable
sign-requires-clause-signable c = IsSignable-uses (now c.loop-i.self) (now c.add_use.new.self) _ c.in_ok-add_use.ensures.ok c.loop-i.invariant.so_far.signable

pub sign-requires-clause-term_in : goal.sign-requires-clause-term_in
sign-requires-clause-term_in c =
    let moving = list_at c.args.self.now.parts.uses.items c.args.from in
    let item = moving_item c.args.self.now.parts.uses.items c.loop-i.self.parts.uses.items c.args.from c.args.into c.loop-i.i c.get-term.result _ c.index-in-loop-i.result.now
    c.loop-i.invariant.so_far.uses c.requires.apart c.requires.from_in c.index-in-loop-i.ensures c.get-term.ensures in
    let within : c.loop-i.i < length moving = omega (arith, count_at c.args.self.now.parts.uses.items c.args.from c.len-count.result c.index.result.now c.requires.from_in c.index.ensures c.len-count.ensures) in
    let rows = ap (λ (s : State). s.rows) c.in_ok-add_use.ensures.ok ∙ c.loop-i.invariant.so_far.rows in
    let P : ℕ → Type 0 = λ t. Contains moving t in
    rw rows (c.requires.uses_in c.get-term.result (subst P (sym item) (contains_index moving c.loop-i.i within)))

pub sign-requires-clause-pending_in : goal.sign-requires-clause-pending_in
sign-requires-clause-pending_in c =
    let rows = ap (λ (s : State). s.rows) c.in_ok-add_use.ensures.ok ∙ c.loop-i.invariant.so_far.rows in
    rw rows c.loop-i.invariant.pending_in

pub loop-i-preserved : goal.loop-i-preserved
loop-i-preserved c =
    let moving = list_at c.args.self.now.parts.uses.items c.args.from in
    let item = moving_item c.args.self.now.parts.uses.items c.loop-i.self.parts.uses.items c.args.from c.args.into c.loop-i.i c.get-term.result _ c.index-in-loop-i.result.now
    c.loop-i.invariant.so_far.uses c.requires.apart c.requires.from_in c.index-in-loop-i.ensures c.get-term.ensures in
    let within : c.loop-i.i < length moving = omega (arith, count_at c.args.self.now.parts.uses.items c.args.from c.len-count.result c.index.result.now c.requires.from_in c.index.ensures c.len-count.ensures) in
    let rows = ap (λ (s : State). s.rows) c.in_ok-add_use.ensures.ok ∙ c.loop-i.invariant.so_far.rows in
    let taken = take_one_more moving c.loop-i.i within in
    let left : drop c.loop-i.i moving ≡ c.get-term.result ∷ drop (c.loop-i.i + 1) moving = drop_one moving c.loop-i.i within ∙ ap (λ t. t ∷ drop (c.loop-i.i + 1) moving) (sym item) in
    record {
      so_far = rw (taken, ← item) (HasUsesMoved-more (now c.args.self.now) (now c.loop-i.self) (now c.add_use.new.self) (now c.sign.new.self) (take c.loop-i.i moving) c.get-term.result c.args.into _ c.requires.into_in
          c.loop-i.invariant.so_far c.in_ok-add_use.ensures.ok c.in_ok-sign.ensures.table_alone c.in_ok-sign.ensures.signable);
      pending_in = let P : ℕ → Type 0 = λ n. EndsBelow c.sign.new.pending.items n in subst P (ap length rows) c.in_ok-sign.ensures.pending_in;
      closing = λ merges before.
          let P : List ℕ → Type 0 = λ ts. IsClosing merges (now c.loop-i.self) c.loop-i.pending.items ts in
          let here = subst P left (c.loop-i.invariant.closing merges before) in
          c.in_ok-sign.ensures.closing merges (drop (c.loop-i.i + 1) moving)
          (IsClosing-uses merges (now c.loop-i.self) (now c.add_use.new.self) _ c.loop-i.pending.items _ c.in_ok-add_use.ensures.ok here);
      history = history_trans _ _ _ (history_trans _ _ _ c.loop-i.invariant.history c.in_ok-add_use.ensures.history) c.in_ok-sign.ensures.history;
    }
