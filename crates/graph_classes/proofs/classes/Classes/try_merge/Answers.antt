use Rattle.std.proofs.Common.{◌≡◌, ◌<◌, ap, sym, ◌∙◌, subst, List, ℕ, [], ◌∷◌, ◌++◌, length, OnOk}
use Rattle.graph_meaning.specs.declared.op.Op.TheVariants.{Merge as MergeOp}
use Rattle.graph_terms.specs.declared.term_row.TermRow.{TermRow}
use Rattle.graph_meaning.specs.Standing.{merges_of, then_op}
use Rattle.graph_meaning.specs.Unions.{AreUnions}
use Rattle.graph_classes.specs.State.{State}
use Rattle.graph_classes.specs.History.{now}
use Rattle.graph_classes.specs.Indexed.{IsClosing, HaveOneLabel}
use Rattle.graph_classes.proofs.SigningLemmas.{on_ok, if_ok}
use Rattle.graph_classes.proofs.StandingLemmas.{IsIndexed-others, IsClosing-others, IsClosing-merge}
use Rattle.graph_classes.proofs.OperationLemmas.{IsListed-log, Follows-merged, IsGood-merged}
use Rattle.graph_classes.proofs.classes.Classes.try_merge.Goals as goal

pub settle-requires-clause-indexed : goal.settle-requires-clause-indexed
settle-requires-clause-indexed c = IsIndexed-others (now c.args.self.now) (now c.enter_done.new.self) _ _ _ c.in_ok-enter_done.ensures.ok c.requires.good.indexed

pub settle-requires-clause-listed : goal.settle-requires-clause-listed
settle-requires-clause-listed c = IsListed-log (now c.args.self.now) (now c.enter_done.new.self) _ c.in_ok-enter_done.ensures.ok c.requires.good.listed

rows : (c : goal.After-drop-pending-2) → OnOk c.settle.result (c.settle.new.self.parts.rows.rows ≡ c.args.self.now.parts.rows.rows)
rows c = on_ok c.settle.result (λ e. e ∙ ap (λ (s : State). s.rows) c.in_ok-enter_done.ensures.ok) c.settle.ensures.rows

limit : (c : goal.After-drop-pending-2) → OnOk c.settle.result (c.settle.new.self.parts.rows.limit ≡ c.args.self.now.parts.rows.limit)
limit c = on_ok c.settle.result (λ e. e ∙ ap (λ (s : State). s.limit) c.in_ok-enter_done.ensures.ok) c.settle.ensures.limit

log : (c : goal.After-drop-pending-2) → OnOk c.settle.result (c.settle.new.self.parts.log ≡ then_op c.args.self.now.parts.log c.args.serial (MergeOp c.args.left c.args.right))
log c = on_ok c.settle.result (λ e. e ∙ ap (λ (s : State). s.log) c.in_ok-enter_done.ensures.ok) c.settle.ensures.log

pub returns-clause-ok : goal.returns-clause-ok
returns-clause-ok c = Follows-merged (now c.args.self.now) (now c.settle.new.self) c.args.serial c.args.left c.args.right c.settle.result (rows c) (limit c) (log c)

pub returns-clause-good : goal.returns-clause-good
returns-clause-good c =
    let s = now c.args.self.now in
    let merges = merges_of s.log ++ (c.args.left, c.args.right) ∷ [] in
    let pending = c.in_ok-push.ensures.items ∙ ap (λ ps. ps ++ (c.args.left, c.args.right) ∷ []) c.new-pending.ensures.items in
    let P : List (ℕ × ℕ) → Type 0 = λ ps. IsClosing merges (now c.enter_done.new.self) ps [] in
    let before = subst P (sym pending) (IsClosing-others merges ((c.args.left, c.args.right) ∷ []) [] s (now c.enter_done.new.self) _ _ _ c.in_ok-enter_done.ensures.ok (IsClosing-merge (merges_of s.log) s c.args.left c.args.right c.requires.good.closed)) in
    let Q : List TermRow → Type 0 = λ rs. (c.args.left < length rs) × (c.args.right < length rs) in
    IsGood-merged s (now c.settle.new.self) c.args.serial c.args.left c.args.right c.settle.result c.requires.good (subst Q c.requires.good.terms (c.requires.left_in, c.requires.right_in)) (rows c) (limit c) (log c)
    c.settle.ensures.indexed c.settle.ensures.listed (on_ok c.settle.result (λ closed. closed merges before) c.settle.ensures.closed)

pub returns-clause-unions : goal.returns-clause-unions
returns-clause-unions c =
    let labels = ap (λ (s : State). s.labels) c.in_ok-enter_done.ensures.ok in
    let rows = ap (λ (s : State). length s.rows) c.in_ok-enter_done.ensures.ok in
    if_ok _ _ c.settle.result (λ us are.
    let P : List ℕ → Type 0 = λ ls. AreUnions (length c.args.self.now.parts.rows.rows) (HaveOneLabel (length c.args.self.now.parts.rows.rows) ls) (HaveOneLabel (length c.args.self.now.parts.rows.rows) c.settle.new.self.parts.labels.items) us in
    let Q : ℕ → Type 0 = λ n. AreUnions n (HaveOneLabel n c.enter_done.new.self.parts.labels.items) (HaveOneLabel n c.settle.new.self.parts.labels.items) us in
    subst P labels (subst Q rows are)) c.settle.ensures.unions
