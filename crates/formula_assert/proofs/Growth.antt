-- Graphs that grow in a level.
use Rattle.std.proofs.Common.{◌≡◌, ℕ, ◌+◌, ◌<◌, ◌≤◌, cond, List, [], ◌∷◌, ◌++◌, length, map, All, refl, sym, ap, ◌∙◌, append_assoc, append-nil, arith}
use Rattle.std.specs.List.{before_last}
use Rattle.std.proofs.lemmas.List.{length-append}
use Rattle.std.proofs.lemmas.List.Sums.{sum_by-append}
use Rattle.std.proofs.lemmas.List.Elements.{All-nil, All-cons, All-head, All-tail, All-append, All-weaker}
use Rattle.graph_meaning.specs.declared.done.Done.{Done}
use Rattle.graph_terms.specs.declared.term_row.TermRow.{TermRow}
use Rattle.graph_meaning.specs.declared.op.Op.{Op}
use Rattle.graph_meaning.specs.declared.op.Op.TheVariants.{Add, Merge, Differ, Live, Push, Pop}
use Rattle.graph_meaning.proofs.LawfulLaws.{then_op, terms_of-push}
use Rattle.graph_terms.proofs.ListLaws.{before_last-hit, before_last-miss}
use Rattle.graph_meaning.proofs.ReplayLaws.{replay-append}
use Rattle.graph_meaning.specs.Standing.{is_push, levels_of, terms_of, rows_added, standing_after}
use Rattle.graph_meaning.specs.State.{GraphState, replay, state_after}
use Rattle.formula_table.specs.declared.node.Node.{Node}
use Rattle.formula_table.specs.Formulas.{NodesStand}
use Rattle.formula_table.specs.Node.{terms_in}
use Rattle.match_graph.specs.GraphTerms.{adding, with_terms}
use Rattle.formula_assert.specs.Held.{Held}
use Rattle.formula_assert.specs.InLevel.{IsInLevel, GrowsGraph, HoldsMore}

-- nothing came
pub grows_none : (graph : GraphState) → GrowsGraph graph graph
grows_none graph = record { operations = []; in_level = All-nil IsInLevel; after_is = refl }

-- one growth after another
pub grows_both : (first second third : GraphState) → GrowsGraph first second → GrowsGraph second third → GrowsGraph first third
grows_both first second third one two = record {
  operations = one.operations ++ two.operations;
  in_level = All-append IsInLevel one.operations two.operations one.in_level two.in_level;
  after_is = two.after_is ∙ ap (λ (g : GraphState). replay g two.operations) one.after_is ∙ sym (replay-append first one.operations two.operations);
}

-- one operation that opens no level and ends none
pub one_inside : (op : Op) → IsInLevel op → All IsInLevel (op ∷ [])
one_inside op inside = All-cons IsInLevel op [] inside (All-nil IsInLevel)

-- one operation came
pub grows_by : (before after : GraphState) (op : Op) → IsInLevel op → after ≡ state_after before op → GrowsGraph before after
grows_by before after op inside is = record { operations = op ∷ []; in_level = one_inside op inside; after_is = is }

pub all_adding : (rows : List TermRow) → All IsInLevel (map adding rows)
all_adding [] = All-nil IsInLevel
all_adding (row ∷ rows) = All-cons IsInLevel (adding row) (map adding rows) tt (all_adding rows)

-- terms came
pub grows_terms : (before after : GraphState) (rows : List TermRow) → after ≡ with_terms before rows → GrowsGraph before after
grows_terms before after rows is = record { operations = map adding rows; in_level = all_adding rows; after_is = is }

-- nothing more is held
pub holds_same : (now : Held) → HoldsMore now now
holds_same now = record { grows = grows_none now.graph; more = []; asserted_are = sym (append-nil now.asserted) }

-- more is held, and then still more
pub holds_both : (first second third : Held) → HoldsMore first second → HoldsMore second third → HoldsMore first third
holds_both first second third one two = record {
  grows = grows_both first.graph second.graph third.graph one.grows two.grows;
  more = one.more ++ two.more;
  asserted_are = two.asserted_are ∙ ap (λ (list : List ℕ). list ++ two.more) one.asserted_are ∙ append_assoc first.asserted one.more two.more;
}

-- how many levels an operation more has
levels_of-push : (standing : List Done) (done : Done) → levels_of (standing ++ done ∷ []) ≡ levels_of standing + cond (is_push done) 1 0
levels_of-push standing done = omega (arith, sum_by-append (λ d. cond (is_push d) 1 0) standing (done ∷ []))

-- one operation in a level
module _ (standing : List Done) (serial : ℕ) where
  last_kept : (op : Op) → IsInLevel op → before_last is_push (standing_after standing serial op) ≡ before_last is_push standing
  last_kept (Add symbol args) inside = before_last-miss is_push standing (record { serial = serial; op = Add symbol args }) refl
  last_kept (Merge left right) inside = before_last-miss is_push standing (record { serial = serial; op = Merge left right }) refl
  last_kept (Differ left right) inside = before_last-miss is_push standing (record { serial = serial; op = Differ left right }) refl
  last_kept (Live trigger) inside = before_last-miss is_push standing (record { serial = serial; op = Live trigger }) refl
  last_kept Push inside = absurd inside
  last_kept Pop inside = absurd inside

  one_kept : (op : Op) → IsInLevel op → levels_of (standing_after standing serial op) ≡ levels_of standing
  one_kept (Add symbol args) inside = let same = levels_of-push standing (record { serial = serial; op = Add symbol args }) in omega (arith, same)
  one_kept (Merge left right) inside = let same = levels_of-push standing (record { serial = serial; op = Merge left right }) in omega (arith, same)
  one_kept (Differ left right) inside = let same = levels_of-push standing (record { serial = serial; op = Differ left right }) in omega (arith, same)
  one_kept (Live trigger) inside = let same = levels_of-push standing (record { serial = serial; op = Live trigger }) in omega (arith, same)
  one_kept Push inside = absurd inside
  one_kept Pop inside = absurd inside

  longer : (op : Op) → length (terms_of standing) ≤ length (terms_of (then_op standing serial op))
  longer op = let grew = ap length (terms_of-push standing serial op) ∙ length-append (terms_of standing) (rows_added op) in omega (arith, grew)

  one_longer : (op : Op) → IsInLevel op → length (terms_of standing) ≤ length (terms_of (standing_after standing serial op))
  one_longer (Add symbol args) inside = longer (Add symbol args)
  one_longer (Merge left right) inside = longer (Merge left right)
  one_longer (Differ left right) inside = longer (Differ left right)
  one_longer (Live trigger) inside = longer (Live trigger)
  one_longer Push inside = absurd inside
  one_longer Pop inside = absurd inside

-- a push opens a level
pub levels_of-opened : (standing : List Done) (serial : ℕ) → levels_of (then_op standing serial Push) ≡ levels_of standing + 1
levels_of-opened standing serial = levels_of-push standing (record { serial = serial; op = Push })

pub opened_longer : (standing : List Done) (serial : ℕ) → length (terms_of standing) ≤ length (terms_of (then_op standing serial Push))
opened_longer standing serial = longer standing serial Push

-- what stood before it stands when it ends
pub before_last-opened : (standing : List Done) (serial : ℕ) → before_last is_push (then_op standing serial Push) ≡ standing
before_last-opened standing serial = before_last-hit is_push standing (record { serial = serial; op = Push }) refl

-- operations in a level, one after another
pub last_kept_by : (before : GraphState) (ops : List Op) → All IsInLevel ops → before_last is_push (replay before ops).standing ≡ before_last is_push before.standing
last_kept_by before [] each = refl
last_kept_by before (op ∷ ops) each = last_kept_by (state_after before op) ops (All-tail IsInLevel op ops each) ∙ last_kept before.standing before.done op (All-head IsInLevel op ops each)

levels_kept_by : (before : GraphState) (ops : List Op) → All IsInLevel ops → levels_of (replay before ops).standing ≡ levels_of before.standing
levels_kept_by before [] each = refl
levels_kept_by before (op ∷ ops) each = levels_kept_by (state_after before op) ops (All-tail IsInLevel op ops each) ∙ one_kept before.standing before.done op (All-head IsInLevel op ops each)

longer_by : (before : GraphState) (ops : List Op) → All IsInLevel ops → length (terms_of before.standing) ≤ length (terms_of (replay before ops).standing)
longer_by before [] each = omega arith
longer_by before (op ∷ ops) each =
    let first = one_longer before.standing before.done op (All-head IsInLevel op ops each) in
    let rest = longer_by (state_after before op) ops (All-tail IsInLevel op ops each) in
    omega (arith, first, rest)

limit_kept_by : (before : GraphState) (ops : List Op) → (replay before ops).limit ≡ before.limit
limit_kept_by before [] = refl
limit_kept_by before (op ∷ ops) = limit_kept_by (state_after before op) ops

module _ (before after : GraphState) (grows : GrowsGraph before after) where
  pub last_same : before_last is_push after.standing ≡ before_last is_push before.standing
  last_same = ap (λ (g : GraphState). before_last is_push g.standing) grows.after_is ∙ last_kept_by before grows.operations grows.in_level

  pub levels_same : levels_of after.standing ≡ levels_of before.standing
  levels_same = ap (λ (g : GraphState). levels_of g.standing) grows.after_is ∙ levels_kept_by before grows.operations grows.in_level

  pub terms_longer : length (terms_of before.standing) ≤ length (terms_of after.standing)
  terms_longer = let longer = longer_by before grows.operations grows.in_level in let same = ap (λ (g : GraphState). length (terms_of g.standing)) grows.after_is in omega (arith, longer, same)

  pub limit_same : after.limit ≡ before.limit
  limit_same = ap (λ (g : GraphState). g.limit) grows.after_is ∙ limit_kept_by before grows.operations

-- nodes over some terms are over more
pub NodesStand-more : (terms more : ℕ) (nodes : List Node) → terms ≤ more → NodesStand terms nodes → NodesStand more nodes
NodesStand-more terms more nodes le stand n node at = All-weaker (λ term. term < terms) (λ term. term < more) (λ term less. omega arith) (terms_in node) (stand n node at)
