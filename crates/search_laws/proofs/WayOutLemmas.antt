-- A search that ends with a way out has made an assignment.
use Rattle.std.proofs.Common.{◌≡◌, ℕ, Bool, true, false, List, length, Contains, refl, sym, ap, subst, ◌∙◌}
use Rattle.std.specs.Option.{option_map_or}
use Rattle.graph_terms.specs.declared.term_row.TermRow.{TermRow}
use Rattle.graph_terms.specs.Terms.{IsTable}
use Rattle.graph_meaning.specs.declared.op.Op.{Op}
use Rattle.graph_meaning.specs.declared.op.Op.TheVariants.{Add, Merge, Differ, Live, Push, Pop}
use Rattle.graph_meaning.specs.Standing.{terms_of}
use Rattle.formula_table.specs.declared.node.Node.{Node}
use Rattle.formula_table.specs.declared.node.Node.TheVariants.{Equal, Atom, And, Or, Forall}
use Rattle.formula_table.specs.Formulas.{Formulas, NodesStand}
use Rattle.formula_value.specs.Holds.{HasNode}
use Rattle.formula_assert.specs.Held.{Held, triggers_at, operations_of, refuting_of}
use Rattle.formula_assert.specs.Exactly.{HoldsExactly}
use Rattle.search_laws.specs.Branch.{Branch}
use Rattle.search_laws.specs.Closing.{true_is_false}
use Rattle.search_laws.specs.Path.{Path, first_path}
use Rattle.search_laws.specs.Verdict.{sat, Verdict}
use Rattle.search_laws.specs.Assignment.{IsAssignment, Satisfies}
use Rattle.search_laws.specs.Kept.{AreLeaders, is_truth, KeepsSorts, kept_assignment}
use Rattle.search_laws.specs.Laws.{IsInOrder, IsWayOut}
use Rattle.search_laws.proofs.Places.{contains_none, contains_one}
use Rattle.search_laws.proofs.GraphLemmas.{live_only, merge_stands}
use Rattle.search_laws.proofs.CompleteLemmas.{Keeps, Follows, IsReached, grows_none}
use Rattle.search_laws.proofs.ReachLemmas.{AreAllowed, reaches}
use Rattle.search_laws.proofs.KeptLemmas.{AreSorted, assigns, satisfied}

-- the ends of an equation have one sort
abbrev KeepsSort : (ℕ → Bool) → List TermRow → Op → Type 0
KeepsSort predicates rows (Add symbol args) = Unit {0}
KeepsSort predicates rows (Merge s t) = is_truth predicates rows s ≡ is_truth predicates rows t
KeepsSort predicates rows (Differ s t) = Unit {0}
KeepsSort predicates rows (Live trigger) = Unit {0}
KeepsSort predicates rows Push = Unit {0}
KeepsSort predicates rows Pop = Unit {0}

module _ (predicates : ℕ → Bool) (formulas : Formulas) (rows : List TermRow) (table : IsTable rows)
    (sorts : KeepsSorts predicates rows formulas.nodes) where
  true_sort : is_truth predicates rows 0 ≡ true
  true_sort = ap (λ row. option_map_or (λ (r : TermRow). predicates r.symbol) row false) table.true_row
      ∙ sorts.true_is

  false_sort : is_truth predicates rows 1 ≡ true
  false_sort = ap (λ row. option_map_or (λ (r : TermRow). predicates r.symbol) row false) table.false_row
      ∙ sorts.false_is

  equation_sort : (n s t : ℕ) (positive : Bool) → HasNode formulas.nodes n (Equal positive s t) →
      is_truth predicates rows s ≡ is_truth predicates rows t
  equation_sort n s t positive has = sorts.left n s t positive has ∙ sym (sorts.right n s t positive has)

  true_atom : (n term : ℕ) (positive : Bool) → HasNode formulas.nodes n (Atom positive term) →
      is_truth predicates rows term ≡ is_truth predicates rows 0
  true_atom n term positive has = sorts.atom n term positive has ∙ sym true_sort

  false_atom : (n term : ℕ) (positive : Bool) → HasNode formulas.nodes n (Atom positive term) →
      is_truth predicates rows term ≡ is_truth predicates rows 1
  false_atom n term positive has = sorts.atom n term positive has ∙ sym false_sort

  -- the operations of a node keep to it
  of_nodes : (n : ℕ) (node : Node) → HasNode formulas.nodes n node → (op : Op) →
      Contains (operations_of formulas node) op → KeepsSort predicates rows op
  of_nodes n (Equal true s t) has op c =
      contains_one (KeepsSort predicates rows) (Merge s t) op (equation_sort n s t true has) c
  of_nodes n (Equal false s t) has op c = contains_one (KeepsSort predicates rows) (Differ s t) op tt c
  of_nodes n (Atom true term) has op c =
      contains_one (KeepsSort predicates rows) (Merge term 0) op (true_atom n term true has) c
  of_nodes n (Atom false term) has op c =
      contains_one (KeepsSort predicates rows) (Merge term 1) op (false_atom n term false has) c
  of_nodes n (And parts) has op c = contains_none op c
  of_nodes n (Or parts) has op c = contains_none op c
  of_nodes n (Forall forall) has op c =
      live_only (KeepsSort predicates rows) (λ trigger. tt) (triggers_at formulas.foralls forall) op c

  -- and those that refute one
  of_struck : (n : ℕ) (node : Node) → HasNode formulas.nodes n node → (op : Op) →
      Contains (refuting_of node) op → KeepsSort predicates rows op
  of_struck n (Equal true s t) has op c = contains_one (KeepsSort predicates rows) (Differ s t) op tt c
  of_struck n (Equal false s t) has op c =
      contains_one (KeepsSort predicates rows) (Merge s t) op (equation_sort n s t false has) c
  of_struck n (Atom true term) has op c =
      contains_one (KeepsSort predicates rows) (Merge term 1) op (false_atom n term true has) c
  of_struck n (Atom false term) has op c =
      contains_one (KeepsSort predicates rows) (Merge term 0) op (true_atom n term false has) c
  of_struck n (And parts) has op c = contains_none op c
  of_struck n (Or parts) has op c = contains_none op c
  of_struck n (Forall forall) has op c = contains_none op c

  -- and so does what stands at the start
  at_start : (now : Held) → HoldsExactly formulas now → Keeps (KeepsSort predicates rows) now
  at_start now exactly (Merge s t) c =
      let h = exactly.merges s t c in of_nodes h.n h.node h.has (Merge s t) h.of_node
  at_start now exactly (Differ s t) c = tt
  at_start now exactly (Add symbol args) c = tt
  at_start now exactly (Live trigger) c = tt
  at_start now exactly Push c = tt
  at_start now exactly Pop c = tt

  pub follows : (now : Held) → HoldsExactly formulas now → Follows formulas (KeepsSort predicates rows) now now
  follows now exactly = record {
    grows = grows_none now;
    done = λ n c. let h = exactly.nodes n c in record { node = h.0; has = h.1; is_done = h.2 };
    keeps = at_start now exactly;
  }

-- the assignment of these rows and leaders is one, and it satisfies what is asserted
record IsWay (predicates : ℕ → Bool) (leaders : List ℕ) (nodes : List Node) (asserted : List ℕ) (rows : List TermRow)
    : Type 0 where
  assigns : IsAssignment (kept_assignment predicates rows leaders)
  satisfies : (n : ℕ) → Contains asserted n → Satisfies (kept_assignment predicates rows leaders) rows nodes n

way_of : (formulas : Formulas) (now : Held) (last : Branch) (leaders : List ℕ) (predicates : ℕ → Bool) →
    IsInOrder formulas now → AreLeaders last.held.graph.standing leaders →
    KeepsSorts predicates (terms_of now.graph.standing) formulas.nodes →
    IsReached formulas (KeepsSort predicates (terms_of now.graph.standing)) now last →
    IsWay predicates leaders formulas.nodes last.held.asserted (terms_of last.held.graph.standing)
way_of formulas now last leaders predicates order are sorts reached =
    let back : terms_of now.graph.standing ≡ terms_of last.held.graph.standing = sym reached.follows.grows.terms in
    let sorted : AreSorted predicates formulas.nodes leaders last.held.graph.standing = record {
      table = subst IsTable back order.terms;
      stand = subst (λ (rows : List TermRow). NodesStand (length rows) formulas.nodes) back order.stand;
      leaders_are = are;
      sorts = subst (λ rows. KeepsSorts predicates rows formulas.nodes) back sorts;
      merges = λ s t c. subst (λ rows. is_truth predicates rows s ≡ is_truth predicates rows t) back
          (reached.follows.keeps (Merge s t) (merge_stands last.held.graph.standing s t c));
      apart = λ d. reached.no_conflict (true_is_false d);
    } in
    record {
      assigns = assigns predicates formulas leaders last.held.graph.standing sorted;
      satisfies = satisfied predicates formulas leaders last sorted order.table reached.no_conflict
          reached.no_open reached.no_live reached.follows.done;
    }

pub way_out : (rounds : ℕ) (formulas : Formulas) (now : Held) (last : Path) (leaders : List ℕ)
    (predicates : ℕ → Bool) → IsInOrder formulas now → Verdict rounds (first_path formulas now) (sat last) →
    AreLeaders last.branch.held.graph.standing leaders →
    KeepsSorts predicates (terms_of now.graph.standing) formulas.nodes →
    IsWayOut predicates leaders formulas now last.branch
way_out rounds formulas now last leaders predicates order ends are sorts =
    let rows : List TermRow = terms_of now.graph.standing in
    let allowed : AreAllowed (KeepsSort predicates rows) formulas = record {
      of_nodes = of_nodes predicates formulas rows order.terms sorts;
      of_struck = of_struck predicates formulas rows order.terms sorts;
    } in
    let reached : IsReached formulas (KeepsSort predicates rows) now last.branch =
    reaches (KeepsSort predicates rows) ends last refl allowed
    (follows predicates formulas rows order.terms sorts now order.exactly) in
    let way : IsWay predicates leaders formulas.nodes last.branch.held.asserted rows =
    subst (IsWay predicates leaders formulas.nodes last.branch.held.asserted) reached.follows.grows.terms
    (way_of formulas now last.branch leaders predicates order are sorts reached) in
    record { assigns = way.assigns; satisfies = way.satisfies; among = reached.follows.grows.asserted }
