-- What is held is refuted where its search ends without a way out, by the instances that it entered.
use Rattle.std.proofs.Common.{◌≡◌, ℕ, List, [], ◌∷◌, ◌++◌, length, All, Contains, refl, ⊎_elim}
use Rattle.std.proofs.lemmas.List.Elements.{All-nil, All-append, Contains-append_left, Contains-append_right}
use Rattle.graph_terms.specs.declared.term_row.TermRow.{TermRow}
use Rattle.graph_meaning.specs.declared.op.Op.{Op}
use Rattle.graph_meaning.specs.declared.op.Op.TheVariants.{Add, Merge, Differ, Live, Push, Pop}
use Rattle.graph_meaning.specs.Standing.{terms_of}
use Rattle.match_store.specs.declared.instance.Instance.{Instance}
use Rattle.formula_table.specs.Formulas.{Formulas}
use Rattle.formula_assert.specs.Held.{Held}
use Rattle.formula_assert.specs.Exactly.{HoldsExactly, operations_in}
use Rattle.search_laws.specs.Branch.{Branch, with_struck}
use Rattle.search_laws.specs.Closing.{Closes}
use Rattle.search_laws.specs.Path.{Path, first_path, with_branch, after_round}
use Rattle.search_laws.specs.Rounds.{AreNewIn}
use Rattle.search_laws.specs.Verdict.{Ending, unsat, Verdict}
use Rattle.search_laws.specs.Verdict as verdict
use Rattle.search_laws.specs.Assignment.{Assignment, IsAssignment}
use Rattle.search_laws.specs.Pairs.{Pair, IsInstanceOf, Obeys, AreRefutedByInstances}
use Rattle.search_laws.specs.Laws.{IsInOrder}
use Rattle.search_laws.proofs.Places.{contains_none}
use Rattle.search_laws.proofs.GraphLemmas.{truths_stand}
use Rattle.search_laws.proofs.Worlds.{World, IsTrueIn, IsTrueOp, operations_true}
use Rattle.search_laws.proofs.FitLemmas.{Fits, asserts_fits, no_conflict, part_held, held_fits, struck_fits}
use Rattle.search_laws.proofs.FitLemmas.{part_or_not, closes_fits}
use Rattle.search_laws.proofs.Totals.{world_of, is_world, true_in}
use Rattle.search_laws.proofs.StandingLemmas.{exact_over, asserts_over, closes_over, struck_over}
use Rattle.search_laws.proofs.RoundLemmas.{EntryKeeps, IsOnWay, IsFollowed, with_over, live_true}
use Rattle.search_laws.proofs.RoundLemmas.{new_live, new_fits, all_followed}

-- some instances refute the path: no world of an assignment that obeys these fits it
record IsRefutedPath (start : Formulas) (rows : List TermRow) (path : Path) : Type 0 where
  pairs : List Pair
  are_pairs : All (IsInstanceOf start) pairs
  refutes : (given : Assignment) → IsAssignment given → ((pair : Pair) → Contains pairs pair → Obeys given pair) →
      Fits path.formulas (world_of given rows) path.branch → ⊥

module _ (keeps : EntryKeeps) (rounds : ℕ) (start : Formulas) where
  -- the way of a path whose branch closed
  closed_way : (path : Path) (rows : List TermRow) (closed : Branch) → Closes path.formulas path.branch closed →
      IsOnWay start path.formulas rows path.branch.held → IsOnWay start path.formulas rows closed.held
  closed_way path rows closed closes way = with_over start path.formulas rows path.branch.held closed.held way
      (closes_over path.formulas rows (truths_stand rows way.terms) way.stand closes way.over)

  -- the pairs of a round, and then those of the rest
  after_pairs : (path next : Path) (rows : List TermRow) (closed : Branch) (instances : List Instance) (count : ℕ) →
      Closes path.formulas path.branch closed → IsOnWay start path.formulas rows closed.held →
      AreNewIn (with_branch path closed) instances →
      (run : IsFollowed start instances rows (with_branch path closed) next) →
      IsRefutedPath start run.later (after_round next count) → IsRefutedPath start rows path
  after_pairs path next rows closed instances count closes way new run rest = record {
    pairs = run.pairs ++ rest.pairs;
    are_pairs = All-append (IsInstanceOf start) run.pairs rest.pairs run.are_pairs rest.are_pairs;
    refutes = λ given is obeys fits.
        let here = closes_fits path.formulas (world_of given rows) closes fits in
        rest.refutes given is
        (λ pair c. obeys pair (Contains-append_right run.pairs rest.pairs pair c))
        (run.fits given is
        (λ instance c. live_true path.formulas (world_of given rows) closed instance.forall here
        (new_live start path.formulas rows closed.held way path.done instance ((new.exact instance).0 c)))
        (λ pair c. obeys pair (Contains-append_left run.pairs rest.pairs pair c))
        here);
  }

  refuted_path : {path : Path} {ending : Ending} → Verdict rounds path ending → ending ≡ unsat →
      (rows : List TermRow) → IsOnWay start path.formulas rows path.branch.held → IsRefutedPath start rows path
  refuted_path (verdict.conflict {path} {closed} closes conflict) e rows way = record {
    pairs = [];
    are_pairs = All-nil (IsInstanceOf start);
    refutes = λ given is obeys fits. no_conflict path.formulas (world_of given rows) closed
        (closes_fits path.formulas (world_of given rows) closes fits) conflict;
  }
  refuted_path (verdict.first_half quiet split asserts after not) e rows way = absurd (not e)
  refuted_path
      (verdict.second_half {path} {closed} {next} {n} {place} {part} {node} quiet split asserts lost has after) e rows
      way =
      let here = closed_way path rows closed quiet.closes way in
      let truths = truths_stand rows way.terms in
      let one = refuted_path lost refl rows (with_over start path.formulas rows closed.held next here
      (asserts_over path.formulas rows truths way.stand asserts here.over)) in
      let other = refuted_path after e rows
      (with_over start path.formulas rows closed.held (with_struck closed n place node).held here
      (struck_over path.formulas rows truths way.stand closed n place part node has here.over)) in
      let is_or = split.is_open.0 in
      let at = split.left.at_place in
      record {
        pairs = one.pairs ++ other.pairs;
        are_pairs = All-append (IsInstanceOf start) one.pairs other.pairs one.are_pairs other.are_pairs;
        refutes = λ given is obeys fits.
            let world = world_of given rows in
            let fit = closes_fits path.formulas world quiet.closes fits in
            ⊎_elim
            (λ holds. one.refutes given is
            (λ pair c. obeys pair (Contains-append_left one.pairs other.pairs pair c))
            (held_fits path.formulas world closed fit next (asserts_fits path.formulas world asserts fit.held
            (record {
              held = part_held path.formulas world closed fit n place part split.parts is_or at;
              holds = holds;
            }))))
            (λ not. other.refutes given is
            (λ pair c. obeys pair (Contains-append_right one.pairs other.pairs pair c))
            (struck_fits path.formulas world closed fit n place part split.parts node is_or at has not))
            (part_or_not path.formulas world closed fit n place part split.parts is_or at);
      }
  refuted_path (verdict.satisfied decided no_live) e rows way = cc
  refuted_path (verdict.nothing_new undecided new) e rows way = cc
  refuted_path (verdict.no_round undecided new spent) e rows way = cc
  refuted_path (verdict.round {path} {next} {closed} {instance} {instances} undecided new left enters after) e rows
      way =
      let closes = undecided.decided.quiet.closes in
      let here = closed_way path rows closed closes way in
      let run : IsFollowed start (instance ∷ instances) rows (with_branch path closed) next =
      all_followed keeps start enters rows here
      (λ one c. new_fits start path.formulas rows closed.held here path.done one ((new.exact one).0 c)) in
      after_pairs path next rows closed (instance ∷ instances) (length (instance ∷ instances)) closes here new run
      (refuted_path after e run.later run.way)
  refuted_path (verdict.past_limit undecided new left over) e rows way = cc

-- what stands is true where the asserted formulas are
standing_true : (formulas : Formulas) (world : World) (now : Held) → HoldsExactly formulas now →
    ((n : ℕ) → Contains now.asserted n → IsTrueIn formulas.nodes world n) → (op : Op) →
    Contains (operations_in now.graph.standing) op → IsTrueOp world op
standing_true formulas world now exactly truths (Merge s t) c = let h = exactly.merges s t c in
    operations_true world formulas h.n h.node h.has (truths h.n h.asserted) (Merge s t) h.of_node
standing_true formulas world now exactly truths (Differ s t) c = let h = exactly.differs s t c in
    operations_true world formulas h.n h.node h.has (truths h.n h.asserted) (Differ s t) h.of_node
standing_true formulas world now exactly truths (Add symbol args) c = tt
standing_true formulas world now exactly truths (Live trigger) c = tt
standing_true formulas world now exactly truths Push c = tt
standing_true formulas world now exactly truths Pop c = tt

pub refuted : EntryKeeps → (rounds : ℕ) (formulas : Formulas) (now : Held) → IsInOrder formulas now →
    Verdict rounds (first_path formulas now) unsat →
    AreRefutedByInstances formulas (terms_of now.graph.standing) now.asserted
refuted keeps rounds formulas now order ends =
    let rows = terms_of now.graph.standing in
    let path = refuted_path keeps rounds formulas ends refl rows (record {
      terms = order.terms;
      table = order.table;
      stand = order.stand;
      foralls_are = refl;
      over = exact_over formulas rows (truths_stand rows order.terms) order.stand now refl order.exactly;
    }) in (
      path.pairs,
      record {
        instances = path.are_pairs;
        refutes = λ given is satisfied obeys.
            let truths : (n : ℕ) → Contains now.asserted n → IsTrueIn formulas.nodes (world_of given rows) n =
            λ n c. true_in given rows order.terms is formulas.nodes n (satisfied n c) in
            path.refutes given is obeys (record {
              held = record {
                is_world = is_world given rows order.terms is;
                operations = standing_true formulas (world_of given rows) now order.exactly truths;
                asserted = truths;
              };
              struck = λ n place c. contains_none (n, place) c;
            });
      },
    )
