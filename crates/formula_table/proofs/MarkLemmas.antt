-- Marks of what is reached.
use Rattle.std.proofs.Common.{◌≡◌, ℕ, zero, suc, ◌+◌, ◌<◌, ◌≤◌, ◌⊎◌, Bool, true, false, List, [], ◌∷◌, ◌++◌, length, set, replicate, get_or, slice_get, Some, All, Contains, refl, sym, ap, subst, ◌∙◌, inl, inr, ⊎_elim, arith, true≢false, length-set}
use Rattle.std.proofs.lemmas.Bool.{cases_lt}
use Rattle.std.proofs.lemmas.List.{length-replicate}
use Rattle.std.proofs.lemmas.Option.{none-some, same_Some, slice_get_within, slice_get-get_or}
use Rattle.std.proofs.lemmas.List.Elements.{All-contains, Contains-push_cases, Contains-append_left, Contains-push}
use Rattle.formula_draft.specs.declared.draft_row.DraftRow.{DraftRow}
use Rattle.formula_draft.specs.declared.draft_node.DraftNode.{DraftNode}
use Rattle.formula_draft.specs.declared.draft_forall.DraftForall.{DraftForall}
use Rattle.formula_draft.specs.DraftRow.{args_of}
use Rattle.formula_draft.specs.DraftNode.{rows_of, parts_of}
use Rattle.formula_draft.specs.Reach.{ReachesNode, ReachesRow}
use Rattle.formula_draft.specs.Reach.ReachesNode.{itself, part_of_it}
use Rattle.formula_draft.specs.Reach.ReachesRow.{named, argument}
use Rattle.formula_draft.specs.Draft.{AreLawful}
use Rattle.formula_table.specs.Marks.{IsMarked, AreMarks, Marks, IsNamed}

-- a place that was marked is marked
marked_here : (marks : List Bool) (place : ℕ) → place < length marks → IsMarked (set marks place true) place
marked_here [] place within = absurd (omega arith)
marked_here (m ∷ marks) zero within = refl
marked_here (m ∷ marks) (suc place) within = marked_here marks place (omega arith)

-- what was marked stays so
marked_still : (marks : List Bool) (place n : ℕ) → IsMarked marks n → IsMarked (set marks place true) n
marked_still [] place n is = absurd (none-some true is)
marked_still (m ∷ marks) zero zero is = refl
marked_still (m ∷ marks) zero (suc n) is = is
marked_still (m ∷ marks) (suc place) zero is = is
marked_still (m ∷ marks) (suc place) (suc n) is = marked_still marks place n is

-- what is marked was so, or it is the place
marked_cases : (marks : List Bool) (place n : ℕ) → IsMarked (set marks place true) n → IsMarked marks n ⊎ (n ≡ place)
marked_cases [] place n is = inl is
marked_cases (m ∷ marks) zero zero is = inr refl
marked_cases (m ∷ marks) zero (suc n) is = inl is
marked_cases (m ∷ marks) (suc place) zero is = inl is
marked_cases (m ∷ marks) (suc place) (suc n) is = ⊎_elim inl (λ e. inr (ap suc e)) (marked_cases marks place n is)

-- nothing is marked among false
pub unmarked : (count n : ℕ) → IsMarked (replicate count false) n → ⊥
unmarked zero n is = none-some true is
unmarked (suc count) zero is = true≢false (sym (same_Some false true is))
unmarked (suc count) (suc n) is = unmarked count n is

-- nothing more was marked
pub Marks-none : (marks : List Bool) → Marks [] marks marks
Marks-none marks = record { len = refl; stay = λ n is. is; each = λ n c. absurd (omega (arith, c.1)); only = λ n is. inl is }

-- one number more was marked
pub Marks-more : (places : List ℕ) (old now : List Bool) (place : ℕ) → place < length now → Marks places old now → Marks (places ++ place ∷ []) old (set now place true)
Marks-more places old now place within marks = record {
  len = length-set now place true ∙ marks.len;
  stay = λ n is. marked_still now place n (marks.stay n is);
  each = λ n c. ⊎_elim (λ before. marked_still now place n (marks.each n before)) (λ same. subst (IsMarked (set now place true)) same (marked_here now place within)) (Contains-push_cases places place n c);
  only = λ n is. ⊎_elim (λ before. ⊎_elim inl (λ c. inr (Contains-append_left places (place ∷ []) n c)) (marks.only n before)) (λ same. inr (subst (Contains (places ++ place ∷ [])) (sym same) (Contains-push places place))) (marked_cases now place n is);
}

-- a number that isn't marked
pub not_marked : (marks : List Bool) (n : ℕ) (b : Bool) → slice_get marks n ≡ Some b → b ≡ false → IsMarked marks n → ⊥
not_marked marks n b at is_false is = true≢false (same_Some true b (sym is ∙ at) ∙ is_false)

module _ {X : Type 0} (items : List X) (kids : X → List ℕ) (P Seed : ℕ → Type 0) where
  -- marks of the seeds, and of the kids of what is marked from a number on
  pub record IsClosing (from : ℕ) (marks : List Bool) : Type 0 where
    pub len : length marks ≡ length items
    pub only : (n : ℕ) → IsMarked marks n → P n
    pub seeds : (n : ℕ) → Seed n → IsMarked marks n
    pub closed : (n : ℕ) (x : X) (kid : ℕ) → from ≤ n → IsMarked marks n → slice_get items n ≡ Some x → Contains (kids x) kid → IsMarked marks kid

  module _ (earlier : (n : ℕ) (x : X) → slice_get items n ≡ Some x → All (λ kid. kid < n) (kids x)) (further : (n : ℕ) (x : X) (kid : ℕ) → P n → slice_get items n ≡ Some x → Contains (kids x) kid → P kid) where
    -- all stands from the length on
    pub closing-start : (from : ℕ) (marks : List Bool) → length items ≤ from → length marks ≡ length items → ((n : ℕ) → IsMarked marks n → P n) → ((n : ℕ) → Seed n → IsMarked marks n) → IsClosing from marks
    closing-start from marks high len only seeds = record {
      len = len;
      only = only;
      seeds = seeds;
      closed = λ n x kid above is at c. let within = slice_get_within items n x at in absurd (omega arith);
    }

    -- an item that is marked has its kids marked
    pub closing-marked : (from n : ℕ) (x : X) (old new : List Bool) → from ≡ n + 1 → IsMarked old n → slice_get items n ≡ Some x → Marks (kids x) old new → IsClosing from old → IsClosing n new
    closing-marked from n x old new next is at marks closing = record {
      len = marks.len ∙ closing.len;
      only = λ k marked. ⊎_elim (closing.only k) (λ c. further n x k (closing.only n is) at c) (marks.only k marked);
      seeds = λ k seed. marks.stay k (closing.seeds k seed);
      closed = λ k y kid above marked at_k c. ⊎_elim
          (λ higher. ⊎_elim (λ before. marks.stay kid (closing.closed k y kid (omega arith) before at_k c))
          (λ kid_of_it. let lower = All-contains (λ p. p < n) (kids x) k (earlier n x at) kid_of_it in absurd (omega arith))
          (marks.only k marked))
          (λ not_higher.
          let here : k ≡ n = omega arith in
          let same : y ≡ x = same_Some y x (sym at_k ∙ ap (slice_get items) here ∙ at) in
          marks.each kid (subst (λ z. Contains (kids z) kid) same c))
          (cases_lt n k);
    }

    -- an item that isn't marked needs nothing
    pub closing-unmarked : (from n : ℕ) (marks : List Bool) → from ≡ n + 1 → (IsMarked marks n → ⊥) → IsClosing from marks → IsClosing n marks
    closing-unmarked from n marks next not closing = record {
      len = closing.len;
      only = closing.only;
      seeds = closing.seeds;
      closed = λ k y kid above marked at c. ⊎_elim
          (λ higher. closing.closed k y kid (omega arith) marked at c)
          (λ not_higher. let here : k ≡ n = omega arith in absurd (not (subst (IsMarked marks) here marked)))
          (cases_lt n k);
    }

-- where all is closed, all that is reached is marked
pub nodes_marked : (nodes : List DraftNode) (start : ℕ) (marks : List Bool) → IsClosing nodes parts_of (ReachesNode nodes start) (λ n. n ≡ start) 0 marks → AreMarks (length nodes) (ReachesNode nodes start) marks
nodes_marked nodes start marks closing = record { len = closing.len; only = closing.only; each = λ n reach. all reach }
  where
    all : {n : ℕ} → ReachesNode nodes start n → IsMarked marks n
    all itself = closing.seeds start refl
    all (part_of_it {n = n} {part = part} {node = node} above at c) = closing.closed n node part (omega arith) (all above) at c

pub rows_marked : (rows : List DraftRow) (nodes : List DraftNode) (start : ℕ) (marks : List Bool) → IsClosing rows args_of (ReachesRow rows nodes start) (IsNamed rows_of nodes start) 0 marks → AreMarks (length rows) (ReachesRow rows nodes start) marks
rows_marked rows nodes start marks closing = record { len = closing.len; only = closing.only; each = λ n reach. all reach }
  where
    all : {n : ℕ} → ReachesRow rows nodes start n → IsMarked marks n
    all (named {n = n} {row = row} {node = node} reach at c) = closing.seeds row (record { place = n; node = node; reached = reach; stands = at; named = c })
    all (argument {n = n} {arg = arg} {row = row} above at c) = closing.closed n row arg (omega arith) (all above) at c

-- what the nodes below a number name is marked
pub record AreNamed (names : DraftNode → List ℕ) (nodes : List DraftNode) (start rows below : ℕ) (marks : List Bool) : Type 0 where
  pub len : length marks ≡ rows
  pub only : (row : ℕ) → IsMarked marks row → IsNamed names nodes start row
  pub each : (n row : ℕ) (node : DraftNode) → n < below → ReachesNode nodes start n → slice_get nodes n ≡ Some node → Contains (names node) row → IsMarked marks row

module _ (names : DraftNode → List ℕ) (nodes : List DraftNode) (start rows : ℕ) where
  -- a reached node has what it names marked
  pub AreNamed-marked : (n : ℕ) (node : DraftNode) (old new : List Bool) → ReachesNode nodes start n → slice_get nodes n ≡ Some node → Marks (names node) old new → AreNamed names nodes start rows n old → AreNamed names nodes start rows (n + 1) new
  AreNamed-marked n node old new reach at marks are = record {
    len = marks.len ∙ are.len;
    only = λ row is. ⊎_elim (are.only row) (λ c. record { place = n; node = node; reached = reach; stands = at; named = c }) (marks.only row is);
    each = λ k row other below reach_k at_k c. ⊎_elim
        (λ earlier. marks.stay row (are.each k row other earlier reach_k at_k c))
        (λ not_earlier.
        let here : k ≡ n = omega arith in
        let same : other ≡ node = same_Some other node (sym at_k ∙ ap (slice_get nodes) here ∙ at) in
        marks.each row (subst (λ z. Contains (names z) row) same c))
        (cases_lt k n);
  }

  -- a node that isn't reached needs nothing
  pub AreNamed-unmarked : (n : ℕ) (marks : List Bool) → (ReachesNode nodes start n → ⊥) → AreNamed names nodes start rows n marks → AreNamed names nodes start rows (n + 1) marks
  AreNamed-unmarked n marks not are = record {
    len = are.len;
    only = are.only;
    each = λ k row other below reach at c. ⊎_elim
        (λ earlier. are.each k row other earlier reach at c)
        (λ not_earlier. let here : k ≡ n = omega arith in absurd (not (subst (ReachesNode nodes start) here reach)))
        (cases_lt k n);
  }

-- what a look-up of a mark says
pub looked_up : (marks : List Bool) (n : ℕ) (b : Bool) → n < length marks → b ≡ get_or marks n b → slice_get marks n ≡ Some b
looked_up marks n b within is = slice_get-get_or marks n b within ∙ ap Some (sym is)

module _ (rows : List DraftRow) (nodes : List DraftNode) (foralls : List DraftForall) (lawful : AreLawful rows nodes foralls) (start : ℕ) where
  -- the node that is marked first
  pub nodes_start : (count : ℕ) (marks : List Bool) → marks ≡ replicate count false → count ≡ length nodes → start < length nodes → IsClosing nodes parts_of (ReachesNode nodes start) (λ n. n ≡ start) count (set marks start true)
  nodes_start count marks are all within =
      let len : length (set marks start true) ≡ length nodes = length-set marks start true ∙ ap length are ∙ length-replicate count false ∙ all in
      closing-start nodes parts_of (ReachesNode nodes start) (λ n. n ≡ start) (λ n x at. (lawful.nodes_fit n x at).parts_stand) (λ n x kid reach at c. part_of_it reach at c) count (set marks start true) (omega arith) len
      (λ n is. ⊎_elim (λ old. absurd (unmarked count n (subst (λ (ms : List Bool). IsMarked ms n) are old))) (λ same. subst (ReachesNode nodes start) (sym same) itself) (marked_cases marks start n is))
      (λ n same. subst (IsMarked (set marks start true)) (sym same) (marked_here marks start (omega (arith, len, length-set marks start true))))

  pub nodes_marked_at : (from n : ℕ) (x : DraftNode) (old new : List Bool) → from ≡ n + 1 → IsMarked old n → slice_get nodes n ≡ Some x → Marks (parts_of x) old new → IsClosing nodes parts_of (ReachesNode nodes start) (λ n. n ≡ start) from old → IsClosing nodes parts_of (ReachesNode nodes start) (λ n. n ≡ start) n new
  nodes_marked_at = closing-marked nodes parts_of (ReachesNode nodes start) (λ n. n ≡ start) (λ n x at. (lawful.nodes_fit n x at).parts_stand) (λ n x kid reach at c. part_of_it reach at c)

  pub nodes_unmarked_at : (from n : ℕ) (marks : List Bool) → from ≡ n + 1 → (IsMarked marks n → ⊥) → IsClosing nodes parts_of (ReachesNode nodes start) (λ n. n ≡ start) from marks → IsClosing nodes parts_of (ReachesNode nodes start) (λ n. n ≡ start) n marks
  nodes_unmarked_at = closing-unmarked nodes parts_of (ReachesNode nodes start) (λ n. n ≡ start) (λ n x at. (lawful.nodes_fit n x at).parts_stand) (λ n x kid reach at c. part_of_it reach at c)

  pub rows_start : (count : ℕ) (marks : List Bool) → count ≡ length rows → AreMarks (length rows) (IsNamed rows_of nodes start) marks → IsClosing rows args_of (ReachesRow rows nodes start) (IsNamed rows_of nodes start) count marks
  rows_start count marks all are =
      closing-start rows args_of (ReachesRow rows nodes start) (IsNamed rows_of nodes start) (λ n x at. (lawful.rows_fit n x at).args) (λ n x kid reach at c. argument reach at c) count marks (omega arith) are.len
      (λ n is. let name = are.only n is in named name.reached name.stands name.named)
      are.each

  pub rows_marked_at : (from n : ℕ) (x : DraftRow) (old new : List Bool) → from ≡ n + 1 → IsMarked old n → slice_get rows n ≡ Some x → Marks (args_of x) old new → IsClosing rows args_of (ReachesRow rows nodes start) (IsNamed rows_of nodes start) from old → IsClosing rows args_of (ReachesRow rows nodes start) (IsNamed rows_of nodes start) n new
  rows_marked_at = closing-marked rows args_of (ReachesRow rows nodes start) (IsNamed rows_of nodes start) (λ n x at. (lawful.rows_fit n x at).args) (λ n x kid reach at c. argument reach at c)

  pub rows_unmarked_at : (from n : ℕ) (marks : List Bool) → from ≡ n + 1 → (IsMarked marks n → ⊥) → IsClosing rows args_of (ReachesRow rows nodes start) (IsNamed rows_of nodes start) from marks → IsClosing rows args_of (ReachesRow rows nodes start) (IsNamed rows_of nodes start) n marks
  rows_unmarked_at = closing-unmarked rows args_of (ReachesRow rows nodes start) (IsNamed rows_of nodes start) (λ n x at. (lawful.rows_fit n x at).args) (λ n x kid reach at c. argument reach at c)

-- where all nodes were passed, exactly what is named is marked
pub AreNamed-all : (names : DraftNode → List ℕ) (nodes : List DraftNode) (start rows below : ℕ) (marks : List Bool) → length nodes ≤ below → AreNamed names nodes start rows below marks → AreMarks rows (IsNamed names nodes start) marks
AreNamed-all names nodes start rows below marks all are = record {
  len = are.len;
  only = are.only;
  each = λ row name. let within = slice_get_within nodes name.place name.node name.stands in are.each name.place row name.node (omega arith) name.reached name.stands name.named;
}
