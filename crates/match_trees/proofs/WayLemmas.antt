-- Codes down trees.
use Rattle.std.proofs.Common.{◌≡◌, ℕ, ◌+◌, ◌<◌, ◌⊎◌, inl, inr, ⊎_elim, List, [], ◌∷◌, ◌++◌, length, ◌≤◌, slice_get, Option, Some, None, refl, sym, subst, ◌∙◌, arith}
use Rattle.std.proofs.lemmas.Option.{same_Some, slice_get_within}
use Rattle.graph_terms.proofs.ListLaws.{slice_get-append_left, slice_get-push, push_cases, slice_get-take, slice_get-take_below}
use Rattle.match_trees.specs.Trees.{Trees, IsNext, Path, here, down, Way, AreJoined, trees_front, with_node}

module _ {L : Type 0} where
  -- a path of one node, or of more
  pub record Goes (trees : Trees L) (node end : ℕ) (label : L) (rest : List L) : Type 0 where
    pub next : ℕ
    pub is : slice_get trees.labels node ≡ Some label
    pub below : IsNext trees node next
    pub path : Path trees next end rest

  pub path_cases : {trees : Trees L} {node end : ℕ} {label : L} {rest : List L} → Path trees node end (label ∷ rest) → ((end ≡ node) × (slice_get trees.labels node ≡ Some label) × (rest ≡ [])) ⊎ Goes trees node end label rest
  path_cases (here is) = inl (refl, is, refl)
  path_cases (down {next = next} is below path) = inr (record { next = next; is = is; below = below; path = path })

  pub no_path : {trees : Trees L} {node end : ℕ} → Path trees node end [] → ⊥
  no_path path = elim path [ ]

  module _ (trees : Trees L) (joined : AreJoined trees) where
    -- the instruction that a path begins with
    begins : {node end : ℕ} {label : L} {rest : List L} → Path trees node end (label ∷ rest) → slice_get trees.labels node ≡ Some label
    begins path = ⊎_elim (λ one. one.1) (λ goes. goes.is) (path_cases path)

    -- from roots, or from two nodes after one node, a code leads to one node
    pub one_end : (code : List L) (above : Option ℕ) (r s n m : ℕ) → slice_get trees.above r ≡ Some above → slice_get trees.above s ≡ Some above → Path trees r n code → Path trees s m code → n ≡ m
    one_end [] above r s n m r_above s_above left right = absurd (no_path left)
    one_end (label ∷ rest) above r s n m r_above s_above left right =
        let same : r ≡ s = joined r s above label r_above s_above (begins left) (begins right) in
        ⊎_elim
        (λ one. ⊎_elim
        (λ other. one.0 ∙ same ∙ sym other.0)
        (λ goes. absurd (no_path (subst (Path trees goes.next m) one.2 goes.path)))
        (path_cases right))
        (λ goes. ⊎_elim
        (λ other. absurd (no_path (subst (Path trees goes.next n) other.2 goes.path)))
        (λ goes'. one_end rest (Some r) goes.next goes'.next n m goes.below (subst (λ x. slice_get trees.above goes'.next ≡ Some (Some x)) (sym same) goes'.below) goes.path goes'.path)
        (path_cases right))
        (path_cases left)

  -- each front of a code leads to a node on the way
  pub path_front : {trees : Trees L} (front rest : List L) (label : L) {node end : ℕ} → Path trees node end (label ∷ front ++ rest) → (middle : ℕ) × Path trees node middle (label ∷ front)
  path_front [] rest label {node} path = (node, ⊎_elim (λ one. here one.1) (λ goes. here goes.is) (path_cases path))
  path_front (i ∷ front) rest label {node} path = ⊎_elim
      (λ one. absurd (cons_none i (front ++ rest) one.2))
      (λ goes. let inner = path_front front rest i goes.path in (inner.0, down goes.is goes.below inner.1))
      (path_cases path)
    where
      cons_none : (i : L) (is : List L) → i ∷ is ≡ [] → ⊥
      cons_none i is e = absurd (cc)

  -- two codes that begin alike share the node at which the front ends
  pub shared_front : (trees : Trees L) → AreJoined trees → (front rest rest' : List L) (label : L) (n m : ℕ) → Way trees n (label ∷ front ++ rest) → Way trees m (label ∷ front ++ rest') → (middle : ℕ) × Way trees middle (label ∷ front) × ((other : ℕ) → Way trees other (label ∷ front) → other ≡ middle)
  shared_front trees joined front rest rest' label n m left right =
      let here' = path_front front rest label left.path in
      (here'.0, record { root = left.root; is_root = left.is_root; path = here'.1 }, λ other way. one_end trees joined (label ∷ front) None way.root left.root other here'.0 way.is_root left.is_root way.path here'.1)

  -- old paths stay
  pub path_more : {trees : Trees L} (above : Option ℕ) (label : L) {node end : ℕ} {code : List L} → Path trees node end code → Path (with_node trees above label) node end code
  path_more {trees} above label (here {node = node} {label = i} is) = here (slice_get-append_left trees.labels (label ∷ []) node i is)
  path_more {trees} above label (down {node = node} {next = next} {label = i} is below path) = down (slice_get-append_left trees.labels (label ∷ []) node i is) (slice_get-append_left trees.above (above ∷ []) next (Some node) below) (path_more above label path)

  -- a path goes on to a next node
  pub path_on : {trees : Trees L} {node end next : ℕ} {code : List L} (label : L) → Path trees node end code → IsNext trees end next → slice_get trees.labels next ≡ Some label → Path trees node next (code ++ label ∷ [])
  path_on label (here is) below has = down is below (here has)
  path_on label (down is next path) below has = down is next (path_on label path below has)

  -- the new node is next after the end of a way
  pub way_new : {trees : Trees L} (end : ℕ) (code : List L) (label : L) → length trees.above ≡ length trees.labels → Way trees end code → Way (with_node trees (Some end) label) (length trees.labels) (code ++ label ∷ [])
  way_new {trees} end code label each way = record {
    root = way.root;
    is_root = slice_get-append_left trees.above (Some end ∷ []) way.root None way.is_root;
    path = path_on label (path_more (Some end) label way.path) (subst (λ n. slice_get (trees.above ++ Some end ∷ []) n ≡ Some (Some end)) each (slice_get-push trees.above (Some end))) (slice_get-push trees.labels label);
  }

  -- where no node after this one has the instruction, the new one is joined
  pub joined_more : (trees : Trees L) (above : Option ℕ) (label : L) → length trees.above ≡ length trees.labels → AreJoined trees → ((n : ℕ) → slice_get trees.above n ≡ Some above → slice_get trees.labels n ≡ Some label → ⊥) → AreJoined (with_node trees above label)
  joined_more trees above label each joined none n m a i na ma ni mi = ⊎_elim
      (λ n_old. ⊎_elim
      (λ m_old. joined n m a i n_old m_old (old_instr n a n_old ni) (old_instr m a m_old mi))
      (λ m_new. absurd (clash n a i n_old m_new ni mi))
      (push_cases trees.above above m a ma))
      (λ n_new. ⊎_elim
      (λ m_old. absurd (clash m a i m_old n_new mi ni))
      (λ m_new. n_new.0 ∙ sym m_new.0)
      (push_cases trees.above above m a ma))
      (push_cases trees.above above n a na)
    where
      old_instr : (k : ℕ) (a : Option ℕ) {i : L} → slice_get trees.above k ≡ Some a → slice_get (trees.labels ++ label ∷ []) k ≡ Some i → slice_get trees.labels k ≡ Some i
      old_instr k a {i} old has = ⊎_elim (λ e. e) (λ new. let lt = slice_get_within trees.above k a old in absurd (omega (arith, new.0))) (push_cases trees.labels label k i has)

      clash : (k : ℕ) (a : Option ℕ) (i : L) {m : ℕ} → slice_get trees.above k ≡ Some a → (m ≡ length trees.above) × (a ≡ above) → slice_get (trees.labels ++ label ∷ []) k ≡ Some i → slice_get (trees.labels ++ label ∷ []) m ≡ Some i → ⊥
      clash k a i {m} old new has has' =
          let at_end : slice_get (trees.labels ++ label ∷ []) m ≡ Some label = subst (λ x. slice_get (trees.labels ++ label ∷ []) x ≡ Some label) (sym (new.0 ∙ each)) (slice_get-push trees.labels label) in
          let same : i ≡ label = same_Some _ _ (sym has' ∙ at_end) in
          none k (subst (λ x. slice_get trees.above k ≡ Some x) new.1 old) (subst (λ x. slice_get trees.labels k ≡ Some x) same (old_instr k a old has))

  -- a path of a front is a path
  pub path_whole : {trees : Trees L} (n : ℕ) {node end : ℕ} {code : List L} → Path (trees_front n trees) node end code → Path trees node end code
  path_whole {trees} n (here {node = node} {label = i} is) = here (slice_get-take n trees.labels node i is)
  path_whole {trees} n (down {node = node} {next = next} {label = i} is below path) = down (slice_get-take n trees.labels node i is) (slice_get-take n trees.above next (Some node) below) (path_whole n path)

  -- a path goes to greater numbers
  pub path_rises : {trees : Trees L} → ((node next : ℕ) → IsNext trees node next → node < next) → {node end : ℕ} {code : List L} → Path trees node end code → node ≤ end
  path_rises later (here is) = omega arith
  path_rises later (down {node = node} {next = next} is below path) = let less = later node next below in let rest = path_rises later path in omega arith

  -- a path to a node of a front is a path of the front
  pub path_cut : {trees : Trees L} (n : ℕ) → ((node next : ℕ) → IsNext trees node next → node < next) → {node end : ℕ} {code : List L} → end < n → Path trees node end code → Path (trees_front n trees) node end code
  path_cut {trees} n later end_below (here {node = node} {label = i} is) = here (slice_get-take_below n trees.labels node i end_below is)
  path_cut {trees} n later end_below (down {node = node} {next = next} {label = i} is below path) =
      let less = later node next below in
      let rises = path_rises later path in
      let node_below : node < n = omega arith in
      let next_below : next < n = omega arith in
      down (slice_get-take_below n trees.labels node i node_below is) (slice_get-take_below n trees.above next (Some node) next_below below) (path_cut n later end_below path)

  -- a path ends at a node
  pub path_end : {trees : Trees L} {node end : ℕ} {code : List L} → Path trees node end code → end < length trees.labels
  path_end {trees} (here {node = node} {label = i} is) = slice_get_within trees.labels node i is
  path_end (down is below path) = path_end path

  -- and is not empty
  pub path_some : {trees : Trees L} {node end : ℕ} {code : List L} → Path trees node end code → 0 < length code
  path_some (here is) = omega arith
  path_some (down is below path) = omega arith

  pub way_whole : {trees : Trees L} (n : ℕ) {end : ℕ} {code : List L} → Way (trees_front n trees) end code → Way trees end code
  way_whole {trees} n way = record { root = way.root; is_root = slice_get-take n trees.above way.root None way.is_root; path = path_whole n way.path }

  pub way_cut : {trees : Trees L} (n : ℕ) → ((node next : ℕ) → IsNext trees node next → node < next) → {end : ℕ} {code : List L} → end < n → Way trees end code → Way (trees_front n trees) end code
  way_cut {trees} n later {end} end_below way =
      let rises = path_rises later way.path in
      let root_below : way.root < n = omega arith in
      record { root = way.root; is_root = slice_get-take_below n trees.above way.root None root_below way.is_root; path = path_cut n later end_below way.path }
