-- Turns of a climb, and what they come to.
use Rattle.std.proofs.Common.{◌≡◌, ◌<◌, ◌≤◌, ◌+◌, ◌⊎◌, inl, inr, ⊎_elim, ℕ, zero, suc, List, [], ◌∷◌, ◌++◌, length, get_or, slice_get, Some, None, Contains, refl, sym, ap, subst, ◌∙◌, append_assoc, arith}
use Rattle.std.proofs.lemmas.Bool.{cases_lt}
use Rattle.std.proofs.lemmas.Option.{none-some, same_Some, slice_get_within, slice_get-get_or}
use Rattle.std.proofs.lemmas.List.Elements.{Contains-get_or, Contains-append_cases}
use Rattle.graph_terms.proofs.ListLaws.{place_from_Contains, Contains-slice_get}
use Rattle.graph_meaning.specs.declared.done.Done.{Done}
use Rattle.graph_meaning.specs.Standing.{terms_of}
use Rattle.graph_meaning.specs.Lawful.{IsLawful}
use Rattle.graph_meaning.specs.Same.{Same, same_term, turned, joined}
use Rattle.graph_meaning.specs.Questions.{AreAll, IsParent}
use Rattle.match_laws.proofs.DecideLaws.{derived_terms}
use Rattle.graph_meaning.specs.declared.claim.Claim.{Claim}
use Rattle.match_paths.specs.declared.link.Link.{Link}
use Rattle.match_paths.specs.declared.link.Link.TheVariants.{Above}
use Rattle.match_paths.specs.declared.task.Task.{Task}
use Rattle.match_trees.specs.EntryList.{EntryList, entry_of}
use Rattle.match_trees.specs.Trees.{Trees, IsNext, IsRoot, Path, here, down}
use Rattle.match_trees.specs.TreeLaws.{PathLaws}
use Rattle.match_paths.specs.Inverted.{Begins, Climbs, top, up}
use Rattle.match_paths.proofs.InvertedLaws.{climb_step, no_climb, climb_same}
use Rattle.match_paths.specs.Climbing.{PutsIn, IsClaimAt, IsTaskAt, IsClimbed, ClimbsAll, IsParentAt, IsParentBy, IsAboveTask, IsFirst, PutsRoot, AreFirst, Rises, IsLed, FindsAll}
use Rattle.match_paths.proofs.ClimbLemmas.{grew_none, grew_both, grew_as, grew_keeps, still_climbed}

module _ (standing : List Done) (list : EntryList) where
  -- nothing is due
  pub climbs_nothing : (R : ℕ → ℕ → Type 0) (tasks : List Task) (claims : List Claim) → ((node parent : ℕ) → R node parent → ⊥) → ClimbsAll standing list R tasks tasks claims claims
  climbs_nothing R tasks claims none = record { tasks_grew = grew_none _ tasks; claims_grew = grew_none _ claims; each = λ node parent r. absurd (none node parent r) }

  module _ (R S : ℕ → ℕ → Type 0) where
    -- the same is due
    pub climbs_as : (tasks tasks' : List Task) (claims claims' : List Claim) → ((node parent : ℕ) → R node parent → S node parent) → ((node parent : ℕ) → S node parent → R node parent) → ClimbsAll standing list R tasks tasks' claims claims' → ClimbsAll standing list S tasks tasks' claims claims'
    climbs_as tasks tasks' claims claims' forth back all = record {
      tasks_grew = grew_as _ _ tasks tasks' (λ t h. (h.0, h.1, forth h.0 h.1 h.2, h.3)) all.tasks_grew;
      claims_grew = grew_as _ _ claims claims' (λ c h. (h.0, h.1, forth h.0 h.1 h.2, h.3)) all.claims_grew;
      each = λ node parent s. all.each node parent (back node parent s);
    }

    -- what is due for the one and for the other
    pub climbs_both : (T : ℕ → ℕ → Type 0) (tasks tasks' tasks'' : List Task) (claims claims' claims'' : List Claim) → ((node parent : ℕ) → R node parent → T node parent) → ((node parent : ℕ) → S node parent → T node parent) → ((node parent : ℕ) → T node parent → R node parent ⊎ S node parent) → ClimbsAll standing list R tasks tasks' claims claims' → ClimbsAll standing list S tasks' tasks'' claims' claims'' → ClimbsAll standing list T tasks tasks'' claims claims''
    climbs_both T tasks tasks' tasks'' claims claims' claims'' one other cases first second =
        let IsTask : Task → Type 0 = λ task. (node : ℕ) × (parent : ℕ) × T node parent × IsTaskAt standing node parent task in
        let IsClaim : Claim → Type 0 = λ claim. (node : ℕ) × (parent : ℕ) × T node parent × IsClaimAt list node parent claim in
        record {
          tasks_grew = grew_both IsTask tasks tasks' tasks'' (grew_as _ IsTask tasks tasks' (λ t h. (h.0, h.1, one h.0 h.1 h.2, h.3)) first.tasks_grew) (grew_as _ IsTask tasks' tasks'' (λ t h. (h.0, h.1, other h.0 h.1 h.2, h.3)) second.tasks_grew);
          claims_grew = grew_both IsClaim claims claims' claims'' (grew_as _ IsClaim claims claims' (λ c h. (h.0, h.1, one h.0 h.1 h.2, h.3)) first.claims_grew) (grew_as _ IsClaim claims' claims'' (λ c h. (h.0, h.1, other h.0 h.1 h.2, h.3)) second.claims_grew);
          each = λ node parent t. ⊎_elim (λ r. still_climbed standing list _ _ node parent tasks' tasks'' claims' claims'' second.tasks_grew second.claims_grew (first.each node parent r)) (λ s. second.each node parent s) (cases node parent t);
        }

-- other links lead no further
pub no_parent_by : (standing : List Done) (trees : Trees Link) (class node : ℕ) (link : Link) → slice_get trees.labels node ≡ Some link → ((symbol place : ℕ) → link ≡ Above symbol place → ⊥) → (other parent : ℕ) → IsParentBy standing trees class node other parent → ⊥
no_parent_by standing trees class node link is none other parent by = none by.0 by.1 (same_Some link (Above by.0 by.1) (sym is ∙ by.3))

same_above : (f g i j : ℕ) → Above f i ≡ Above g j → (f ≡ g) × (i ≡ j)
same_above f g i j e = (cc, cc)

-- the parents of one link
module _ (standing : List Done) (trees : Trees Link) (class node symbol place : ℕ) (is : slice_get trees.labels node ≡ Some (Above symbol place)) where
  pub by_link : (other parent : ℕ) → IsParentAt standing class symbol place node other parent → IsParentBy standing trees class node other parent
  by_link other parent at = (symbol, place, at.0, is, at.1)

  pub link_by : (other parent : ℕ) → IsParentBy standing trees class node other parent → IsParentAt standing class symbol place node other parent
  link_by other parent by =
      let same = same_above by.0 symbol by.1 place (same_Some (Above by.0 by.1) (Above symbol place) (sym by.3 ∙ is)) in
      (by.2, subst (λ f. IsParent standing class f place parent) same.0 (subst (λ i. IsParent standing class by.0 i parent) same.1 by.4))

-- the parents along the first k nodes
abbrev pub ByFirst : List Done → Trees Link → ℕ → List ℕ → ℕ → ℕ → ℕ → Type 0
ByFirst standing trees class nodes k node parent = (j : ℕ) × (j < k) × IsParentBy standing trees class (get_or nodes j 0) node parent

module _ (standing : List Done) (list : EntryList) (trees : Trees Link) (class : ℕ) (nodes : List ℕ) where
  pub by_none : (tasks : List Task) (claims : List Claim) → ClimbsAll standing list (ByFirst standing trees class nodes 0) tasks tasks claims claims
  by_none tasks claims = climbs_nothing standing list _ tasks claims (λ node parent by. omega (arith, by.1))

  pub by_next : (k : ℕ) (tasks tasks' tasks'' : List Task) (claims claims' claims'' : List Claim) → ClimbsAll standing list (ByFirst standing trees class nodes k) tasks tasks' claims claims' → ClimbsAll standing list (IsParentBy standing trees class (get_or nodes k 0)) tasks' tasks'' claims' claims'' → ClimbsAll standing list (ByFirst standing trees class nodes (k + 1)) tasks tasks'' claims claims''
  by_next k tasks tasks' tasks'' claims claims' claims'' = climbs_both standing list (ByFirst standing trees class nodes k) (IsParentBy standing trees class (get_or nodes k 0)) (ByFirst standing trees class nodes (k + 1)) tasks tasks' tasks'' claims claims' claims'' (λ node parent by. (by.0, omega (arith, by.1), by.2)) (λ node parent by. (k, omega arith, by))
      (λ node parent by. ⊎_elim (λ less. inl (by.0, less, by.2)) (λ not_less. let is : by.0 ≡ k = omega (arith, by.1, not_less) in inr (subst (λ j. IsParentBy standing trees class (get_or nodes j 0) node parent) is by.2)) (cases_lt by.0 k))

  pub by_all : (task : Task) → task.class ≡ class → (k : ℕ) (tasks tasks' : List Task) (claims claims' : List Claim) → AreAll (IsNext trees task.node) nodes → k ≤ length nodes → length nodes ≤ k → ClimbsAll standing list (ByFirst standing trees class nodes k) tasks tasks' claims claims' → ClimbsAll standing list (IsAboveTask standing trees task) tasks tasks' claims claims'
  by_all task of k tasks tasks' claims claims' all within past = climbs_as standing list (ByFirst standing trees class nodes k) (IsAboveTask standing trees task) tasks tasks' claims claims'
      (λ node parent by.
      let lt : by.0 < length nodes = omega (arith, by.1) in
      let by_node : IsParentBy standing trees class (get_or nodes by.0 0) node parent = by.2 in
      let is : get_or nodes by.0 0 ≡ node = sym by_node.2 in
      (by_node.0, by_node.1, subst (IsNext trees task.node) is ((all.exact (get_or nodes by.0 0)).0 (Contains-get_or nodes by.0 0 lt)), subst (λ n. slice_get trees.labels n ≡ Some (Above by_node.0 by_node.1)) is by_node.3, subst (λ c. IsParent standing c by_node.0 by_node.1 parent) (sym of) by_node.4))
      (λ node parent above.
      let at = place_from_Contains nodes node ((all.exact node).1 above.2) in
      let lt = slice_get_within nodes at.0 node at.1 in
      let is : node ≡ get_or nodes at.0 0 = same_Some node (get_or nodes at.0 0) (sym at.1 ∙ slice_get-get_or nodes at.0 0 lt) in
      (at.0, omega (arith, lt, past), (above.0, above.1, is, subst (λ n. slice_get trees.labels n ≡ Some (Above above.0 above.1)) is above.3, subst (λ c. IsParent standing c above.0 above.1 parent) of above.4)))

-- the task of a root
abbrev pub root_task : ℕ → ℕ → Task
root_task root class = record { node = root; class = class }

module _ (standing : List Done) (trees : Trees Link) (class : ℕ) where
  pub puts_root : (root : ℕ) (link : Link) (old new : List Task) → slice_get trees.labels root ≡ Some link → Begins standing link class → PutsIn old new (root_task root class) → PutsRoot standing trees class root old new
  puts_root root link old new is holds puts = record {
    grew = grew_as _ _ old new (λ t e. record { node = ap (λ (u : Task). u.node) e; class = ap (λ (u : Task). u.class) e; begin = link; link = is; holds = holds }) puts.grew;
    has = λ begin at begins. puts.has;
  }

  pub puts_no_root : (root : ℕ) (link : Link) (old : List Task) → slice_get trees.labels root ≡ Some link → (Begins standing link class → ⊥) → PutsRoot standing trees class root old old
  puts_no_root root link old is none = record { grew = grew_none _ old; has = λ begin at begins. absurd (none (subst (λ (l : Link). Begins standing l class) (same_Some begin link (sym at ∙ is)) begins)) }

  -- the tasks of the first k roots
  pub record FirstTo (roots : List ℕ) (k : ℕ) (tasks : List Task) : Type 0 where
    pub sound : (task : Task) → Contains tasks task → (root : ℕ) × IsRoot trees root × IsFirst standing trees class root task
    pub complete : (j : ℕ) → j < k → (begin : Link) → slice_get trees.labels (get_or roots j 0) ≡ Some begin → Begins standing begin class → Contains tasks (root_task (get_or roots j 0) class)

  module _ (roots : List ℕ) (all : AreAll (IsRoot trees) roots) where
    pub first_none : FirstTo roots 0 []
    first_none = record { sound = λ task c. absurd (omega (arith, c.1)); complete = λ j lt begin is holds. absurd (omega arith) }

    pub first_next : (k : ℕ) (tasks tasks' : List Task) → k < length roots → PutsRoot standing trees class (get_or roots k 0) tasks tasks' → FirstTo roots k tasks → FirstTo roots (k + 1) tasks'
    first_next k tasks tasks' lt puts so_far = record {
      sound = λ task c. ⊎_elim (so_far.sound task) (λ new. (get_or roots k 0, (all.exact (get_or roots k 0)).0 (Contains-get_or roots k 0 lt), puts.grew.are task new)) (Contains-append_cases tasks puts.grew.more task (subst (λ ts. Contains ts task) puts.grew.is c));
      complete = λ j less begin is holds. ⊎_elim
          (λ earlier. grew_keeps _ tasks tasks' (root_task (get_or roots j 0) class) puts.grew (so_far.complete j earlier begin is holds))
          (λ not_earlier. let this : k ≡ j = omega arith in subst (λ i. Contains tasks' (root_task (get_or roots i 0) class)) this (puts.has begin (subst (λ i. slice_get trees.labels (get_or roots i 0) ≡ Some begin) (sym this) is) holds))
          (cases_lt j k);
    }

    pub first_all : (k : ℕ) (tasks : List Task) → length roots ≤ k → FirstTo roots k tasks → AreFirst standing trees class tasks
    first_all k tasks past so_far = record {
      sound = so_far.sound;
      complete = λ root begin is_root is holds.
          let at = place_from_Contains roots root ((all.exact root).1 is_root) in
          let lt = slice_get_within roots at.0 root at.1 in
          let same : get_or roots at.0 0 ≡ root = same_Some (get_or roots at.0 0) root (sym (slice_get-get_or roots at.0 0 lt) ∙ at.1) in
          subst (λ r. Contains tasks (root_task r class)) same (so_far.complete at.0 (omega (arith, lt, past)) begin (subst (λ r. slice_get trees.labels r ≡ Some begin) (sym same) is) holds);
    }

-- an element of the front of a list
slice_get-front : (xs ys : List Task) (i : ℕ) (x : Task) → i < length xs → slice_get (xs ++ ys) i ≡ Some x → slice_get xs i ≡ Some x
slice_get-front [] ys i x lt h = absurd (omega arith)
slice_get-front (y ∷ xs) ys zero x lt h = h
slice_get-front (y ∷ xs) ys (suc i) x lt h = slice_get-front xs ys i x (omega arith) h

module _ (standing : List Done) (lawful : IsLawful standing) (trees : Trees Link) (list : EntryList) (class : ℕ) (is_term : class < length (terms_of standing)) where
  -- the first turns were taken
  pub record Turns (turn : ℕ) (tasks : List Task) (claims : List Claim) : Type 0 where
    pub rises : (task : Task) → Contains tasks task → Rises standing trees class task
    pub led : (claim : Claim) → Contains claims claim → IsLed standing trees list class claim
    pub first : (root : ℕ) (begin : Link) → IsRoot trees root → slice_get trees.labels root ≡ Some begin → Begins standing begin class → Contains tasks (root_task root class)
    pub taken : (j : ℕ) (task : Task) → j < turn → slice_get tasks j ≡ Some task → (node parent : ℕ) → IsAboveTask standing trees task node parent → IsClimbed standing list node parent tasks claims

  pub turns_none : (tasks : List Task) → AreFirst standing trees class tasks → Turns 0 tasks []
  turns_none tasks are = record {
    rises = λ task c.
        let first = are.sound task c in
        let one = first.2 in
        record {
          begin = one.begin;
          links = [];
          holds = one.holds;
          way = record { root = first.0; is_root = first.1; path = subst (λ n. Path trees first.0 n (one.begin ∷ [])) (sym one.node) (here one.link) };
          climbs = λ rest root climbs. subst (λ k. Climbs standing rest k root) one.class climbs;
          is_term = subst (λ k. k < length (terms_of standing)) (sym one.class) is_term;
        };
    led = λ claim c. absurd (omega (arith, c.1));
    first = are.complete;
    taken = λ j task lt at node parent above. absurd (omega arith);
  }

  module _ (paths : PathLaws Link) where
    next_rises : (task : Task) → Rises standing trees class task → (node parent : ℕ) → IsAboveTask standing trees task node parent → (other : Task) → IsTaskAt standing node parent other → Rises standing trees class other
    next_rises task r node parent above other at = record {
      begin = r.begin;
      links = r.links ++ Above above.0 above.1 ∷ [];
      holds = r.holds;
      way = record { root = r.way.root; is_root = r.way.is_root; path = subst (λ n. Path trees r.way.root n (r.begin ∷ (r.links ++ Above above.0 above.1 ∷ []))) (sym at.0) (paths.on trees r.way.root task.node node (r.begin ∷ r.links) (Above above.0 above.1) r.way.path above.2 above.3) };
      climbs = λ rest root climbs. subst (λ ls. Climbs standing ls class root) (sym (append_assoc r.links (Above above.0 above.1 ∷ []) rest)) (r.climbs (Above above.0 above.1 ∷ rest) root (up above.4 (climb_same climbs (turned at.1))));
      is_term = (derived_terms lawful.whole.ends at.1).1;
    }

    next_led : (task : Task) → Rises standing trees class task → (node parent : ℕ) → IsAboveTask standing trees task node parent → (claim : Claim) → IsClaimAt list node parent claim → IsLed standing trees list class claim
    next_led task r node parent above claim at = record {
      number = at.0;
      end = node;
      is = at.1;
      ends = at.2;
      begin = r.begin;
      links = r.links ++ Above above.0 above.1 ∷ [];
      holds = r.holds;
      way = record { root = r.way.root; is_root = r.way.is_root; path = paths.on trees r.way.root task.node node (r.begin ∷ r.links) (Above above.0 above.1) r.way.path above.2 above.3 };
      climbs = subst (Climbs standing (r.links ++ Above above.0 above.1 ∷ []) class) (sym at.3) (r.climbs (Above above.0 above.1 ∷ []) parent (top above.4));
    }

    pub turns_next : (turn : ℕ) (task : Task) (tasks tasks' : List Task) (claims claims' : List Claim) → slice_get tasks turn ≡ Some task → ClimbsAll standing list (IsAboveTask standing trees task) tasks tasks' claims claims' → Turns turn tasks claims → Turns (turn + 1) tasks' claims'
    turns_next turn task tasks tasks' claims claims' at all so_far =
        let own = so_far.rises task (Contains-slice_get tasks turn task at) in
        record {
          rises = λ other c. ⊎_elim (so_far.rises other) (λ new. let due = all.tasks_grew.are other new in next_rises task own due.0 due.1 due.2 other due.3) (Contains-append_cases tasks all.tasks_grew.more other (subst (λ ts. Contains ts other) all.tasks_grew.is c));
          led = λ claim c. ⊎_elim (so_far.led claim) (λ new. let due = all.claims_grew.are claim new in next_led task own due.0 due.1 due.2 claim due.3) (Contains-append_cases claims all.claims_grew.more claim (subst (λ cs. Contains cs claim) all.claims_grew.is c));
          first = λ root begin is_root is holds. grew_keeps _ tasks tasks' (root_task root class) all.tasks_grew (so_far.first root begin is_root is holds);
          taken = λ j other lt has node parent above.
              let in_tasks = slice_get_within tasks turn task at in
              let old = slice_get-front tasks all.tasks_grew.more j other (omega (arith, lt, in_tasks)) (subst (λ ts. slice_get ts j ≡ Some other) all.tasks_grew.is has) in
              ⊎_elim
              (λ earlier. still_climbed standing list _ _ node parent tasks tasks' claims claims' all.tasks_grew all.claims_grew (so_far.taken j other earlier old node parent above))
              (λ not_earlier. let this : j ≡ turn = omega (arith, lt, not_earlier) in
              let same : other ≡ task = same_Some other task (sym old ∙ ap (slice_get tasks) this ∙ at) in
              all.each node parent (subst (λ (t : Task). IsAboveTask standing trees t node parent) same above))
              (cases_lt j turn);
        }

    no_more : (tasks : List Task) (k i : ℕ) (task : Task) → slice_get tasks k ≡ None → k ≤ i → slice_get tasks i ≡ Some task → ⊥
    no_more [] k i task none le has = none-some task has
    no_more (y ∷ ys) zero i task none le has = none-some y (sym none)
    no_more (y ∷ ys) (suc k) zero task none le has = absurd (omega arith)
    no_more (y ∷ ys) (suc k) (suc i) task none le has = no_more ys k i task none (omega arith) has

    module _ (turn : ℕ) (tasks : List Task) (claims : List Claim) (none : slice_get tasks turn ≡ None) (so_far : Turns turn tasks claims) where
      all_taken : (task : Task) → Contains tasks task → (node parent : ℕ) → IsAboveTask standing trees task node parent → IsClimbed standing list node parent tasks claims
      all_taken task c =
          let at = place_from_Contains tasks task c in
          ⊎_elim (λ less. so_far.taken at.0 task less at.1) (λ past. absurd (no_more tasks turn at.0 task none past at.1)) (cases_lt at.0 turn)

      above_task : (task : Task) (node symbol place of parent : ℕ) (link : Link) → IsNext trees task.node node → slice_get trees.labels node ≡ Some link → link ≡ Above symbol place → Same standing of task.class → IsParent standing of symbol place parent → IsAboveTask standing trees task node parent
      above_task task node symbol place of parent link below has is d parents = (symbol, place, below, has ∙ ap Some is, (parents.0, parents.1, parents.2, parents.3, joined parents.4 d))

      -- what stands above a task was found
      found_above : (claim : Claim) (number : ℕ) → slice_get list.entries number ≡ Some (entry_of claim.trigger claim.start) → {next end : ℕ} {links : List Link} → Path trees next end links → slice_get list.ends number ≡ Some end → (task : Task) → Contains tasks task → IsNext trees task.node next → (of : ℕ) → Climbs standing links of claim.root → Same standing of task.class → Contains claims claim
      found_above claim number is (here {node = node} {label = link} has) ends task there below of climbs d =
          let step = climb_step climbs in
          ⊎_elim
          (λ p. (all_taken task there node claim.root (above_task task node step.symbol step.place of claim.root link below has step.is d p.1)).claims_found claim (number, is, ends, refl))
          (λ on. absurd (no_climb on.rest))
          step.cases
      found_above claim number is (down {node = node} {next = next} {end = end} {label = link} has further path) ends task there below of climbs d =
          let step = climb_step climbs in
          ⊎_elim
          (λ p. absurd (let some = paths.some trees next end [] (subst (Path trees next end) p.0 path) in omega arith))
          (λ on.
          let one = (all_taken task there node on.above (above_task task node step.symbol step.place of on.above link below has step.is d on.is_parent)).task_there in
          found_above claim number is path ends one.0 one.1 (subst (λ n. IsNext trees n next) (sym one.2.0) further) on.above on.rest one.2.1)
          step.cases

      found_led : (claim : Claim) → IsLed standing trees list class claim → Contains claims claim
      found_led claim led =
          let parts = paths.parts trees led.way.root led.end led.begin led.links led.way.path in
          ⊎_elim
          (λ none. absurd (no_climb (subst (λ ls. Climbs standing ls class claim.root) none led.climbs)))
          (λ goes. found_above claim led.number led.is goes.2 led.ends (root_task led.way.root class) (so_far.first led.way.root led.begin led.way.is_root parts.0 led.holds) goes.1 class led.climbs (same_term is_term))
          parts.1

      pub turns_all : FindsAll standing trees list class claims
      turns_all claim = (so_far.led claim, found_led claim)

-- the turns, where the list is lawful and the class is of a term
abbrev pub TurnsOf : List Done → Trees Link → EntryList → ℕ → ℕ → List Task → List Claim → Type 0
TurnsOf standing trees list class turn tasks claims = (lawful : IsLawful standing) (is_term : class < length (terms_of standing)) → Turns standing lawful trees list class is_term turn tasks claims
