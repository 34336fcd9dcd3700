-- Climbing, step by step.
use Rattle.std.proofs.Common.{◌≡◌, ◌<◌, ◌≤◌, ◌+◌, ⊎_elim, ℕ, zero, suc, Bool, true, false, cond, List, [], ◌∷◌, ◌++◌, length, get_or, slice_get, Some, None, Contains, refl, sym, ap, subst, ◌∙◌, append-nil, append_assoc, arith}
use Rattle.std.specs.List.{list_any}
use Rattle.std.proofs.lemmas.Bool.{cases_lt}
use Rattle.std.proofs.lemmas.Map.Views.{Contains-from_any}
use Rattle.std.proofs.lemmas.Option.{none-some, same_Some, slice_get_within, slice_get-get_or}
use Rattle.std.proofs.lemmas.List.Elements.{Contains-append_left, Contains-append_cases, Contains-push, Contains-push_cases}
use Rattle.indexmap.specs.IndexSet.{insert_key}
use Rattle.graph_terms.proofs.ListLaws.{place_from_Contains, Contains-slice_get}
use Rattle.graph_meaning.proofs.OneListLaws.{one_list}
use Rattle.graph_meaning.specs.declared.done.Done.{Done}
use Rattle.graph_meaning.specs.Same.{Same}
use Rattle.graph_meaning.specs.Questions.{AreAll, IsNth, IsParent}
use Rattle.graph_meaning.specs.declared.claim.Claim.{Claim}
use Rattle.match_trees.specs.declared.entry.Entry.{Entry}
use Rattle.match_paths.specs.declared.task.Task.{Task}
use Rattle.match_trees.specs.EntryList.{EntryList, entry_of}
use Rattle.match_paths.specs.Climbing.{GrewTo, PutsIn, IsClaimAt, FindsAt, IsTaskAt, IsClimbed, ClimbsAll, IsThis, IsParentAt}

module _ {X : Type 0} where
  pub grew_none : (P : X → Type 0) (xs : List X) → GrewTo P xs xs
  grew_none P xs = record { more = []; is = sym (append-nil xs); are = λ x c. absurd (omega (arith, c.1)) }

  pub grew_push : (P : X → Type 0) (old new : List X) (x : X) → P x → GrewTo P old new → GrewTo P old (new ++ x ∷ [])
  grew_push P old new x p grew = record { more = grew.more ++ x ∷ []; is = ap (λ xs. xs ++ x ∷ []) grew.is ∙ append_assoc old grew.more (x ∷ []); are = λ y c. ⊎_elim (grew.are y) (λ e. subst P e p) (Contains-push_cases grew.more x y c) }

  pub grew_both : (P : X → Type 0) (first second third : List X) → GrewTo P first second → GrewTo P second third → GrewTo P first third
  grew_both P first second third one two = record { more = one.more ++ two.more; is = two.is ∙ ap (λ xs. xs ++ two.more) one.is ∙ append_assoc first one.more two.more; are = λ y c. ⊎_elim (one.are y) (two.are y) (Contains-append_cases one.more two.more y c) }

  pub grew_as : (P Q : X → Type 0) (old new : List X) → ((x : X) → P x → Q x) → GrewTo P old new → GrewTo Q old new
  grew_as P Q old new f grew = record { more = grew.more; is = grew.is; are = λ x c. f x (grew.are x c) }

  pub grew_keeps : (P : X → Type 0) (old new : List X) (x : X) → GrewTo P old new → Contains old x → Contains new x
  grew_keeps P old new x grew c = subst (λ xs. Contains xs x) (sym grew.is) (Contains-append_left old grew.more x c)

-- what is put into a set is there, and nothing else came
pub put_in : {X : Type 0} (eq : X → X → Bool) → ((x y : X) → eq x y ≡ true → x ≡ y) → (old new : List X) (x : X) → new ≡ insert_key eq old x → PutsIn old new x
put_in eq exact old new x is = go (list_any (eq x) old) refl
  where
    go : (b : Bool) → list_any (eq x) old ≡ b → PutsIn old new x
    go true found =
        let same : new ≡ old = is ∙ ap (λ c. cond c old (old ++ x ∷ [])) found in
        record { grew = subst (GrewTo (λ other. other ≡ x) old) (sym same) (grew_none _ old); has = subst (λ ts. Contains ts x) (sym same) (Contains-from_any exact x old found) }
    go false found =
        let same : new ≡ old ++ x ∷ [] = is ∙ ap (λ c. cond c old (old ++ x ∷ [])) found in
        record { grew = subst (GrewTo (λ other. other ≡ x) old) (sym same) (grew_push _ old old x refl (grew_none _ old)); has = subst (λ ts. Contains ts x) (sym same) (Contains-push old x) }

pub nth_there : (P : ℕ → Type 0) (k x : ℕ) → IsNth P k (Some x) → P x
nth_there P k x nth = (nth.1.exact x).0 (Contains-slice_get nth.0 k x (sym nth.2))

-- whether there is a first number with a property
pub first_there : (P : ℕ → Type 0) (x : ℕ) → IsNth P 0 (Some x) → P x
first_there P x nth = (nth.1.exact x).0 (Contains-slice_get nth.0 0 x (sym nth.2))

pub first_missing : (P : ℕ → Type 0) (x : ℕ) → IsNth P 0 None → P x → ⊥
first_missing P x nth p =
    let at = place_from_Contains nth.0 x ((nth.1.exact x).1 p) in
    empty nth.0 (sym nth.2) at.0 at.1
  where
    empty : (xs : List ℕ) → slice_get xs 0 ≡ None → (i : ℕ) → slice_get xs i ≡ Some x → ⊥
    empty [] none i has = none-some x has
    empty (y ∷ ys) none i has = none-some y (sym none)

-- what was done for the first k numbers with a property
abbrev pub DoneTo : (ℕ → Type 0) → (ℕ → Type 0) → ℕ → Type 0
DoneTo P Q k = (numbers : List ℕ) → AreAll P numbers → (j x : ℕ) → j < k → slice_get numbers j ≡ Some x → Q x

module _ (P : ℕ → Type 0) where
  pub done_next : (Q : ℕ → Type 0) (k x : ℕ) → IsNth P k (Some x) → Q x → DoneTo P Q k → DoneTo P Q (k + 1)
  done_next Q k x nth q done numbers all j y lt at =
      ⊎_elim (λ less. done numbers all j y less at)
      (λ not_less. let is : j ≡ k = omega arith in subst Q (same_Some x y (nth.2 ∙ ap (λ xs. slice_get xs k) (one_list P nth.0 numbers nth.1 all) ∙ ap (slice_get numbers) (sym is) ∙ at)) q)
      (cases_lt j k)

  pub done_all : (Q : ℕ → Type 0) (k : ℕ) → IsNth P k None → DoneTo P Q k → (x : ℕ) → P x → Q x
  done_all Q k nth done x p =
      let at = place_from_Contains nth.0 x ((nth.1.exact x).1 p) in
      ⊎_elim (λ less. done nth.0 nth.1 at.0 x less at.1) (λ past. absurd (no_more nth.0 k at.0 (sym nth.2) past at.1)) (cases_lt at.0 k)
    where
      no_more : (xs : List ℕ) (k i : ℕ) → slice_get xs k ≡ None → k ≤ i → slice_get xs i ≡ Some x → ⊥
      no_more [] k i none le has = none-some x has
      no_more (y ∷ ys) zero i none le has = none-some y (sym none)
      no_more (y ∷ ys) (suc k) zero none le has = absurd (omega arith)
      no_more (y ∷ ys) (suc k) (suc i) none le has = no_more ys k i none (omega arith) has

  pub done_as : (Q R : ℕ → Type 0) (k : ℕ) → ((x : ℕ) → Q x → R x) → DoneTo P Q k → DoneTo P R k
  done_as Q R k f done numbers all j x lt at = f x (done numbers all j x lt at)

  pub done_none : (Q : ℕ → Type 0) → DoneTo P Q 0
  done_none Q numbers all j x lt at = absurd (omega arith)

-- the claims of the first of these entries were found
pub record FindsFirst (list : EntryList) (node root : ℕ) (numbers : List ℕ) (k : ℕ) (old new : List Claim) : Type 0 where
  pub grew : GrewTo (IsClaimAt list node root) old new
  pub done : (j : ℕ) → j < k → (claim : Claim) → slice_get list.entries (get_or numbers j 0) ≡ Some (entry_of claim.trigger claim.start) → claim.root ≡ root → Contains new claim

-- the claim of an entry
abbrev pub claim_of : Entry → ℕ → Claim
claim_of entry root = record { trigger = entry.trigger; start = entry.start; root = root }

-- none yet
pub finds_none : (list : EntryList) (node root : ℕ) (numbers : List ℕ) (old : List Claim) → FindsFirst list node root numbers 0 old old
finds_none list node root numbers old = record { grew = grew_none (IsClaimAt list node root) old; done = λ j lt claim is at_root. absurd (omega arith) }

module _ (list : EntryList) (node root : ℕ) (numbers : List ℕ) (all : AreAll (λ entry. slice_get list.ends entry ≡ Some node) numbers) where
  -- the number at a place is of an entry that ends at the node
  pub ends_there : (k : ℕ) → k < length numbers → slice_get list.ends (get_or numbers k 0) ≡ Some node
  ends_there k lt = (all.exact (get_or numbers k 0)).0 (Contains-slice_get numbers k (get_or numbers k 0) (slice_get-get_or numbers k 0 lt))

  pub finds_next : (k : ℕ) (old new new' : List Claim) (entry : Entry) → k < length numbers → slice_get list.entries (get_or numbers k 0) ≡ Some entry → PutsIn new new' (claim_of entry root) → FindsFirst list node root numbers k old new → FindsFirst list node root numbers (k + 1) old new'
  finds_next k old new new' entry lt is puts so_far = record {
    grew = grew_both (IsClaimAt list node root) old new new' so_far.grew (grew_as _ _ new new' (λ claim e. subst (IsClaimAt list node root) (sym e) (get_or numbers k 0, is, ends_there k lt, refl)) puts.grew);
    done = λ j less claim has at_root. ⊎_elim
        (λ earlier. grew_keeps _ new new' claim puts.grew (so_far.done j earlier claim has at_root))
        (λ not_earlier. let this : j ≡ k = omega arith in
        let same : entry ≡ entry_of claim.trigger claim.start = same_Some entry (entry_of claim.trigger claim.start) (sym is ∙ ap (λ i. slice_get list.entries (get_or numbers i 0)) (sym this) ∙ has) in
        let one : claim_of entry root ≡ claim = ap (λ (e : Entry). claim_of e root) same ∙ ap (λ r. record { trigger = claim.trigger; start = claim.start; root = r }) (sym at_root) in
        subst (Contains new') one puts.has)
        (cases_lt j k);
  }

  pub finds_all : (k : ℕ) (old new : List Claim) → length numbers ≤ k → FindsFirst list node root numbers k old new → FindsAt list node root old new
  finds_all k old new past so_far = record {
    grew = so_far.grew;
    all = λ claim is. let at = place_from_Contains numbers is.0 ((all.exact is.0).1 is.2) in
        let within = slice_get_within numbers at.0 is.0 at.1 in
        so_far.done at.0 (omega arith) claim (subst (λ n. slice_get list.entries n ≡ Some (entry_of claim.trigger claim.start)) (same_Some is.0 (get_or numbers at.0 0) (sym at.1 ∙ slice_get-get_or numbers at.0 0 within)) is.1) is.3;
  }

module _ (standing : List Done) (list : EntryList) where
  -- what was climbed stays so when the lists grow
  pub still_climbed : (P : Task → Type 0) (Q : Claim → Type 0) (node parent : ℕ) (tasks tasks' : List Task) (claims claims' : List Claim) → GrewTo P tasks tasks' → GrewTo Q claims claims' → IsClimbed standing list node parent tasks claims → IsClimbed standing list node parent tasks' claims'
  still_climbed P Q node parent tasks tasks' claims claims' more_tasks more_claims climbed = record {
    claims_found = λ claim is. grew_keeps Q claims claims' claim more_claims (climbed.claims_found claim is);
    task_there = (climbed.task_there.0, grew_keeps P tasks tasks' climbed.task_there.0 more_tasks climbed.task_there.1, climbed.task_there.2);
  }

  -- one parent at one node was climbed
  pub climbs_this : (node parent class : ℕ) (tasks tasks' : List Task) (claims claims' : List Claim) → FindsAt list node parent claims claims' → Same standing parent class → PutsIn tasks tasks' (record { node = node; class = class }) → ClimbsAll standing list (IsThis node parent) tasks tasks' claims claims'
  climbs_this node parent class tasks tasks' claims claims' finds same puts =
      let task : Task = record { node = node; class = class } in
      let IsDue : Task → Type 0 = λ t. (n : ℕ) × (p : ℕ) × IsThis node parent n p × IsTaskAt standing n p t in
      record {
        tasks_grew = grew_as (λ t. t ≡ task) IsDue tasks tasks' (λ t e. (node, parent, (refl, refl), subst (IsTaskAt standing node parent) (sym e) (refl, same))) puts.grew;
        claims_grew = grew_as (IsClaimAt list node parent) _ claims claims' (λ c is. (node, parent, (refl, refl), is)) finds.grew;
        each = λ n p is. record {
          claims_found = λ claim at. finds.all claim (is_this n p is claim at);
          task_there = (task, puts.has, (sym is.0, subst (λ x. Same standing x class) (sym is.1) same));
        };
      }
    where
      is_this : (n p : ℕ) → IsThis node parent n p → (claim : Claim) → IsClaimAt list n p claim → IsClaimAt list node parent claim
      is_this n p is claim at = (at.0, at.1, subst (λ m. slice_get list.ends at.0 ≡ Some m) is.0 at.2, at.3 ∙ is.1)

  -- the first k parents of a class were climbed
  pub record ClimbsFirst (P : ℕ → Type 0) (node k : ℕ) (tasks tasks' : List Task) (claims claims' : List Claim) : Type 0 where
    pub tasks_grew : GrewTo (λ task. (parent : ℕ) × P parent × IsTaskAt standing node parent task) tasks tasks'
    pub claims_grew : GrewTo (λ claim. (parent : ℕ) × P parent × IsClaimAt list node parent claim) claims claims'
    pub done : DoneTo P (λ parent. IsClimbed standing list node parent tasks' claims') k

  module _ (P : ℕ → Type 0) (node : ℕ) (tasks : List Task) (claims : List Claim) where
    pub climbs_none : ClimbsFirst P node 0 tasks tasks claims claims
    climbs_none = record { tasks_grew = grew_none _ tasks; claims_grew = grew_none _ claims; done = done_none P _ }

    pub climbs_next : (k parent : ℕ) (tasks' tasks'' : List Task) (claims' claims'' : List Claim) → IsNth P k (Some parent) → P parent → ClimbsAll standing list (IsThis node parent) tasks' tasks'' claims' claims'' → ClimbsFirst P node k tasks tasks' claims claims' → ClimbsFirst P node (k + 1) tasks tasks'' claims claims''
    climbs_next k parent tasks' tasks'' claims' claims'' nth p all so_far =
        let IsTask : Task → Type 0 = λ task. (above : ℕ) × P above × IsTaskAt standing node above task in
        let IsClaim : Claim → Type 0 = λ claim. (above : ℕ) × P above × IsClaimAt list node above claim in
        let more_tasks : GrewTo IsTask tasks' tasks'' = grew_as _ IsTask tasks' tasks'' (λ t h. (parent, p, (h.3.0 ∙ h.2.0, subst (λ x. Same standing x t.class) h.2.1 h.3.1))) all.tasks_grew in
        let more_claims : GrewTo IsClaim claims' claims'' = grew_as _ IsClaim claims' claims'' (λ c h. (parent, p, (h.3.0, h.3.1, subst (λ m. slice_get list.ends h.3.0 ≡ Some m) h.2.0 h.3.2, h.3.3 ∙ h.2.1))) all.claims_grew in
        record {
          tasks_grew = grew_both IsTask tasks tasks' tasks'' so_far.tasks_grew more_tasks;
          claims_grew = grew_both IsClaim claims claims' claims'' so_far.claims_grew more_claims;
          done = done_next P _ k parent nth (all.each node parent (refl, refl)) (done_as P _ _ k (λ x. still_climbed IsTask IsClaim node x tasks' tasks'' claims' claims'' more_tasks more_claims) so_far.done);
        }

  pub climbs_all : (class symbol place node k : ℕ) (tasks tasks' : List Task) (claims claims' : List Claim) → IsNth (IsParent standing class symbol place) k None → ClimbsFirst (IsParent standing class symbol place) node k tasks tasks' claims claims' → ClimbsAll standing list (IsParentAt standing class symbol place node) tasks tasks' claims claims'
  climbs_all class symbol place node k tasks tasks' claims claims' nth so_far = record {
    tasks_grew = grew_as _ _ tasks tasks' (λ t h. (node, h.0, (refl, h.1), h.2)) so_far.tasks_grew;
    claims_grew = grew_as _ _ claims claims' (λ c h. (node, h.0, (refl, h.1), h.2)) so_far.claims_grew;
    each = λ n parent is. subst (λ m. IsClimbed standing list m parent tasks' claims') (sym is.0) (done_all (IsParent standing class symbol place) _ k nth so_far.done parent is.1);
  }
