-- A list of nodes that is worked off from its end asserts them.
use Rattle.std.proofs.Common.{◌≡◌, ℕ, zero, suc, ◌+◌, ◌-◌, ◌<◌, ◌≤◌, Bool, true, false, cond, ◌||◌, nat_eq, List, [], ◌∷◌, ◌++◌, length, reverse, slice_get, Some, All, Contains, refl, sym, ap, subst, ◌∙◌, arith}
use Rattle.std.specs.List.{list_any}
use Rattle.std.proofs.lemmas.List.{reverse-append, reverse-reverse, length-append, length-reverse, get_or-reverse, get_or_append_left}
use Rattle.std.proofs.lemmas.List.Elements.{All-nil, All-cons, All-append, All-weaker}
use Rattle.std.proofs.lemmas.Bool.Decides.{nat_tests}
use Rattle.std.proofs.lemmas.Cmp.{nat_eq_equiv}
use Rattle.std.proofs.lemmas.List.Folds.{list_any-append}
use Rattle.std.proofs.lemmas.Map.Views.{Contains-from_any, list_any-from_Contains}
use Rattle.std.proofs.lemmas.Option.{same_Some, none-some, slice_get_within}
use Rattle.indexmap.specs.IndexSet.{insert_key}
use Rattle.formula_table.specs.declared.node.Node.{Node}
use Rattle.formula_table.specs.declared.node.Node.TheVariants.{Equal, Atom, And, Or, Forall}
use Rattle.formula_table.specs.Formulas.{Formulas, IsFormulaTable}
use Rattle.formula_assert.specs.Held.{Held, conjuncts_of}
use Rattle.formula_assert.specs.Asserts.{Asserts, AssertsAll, stands, holds, none, more}
use Rattle.formula_assert.specs.InLevel.{HoldsMore}
use Rattle.formula_assert.specs.WorkList.{AssertsNext, stood, held_now}
use Rattle.formula_assert.proofs.Growth.{holds_same, holds_both}

-- what holds of a list holds of it from the back
All-reverse : (P : ℕ → Type 0) (xs : List ℕ) → All P xs → All P (reverse xs)
All-reverse P xs all k d less =
    let within : k < length xs = omega (arith, less, length-reverse xs) in
    subst P (sym (get_or-reverse xs k d within)) (all (length xs - 1 - k) d (omega arith))

module _ (formulas : Formulas) where
  -- to assert two lists is to assert the first and then the second
  all_split : (xs ys : List ℕ) {before after : Held} → AssertsAll formulas (xs ++ ys) before after → (between : Held) × AssertsAll formulas xs before between × AssertsAll formulas ys between after
  all_split [] ys {before} all = (before, none, all)
  all_split (x ∷ xs) ys (more first rest) = let later = all_split xs ys rest in (later.0, more first later.1, later.2)

  -- what is asserted of one node is asserted of it alone
  only : {n : ℕ} {before after : Held} → AssertsAll formulas (n ∷ []) before after → Asserts formulas n before after
  only (more first none) = first

  -- the list after a step gives what the list before it gives
  next_asserts : (n : ℕ) (before after later : Held) (work rest : List ℕ) → AssertsNext formulas n before work after rest → AssertsAll formulas (reverse rest) after later → AssertsAll formulas (n ∷ reverse work) before later
  next_asserts n before after later work rest (stood is same unchanged) all =
      more (stands is) (subst (λ (b : Held). AssertsAll formulas (reverse work) b later) same (subst (λ (r : List ℕ). AssertsAll formulas (reverse r) after later) unchanged all))
  next_asserts n before after later work rest (held_now {node} not at now put) all =
      let listed : reverse rest ≡ conjuncts_of node ++ reverse work = ap reverse put ∙ reverse-append work (reverse (conjuncts_of node)) ∙ ap (λ (r : List ℕ). r ++ reverse work) (reverse-reverse (conjuncts_of node)) in
      let parts = all_split (conjuncts_of node) (reverse work) (subst (λ (b : Held). AssertsAll formulas (conjuncts_of node ++ reverse work) b later) now (subst (λ (r : List ℕ). AssertsAll formulas r after later) listed all)) in
      more (holds not at parts.1) parts.2

  -- the conjuncts of a node stand
  conjuncts_stand : IsFormulaTable formulas → (n : ℕ) (node : Node) → slice_get formulas.nodes n ≡ Some node → All (λ part. part < length formulas.nodes) (conjuncts_of node)
  conjuncts_stand is n (Equal positive left right) at = All-nil (λ part. part < length formulas.nodes)
  conjuncts_stand is n (Atom positive term) at = All-nil (λ part. part < length formulas.nodes)
  conjuncts_stand is n (And parts) at =
      let within = slice_get_within formulas.nodes n (And parts) at in
      All-weaker (λ part. part < n) (λ part. part < length formulas.nodes) (λ part less. omega arith) parts (is.earlier n (And parts) at)
  conjuncts_stand is n (Or parts) at = All-nil (λ part. part < length formulas.nodes)
  conjuncts_stand is n (Forall forall) at = All-nil (λ part. part < length formulas.nodes)

  -- what is left on the list stands, and asserted in order gives what to assert the root gives
  pub record UnderWay (root : ℕ) (before now : Held) (work : List ℕ) : Type 0 where
    pub below : All (λ n. n < length formulas.nodes) work
    pub ahead : (later : Held) → AssertsAll formulas (reverse work) now later → Asserts formulas root before later
    pub more_held : HoldsMore before now

  pub way_begins : (root : ℕ) (before : Held) (work : List ℕ) → root < length formulas.nodes → work ≡ [] ++ root ∷ [] → UnderWay root before before work
  way_begins root before work within is = record {
    below = subst (All (λ n. n < length formulas.nodes)) (sym is) (All-cons (λ n. n < length formulas.nodes) root [] within (All-nil (λ n. n < length formulas.nodes)));
    ahead = λ later all. only (subst (λ (list : List ℕ). AssertsAll formulas (reverse list) before later) is all);
    more_held = holds_same before;
  }

  module _ (root n : ℕ) (before now : Held) (all work : List ℕ) (is : all ≡ work ++ n ∷ []) (way : UnderWay root before now all) where
    popped_all : All (λ k. k < length formulas.nodes) (work ++ n ∷ [])
    popped_all = subst (All (λ k. k < length formulas.nodes)) is way.below

    pub way_goes_on : IsFormulaTable formulas → (after : Held) (rest : List ℕ) → AssertsNext formulas n now work after rest → HoldsMore now after → UnderWay root before after rest
    way_goes_on table after rest step grew = record {
      below = by step;
      ahead = λ later left. way.ahead later (subst (λ (list : List ℕ). AssertsAll formulas list now later) (sym listed) (next_asserts n now after later work rest step left));
      more_held = holds_both before now after way.more_held grew;
    }
      where
        listed : reverse all ≡ n ∷ reverse work
        listed = ap reverse is ∙ reverse-append work (n ∷ [])

        front : All (λ k. k < length formulas.nodes) work
        front = λ k d less. subst (λ (m : ℕ). m < length formulas.nodes) (get_or_append_left work (n ∷ []) d k less) (popped_all k d (omega (arith, less, length-append work (n ∷ []))))

        by : AssertsNext formulas n now work after rest → All (λ k. k < length formulas.nodes) rest
        by (stood has same unchanged) = subst (All (λ k. k < length formulas.nodes)) (sym unchanged) front
        by (held_now {node} not at now_is put) = subst (All (λ k. k < length formulas.nodes)) (sym put) (All-append (λ k. k < length formulas.nodes) work (reverse (conjuncts_of node)) front (All-reverse (λ k. k < length formulas.nodes) (conjuncts_of node) (conjuncts_stand table n node at)))

  pub way_ends : (root : ℕ) (before now : Held) (work : List ℕ) → work ≡ [] → UnderWay root before now work → Asserts formulas root before now
  way_ends root before now work empty way = way.ahead now (subst (λ (list : List ℕ). AssertsAll formulas (reverse list) now now) (sym empty) none)

-- a node's share of the work: none where it is asserted
abbrev pub share : Bool → Node → ℕ
share asserted node = cond asserted 0 (length (conjuncts_of node) + 1)

-- the work that nodes which are not asserted can still make
abbrev pub owed : List ℕ → ℕ → List Node → ℕ
owed asserted i [] = 0
owed asserted i (node ∷ nodes) = share (list_any (nat_eq i) asserted) node + owed asserted (i + 1) nodes

share_less : (a b : Bool) (node : Node) → (a ≡ true → b ≡ true) → share b node ≤ share a node
share_less true true node up = omega arith
share_less true false node up = absurd (let off = up refl in cc)
share_less false true node up = omega arith
share_less false false node up = omega arith

or_right : (a b : Bool) → b ≡ true → (a || b) ≡ true
or_right true b is = refl
or_right false b is = is

or_left : (a b : Bool) → a ≡ true → (a || b) ≡ true
or_left true b is = refl
or_left false b is = absurd (cc)

-- asserting makes no work
owed_less : (asserted : List ℕ) (n i : ℕ) (nodes : List Node) → owed (asserted ++ n ∷ []) i nodes ≤ owed asserted i nodes
owed_less asserted n i [] = omega arith
owed_less asserted n i (node ∷ nodes) =
    let first = share_less (list_any (nat_eq i) asserted) (list_any (nat_eq i) (asserted ++ n ∷ [])) node (λ is. list_any-append (nat_eq i) asserted (n ∷ []) ∙ or_left (list_any (nat_eq i) asserted) (list_any (nat_eq i) (n ∷ [])) is) in
    let rest = owed_less asserted n (i + 1) nodes in
    omega (arith, first, rest)

-- and takes a node's share off
owed_taken : (asserted : List ℕ) (n i k : ℕ) (nodes : List Node) (node : Node) → i + k ≡ n → slice_get nodes k ≡ Some node → list_any (nat_eq n) asserted ≡ false → owed (asserted ++ n ∷ []) i nodes + (length (conjuncts_of node) + 1) ≤ owed asserted i nodes
owed_taken asserted n i k [] node at is new = absurd (none-some node is)
owed_taken asserted n i zero (first ∷ nodes) node at is new =
    let place : n ≡ i = omega arith in
    let same : first ≡ node = same_Some first node is in
    let off : list_any (nat_eq i) asserted ≡ false = ap (λ (k : ℕ). list_any (nat_eq k) asserted) (sym place) ∙ new in
    let on : list_any (nat_eq i) (asserted ++ n ∷ []) ≡ true = list_any-append (nat_eq i) asserted (n ∷ []) ∙ or_right (list_any (nat_eq i) asserted) (list_any (nat_eq i) (n ∷ [])) (ap (λ (k : ℕ). nat_eq i k || false) place ∙ ap (λ (b : Bool). b || false) (nat_eq_equiv.refl i)) in
    let before : share (list_any (nat_eq i) asserted) first ≡ length (conjuncts_of first) + 1 = ap (λ (b : Bool). share b first) off in
    let after : share (list_any (nat_eq i) (asserted ++ n ∷ [])) first ≡ 0 = ap (λ (b : Bool). share b first) on in
    let many : length (conjuncts_of first) ≡ length (conjuncts_of node) = ap (λ (x : Node). length (conjuncts_of x)) same in
    let rest = owed_less asserted n (i + 1) nodes in
    omega (arith, before, after, many, rest)
owed_taken asserted n i (suc k) (first ∷ nodes) node at is new =
    let head = share_less (list_any (nat_eq i) asserted) (list_any (nat_eq i) (asserted ++ n ∷ [])) first (λ is. list_any-append (nat_eq i) asserted (n ∷ []) ∙ or_left (list_any (nat_eq i) asserted) (list_any (nat_eq i) (n ∷ [])) is) in
    let rest = owed_taken asserted n (i + 1) k nodes node (omega arith) is new in
    omega (arith, head, rest)

same_number : (a b : ℕ) → nat_eq a b ≡ true → a ≡ b
same_number a b same = grind (arith, nat_tests)

-- a node is among some exactly where a test finds it
pub found_Contains : (n : ℕ) (ns : List ℕ) → list_any (nat_eq n) ns ≡ true → Contains ns n
found_Contains n ns = Contains-from_any same_number n ns

pub Contains_found : (n : ℕ) (ns : List ℕ) → Contains ns n → list_any (nat_eq n) ns ≡ true
Contains_found n ns = list_any-from_Contains nat_eq_equiv n ns

pub absent_false : (n : ℕ) (ns : List ℕ) → (Contains ns n → ⊥) → list_any (nat_eq n) ns ≡ false
absent_false n ns not = by (list_any (nat_eq n) ns) refl
  where
    by : (b : Bool) → list_any (nat_eq n) ns ≡ b → list_any (nat_eq n) ns ≡ false
    by true is = absurd (not (found_Contains n ns is))
    by false is = is

-- a step makes the work less
pub work_less : (formulas : Formulas) (n : ℕ) (before after : Held) (work rest : List ℕ) → AssertsNext formulas n before work after rest → owed after.asserted 0 formulas.nodes + length rest < owed before.asserted 0 formulas.nodes + (length work + 1)
work_less formulas n before after work rest (stood is same unchanged) =
    let left : owed after.asserted 0 formulas.nodes ≡ owed before.asserted 0 formulas.nodes = ap (λ (h : Held). owed h.asserted 0 formulas.nodes) same in
    let len = ap length unchanged in
    omega (arith, left, len)
work_less formulas n before after work rest (held_now {node} not at now put) =
    let left : owed after.asserted 0 formulas.nodes ≡ owed (before.asserted ++ n ∷ []) 0 formulas.nodes = ap (λ (h : Held). owed h.asserted 0 formulas.nodes) now in
    let taken = owed_taken before.asserted n 0 n formulas.nodes node (omega arith) at (absent_false n before.asserted not) in
    let len : length rest ≡ length work + length (conjuncts_of node) = ap length put ∙ length-append work (reverse (conjuncts_of node)) ∙ ap (λ (k : ℕ). length work + k) (length-reverse (conjuncts_of node)) in
    omega (arith, left, taken, len)

-- a number that was put where it was absent stands last
pub inserted_last : (after old now : List ℕ) (n : ℕ) → after ≡ insert_key nat_eq old n → old ≡ now → (Contains now n → ⊥) → after ≡ now ++ n ∷ []
inserted_last after old now n is same absent =
    is
    ∙ ap (λ (list : List ℕ). insert_key nat_eq list n) same
    ∙ ap (λ (b : Bool). cond b now (now ++ n ∷ [])) (absent_false n now absent)
