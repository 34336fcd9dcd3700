-- Unions that came one after another, and operations that make none.
use Rattle.std.proofs.Common.{◌≡◌, ◌⊎◌, inl, inr, ⊎_elim, ℕ, zero, suc, ◌+◌, true, false, List, [], ◌∷◌, ◌++◌}
use Rattle.std.proofs.Common.{length, take, map, slice_get, Some, Result, Ok, Err, All, refl, sym, ap}
use Rattle.std.proofs.Common.{subst, ◌∙◌, append-nil, append_assoc, arith}
use Rattle.std.specs.Prelude.{OnOk}
use Rattle.std.proofs.Math.Seq.{take-append-add}
use Rattle.std.proofs.lemmas.List.{take-append-le}
use Rattle.std.proofs.lemmas.List.Elements.{All-head, All-tail}
use Rattle.std.proofs.lemmas.List.Elements.{Contains-append_left, Contains-append_right, Contains-append_cases}
use Rattle.std.proofs.lemmas.Option.{none-some, slice_get_within}
use Rattle.graph_trigger.specs.declared.trigger.Trigger.{Trigger}
use Rattle.graph_terms.specs.declared.term_row.TermRow.{TermRow}
use Rattle.graph_meaning.specs.declared.done.Done.{Done}
use Rattle.graph_meaning.specs.declared.op.Op.{Op}
use Rattle.graph_meaning.specs.declared.op.Op.TheVariants.{Add, Merge, Differ, Live, Push, Pop}
use Rattle.graph_meaning.specs.declared.union.Union.{Union}
use Rattle.graph_meaning.proofs.LawfulLaws.{terms_of-push, merges_of-push, differs_of-push}
use Rattle.graph_meaning.specs.Same.{Same, Derives, same_term, turned as turned_same, joined as joined_same}
use Rattle.graph_meaning.specs.Standing.{terms_of, merges_of, differs_of, differs_added}
use Rattle.graph_meaning.specs.State.{GraphState, replay, state_after}
use Rattle.graph_meaning.specs.Unions.{Generated, was, listed, turned, joined, union_of, Leads, AreUnions, WasSame}
use Rattle.graph_meaning.specs.Unions.{ListsUnions}
use Rattle.formula_table.specs.declared.node.Node.{Node}
use Rattle.formula_table.specs.declared.node.Node.TheVariants.{Equal, Atom, And, Or, Forall}
use Rattle.formula_table.specs.Formulas.{Formulas}
use Rattle.formula_assert.specs.Held.{Held, refuting_of}
use Rattle.formula_assert.specs.Asserts.{Asserts}
use Rattle.formula_assert.specs.InLevel.{IsInLevel, GrowsGraph}
use Rattle.formula_assert.specs.News.{ListsMore}
use Rattle.formula_assert.specs.WorkList.{AssertsNext, stood, held_now}
use Rattle.formula_assert.proofs.AssertsLaws.{keeps_operations, asserts_terms}

-- the place of an element of two lists is one in the first, or one in the second behind it
union_cases : (one two : List Union) (i : ℕ) (u : Union) → slice_get (one ++ two) i ≡ Some u →
    (slice_get one i ≡ Some u) ⊎ ((k : ℕ) × (i ≡ length one + k) × (slice_get two k ≡ Some u))
union_cases [] two i u at = inr (i, omega arith, at)
union_cases (first ∷ one) two zero u at = inl at
union_cases (first ∷ one) two (suc i) u at =
    ⊎_elim inl (λ later. inr (later.0, omega (arith, later.1), later.2)) (union_cases one two i u at)

-- what some unions generate, more do
wider : (old : ℕ → ℕ → Type 0) (one two : List Union) (s t : ℕ) → Generated old one s t →
    Generated old (one ++ two) s t
wider old one two s t (was h) = was h
wider old one two s t (listed c) = listed (Contains-append_left one two (union_of s t) c)
wider old one two s t (turned g) = turned (wider old one two t s g)
wider old one two s t (joined {t = m} g h) = joined (wider old one two s m g) (wider old one two m t h)

-- unions, and then more
module _ (a b c : List Done) (one two : List Union) (same_terms : length (terms_of b) ≡ length (terms_of c))
    (ab : ListsUnions a b one) (bc : ListsUnions b c two) where
  abbrev n : ℕ
  n = length (terms_of c)

  first : AreUnions n (WasSame a n) (Same b) one
  first = subst (λ (m : ℕ). AreUnions m (WasSame a m) (Same b) one) same_terms ab

  -- what the later unions generate of the classes between, all generate of the first classes
  all_generate : (later : List Union) (s t : ℕ) → Generated (WasSame b n) later s t →
      Generated (WasSame a n) (one ++ later) s t
  all_generate later s t (was (inl same)) = wider (WasSame a n) one later s t (first.generated s t same)
  all_generate later s t (was (inr is)) = was (inr is)
  all_generate later s t (listed c) = listed (Contains-append_right one later (union_of s t) c)
  all_generate later s t (turned g) = turned (all_generate later t s g)
  all_generate later s t (joined {t = m} g h) = joined (all_generate later s m g) (all_generate later m t h)

  -- and no more
  later_generate : (later : List Union) (s t : ℕ) → Generated (WasSame a n) (one ++ later) s t →
      Generated (WasSame b n) later s t
  later_generate later s t (was h) = was (inl (first.held s t (was h)))
  later_generate later s t (listed c) = ⊎_elim (λ early. was (inl (first.held s t (listed early))))
      (λ late. listed late) (Contains-append_cases one later (union_of s t) c)
  later_generate later s t (turned g) = turned (later_generate later t s g)
  later_generate later s t (joined {t = m} g h) = joined (later_generate later s m g) (later_generate later m t h)

  -- the unions before one of the first, and before one of the later
  before_first : (k : ℕ) (u : Union) → slice_get one k ≡ Some u → take k one ≡ take k (one ++ two)
  before_first k u at = let within = slice_get_within one k u at in sym (take-append-le k one two (omega arith))

  before_later : (i k : ℕ) → i ≡ length one + k → one ++ take k two ≡ take i (one ++ two)
  before_later i k is = sym (ap (λ (m : ℕ). take m (one ++ two)) is ∙ take-append-add one two k)

  abbrev LedAt : Union → List Union → Type 0
  LedAt u earlier = Leads (Generated (WasSame a n) earlier) u

  abbrev ApartAt : Union → List Union → Type 0
  ApartAt u earlier = Generated (WasSame a n) earlier u.left u.right → ⊥

  later_led : (k : ℕ) (u : Union) → slice_get two k ≡ Some u → LedAt u (one ++ take k two)
  later_led k u at = record {
    left = λ other g. (bc.led k u at).left other (later_generate (take k two) u.left other g);
    right = λ other g. (bc.led k u at).right other (later_generate (take k two) u.right other g);
  }

  all_unions : ListsUnions a c (one ++ two)
  all_unions = record {
    generated = λ s t same. all_generate two s t (bc.generated s t same);
    held = λ s t g. bc.held s t (later_generate two s t g);
    below = λ i u at. ⊎_elim (λ early. first.below i u early) (λ late. bc.below late.0 u late.2)
        (union_cases one two i u at);
    led = λ i u at. ⊎_elim (λ early. subst (LedAt u) (before_first i u early) (first.led i u early))
        (λ late. subst (LedAt u) (before_later i late.0 late.1) (later_led late.0 u late.2))
        (union_cases one two i u at);
    apart = λ i u at. ⊎_elim (λ early. subst (ApartAt u) (before_first i u early) (first.apart i u early))
        (λ late. subst (ApartAt u) (before_later i late.0 late.1)
        (λ g. bc.apart late.0 u late.2 (later_generate (take late.0 two) u.left u.right g)))
        (union_cases one two i u at);
  }

-- further unions, and then more of them
pub lists_both : (a b c : List Done) (x y z : List Union) → ListsMore a b x y → ListsMore b c y z →
    length (terms_of b) ≡ length (terms_of c) → ListsMore a c x z
lists_both a b c x y z one two same_terms = record {
  more = one.more ++ two.more;
  put = two.put ∙ ap (λ (list : List Union). list ++ two.more) one.put ∙ append_assoc x one.more two.more;
  lists = all_unions a b c one.more two.more same_terms one.lists two.lists;
}

-- where the same terms and equations stand, no union makes the classes
module _ (a b : List Done) (terms : terms_of b ≡ terms_of a) (merges : merges_of b ≡ merges_of a) where
  same_again : (s t : ℕ) → Same a s t → Same b s t
  same_again s t h = subst (λ (rows : List TermRow). Derives rows (merges_of b) s t) (sym terms)
      (subst (λ (pairs : List (ℕ × ℕ)). Derives (terms_of a) pairs s t) (sym merges) h)

  same_before : (s t : ℕ) → Same b s t → Same a s t
  same_before s t h = subst (λ (rows : List TermRow). Derives rows (merges_of a) s t) terms
      (subst (λ (pairs : List (ℕ × ℕ)). Derives (terms_of b) pairs s t) merges h)

  no_more_same : (s t : ℕ) → Generated (WasSame a (length (terms_of b))) [] s t → Same b s t
  no_more_same s t (was (inl same)) = same_again s t same
  no_more_same s t (was (inr is)) = subst (Same b s) is.0 (same_term is.1)
  no_more_same s t (listed c) = absurd (omega (arith, c.1))
  no_more_same s t (turned g) = turned_same (no_more_same t s g)
  no_more_same s t (joined {t = m} g h) = joined_same (no_more_same s m g) (no_more_same m t h)

  -- the list of unions is as it was
  pub lists_none : (x y : List Union) → y ≡ x → ListsMore a b x y
  lists_none x y is = record {
    more = [];
    put = is ∙ sym (append-nil x);
    lists = record {
      generated = λ s t h. was (inl (same_before s t h));
      held = no_more_same;
      below = λ k u at. absurd (none-some u at);
      led = λ k u at. absurd (none-some u at);
      apart = λ k u at. absurd (none-some u at);
    };
  }

-- nothing was done
pub lists_same : (a : List Done) (x : List Union) → ListsMore a a x x
lists_same a x = lists_none a a refl refl x x refl

-- terms were kept apart
pub lists_differ : (graph : GraphState) (left right : ℕ) (x : List Union) →
    ListsMore graph.standing (state_after graph (Differ left right)).standing x x
lists_differ graph left right x =
    lists_none graph.standing (state_after graph (Differ left right)).standing
    (terms_of-push graph.standing graph.done (Differ left right) ∙ append-nil (terms_of graph.standing))
    (merges_of-push graph.standing graph.done (Differ left right) ∙ append-nil (merges_of graph.standing)) x x refl

-- triggers became live
live_merges : (graph : GraphState) (triggers : List Trigger) →
    (terms_of (replay graph (map Live triggers)).standing ≡ terms_of graph.standing)
    × (merges_of (replay graph (map Live triggers)).standing ≡ merges_of graph.standing)
live_merges graph [] = (refl, refl)
live_merges graph (trigger ∷ triggers) =
    let rest = live_merges (state_after graph (Live trigger)) triggers in (
      rest.0 ∙ terms_of-push graph.standing graph.done (Live trigger) ∙ append-nil (terms_of graph.standing),
      rest.1 ∙ merges_of-push graph.standing graph.done (Live trigger) ∙ append-nil (merges_of graph.standing),
    )

pub lists_live : (graph : GraphState) (triggers : List Trigger) (x : List Union) →
    ListsMore graph.standing (replay graph (map Live triggers)).standing x x
lists_live graph triggers x =
    let kept = live_merges graph triggers in
    lists_none graph.standing (replay graph (map Live triggers)).standing kept.0 kept.1 x x refl

-- the answer of what only makes triggers live, or keeps terms apart
pub live_news : {U E : Type 0} (before after : GraphState) (triggers : List Trigger) (x : List Union)
    (result : Result U E) → OnOk result (after ≡ replay before (map Live triggers)) →
    OnOk result (ListsMore before.standing after.standing x x)
live_news before after triggers x (Ok u) ok =
    subst (λ (g : GraphState). ListsMore before.standing g.standing x x) (sym ok) (lists_live before triggers x)
live_news before after triggers x (Err e) ok = tt

pub differ_news : {U E : Type 0} (before after : GraphState) (left right : ℕ) (x : List Union)
    (result : Result U E) → OnOk result (after ≡ state_after before (Differ left right)) →
    OnOk result (ListsMore before.standing after.standing x x)
differ_news before after left right x (Ok u) ok =
    subst (λ (g : GraphState). ListsMore before.standing g.standing x x) (sym ok) (lists_differ before left right x)
differ_news before after left right x (Err e) ok = tt

-- a step of asserting adds no terms
pub next_terms : (formulas : Formulas) (n : ℕ) (before after : Held) (work rest : List ℕ) →
    AssertsNext formulas n before work after rest →
    terms_of after.graph.standing ≡ terms_of before.graph.standing
next_terms formulas n before after work rest (stood is same unchanged) =
    ap (λ (now : Held). terms_of now.graph.standing) same
next_terms formulas n before after work rest (held_now {node} not at now put) =
    ap (λ (now : Held). terms_of now.graph.standing) now ∙ (keeps_operations formulas before.graph node).terms

-- the disequations that stood stand, where operations came in a level
one_differs : (graph : GraphState) (op : Op) → IsInLevel op →
    differs_of (state_after graph op).standing ≡ differs_of graph.standing ++ differs_added op
one_differs graph (Add symbol args) inside = differs_of-push graph.standing graph.done (Add symbol args)
one_differs graph (Merge left right) inside = differs_of-push graph.standing graph.done (Merge left right)
one_differs graph (Differ left right) inside = differs_of-push graph.standing graph.done (Differ left right)
one_differs graph (Live trigger) inside = differs_of-push graph.standing graph.done (Live trigger)
one_differs graph Push inside = absurd inside
one_differs graph Pop inside = absurd inside

differs_by : (before : GraphState) (ops : List Op) → All IsInLevel ops → (more : List (ℕ × ℕ)) ×
    (differs_of (replay before ops).standing ≡ differs_of before.standing ++ more)
differs_by before [] each = ([], sym (append-nil (differs_of before.standing)))
differs_by before (op ∷ ops) each =
    let rest = differs_by (state_after before op) ops (All-tail IsInLevel op ops each) in (
      differs_added op ++ rest.0,
      rest.1
          ∙ ap (λ (pairs : List (ℕ × ℕ)). pairs ++ rest.0)
          (one_differs before op (All-head IsInLevel op ops each))
          ∙ append_assoc (differs_of before.standing) (differs_added op) rest.0,
    )

pub differs_grow : {U E : Type 0} (before after : GraphState) (result : Result U E) → GrowsGraph before after →
    OnOk result ((more : List (ℕ × ℕ)) × (differs_of after.standing ≡ differs_of before.standing ++ more))
differs_grow before after (Ok u) grows =
    let by = differs_by before grows.operations grows.in_level in
    (by.0, ap (λ (g : GraphState). differs_of g.standing) grows.after_is ∙ by.1)
differs_grow before after (Err e) grows = tt

-- to assert a node adds no terms, and neither does what refutes one
pub asserted_terms : {U E : Type 0} (formulas : Formulas) (n : ℕ) (before after : Held) (result : Result U E) →
    OnOk result (Asserts formulas n before after) →
    OnOk result (terms_of after.graph.standing ≡ terms_of before.graph.standing)
asserted_terms formulas n before after (Ok u) ok = (asserts_terms formulas ok).terms
asserted_terms formulas n before after (Err e) ok = tt

refuting_terms : (graph : GraphState) (node : Node) →
    terms_of (replay graph (refuting_of node)).standing ≡ terms_of graph.standing
refuting_terms graph (Equal true left right) =
    terms_of-push graph.standing graph.done (Differ left right) ∙ append-nil (terms_of graph.standing)
refuting_terms graph (Equal false left right) =
    terms_of-push graph.standing graph.done (Merge left right) ∙ append-nil (terms_of graph.standing)
refuting_terms graph (Atom true term) =
    terms_of-push graph.standing graph.done (Merge term 1) ∙ append-nil (terms_of graph.standing)
refuting_terms graph (Atom false term) =
    terms_of-push graph.standing graph.done (Merge term 0) ∙ append-nil (terms_of graph.standing)
refuting_terms graph (And parts) = refl
refuting_terms graph (Or parts) = refl
refuting_terms graph (Forall forall) = refl

pub refuted_terms : {U E : Type 0} (before after : GraphState) (node : Node) (result : Result U E) →
    OnOk result (after ≡ replay before (refuting_of node)) →
    OnOk result (terms_of after.standing ≡ terms_of before.standing)
refuted_terms before after node (Ok u) ok =
    ap (λ (g : GraphState). terms_of g.standing) ok ∙ refuting_terms before node
refuted_terms before after node (Err e) ok = tt
