-- What calls of a `NodeTable` do.
use Rattle.std.proofs.Common.{◌≡◌, ℕ, zero, suc, ◌+◌, ◌-◌, ◌<◌, ◌≤◌, ◌^◌, ◌⊎◌, inl, inr, ⊎_elim, List, [], ◌∷◌, ◌++◌, length, map, take, get_or, slice_get, All, IfSome, Option, Some, None, AllPairs, refl, sym, ap, ap₂, subst, ◌∙◌, arith, length-append}
use Rattle.std.proofs.lemmas.Option.{none-some, same_Some, slice_get_within}
use Rattle.std.proofs.lemmas.List.{take_all, take-take, take-append-le, map-append, take-map, length-map, length-take-le, get_or_default}
use Rattle.std.proofs.lemmas.List.Elements.{All-from_get_or, Contains-get_or}
use Rattle.graph_terms.proofs.ListLaws.{slice_get-push, push_cases, slice_get-take, element_at}
use Rattle.graph_meaning.specs.Questions.{AreAll}
use Rattle.match_trees.specs.Trees.{Trees, Path, here, down, Way, AreTrees, trees_front, with_node}
use Rattle.match_trees.specs.Growth.{Extends, Puts, Leads}
use Rattle.match_trees.specs.NodesInside.{above_of}
use Rattle.match_trees.proofs.IndexLemmas.{all_as}
use Rattle.match_trees.proofs.WayLemmas.{path_whole, way_whole, path_on, joined_more}

-- different keys are of different places
above_one : (k l : ℕ) → above_of k ≡ above_of l → k ≡ l
above_one zero zero e = refl
above_one zero (suc l) e = absurd (none-some l e)
above_one (suc k) zero e = absurd (none-some k (sym e))
above_one (suc k) (suc l) e = ap suc (same_Some k l e)

pub at_place : (keys : List ℕ) (n k : ℕ) → slice_get keys n ≡ Some k → slice_get (map above_of keys) n ≡ Some (above_of k)
at_place [] n k h = absurd (none-some k h)
at_place (x ∷ xs) zero k h = ap (λ y. Some (above_of y)) (same_Some x k h)
at_place (x ∷ xs) (suc n) k h = at_place xs n k h

from_place : (keys : List ℕ) (n k : ℕ) → slice_get (map above_of keys) n ≡ Some (above_of k) → slice_get keys n ≡ Some k
from_place [] n k h = absurd (none-some (above_of k) h)
from_place (x ∷ xs) zero k h = ap Some (above_one x k (same_Some (above_of x) (above_of k) h))
from_place (x ∷ xs) (suc n) k h = from_place xs n k h

pub key_next : (node : ℕ) → above_of (node + 1) ≡ Some node
key_next node = let e : node + 1 ≡ suc node = omega arith in ap above_of e

pub key_before : (key : ℕ) → 0 < key → above_of key ≡ Some (key - 1)
key_before key some = let e : key ≡ suc (key - 1) = omega arith in ap above_of e

-- the nodes at a place are those under its key
pub all_at : (keys : List ℕ) (key : ℕ) (at : Option ℕ) (list : List ℕ) → above_of key ≡ at → AreAll (λ n. slice_get keys n ≡ Some key) list → AreAll (λ n. slice_get (map above_of keys) n ≡ Some at) list
all_at keys key at list is all = subst (λ a. AreAll (λ n. slice_get (map above_of keys) n ≡ Some a) list) is (all_as list all (λ n h. at_place keys n key h) (λ n h. from_place keys n key h))

-- a place in a list in order is at most the number there
pub rises_to : (list : List ℕ) → AllPairs (λ a b. a < b) list → (k : ℕ) → k < length list → k ≤ get_or list k 0
rises_to list rising zero below = omega arith
rises_to list rising (suc k) below =
    let before = rises_to list rising k (omega arith) in
    let less = rising k (suc k) 0 (omega arith) below in
    omega arith

-- what is in a list stands at a place
pub not_passed : (P : ℕ → Type 0) (list : List ℕ) (x n : ℕ) → AreAll P list → P x → length list ≤ n → ((k : ℕ) → k < n → get_or list k 0 ≡ x → ⊥) → ⊥
not_passed P list x n all has long none = let there = (all.exact x).1 has in none there.0 (omega (arith, there.1, long)) (get_or_default list there.0 0 x there.1 ∙ there.2)

module _ {L : Type 0} where
  -- what a front of trees is
  pub front_sound : (n : ℕ) (trees : Trees L) → AreTrees trees → n ≤ length trees.labels → AreTrees (trees_front n trees)
  front_sound n trees are within = record {
    each_node = length-take-le n trees.above (omega (arith, are.each_node)) ∙ sym (length-take-le n trees.labels within);
    later = λ node next h. are.later node next (slice_get-take n trees.above next (Some node) h);
    joined = λ l m above label la ma li mi. are.joined l m above label (slice_get-take n trees.above l above la) (slice_get-take n trees.above m above ma) (slice_get-take n trees.labels l label li) (slice_get-take n trees.labels m label mi);
  }

  pub front_all : (n : ℕ) (trees : Trees L) → AreTrees trees → n ≡ length trees.labels → trees_front n trees ≡ trees
  front_all n trees are is = ap₂ (λ (a : List (Option ℕ)) (i : List L). record { above = a; labels = i }) (take_all n trees.above (omega (arith, are.each_node))) (take_all n trees.labels (omega arith))

  pub front_front : (m n : ℕ) (trees : Trees L) → m ≤ n → trees_front m (trees_front n trees) ≡ trees_front m trees
  front_front m n trees le = ap₂ (λ (a : List (Option ℕ)) (i : List L). record { above = a; labels = i }) (take-take m n trees.above le) (take-take m n trees.labels le)

  pub with_sound : (trees : Trees L) (at : Option ℕ) (label : L) → AreTrees trees → IfSome at (λ node. node < length trees.labels) → ((n : ℕ) → slice_get trees.above n ≡ Some at → slice_get trees.labels n ≡ Some label → ⊥) → AreTrees (with_node trees at label)
  with_sound trees at label are below none = record {
    each_node = length-append trees.above (at ∷ []) ∙ ap (λ n. n + 1) are.each_node ∙ sym (length-append trees.labels (label ∷ []));
    later = λ node next h. ⊎_elim (λ had. are.later node next had) (λ p. later_new node next p) (push_cases trees.above at next (Some node) h);
    joined = joined_more trees at label are.each_node are.joined none;
  }
    where
      later_new : (node next : ℕ) → (next ≡ length trees.above) × (Some node ≡ at) → node < next
      later_new node next p = let lt = subst (λ (a : Option ℕ). IfSome a (λ m. m < length trees.labels)) (sym p.1) below in omega (arith, lt, p.0, are.each_node)

  pub extends_same : (trees : Trees L) → AreTrees trees → Extends trees trees
  extends_same trees are = record { within = omega arith; front = front_all (length trees.labels) trees are refl }

  pub extends_with : (trees : Trees L) (at : Option ℕ) (label : L) → AreTrees trees → Extends trees (with_node trees at label)
  extends_with trees at label are = record {
    within = let len = length-append trees.labels (label ∷ []) in omega arith;
    front = ap₂ (λ (a : List (Option ℕ)) (i : List L). record { above = a; labels = i })
        (take-append-le (length trees.labels) trees.above (at ∷ []) (omega (arith, are.each_node)) ∙ take_all (length trees.labels) trees.above (omega (arith, are.each_node)))
        (take-append-le (length trees.labels) trees.labels (label ∷ []) (omega arith) ∙ take_all (length trees.labels) trees.labels (omega arith));
  }

  pub extends_on : (old mid new : Trees L) → Extends old mid → Extends mid new → Extends old new
  extends_on old mid new first second = record {
    within = omega (arith, first.within, second.within);
    front = sym (front_front (length old.labels) (length mid.labels) new first.within) ∙ ap (trees_front (length old.labels)) second.front ∙ first.front;
  }

  pub path_extends : {old new : Trees L} → Extends old new → {node end : ℕ} {code : List L} → Path old node end code → Path new node end code
  path_extends {old} {new} extends {node} {end} {code} path = path_whole (length old.labels) (subst (λ t. Path t node end code) (sym extends.front) path)

  pub way_extends : {old new : Trees L} → Extends old new → {end : ℕ} {code : List L} → Way old end code → Way new end code
  way_extends {old} {new} extends {end} {code} way = way_whole (length old.labels) (subst (λ t. Way t end code) (sym extends.front) way)

  -- a node that stood
  pub puts_old : (trees : Trees L) (at : Option ℕ) (label : L) (node : ℕ) → AreTrees trees → slice_get trees.above node ≡ Some at → slice_get trees.labels node ≡ Some label → Puts trees trees at label node
  puts_old trees at label node are place has = record { extends = extends_same trees are; place = place; has = has; fresh = λ other above below. absurd (omega arith) }

  -- a node that came
  pub puts_new : (old new : Trees L) (at : Option ℕ) (label : L) (node : ℕ) → AreTrees old → new ≡ with_node old at label → node ≡ length old.labels → Puts old new at label node
  puts_new old new at label node are is is_last = subst (λ t. Puts old t at label node) (sym is) (record {
    extends = extends_with old at label are;
    place = subst (λ n. slice_get (old.above ++ at ∷ []) n ≡ Some at) (are.each_node ∙ sym is_last) (slice_get-push old.above at);
    has = subst (λ n. slice_get (old.labels ++ label ∷ []) n ≡ Some label) (sym is_last) (slice_get-push old.labels label);
    fresh = λ other above below. let len = length-append old.labels (label ∷ []) in omega (arith, above, below, len, is_last);
  })

  pub leads_first : (old new : Trees L) (label : L) (code : List L) (node : ℕ) → slice_get code 0 ≡ Some label → Puts old new None label node → Leads old new (take 1 code) node
  leads_first old new label [] node first puts = absurd (none-some label first)
  leads_first old new label (i ∷ code) node first puts =
      let same : i ≡ label = same_Some i label first in
      let path : Path new node node (i ∷ []) = subst (λ x. Path new node node (x ∷ [])) (sym same) (here puts.has) in
      record {
        extends = puts.extends;
        way = record { root = node; is_root = puts.place; path = path };
        fresh = λ other above below. (i ∷ [], subst (λ n. Path new n node (i ∷ [])) (sym (puts.fresh other above below)) path);
      }

  pub leads_more : (old mid new : Trees L) (front : List L) (label : L) (end node : ℕ) → Leads old mid front end → Puts mid new (Some end) label node → Leads old new (front ++ label ∷ []) node
  leads_more old mid new front label end node leads puts =
      let way = way_extends puts.extends leads.way in
      record {
        extends = extends_on old mid new leads.extends puts.extends;
        way = record { root = way.root; is_root = way.is_root; path = path_on label way.path puts.place puts.has };
        fresh = λ other above below. ⊎_elim
            (λ (had : other < length mid.labels). let old_path = leads.fresh other above had in (old_path.0 ++ label ∷ [], path_on label (path_extends puts.extends old_path.1) puts.place puts.has))
            (λ (came : length mid.labels ≤ other). (label ∷ [], subst (λ n. Path new n node (label ∷ [])) (sym (puts.fresh other came below)) (here puts.has)))
            (either_way other (length mid.labels));
      }
    where
      either_way : (m n : ℕ) → (m < n) ⊎ (n ≤ m)
      either_way m zero = inr (omega arith)
      either_way zero (suc n) = inl (omega arith)
      either_way (suc m) (suc n) = ⊎_elim (λ lt. inl (omega arith)) (λ le. inr (omega arith)) (either_way m n)

  abbrev pub kept_trees : List ℕ → List L → Trees L
  kept_trees keys labels = record { above = map above_of keys; labels = labels }

  pub push_is : (keys : List ℕ) (labels : List L) (key : ℕ) (at : Option ℕ) (label : L) → above_of key ≡ at → kept_trees (keys ++ key ∷ []) (labels ++ label ∷ []) ≡ with_node (kept_trees keys labels) at label
  push_is keys labels key at label is = ap (λ (a : List (Option ℕ)). record { above = a; labels = labels ++ label ∷ [] }) (map-append above_of keys (key ∷ []) ∙ ap (λ (a : Option ℕ). map above_of keys ++ a ∷ []) is)

  pub pop_is : (keys : List ℕ) (labels : List L) (n : ℕ) → AreTrees (kept_trees keys labels) → n ≡ length labels → kept_trees (take (length keys - 1) keys) (take (n - 1) labels) ≡ trees_front (n - 1) (kept_trees keys labels)
  pop_is keys labels n are is =
      let same : length keys ≡ n = sym (length-map keys above_of) ∙ are.each_node ∙ sym is in
      ap (λ (a : List (Option ℕ)). record { above = a; labels = take (n - 1) labels }) (sym (take-map above_of (length keys - 1) keys) ∙ ap (λ m. take (m - 1) (map above_of keys)) same)

  pub pushed_back : (labels : List L) (label : L) (n : ℕ) → n ≡ length labels → take n (labels ++ label ∷ []) ≡ labels
  pushed_back labels label n is = take-append-le n labels (label ∷ []) (omega arith) ∙ take_all n labels (omega arith)

  -- the list has no node with the instruction, so none is there
  pub none_in : (trees : Trees L) (at : Option ℕ) (label : L) (list : List ℕ) (n : ℕ) → AreAll (λ m. slice_get trees.above m ≡ Some at) list → length list ≤ n → ((k : ℕ) → k < n → slice_get trees.labels (get_or list k 0) ≡ Some label → ⊥) → (m : ℕ) → slice_get trees.above m ≡ Some at → slice_get trees.labels m ≡ Some label → ⊥
  none_in trees at label list n all long none m place has =
      let there = (all.exact m).1 place in
      let is = get_or_default list there.0 m 0 there.1 in
      none there.0 (omega (arith, there.1)) (subst (λ x. slice_get trees.labels x ≡ Some label) (sym there.2 ∙ is) has)

  within_nodes : (trees : Trees L) (at : Option ℕ) (list : List ℕ) (k : ℕ) → AreTrees trees → AreAll (λ m. slice_get trees.above m ≡ Some at) list → k < length list → get_or list k 0 < length trees.labels
  within_nodes trees at list k are all below =
      let node = get_or list k 0 in
      let lt = slice_get_within trees.above node at ((all.exact node).0 (Contains-get_or list k 0 below)) in
      omega (arith, lt, are.each_node)

  pub all_within : (trees : Trees L) (at : Option ℕ) (list : List ℕ) → AreTrees trees → AreAll (λ m. slice_get trees.above m ≡ Some at) list → All (λ node. node < length trees.labels) list
  all_within trees at list are all = All-from_get_or (λ node. node < length trees.labels) list 0 (λ k below. within_nodes trees at list k are all below)

  -- the path from the node above
  pub path_up : (trees : Trees L) (above top node : ℕ) (code : List L) → AreTrees trees → slice_get trees.above top ≡ Some (Some above) → Path trees top node code → (longer : List L) × Path trees above node longer
  path_up trees above top node code are place path =
      let less = are.later above top place in
      let top_within = slice_get_within trees.above top (Some above) place in
      let has = element_at trees.labels above (omega (arith, are.each_node)) in
      (has.0 ∷ code, down has.1 place path)

  pub path_none : (trees : Trees L) (node : ℕ) → node < length trees.labels → (code : List L) × Path trees node node code
  path_none trees node within = let has = element_at trees.labels node within in (has.0 ∷ [], here has.1)

  pub above_within : (trees : Trees L) (above top : ℕ) → AreTrees trees → slice_get trees.above top ≡ Some (Some above) → above < length trees.labels
  above_within trees above top are place =
      let less = are.later above top place in
      let top_within = slice_get_within trees.above top (Some above) place in
      omega (arith, less, top_within, are.each_node)

  -- a place among nodes is below their number
  pub place_small : (trees : Trees L) (at : Option ℕ) (list : List ℕ) (k : ℕ) → AreTrees trees → length trees.labels < 2 ^ 32 → AreAll (λ m. slice_get trees.above m ≡ Some at) list → k < length list → k < 2 ^ 32
  place_small trees at list k are few all below =
      let rise = rises_to list all.rising k below in
      let within = within_nodes trees at list k are all below in
      omega arith
