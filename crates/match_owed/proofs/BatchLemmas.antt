-- What is asked for, joined into items.
use Rattle.std.proofs.Common.{◌≡◌, ◌≤◌, ◌<◌, ◌+◌, ◌-◌, ◌⊎◌, ◌↔◌, inl, inr, ⊎_elim, ℕ, zero, suc, List, [], ◌∷◌, ◌++◌, length, slice_get, slice_index_or}
use Rattle.std.proofs.Common.{Some, IfSome, AllPairs, Contains, refl, sym, ap, ap₂, subst, ◌∙◌, arith}
use Rattle.std.proofs.lemmas.Bool.{cases_lt}
use Rattle.std.proofs.lemmas.List.{length_push}
use Rattle.std.proofs.lemmas.List.Elements.{Contains-push, Contains-push_cases, Contains-append_left}
use Rattle.std.proofs.lemmas.Option.{none-some, same_Some, slice_get_within, get_or_from_slice_get}
use Rattle.graph_terms.proofs.ListLaws.{slice_get-append_left, slice_get-push, push_cases, element_at, place_from_Contains, Contains-slice_get}
use Rattle.graph_meaning.specs.declared.claim.Claim.{Claim}
use Rattle.match_trees.specs.declared.entry.Entry.{Entry}
use Rattle.match_trees.specs.EntryList.{entry_of}
use Rattle.match_forest.specs.Forest.{Forest, IsTreeOf}
use Rattle.match_machine.specs.declared.item.Item.{Item}
use Rattle.match_owed.specs.declared.asked.Asked.{Asked}
use Rattle.match_owed.specs.declared.event.Event.{Event}
use Rattle.match_owed.specs.OwedLog.{Owes, AreOwed}
use Rattle.match_owed.specs.Items.{IsEntry, Asks, IsItemBefore, AreItems, AreAsked}
use Rattle.match_owed.specs.Asked.{IsAsked, AskFor, AsksFor, Ascend, IsEarlier, IsBeside, IsBefore, IsRun, Wants, Joins, AreEntries, AreClaims, PutsRun}

pub ascend_pairs : {X : Type 0} (R : X → X → Type 0) (xs : List X) → Ascend R xs → AllPairs R xs
ascend_pairs R xs up i j d less below =
    let a = element_at xs i (omega (arith, less, below)) in
    let b = element_at xs j below in
    subst (λ x. R x (slice_index_or xs j d)) (sym (get_or_from_slice_get xs i a.0 d a.1))
    (subst (λ x. R a.0 x) (sym (get_or_from_slice_get xs j b.0 d b.1)) (up i j a.0 b.0 less a.1 b.1))

-- the claims before a place are asked for
pub record AskFirst (forest : Forest) (claims : List Claim) (k : ℕ) (asked : List Asked) : Type 0 where
  pub many : length asked ≡ k
  pub exact : (n : ℕ) (claim : Claim) (one : Asked) → slice_get claims n ≡ Some claim → slice_get asked n ≡ Some one → IsAsked forest claim one

pub ask_none : (forest : Forest) (claims : List Claim) → AskFirst forest claims 0 []
ask_none forest claims = record { many = refl; exact = λ n claim one at at'. absurd (none-some one at') }

pub ask_next : (forest : Forest) (claims : List Claim) (k : ℕ) (asked : List Asked) (claim : Claim) (one : Asked) → slice_get claims k ≡ Some claim → IsAsked forest claim one → AskFirst forest claims k asked → AskFirst forest claims (k + 1) (asked ++ one ∷ [])
ask_next forest claims k asked claim one at is first = record {
  many = omega (arith, first.many, length_push asked one);
  exact = λ n other two here there. ⊎_elim (first.exact n other two here)
      (λ new. subst (IsAsked forest other) (sym new.1) (subst (λ c. IsAsked forest c one) (same_Some claim other (sym at ∙ ap (slice_get claims) (sym (new.0 ∙ first.many)) ∙ here)) is))
      (push_cases asked one n two there);
}

pub asks_from : (forest : Forest) (claims : List Claim) (asked : List Asked) → AskFor forest claims asked → AsksFor forest claims asked
asks_from forest claims asked for = record {
  sound = λ one has.
      let at = place_from_Contains asked one has in
      let lt = slice_get_within asked at.0 one at.1 in
      let there = element_at claims at.0 (omega (arith, lt, for.each)) in
      (there.0, Contains-slice_get claims at.0 there.0 there.1, for.exact at.0 there.0 one there.1 at.1);
  complete = λ claim has.
      let at = place_from_Contains claims claim has in
      let lt = slice_get_within claims at.0 claim at.1 in
      let there = element_at asked at.0 (omega (arith, lt, for.each)) in
      (there.0, Contains-slice_get asked at.0 there.0 there.1, for.exact at.0 claim there.0 at.1 there.1);
}

-- the same is asked for in another list with the same elements
pub asks_as : (forest : Forest) (claims : List Claim) (xs ys : List Asked) → ((one : Asked) → Contains xs one → Contains ys one) → ((one : Asked) → Contains ys one → Contains xs one) → AsksFor forest claims xs → AsksFor forest claims ys
asks_as forest claims xs ys to from asks = record {
  sound = λ one has. asks.sound one (from one has);
  complete = λ claim has. let there = asks.complete claim has in (there.0, to there.0 there.1, there.2);
}

earlier_on : (a b c : Asked) → IsEarlier a b → IsBefore b c → IsEarlier a c
earlier_on a b c (inl t) (inl (inl u)) = inl (omega (arith, t, u))
earlier_on a b c (inl t) (inl (inr u)) = inl (omega (arith, t, u.0))
earlier_on a b c (inl t) (inr u) = inl (omega (arith, t, u.0.0))
earlier_on a b c (inr t) (inl (inl u)) = inl (omega (arith, t.0, u))
earlier_on a b c (inr t) (inl (inr u)) = inr (omega (arith, t.0, u.0), omega (arith, t.1, u.1))
earlier_on a b c (inr t) (inr u) = inr (omega (arith, t.0, u.0.0), omega (arith, t.1, u.0.1))

not_earlier : (a b : Asked) → IsBeside a b → IsEarlier a b → ⊥
not_earlier a b beside (inl t) = absurd (omega (arith, t, beside.0))
not_earlier a b beside (inr t) = absurd (omega (arith, t.1, beside.1))

-- the item comes before what is asked for there
abbrev pub IsAhead : Item → Asked → Type 0
IsAhead item one = (item.tree < one.tree) ⊎ ((item.tree ≡ one.tree) × (item.root < one.root))

-- the items of what is asked for before a place
pub record JoinsTo (forest : Forest) (asked : List Asked) (at : ℕ) (items : List Item) (lists : List (List Claim)) : Type 0 where
  pub in_order : Ascend IsItemBefore items
  pub some : (item : Item) → Contains items item → (entry : ℕ) × Contains item.wanted entry
  pub rising : (item : Item) → Contains items item → Ascend (λ a b. a < b) item.wanted
  pub sound : (item : Item) (entry : ℕ) → Contains items item → Contains item.wanted entry → (one : Asked) × Contains asked one × (one.tree ≡ item.tree) × (one.root ≡ item.root) × (one.entry ≡ entry)
  pub complete : (n : ℕ) (one : Asked) → n < at → slice_get asked n ≡ Some one → (item : Item) × Contains items item × Wants item one
  pub ahead : (item : Item) (n : ℕ) (one : Asked) → Contains items item → at ≤ n → slice_get asked n ≡ Some one → IsAhead item one
  pub asks : AreAsked forest items lists

pub joins_none : (forest : Forest) (asked : List Asked) → JoinsTo forest asked 0 [] []
joins_none forest asked = record {
  in_order = λ i j a b less at at'. absurd (none-some a at);
  some = λ item has. absurd (omega (arith, has.1));
  rising = λ item has. absurd (omega (arith, has.1));
  sound = λ item entry has wants. absurd (omega (arith, has.1));
  complete = λ n one less at. absurd (omega (arith, less));
  ahead = λ item n one has le at. absurd (omega (arith, has.1));
  asks = record { each = refl; exact = λ n item claims at at'. absurd (none-some item at) };
}

module _ (forest : Forest) (asked : List Asked) (sorted : Ascend IsBefore asked) (at end : ℕ) (first : Asked) (run : IsRun asked at end first) (items items' : List Item) (lists lists' : List (List Claim)) (puts : PutsRun forest asked at end items items' lists lists') where
  abbrev item : Item
  item = puts.item

  same_first : puts.first ≡ first
  same_first = same_Some puts.first first (sym puts.begins ∙ run.begins)

  tree_is : item.tree ≡ first.tree
  tree_is = puts.tree ∙ ap (λ (one : Asked). one.tree) same_first

  root_is : item.root ≡ first.root
  root_is = puts.root ∙ ap (λ (one : Asked). one.root) same_first

  -- what an entry of the item is
  of_entry : (k entry : ℕ) → slice_get item.wanted k ≡ Some entry → (one : Asked) × (slice_get asked (at + k) ≡ Some one) × (one.entry ≡ entry) × IsBeside first one
  of_entry k entry here =
      let there = puts.wanted.each k entry here in
      let lt = slice_get_within item.wanted k entry here in
      (there.0, there.1, there.2, run.beside (at + k) there.0 (omega arith) (omega (arith, lt, puts.wanted.many)) there.1)

  entries_rise : Ascend (λ a b. a < b) item.wanted
  entries_rise k l a b less here there =
      let one = of_entry k a here in
      let two = of_entry l b there in
      by one.0 two.0 one.3 two.3 one.2 two.2 (sorted (at + k) (at + l) one.0 two.0 (omega (arith, less)) one.1 two.1)
    where
      by : (x y : Asked) → IsBeside first x → IsBeside first y → x.entry ≡ a → y.entry ≡ b → IsBefore x y → a < b
      by x y p q u v (inl earlier) = absurd (not_earlier x y (omega (arith, p.0, q.0), omega (arith, p.1, q.1)) earlier)
      by x y p q u v (inr h) = omega (arith, h.1, u, v)

  -- the item wants each of the run
  wants_run : (n : ℕ) (one : Asked) → at ≤ n → n < end → slice_get asked n ≡ Some one → Wants item one
  wants_run n one le less here =
      let beside = run.beside n one le less here in
      let entry = element_at item.wanted (n - at) (omega (arith, le, less, puts.wanted.many)) in
      let there = puts.wanted.each (n - at) entry.0 entry.1 in
      let place : at + (n - at) ≡ n = omega (arith, le) in
      let is : there.0 ≡ one = same_Some there.0 one (sym there.1 ∙ ap (slice_get asked) place ∙ here) in
      (tree_is ∙ beside.0, root_is ∙ beside.1, subst (Contains item.wanted) (sym there.2 ∙ ap (λ (x : Asked). x.entry) is) (Contains-slice_get item.wanted (n - at) entry.0 entry.1))

  -- what comes after the run is later than its first
  later : (n : ℕ) (one : Asked) → end ≤ n → slice_get asked n ≡ Some one → IsEarlier first one
  later n one le here =
      let next = element_at asked end (let lt = slice_get_within asked n one here in omega (arith, lt, le)) in
      let past : IsEarlier first next.0 = by next.0 (run.next next.0 next.1) (sorted at end first next.0 run.after run.begins next.1) in
      ⊎_elim
      (λ less. earlier_on first next.0 one past (sorted end n next.0 one less next.1 here))
      (λ not_less. subst (IsEarlier first) (same_Some next.0 one (sym next.1 ∙ ap (slice_get asked) (omega (arith, le, not_less)) ∙ here)) past)
      (cases_lt end n)
    where
      by : (e : Asked) → (IsBeside first e → ⊥) → IsBefore first e → IsEarlier first e
      by e apart (inl earlier) = earlier
      by e apart (inr h) = absurd (apart h.0)

  ahead_of : (one : Asked) → IsEarlier first one → IsAhead item one
  ahead_of one (inl t) = inl (omega (arith, t, tree_is))
  ahead_of one (inr t) = inr (omega (arith, t.0, tree_is), omega (arith, t.1, root_is))

  before_item : (other : Item) → IsAhead other first → IsItemBefore other item
  before_item other (inl t) = inl (omega (arith, t, tree_is))
  before_item other (inr t) = inr (omega (arith, t.0, tree_is), omega (arith, t.1, root_is))

  some_entry : (entry : ℕ) × Contains item.wanted entry
  some_entry = let there = element_at item.wanted 0 (omega (arith, run.after, puts.wanted.many)) in (there.0, Contains-slice_get item.wanted 0 there.0 there.1)

  old_or_new : (other : Item) → Contains (items ++ item ∷ []) other → Contains items other ⊎ (item ≡ other)
  old_or_new other = Contains-push_cases items item other

  joins_pushed : JoinsTo forest asked at items lists → JoinsTo forest asked end (items ++ item ∷ []) (lists ++ puts.claims ∷ [])
  joins_pushed joins = record {
    in_order = λ i j a b less here there. ⊎_elim
        (λ old. let lt = slice_get_within items j b old in ⊎_elim (λ was. joins.in_order i j a b less was old) (λ new. absurd (omega (arith, new.0, less, lt))) (push_cases items item i a here))
        (λ new. ⊎_elim (λ was. subst (IsItemBefore a) (sym new.1) (before_item a (joins.ahead a at first (Contains-slice_get items i a was) (omega arith) run.begins))) (λ new'. absurd (omega (arith, new.0, new'.0, less))) (push_cases items item i a here))
        (push_cases items item j b there);
    some = λ other has. ⊎_elim (joins.some other) (λ is. subst (λ (x : Item). (entry : ℕ) × Contains x.wanted entry) is some_entry) (old_or_new other has);
    rising = λ other has. ⊎_elim (joins.rising other) (λ is. subst (λ (x : Item). Ascend (λ a b. a < b) x.wanted) is entries_rise) (old_or_new other has);
    sound = λ other entry has wants. ⊎_elim (λ old. joins.sound other entry old wants)
        (λ is.
        let place = place_from_Contains item.wanted entry (subst (λ (x : Item). Contains x.wanted entry) (sym is) wants) in
        let there = of_entry place.0 entry place.1 in
        (there.0, Contains-slice_get asked (at + place.0) there.0 there.1, sym there.3.0 ∙ sym tree_is ∙ ap (λ (x : Item). x.tree) is, sym there.3.1 ∙ sym root_is ∙ ap (λ (x : Item). x.root) is, there.2))
        (old_or_new other has);
    complete = λ n one less here. ⊎_elim
        (λ before. let there = joins.complete n one before here in (there.0, Contains-append_left items (item ∷ []) there.0 there.1, there.2))
        (λ not_before. (item, Contains-push items item, wants_run n one (omega (arith, not_before)) less here))
        (cases_lt n at);
    ahead = λ other n one has le here. ⊎_elim (λ old. joins.ahead other n one old (omega (arith, le, run.after)) here) (λ is. subst (λ (x : Item). IsAhead x one) is (ahead_of one (later n one le here))) (old_or_new other has);
    asks = record {
      each = omega (arith, joins.asks.each, length_push items item, length_push lists puts.claims);
      exact = λ n other claims here there. ⊎_elim
          (λ old. let lt = slice_get_within items n other old in ⊎_elim (λ was. joins.asks.exact n other claims old was) (λ new. absurd (omega (arith, new.0, lt, joins.asks.each))) (push_cases lists puts.claims n claims there))
          (λ new. ⊎_elim (λ was. absurd (let lt = slice_get_within lists n claims was in omega (arith, lt, new.0, joins.asks.each)))
          (λ new'. subst (λ (x : Item). (claim : Claim) → Contains claims claim ↔ Asks forest x claim) (sym new.1) (subst (λ (cs : List Claim). (claim : Claim) → Contains cs claim ↔ Asks forest item claim) (sym new'.1) puts.are_claims))
          (push_cases lists puts.claims n claims there))
          (push_cases items item n other here);
    };
  }

  pub joins_next : JoinsTo forest asked at items lists → JoinsTo forest asked end items' lists'
  joins_next joins = subst (λ (xs : List Item). JoinsTo forest asked end xs lists') (sym puts.items_are) (subst (λ (ls : List (List Claim)). JoinsTo forest asked end (items ++ item ∷ []) ls) (sym puts.lists_are) (joins_pushed joins))

pub joins_all : (forest : Forest) (asked : List Asked) (at : ℕ) (items : List Item) (lists : List (List Claim)) → length asked ≤ at → JoinsTo forest asked at items lists → Joins asked items
joins_all forest asked at items lists past joins = record {
  in_order = joins.in_order;
  some = joins.some;
  rising = joins.rising;
  sound = joins.sound;
  complete = λ one has. let place = place_from_Contains asked one has in joins.complete place.0 one (let lt = slice_get_within asked place.0 one place.1 in omega (arith, lt, past)) place.1;
}

-- the items of what is asked for the claims that are owed
pub are_items : (forest : Forest) (log : List Event) (claims : List Claim) (asked : List Asked) (items : List Item) → AreOwed log claims → AsksFor forest claims asked → Joins asked items → AreItems forest log items
are_items forest log claims asked items owed asks joins = record {
  in_order = ascend_pairs IsItemBefore items joins.in_order;
  some = joins.some;
  rising = λ item has. ascend_pairs (λ a b. a < b) item.wanted (joins.rising item has);
  one_tree = λ item has entry wants.
      let one = joins.sound item entry has wants in
      let is = (asks.sound one.0 one.1).2 in
      subst (λ t. IsTreeOf forest entry t) one.2 (subst (λ e. IsTreeOf forest e one.0.tree) one.4 is.tree);
  sound = λ item has entry wants.
      let one = joins.sound item entry has wants in
      let of = asks.sound one.0 one.1 in
      (of.0, (owed.exact of.0).0 of.1, sym one.3 ∙ of.2.root, subst (λ e. IsEntry forest e of.0) one.4 of.2.entry);
  complete = λ claim owes.
      let one = asks.complete claim ((owed.exact claim).1 owes) in
      let item = joins.complete one.0 one.1 in
      (item.0, item.1, (item.2.1 ∙ one.2.root, (one.0.entry, item.2.2, one.2.entry)));
}

-- the claims of the first entries at a root
abbrev pub AreFirstClaims : Forest → ℕ → List ℕ → ℕ → List Claim → Type 0
AreFirstClaims forest root entries k claims = (claim : Claim) → Contains claims claim ↔ ((root ≡ claim.root) × ((j : ℕ) × (j < k) × ((entry : ℕ) × (slice_get entries j ≡ Some entry) × IsEntry forest entry claim)))

pub claims_none : (forest : Forest) (root : ℕ) (entries : List ℕ) → AreFirstClaims forest root entries 0 []
claims_none forest root entries claim = (λ has. absurd (omega (arith, has.1)), λ h. absurd (omega (arith, h.1.1)))

pub claims_next : (forest : Forest) (root : ℕ) (entries : List ℕ) (k entry : ℕ) (made : Claim) (claims : List Claim) → slice_get entries k ≡ Some entry → IsEntry forest entry made → made.root ≡ root → AreFirstClaims forest root entries k claims → AreFirstClaims forest root entries (k + 1) (claims ++ made ∷ [])
claims_next forest root entries k entry made claims at is root_is first claim = (
  (λ has. ⊎_elim
      (λ old. let h = (first claim).0 old in (h.0, (h.1.0, omega (arith, h.1.1), h.1.2)))
      (λ same. (sym root_is ∙ ap (λ (c : Claim). c.root) same, (k, omega arith, (entry, at, subst (IsEntry forest entry) same is))))
      (Contains-push_cases claims made claim has)),
  (λ h. ⊎_elim
      (λ less. Contains-append_left claims (made ∷ []) claim ((first claim).1 (h.0, (h.1.0, less, h.1.2))))
      (λ not_less.
      let this : h.1.0 ≡ k = omega (arith, h.1.1, not_less) in
      let one : h.1.2.0 ≡ entry = same_Some h.1.2.0 entry (sym h.1.2.1 ∙ ap (slice_get entries) this ∙ at) in
      let found : entry_of claim.trigger claim.start ≡ entry_of made.trigger made.start = same_Some (entry_of claim.trigger claim.start) (entry_of made.trigger made.start) (sym h.1.2.2 ∙ ap (slice_get forest.entries) one ∙ is) in
      let same : made ≡ claim = ap₂ (λ (e : Entry) r. record { trigger = e.trigger; start = e.start; root = r }) (sym found) (root_is ∙ h.0) in
      subst (Contains (claims ++ made ∷ [])) same (Contains-push claims made))
      (cases_lt h.1.0 k)),
)

pub claims_all : (forest : Forest) (root : ℕ) (entries : List ℕ) (k : ℕ) (claims : List Claim) → length entries ≤ k → AreFirstClaims forest root entries k claims → AreClaims forest root entries claims
claims_all forest root entries k claims past first claim = (
  (λ has. let h = (first claim).0 has in (h.0, (h.1.2.0, Contains-slice_get entries h.1.0 h.1.2.0 h.1.2.1, h.1.2.2))),
  (λ h.
      let place = place_from_Contains entries h.1.0 h.1.1 in
      let lt = slice_get_within entries place.0 h.1.0 place.1 in
      (first claim).1 (h.0, (place.0, omega (arith, lt, past), (h.1.0, place.1, h.1.2)))),
)

-- the entries from a place on
pub record EntriesTo (asked : List Asked) (at end : ℕ) (entries : List ℕ) : Type 0 where
  pub many : length entries + at ≡ end
  pub each : (k entry : ℕ) → slice_get entries k ≡ Some entry → (one : Asked) × (slice_get asked (at + k) ≡ Some one) × (one.entry ≡ entry)

pub entries_none : (asked : List Asked) (at : ℕ) → EntriesTo asked at at []
entries_none asked at = record { many = omega arith; each = λ k entry here. absurd (none-some entry here) }

pub entries_next : (asked : List Asked) (at end : ℕ) (entries : List ℕ) (one : Asked) → slice_get asked end ≡ Some one → EntriesTo asked at end entries → EntriesTo asked at (end + 1) (entries ++ one.entry ∷ [])
entries_next asked at end entries one here to = record {
  many = omega (arith, to.many, length_push entries one.entry);
  each = λ k entry there. ⊎_elim (to.each k entry)
      (λ new. let place : at + k ≡ end = omega (arith, new.0, to.many) in (one, ap (slice_get asked) place ∙ here, sym new.1))
      (push_cases entries one.entry k entry there);
}

-- from the one place up to the other all are of one tree and one root
pub record RunTo (asked : List Asked) (at end : ℕ) (first : Asked) : Type 0 where
  pub begins : slice_get asked at ≡ Some first
  pub after : at < end
  pub within : end ≤ length asked
  pub beside : (n : ℕ) (one : Asked) → at ≤ n → n < end → slice_get asked n ≡ Some one → IsBeside first one

pub run_one : (asked : List Asked) (at : ℕ) (first : Asked) → slice_get asked at ≡ Some first → RunTo asked at (at + 1) first
run_one asked at first begins = record {
  begins = begins;
  after = omega arith;
  within = let lt = slice_get_within asked at first begins in omega (arith, lt);
  beside = λ n one le less here.
      let same : first ≡ one = same_Some first one (sym begins ∙ ap (slice_get asked) (omega (arith, le, less)) ∙ here) in
      (ap (λ (x : Asked). x.tree) same, ap (λ (x : Asked). x.root) same);
}

pub run_next : (asked : List Asked) (at end : ℕ) (first last : Asked) → slice_get asked end ≡ Some last → IsBeside first last → RunTo asked at end first → RunTo asked at (end + 1) first
run_next asked at end first last here is run = record {
  begins = run.begins;
  after = omega (arith, run.after);
  within = let lt = slice_get_within asked end last here in omega (arith, lt);
  beside = λ n one le less there. ⊎_elim (λ before. run.beside n one le before there)
      (λ not_before. subst (IsBeside first) (same_Some last one (sym here ∙ ap (slice_get asked) (omega (arith, less, not_before)) ∙ there)) is) (cases_lt n end);
}

pub run_stops : (asked : List Asked) (at end : ℕ) (first : Asked) → ((one : Asked) → slice_get asked end ≡ Some one → IsBeside first one → ⊥) → RunTo asked at end first → IsRun asked at end first
run_stops asked at end first next run = record { begins = run.begins; after = run.after; within = run.within; beside = run.beside; next = next }

-- the entry of the claim that has its trigger and its start
pub entry_made : (forest : Forest) (entry : ℕ) (made : Claim) → entry < length forest.entries →
    IfSome (slice_get forest.entries entry) (λ found. found.trigger ≡ made.trigger) →
    IfSome (slice_get forest.entries entry) (λ found. found.start ≡ made.start) → IsEntry forest entry made
entry_made forest entry made lt trigger start =
    let there = element_at forest.entries entry lt in
    let t = subst (λ o. IfSome o (λ (found : Entry). found.trigger ≡ made.trigger)) there.1 trigger in
    let s = subst (λ o. IfSome o (λ (found : Entry). found.start ≡ made.start)) there.1 start in
    there.1 ∙ ap Some (ap₂ (λ a b. entry_of a b) t s)

-- each of what is asked for the claims is an entry
pub asked_below : (forest : Forest) (claims : List Claim) (asked : List Asked) → AsksFor forest claims asked → (one : Asked) → Contains asked one → one.entry < length forest.entries
asked_below forest claims asked asks one has = let of = asks.sound one has in slice_get_within forest.entries one.entry (entry_of of.0.trigger of.0.start) of.2.entry

-- each entry of a run is asked for
pub entries_below : (asked : List Asked) (at end : ℕ) (entries : List ℕ) (bound : ℕ) → ((one : Asked) → Contains asked one → one.entry < bound) → AreEntries asked at end entries → (entry : ℕ) → Contains entries entry → entry < bound
entries_below asked at end entries bound below are entry has =
    let place = place_from_Contains entries entry has in
    let one = are.each place.0 entry place.1 in
    subst (λ e. e < bound) one.2 (below one.0 (Contains-slice_get asked (at + place.0) one.0 one.1))
