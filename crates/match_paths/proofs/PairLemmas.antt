-- Pairs of places of a variable.
use Rattle.std.proofs.Common.{◌≡◌, ◌≢◌, inl, inr, ⊎_elim, ℕ, Bool, true, false, List, [], ◌∷◌, slice_get, Some, None, refl, sym, ap, ap₂, subst, ◌∙◌, ◌<◌, ◌≤◌, ◌+◌, length, Contains, arith}
use Rattle.std.specs.Bool.{Decides}
use Rattle.std.proofs.lemmas.Bool.{cases_eq, cases_lt}
use Rattle.std.proofs.lemmas.Grind.{common_steps}
use Rattle.std.proofs.lemmas.Option.{none-some, same_Some}
use Rattle.match_paths.specs.declared.link.Link.{Link}
use Rattle.match_paths.specs.declared.link.Link.TheVariants.{Member, Argument, Above}
use Rattle.match_paths.specs.declared.occurrence.Occurrence.{Occurrence}
use Rattle.match_paths.specs.contracts.link.LinkPartialEq.TheImpl.{eq-value}
use Rattle.graph_trigger.specs.declared.trigger.Trigger.{Trigger}
use Rattle.graph_trigger.specs.declared.pattern_row.PatternRow.TheVariants.{Var, App}
use Rattle.graph_terms.proofs.ListLaws.{place_from_Contains, Contains-slice_get}
use Rattle.std.proofs.lemmas.Option.{slice_get_within}
use Rattle.match_trees.specs.Trees.{Trees, AreTrees}
use Rattle.match_trees.specs.TreeLaws.{GrowthLaws, EntryLaws}
use Rattle.match_trees.specs.EntryList.{EntryList}
use Rattle.match_laws.proofs.FollowLaws.{same_symbol, no_variable}
use Rattle.match_paths.specs.Wants.{AddsWays, BeginsFrom, application, variable, BeginsForPair, IsThisWay, IsWayOfPair, IsWayOfVariable, IsWayOf, IsWanted}
use Rattle.match_paths.proofs.AddLemmas.{ways_none, ways_as, ways_both}

-- the derived test tells whether two links are one
pub link_decides : (a b : Link) → Decides (eq-value.it a b) (a ≡ b)
link_decides (Member f) (Member g) = ((λ e. ap Member (grind (arith, common_steps))), (λ e. grind (arith, common_steps)))
link_decides (Argument f i) (Argument g j) = ((λ e. let one : f ≡ g = grind (arith, common_steps) in let two : i ≡ j = grind (arith, common_steps) in ap (λ x. Argument x i) one ∙ ap (Argument g) two), (λ e. grind (arith, common_steps)))
link_decides (Above f i) (Above g j) = ((λ e. let one : f ≡ g = grind (arith, common_steps) in let two : i ≡ j = grind (arith, common_steps) in ap (λ x. Above x i) one ∙ ap (Above g) two), (λ e. grind (arith, common_steps)))
link_decides (Member f) (Argument g j) = ((λ e. absurd cc), (λ e. absurd cc))
link_decides (Member f) (Above g j) = ((λ e. absurd cc), (λ e. absurd cc))
link_decides (Argument f i) (Member g) = ((λ e. absurd cc), (λ e. absurd cc))
link_decides (Argument f i) (Above g j) = ((λ e. absurd cc), (λ e. absurd cc))
link_decides (Above f i) (Member g) = ((λ e. absurd cc), (λ e. absurd cc))
link_decides (Above f i) (Argument g j) = ((λ e. absurd cc), (λ e. absurd cc))

front_is : (links : List Link) (link : Link) → slice_get links 0 ≡ Some link → (rest : List Link) × (links ≡ link ∷ rest)
front_is [] link h = absurd (none-some link h)
front_is (first ∷ rest) link h = (rest, ap (λ l. l ∷ rest) (same_Some first link h))

not_both : (b : Bool) (P : Type 0) → b ≡ false → (P → b ≡ true) → P → ⊥
not_both b P isnt tells p = clash (sym (tells p) ∙ isnt)
  where
    clash : true ≡ false → ⊥
    clash e = cc

-- the pair begins so
pub pair_begins : (occurrence other : Occurrence) (symbol place : ℕ) (b : Bool) → other.row ≡ occurrence.row → b ≡ false → ((other.start ≡ occurrence.start) × (other.links ≡ occurrence.links) → b ≡ true) → slice_get other.links 0 ≡ Some (Above symbol place) → BeginsForPair occurrence other (Argument symbol place)
pair_begins occurrence other symbol place b one_row isnt tells first =
    let front = front_is other.links (Above symbol place) first in (
      one_row,
      ⊎_elim (λ same. inr (λ links. not_both b ((other.start ≡ occurrence.start) × (other.links ≡ occurrence.links)) isnt tells (same, links))) inl (cases_eq other.start occurrence.start),
      (symbol, place, front.0, front.1, refl),
    )

first_of : (a b : Link) (xs ys : List Link) → a ∷ xs ≡ b ∷ ys → a ≡ b
first_of a b xs ys e = cc

same_above : (f g i j : ℕ) → Above f i ≡ Above g j → (f ≡ g) × (i ≡ j)
same_above f g i j e = (cc, cc)

-- a pair begins in one way
pair_one : (occurrence other : Occurrence) (a b : Link) → BeginsForPair occurrence other a → BeginsForPair occurrence other b → a ≡ b
pair_one occurrence other a b one two =
    let x = one.2 in
    let y = two.2 in
    let same = same_above x.0 y.0 x.1 y.1 (first_of (Above x.0 x.1) (Above y.0 y.1) x.2 y.2 (sym x.3 ∙ y.3)) in
    x.4 ∙ ap₂ Argument same.0 same.1 ∙ sym y.4

module _ (number : ℕ) (occurrence other : Occurrence) (trees trees' : Trees Link) (list list' : EntryList) where
  pub pair_way : (begin : Link) → BeginsForPair occurrence other begin → AddsWays number (IsThisWay occurrence.start begin occurrence.links) trees trees' list list' → AddsWays number (IsWayOfPair occurrence other) trees trees' list list'
  pair_way begin begins = ways_as number (IsThisWay occurrence.start begin occurrence.links) (IsWayOfPair occurrence other) trees trees' list list'
      (λ start b links h. (h.0, h.2, subst (BeginsForPair occurrence other) (sym h.1) begins))
      (λ start b links h. (h.0, pair_one occurrence other b begin h.2 begins, h.1))

pub no_pair : GrowthLaws Link → EntryLaws → (number : ℕ) (occurrence other : Occurrence) (trees : Trees Link) (list : EntryList) → AreTrees trees → length list.ends ≡ length list.entries → ((begin : Link) → BeginsForPair occurrence other begin → ⊥) → AddsWays number (IsWayOfPair occurrence other) trees trees list list
no_pair grows lists number occurrence other trees list are same none = ways_none grows lists number (IsWayOfPair occurrence other) trees list are same (λ start begin links h. none begin h.2)

-- the ways for the first k other places
abbrev pub ByPairs : List Occurrence → Occurrence → ℕ → ℕ → Link → List Link → Type 0
ByPairs all occurrence k start begin links = (j : ℕ) × (j < k) × ((other : Occurrence) × (slice_get all j ≡ Some other) × IsWayOfPair occurrence other start begin links)

module _ (number : ℕ) (all : List Occurrence) (occurrence : Occurrence) where
  pub pairs_none : GrowthLaws Link → EntryLaws → (trees : Trees Link) (list : EntryList) → AreTrees trees → length list.ends ≡ length list.entries → AddsWays number (ByPairs all occurrence 0) trees trees list list
  pairs_none grows lists trees list are same = ways_none grows lists number (ByPairs all occurrence 0) trees list are same (λ start begin links h. omega (arith, h.1))

  pub pairs_next : GrowthLaws Link → EntryLaws → (k : ℕ) (other : Occurrence) (trees trees' trees'' : Trees Link) (list list' list'' : EntryList) → slice_get all k ≡ Some other → length list'.ends ≡ length list'.entries → AddsWays number (ByPairs all occurrence k) trees trees' list list' → AddsWays number (IsWayOfPair occurrence other) trees' trees'' list' list'' → AddsWays number (ByPairs all occurrence (k + 1)) trees trees'' list list''
  pairs_next grows lists k other trees trees' trees'' list list' list'' at same = ways_both grows lists number (ByPairs all occurrence k) (IsWayOfPair occurrence other) (ByPairs all occurrence (k + 1)) trees trees' trees'' list list' list'' same
      (λ start begin links h. (h.0, omega (arith, h.1), h.2))
      (λ start begin links h. (k, omega arith, (other, at, h)))
      (λ start begin links h. ⊎_elim (λ less. inl (h.0, less, h.2)) (λ not_less. let this : h.0 ≡ k = omega (arith, h.1, not_less) in
      inr (subst (λ (o : Occurrence). IsWayOfPair occurrence o start begin links) (same_Some h.2.0 other (sym h.2.1 ∙ ap (slice_get all) this ∙ at)) h.2.2)) (cases_lt h.0 k))

  pub pairs_all : (k : ℕ) (trees trees' : Trees Link) (list list' : EntryList) → length all ≤ k → AddsWays number (ByPairs all occurrence k) trees trees' list list' → AddsWays number (IsWayOfVariable all occurrence) trees trees' list list'
  pairs_all k trees trees' list list' past = ways_as number (ByPairs all occurrence k) (IsWayOfVariable all occurrence) trees trees' list list'
      (λ start begin links h. (h.2.0, Contains-slice_get all h.0 h.2.0 h.2.1, h.2.2))
      (λ start begin links h. let at = place_from_Contains all h.0 h.1 in let lt = slice_get_within all at.0 h.0 at.1 in (at.0, omega (arith, lt, past), (h.0, at.1, h.2)))

module _ (number : ℕ) (trigger : Trigger) (all : List Occurrence) (occurrence : Occurrence) (trees trees' : Trees Link) (list list' : EntryList) where
  -- the way of an application
  pub application_way : (symbol : ℕ) (parts : List ℕ) → slice_get trigger.rows occurrence.row ≡ Some (App symbol parts) → (occurrence.links ≢ []) → AddsWays number (IsThisWay occurrence.start (Member symbol) occurrence.links) trees trees' list list' → AddsWays number (IsWayOf trigger all occurrence) trees trees' list list'
  application_way symbol parts shape some = ways_as number (IsThisWay occurrence.start (Member symbol) occurrence.links) (IsWayOf trigger all occurrence) trees trees' list list'
      (λ start begin links h. (h.0, h.2, some, subst (BeginsFrom trigger all occurrence) (sym h.1) (application shape)))
      (λ start begin links h. (h.0, begins_member begin h.3, h.1))
    where
      begins_member : (begin : Link) → BeginsFrom trigger all occurrence begin → begin ≡ Member symbol
      begins_member begin (application {symbol = f} {parts = ps} is) = ap Member (same_symbol trigger.rows occurrence.row f symbol ps parts is shape)
      begins_member begin (variable {index = index} is has row differs links) = absurd (no_variable trigger.rows occurrence.row index symbol parts is shape)

  -- the ways of a variable
  pub variable_ways : (index : ℕ) → slice_get trigger.rows occurrence.row ≡ Some (Var index) → (occurrence.links ≢ []) → AddsWays number (IsWayOfVariable all occurrence) trees trees' list list' → AddsWays number (IsWayOf trigger all occurrence) trees trees' list list'
  variable_ways index shape some = ways_as number (IsWayOfVariable all occurrence) (IsWayOf trigger all occurrence) trees trees' list list'
      (λ start begin links h. (h.2.0, h.2.1, some, pair_from begin h.0 h.1 h.2.2))
      (λ start begin links h. from_pair start begin links h.0 h.1 h.3)
    where
      pair_from : (begin : Link) (other : Occurrence) → Contains all other → BeginsForPair occurrence other begin → BeginsFrom trigger all occurrence begin
      pair_from begin other has pair = subst (BeginsFrom trigger all occurrence) (sym pair.2.4) (variable shape has pair.0 pair.1 pair.2.3)

      from_pair : (start : ℕ) (begin : Link) (links : List Link) → start ≡ occurrence.start → links ≡ occurrence.links → BeginsFrom trigger all occurrence begin → IsWayOfVariable all occurrence start begin links
      from_pair start begin links one two (application {symbol = f} {parts = ps} is) = absurd (no_variable trigger.rows occurrence.row index f ps shape is)
      from_pair start begin links one two (variable {symbol = f} {place = i} {other = other} {rest = rest} is has row differs front) = (other, has, (one, two, (row, differs, (f, i, rest, front, refl))))

-- a place without links has no way
pub root_way : GrowthLaws Link → EntryLaws → (number : ℕ) (trigger : Trigger) (all : List Occurrence) (occurrence : Occurrence) (trees : Trees Link) (list : EntryList) → AreTrees trees → length list.ends ≡ length list.entries → slice_get occurrence.links 0 ≡ None → AddsWays number (IsWayOf trigger all occurrence) trees trees list list
root_way grows lists number trigger all occurrence trees list are same none = ways_none grows lists number (IsWayOf trigger all occurrence) trees list are same (λ start begin links h. h.2 (is_empty occurrence.links none))
  where
    is_empty : (links : List Link) → slice_get links 0 ≡ None → links ≡ []
    is_empty [] h = refl
    is_empty (link ∷ links) h = absurd (none-some link (sym h))

pub some_links : (links : List Link) (link : Link) → slice_get links 0 ≡ Some link → links ≢ []
some_links links link h = λ e. none-some link (ap (λ ls. slice_get ls 0) (sym e) ∙ h)

-- the ways from the first k places
abbrev pub ByPlaces : Trigger → List Occurrence → ℕ → ℕ → Link → List Link → Type 0
ByPlaces trigger all k start begin links = (j : ℕ) × (j < k) × ((occurrence : Occurrence) × (slice_get all j ≡ Some occurrence) × IsWayOf trigger all occurrence start begin links)

module _ (number : ℕ) (trigger : Trigger) (all : List Occurrence) where
  pub places_none : GrowthLaws Link → EntryLaws → (trees : Trees Link) (list : EntryList) → AreTrees trees → length list.ends ≡ length list.entries → AddsWays number (ByPlaces trigger all 0) trees trees list list
  places_none grows lists trees list are same = ways_none grows lists number (ByPlaces trigger all 0) trees list are same (λ start begin links h. omega (arith, h.1))

  pub places_next : GrowthLaws Link → EntryLaws → (k : ℕ) (occurrence : Occurrence) (trees trees' trees'' : Trees Link) (list list' list'' : EntryList) → slice_get all k ≡ Some occurrence → length list'.ends ≡ length list'.entries → AddsWays number (ByPlaces trigger all k) trees trees' list list' → AddsWays number (IsWayOf trigger all occurrence) trees' trees'' list' list'' → AddsWays number (ByPlaces trigger all (k + 1)) trees trees'' list list''
  places_next grows lists k occurrence trees trees' trees'' list list' list'' at same = ways_both grows lists number (ByPlaces trigger all k) (IsWayOf trigger all occurrence) (ByPlaces trigger all (k + 1)) trees trees' trees'' list list' list'' same
      (λ start begin links h. (h.0, omega (arith, h.1), h.2))
      (λ start begin links h. (k, omega arith, (occurrence, at, h)))
      (λ start begin links h. ⊎_elim (λ less. inl (h.0, less, h.2)) (λ not_less. let this : h.0 ≡ k = omega (arith, h.1, not_less) in
      inr (subst (λ (o : Occurrence). IsWayOf trigger all o start begin links) (same_Some h.2.0 occurrence (sym h.2.1 ∙ ap (slice_get all) this ∙ at)) h.2.2)) (cases_lt h.0 k))

  pub places_all : (k : ℕ) (trees trees' : Trees Link) (list list' : EntryList) → length all ≤ k → AddsWays number (ByPlaces trigger all k) trees trees' list list' → AddsWays number (IsWanted trigger all) trees trees' list list'
  places_all k trees trees' list list' past = ways_as number (ByPlaces trigger all k) (IsWanted trigger all) trees trees' list list'
      (λ start begin links h. record { occurrence = h.2.0; is = Contains-slice_get all h.0 h.2.0 h.2.1; start_is = sym h.2.2.0; links_are = sym h.2.2.1; some = subst (λ ls. ls ≢ []) (sym h.2.2.1) h.2.2.2; begins = h.2.2.3 })
      (λ start begin links w. let at = place_from_Contains all w.occurrence w.is in let lt = slice_get_within all at.0 w.occurrence at.1 in
      (at.0, omega (arith, lt, past), (w.occurrence, at.1, (sym w.start_is, sym w.links_are, subst (λ ls. ls ≢ []) (sym w.links_are) w.some, w.begins))))

-- nor has a place without a row
pub no_row_way : GrowthLaws Link → EntryLaws → (number : ℕ) (trigger : Trigger) (all : List Occurrence) (occurrence : Occurrence) (trees : Trees Link) (list : EntryList) → AreTrees trees → length list.ends ≡ length list.entries → length trigger.rows ≤ occurrence.row → AddsWays number (IsWayOf trigger all occurrence) trees trees list list
no_row_way grows lists number trigger all occurrence trees list are same past = ways_none grows lists number (IsWayOf trigger all occurrence) trees list are same (λ start begin links h. no_row begin h.3)
  where
    no_row : (begin : Link) → BeginsFrom trigger all occurrence begin → ⊥
    no_row begin (application {symbol = f} {parts = ps} is) = let lt = slice_get_within trigger.rows occurrence.row (App f ps) is in omega (arith, lt, past)
    no_row begin (variable {index = index} is has row differs front) = let lt = slice_get_within trigger.rows occurrence.row (Var index) is in omega (arith, lt, past)
