-- A search with the splits whose first halves are under way.
use Rattle.std.specs.Prelude.{◌≡◌, ◌≢◌, ℕ, ◌≤◌, false, List, [], ◌∷◌, ◌++◌, length, take, slice_get, Option, Some}
use Rattle.std.specs.Prelude.{None, All}
use Rattle.match_store.specs.declared.instance.Instance.{Instance}
use Rattle.formula_table.specs.declared.node.Node.{Node}
use Rattle.formula_table.specs.declared.node.Node.TheVariants.{Or}
use Rattle.formula_value.specs.Holds.{HasNode}
use Rattle.formula_assert.specs.Assertions.{Assertions, held_of}
use Rattle.formula_assert.specs.InLevel.{KeepsLevels}
use Rattle.formula_assert.specs.Mark.{IsMark}
use Rattle.search_laws.specs.Branch.{with_struck}
use Rattle.search_laws.specs.Path.{Path, first_path, with_branch}
use Rattle.search_laws.specs.Verdict.{Ending, unsat, Verdict}
use Rattle.search_branch.specs.declared.branch_values.BranchValues.{BranchValues}
use Rattle.search_branch.specs.Right.{AreValuesOf}
use Rattle.search_branch.specs.Levels.{IsLevelOver}
use Rattle.search_branch.specs.Steps.{branch_of}
use Rattle.search_branch.specs.Struck.{IsPlaceOf}
use Rattle.search_check.specs.declared.aside.Aside.{Aside}
use Rattle.search_check.specs.declared.outcome.Outcome.{Outcome}
use Rattle.search_check.specs.declared.search.Search.{Search}
use Rattle.search_check.specs.Round.{path_at, LivesAreAsserted}
use Rattle.search_check.specs.Verdicts.{IsVerdictOf}

-- what a search stands on: what is held, what is struck and done, how many instances each round entered, and the values
-- of all formulas
pub record Place : Type 0 where
  pub now : Assertions
  pub struck : List (ℕ × ℕ)
  pub done : List Instance
  pub spent : List ℕ
  pub values : BranchValues

-- the path there
abbrev pub path_in : Place → Path
path_in place = path_at place.now place.struck place.done place.spent

-- a split: where it was, with the values then, what the search keeps of it, and the node of its part
pub record Half : Type 0 where
  pub before : Assertions
  pub struck : List (ℕ × ℕ)
  pub done : List Instance
  pub spent : List ℕ
  pub values : BranchValues
  pub aside : Aside
  pub node : Node

-- where the split was
abbrev pub place_of : Half → Place
place_of half = record {
  now = half.before;
  struck = half.struck;
  done = half.done;
  spent = half.spent;
  values = half.values;
}

-- the path of the second half
abbrev pub second_path : Half → Path
second_path half = with_branch (path_in (place_of half))
    (with_struck (branch_of half.before half.struck) half.aside.node half.aside.place half.node)

-- the part stands at the place of the disjunction, and the values are those of what stood, where there was no clash
pub record IsHalf (half : Half) : Type 0 where
  pub has : HasNode half.before.formulas.nodes half.aside.part half.node
  pub parts : List ℕ
  pub is_or : HasNode half.before.formulas.nodes half.aside.node (Or parts)
  pub at_place : slice_get parts half.aside.place ≡ Some half.aside.part
  pub right : AreValuesOf half.before half.struck half.values
  pub calm : half.values.lost ≡ false
  pub places : All (IsPlaceOf half.before.formulas.nodes) half.struck
  pub lives : LivesAreAsserted half.before.formulas (held_of half.before)

-- The first half is under way: more is held, struck, done and spent now, and what was kept of the split leads back to it.
-- A level of the values was opened at it.
pub record IsHalfway (half : Half) (here : Place) : Type 0 where
  pub is_half : IsHalf half
  pub mark : IsMark half.before half.aside.mark
  pub keeps : KeepsLevels half.before here.now
  pub so_many_struck : length half.struck ≡ half.aside.struck
  pub so_many_done : length half.done ≡ half.aside.done
  pub so_many_spent : length half.spent ≡ half.aside.spent
  pub struck_later : List (ℕ × ℕ)
  pub struck_are : here.struck ≡ half.struck ++ struck_later
  pub done_later : List Instance
  pub done_are : here.done ≡ half.done ++ done_later
  pub spent_later : List ℕ
  pub spent_are : here.spent ≡ half.spent ++ spent_later
  pub level : IsLevelOver half.values here.values

-- these splits are under way, the last of them first, and what was kept of them is these asides, the last of them last
abbrev pub AreHalves : Assertions → List Half → List Aside → Place → Type 0
AreHalves start [] asides here = (asides ≡ []) × KeepsLevels start here.now
AreHalves start (half ∷ halves) asides here = (earlier : List Aside) × (asides ≡ earlier ++ half.aside ∷ []) ×
    IsHalfway half here × AreHalves start halves earlier (place_of half)

-- where the search at hand ends as the first, the search with these second halves ends as the second
pub data Unwinds (rounds : ℕ) : List Half → Ending → Ending → Type 0 where
  none : {ending : Ending} → Unwinds rounds [] ending ending
  kept : {half : Half} {halves : List Half} {ending last : Ending} → ending ≢ unsat →
      Unwinds rounds halves ending last → Unwinds rounds (half ∷ halves) ending last
  next : {half : Half} {halves : List Half} {ending last : Ending} → Verdict rounds (second_path half) ending →
      Unwinds rounds halves ending last → Unwinds rounds (half ∷ halves) unsat last

-- however the search at hand ends, the whole search from the first path ends with these second halves
abbrev pub IsOnTheWay : ℕ → Path → List Half → Path → Type 0
IsOnTheWay rounds first halves path = (ending last : Ending) → Verdict rounds path ending →
    Unwinds rounds halves ending last → Verdict rounds first last

-- the search of what stood at the start, with so many rounds, is under way, and the values are those of what stands
pub record IsUnderWay (rounds : ℕ) (start : Assertions) (asides : List Aside) (here : Place) : Type 0 where
  pub halves : List Half
  pub are : AreHalves start halves asides here
  pub way : IsOnTheWay rounds (first_path start.formulas (held_of start)) halves (path_in here)
  pub right : AreValuesOf here.now here.struck here.values
  pub places : All (IsPlaceOf here.now.formulas.nodes) here.struck
  pub lives : LivesAreAsserted here.now.formulas (held_of here.now)
  pub not_past : length here.spent ≤ rounds

-- where the search stands by what it keeps
abbrev pub place_in : Assertions → Search → Place
place_in now search = record {
  now = now;
  struck = search.struck.items;
  done = search.done;
  spent = search.spent.items;
  values = search.values;
}

-- so it is by what the search keeps
abbrev pub IsSearching : ℕ → Assertions → Assertions → Search → Type 0
IsSearching rounds start now search =
    IsUnderWay rounds start search.asides.items (place_in now search)

-- the search went back to a split, which was kept as this aside: its second half is to come, and then those of the
-- others
pub record IsAgainAt (rounds : ℕ) (start : Assertions) (asides : List Aside) (here : Place) (aside : Aside) : Type 0
  where
    pub node : Node
    pub is_half : IsHalf (record {
      before = here.now;
      struck = here.struck;
      done = here.done;
      spent = here.spent;
      values = here.values;
      aside = aside;
      node = node;
    })
    pub halves : List Half
    pub are : AreHalves start halves asides here
    pub way : IsOnTheWay rounds (first_path start.formulas (held_of start)) halves
        (with_branch (path_in here) (with_struck (branch_of here.now here.struck) aside.node aside.place node))
    pub not_past : length here.spent ≤ rounds

-- so it did by what the search keeps, where the places that were struck since then are left out
abbrev pub IsBackAt : ℕ → Assertions → Assertions → Search → Aside → Type 0
IsBackAt rounds start now search aside = IsAgainAt rounds start search.asides.items
    (record {
      now = now;
      struck = take aside.struck search.struck.items;
      done = search.done;
      spent = search.spent.items;
      values = search.values;
    })
    aside

-- the search goes on, or this is its outcome
abbrev pub GoesOn : ℕ → Assertions → Assertions → Search → Option Outcome → Type 0
GoesOn rounds start now search None = IsSearching rounds start now search
GoesOn rounds start now search (Some outcome) = IsVerdictOf rounds start.formulas (held_of start) outcome
