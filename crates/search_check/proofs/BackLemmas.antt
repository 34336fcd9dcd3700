-- A search goes back to the last split.
use Rattle.std.proofs.Common.{◌≡◌, ℕ, ◌≤◌, false, List, [], ◌∷◌, ◌++◌, length, take, slice_get, Some, ◌+◌, refl, sym, ap}
use Rattle.std.proofs.Common.{subst, ◌∙◌, append-nil, arith}
use Rattle.std.proofs.lemmas.Option.{same_Some}
use Rattle.std.proofs.lemmas.List.{length-append, take-append-le}
use Rattle.match_store.specs.declared.instance.Instance.{Instance}
use Rattle.formula_assert.specs.Assertions.{Assertions, held_of}
use Rattle.formula_assert.specs.InLevel.{KeepsLevels}
use Rattle.formula_assert.specs.Mark.{IsMark}
use Rattle.search_laws.specs.Path.{first_path}
use Rattle.search_laws.specs.Verdict.{unsat, Verdict}
use Rattle.search_branch.specs.declared.branch_values.BranchValues.{BranchValues}
use Rattle.search_branch.specs.declared.step.Step.TheVariants.{Lost}
use Rattle.search_branch.specs.Steps.{branch_of, IsStep}
use Rattle.search_check.specs.declared.aside.Aside.{Aside}
use Rattle.search_branch.specs.Right.{AreValuesOf}
use Rattle.search_branch.specs.Levels.{IsLevelOver}
use Rattle.search_check.specs.UnderWay.{Place, Half, place_of, path_in, AreHalves, IsHalfway, IsOnTheWay, IsUnderWay}
use Rattle.search_check.specs.UnderWay.{IsAgainAt}
use Rattle.search_check.proofs.ListLemmas.{not_none, same_last, same_front, take_seam}
use Rattle.search_check.proofs.HalfLemmas.{ComesTo, halves_over, halves_more, calm_alike}
use Rattle.search_check.proofs.UnderWayLemmas.{place_at}
use Rattle.search_check.proofs.WayLemmas.{loses, takes_up}

module _ (rounds : ℕ) (start : Assertions) (asides : List Aside) (here : Place)
    (under_way : IsUnderWay rounds start asides here) where
  -- nothing was put aside, and a conflict loses the search
  pub none_left : asides ≡ [] → IsStep here.now.formulas (branch_of here.now here.struck) Lost →
      Verdict rounds (first_path start.formulas (held_of start)) unsat
  none_left is step = by under_way.halves under_way.are under_way.way
    where
      by : (halves : List Half) → AreHalves start halves asides here →
          IsOnTheWay rounds (first_path start.formulas (held_of start)) halves (path_in here) →
          Verdict rounds (first_path start.formulas (held_of start)) unsat
      by [] are way = loses rounds (first_path start.formulas (held_of start)) (path_in here) way step
      by (half ∷ halves) are way = absurd (not_none are.0 half.aside (sym are.1 ∙ is))

-- the split that was put aside last is under way, and the others are behind it
pub record IsLastHalf (rounds : ℕ) (start : Assertions) (rest : List Aside) (aside : Aside) (here : Place) : Type 0
  where
    pub half : Half
    pub halves : List Half
    pub aside_is : half.aside ≡ aside
    pub halfway : IsHalfway half here
    pub are : AreHalves start halves rest (place_of half)
    pub way : IsOnTheWay rounds (first_path start.formulas (held_of start)) (half ∷ halves) (path_in here)

module _ (rounds : ℕ) (start : Assertions) (asides rest : List Aside) (aside : Aside) (here : Place)
    (is : asides ≡ rest ++ aside ∷ []) (under_way : IsUnderWay rounds start asides here) where
  pub last_half : IsLastHalf rounds start rest aside here
  last_half = by under_way.halves under_way.are under_way.way
    where
      by : (halves : List Half) → AreHalves start halves asides here →
          IsOnTheWay rounds (first_path start.formulas (held_of start)) halves (path_in here) →
          IsLastHalf rounds start rest aside here
      by [] are way = absurd (not_none rest aside (sym is ∙ are.0))
      by (half ∷ halves) are way =
          let both : are.0 ++ half.aside ∷ [] ≡ rest ++ aside ∷ [] = sym are.1 ∙ is in
          record {
            half = half;
            halves = halves;
            aside_is = same_last are.0 rest half.aside aside both;
            halfway = are.2;
            are = subst (λ (asides_before : List Aside). AreHalves start halves asides_before (place_of half))
                (same_front are.0 rest half.aside aside both) are.3;
            way = way;
          }

  its_mark : IsMark last_half.half.before aside.mark
  its_mark = subst (λ (a : Aside). IsMark last_half.half.before a.mark) last_half.aside_is last_half.halfway.mark

  -- what was kept of it is a mark of what stood
  pub marked : (before : Assertions) × IsMark before aside.mark × KeepsLevels before here.now
  marked = (last_half.half.before, its_mark, last_half.halfway.keeps)

-- where so many of a list were there before, they are its first so many
front_is : {X : Type 0} (before later now : List X) (count : ℕ) → length before ≡ count → now ≡ before ++ later →
    take count now ≡ before
front_is before later now count so_many is =
    ap (λ (k : ℕ). take k now) (sym so_many) ∙ ap (take (length before)) is ∙ take_seam before later

-- the search went back to the last split
module _ (same : (now : Assertions) → KeepsLevels now now)
    (both : (first second third : Assertions) → KeepsLevels first second → KeepsLevels second third →
    KeepsLevels first third)
    (rounds : ℕ) (start now : Assertions) (asides rest : List Aside) (aside : Aside) (struck : List (ℕ × ℕ))
    (done : List Instance) (spent : List ℕ) (values : BranchValues) (is : asides ≡ rest ++ aside ∷ [])
    (under_way : IsUnderWay rounds start asides (place_at now struck done spent values)) where
  its : IsLastHalf rounds start rest aside (place_at now struck done spent values)
  its = last_half rounds start asides rest aside (place_at now struck done spent values) is under_way

  so_many_rounds : length its.half.spent ≡ aside.spent
  so_many_rounds = its.halfway.so_many_spent ∙ ap (λ (a : Aside). a.spent) its.aside_is

  -- a level of the values was opened at it
  pub opened : (before : BranchValues) × IsLevelOver before values
  opened = (its.half.values, its.halfway.level)

  struck_then : take aside.struck struck ≡ its.half.struck
  struck_then = front_is its.half.struck its.halfway.struck_later struck aside.struck
      (its.halfway.so_many_struck ∙ ap (λ (a : Aside). a.struck) its.aside_is) its.halfway.struck_are

  done_then : take aside.done done ≡ its.half.done
  done_then = front_is its.half.done its.halfway.done_later done aside.done
      (its.halfway.so_many_done ∙ ap (λ (a : Aside). a.done) its.aside_is) its.halfway.done_are

  spent_then : take aside.spent spent ≡ its.half.spent
  spent_then = front_is its.half.spent its.halfway.spent_later spent aside.spent so_many_rounds its.halfway.spent_are

  module _ (back : Assertions) (closed : BranchValues)
      (went_back : (before : Assertions) → IsMark before aside.mark → KeepsLevels before now → back ≡ before)
      (right : (before : BranchValues) → IsLevelOver before values → before.lost ≡ false → (stood : Assertions)
      (places : List (ℕ × ℕ)) → AreValuesOf stood places before → AreValuesOf stood places closed)
      (levels : (before outer : BranchValues) → IsLevelOver before values → IsLevelOver outer before →
      IsLevelOver outer closed) where
    is_back : back ≡ its.half.before
    is_back = went_back its.half.before
        (subst (λ (a : Aside). IsMark its.half.before a.mark) its.aside_is its.halfway.mark) its.halfway.keeps

    -- then more is held than at the start
    pub keeps_back : KeepsLevels start back
    keeps_back = subst (KeepsLevels start) (sym is_back)
        (halves_over both start its.halves rest (place_of its.half) its.are)

    right_back : AreValuesOf its.half.before its.half.struck closed
    right_back = right its.half.values its.halfway.level its.halfway.is_half.calm its.half.before its.half.struck
        its.halfway.is_half.right

    abbrev place_back : Place
    place_back = place_at its.half.before its.half.struck its.half.done its.half.spent closed

    comes_back : ComesTo (place_of its.half) place_back
    comes_back = record {
      keeps = same its.half.before;
      struck = [];
      struck_are = sym (append-nil its.half.struck);
      done = [];
      done_are = sym (append-nil its.half.done);
      spent = [];
      spent_are = sym (append-nil its.half.spent);
      levels = λ outer. levels its.half.values outer its.halfway.level;
    }

    its_second : IsStep now.formulas (branch_of now struck) Lost →
        IsAgainAt rounds start rest place_back its.half.aside
    its_second step = record {
      node = its.half.node;
      is_half = record {
        has = its.halfway.is_half.has;
        parts = its.halfway.is_half.parts;
        is_or = its.halfway.is_half.is_or;
        at_place = its.halfway.is_half.at_place;
        right = right_back;
        calm = calm_alike its.half.before its.half.struck its.half.values closed its.halfway.is_half.right
            its.halfway.is_half.calm right_back;
        places = its.halfway.is_half.places;
        lives = its.halfway.is_half.lives;
      };
      halves = its.halves;
      are = halves_more both start its.halves rest (place_of its.half) place_back comes_back its.are;
      way = takes_up rounds (first_path start.formulas (held_of start)) its.half its.halves
          (path_in (place_at now struck done spent values)) its.way step;
      not_past = let all : length spent ≡ length its.half.spent + length its.halfway.spent_later =
          ap length its.halfway.spent_are ∙ length-append its.half.spent its.halfway.spent_later in
          let past = under_way.not_past in omega (arith, all, past);
    }

    -- and its second half is to come
    pub again_there : (done_back : List Instance) (spent_back : List ℕ) → done_back ≡ take aside.done done →
        spent_back ≡ take aside.spent spent → IsStep now.formulas (branch_of now struck) Lost →
        IsAgainAt rounds start rest (place_at back (take aside.struck struck) done_back spent_back closed) aside
    again_there done_back spent_back done_is spent_is step =
        subst (λ (stood : Assertions). IsAgainAt rounds start rest
        (place_at stood (take aside.struck struck) done_back spent_back closed) aside)
        (sym is_back)
        (subst (λ (places : List (ℕ × ℕ)). IsAgainAt rounds start rest
        (place_at its.half.before places done_back spent_back closed) aside)
        (sym struck_then)
        (subst (λ (instances : List Instance). IsAgainAt rounds start rest
        (place_at its.half.before its.half.struck instances spent_back closed) aside)
        (sym (done_is ∙ done_then))
        (subst (λ (counts : List ℕ). IsAgainAt rounds start rest
        (place_at its.half.before its.half.struck its.half.done counts closed) aside)
        (sym (spent_is ∙ spent_then))
        (subst (IsAgainAt rounds start rest place_back) its.aside_is (its_second step)))))
