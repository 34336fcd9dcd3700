-- A search goes on.
use Rattle.std.proofs.Common.{◌≡◌, ℕ, ◌<◌, true, List, [], ◌∷◌, ◌++◌, length, get_or, All, refl, sym, ap, subst, ◌∙◌}
use Rattle.std.proofs.Common.{append-nil, Contains, arith}
use Rattle.std.proofs.lemmas.List.Elements.{All-nil, All-cons, All-append, All-weaker, All-contains_itself}
use Rattle.std.proofs.lemmas.Option.{slice_get-get_or, slice_get_within}
use Rattle.graph_meaning.specs.State.{replay}
use Rattle.match_store.specs.declared.instance.Instance.{Instance}
use Rattle.formula_table.specs.declared.node.Node.{Node}
use Rattle.formula_table.specs.declared.node.Node.TheVariants.{Atom}
use Rattle.formula_table.specs.Formulas.{Formulas}
use Rattle.formula_value.specs.Holds.{HasNode}
use Rattle.formula_assert.specs.Held.{Held, held, refuting_of}
use Rattle.formula_assert.specs.Assertions.{Assertions, held_of}
use Rattle.formula_assert.specs.Asserts.{Asserts}
use Rattle.formula_assert.specs.Exactly.{HoldsExactly}
use Rattle.formula_assert.specs.InLevel.{KeepsLevels, HoldsMoreOver}
use Rattle.formula_assert.specs.Mark.{IsMark}
use Rattle.search_laws.specs.Branch.{live_in}
use Rattle.search_laws.specs.Path.{first_path}
use Rattle.search_laws.specs.Verdict.{sat, Verdict}
use Rattle.search_branch.specs.declared.branch_values.BranchValues.{BranchValues}
use Rattle.search_branch.specs.declared.step.Step.TheVariants.{Assert, Split, WayOut}
use Rattle.search_branch.specs.Right.{AreValuesOf}
use Rattle.search_branch.specs.Levels.{IsLevelOver}
use Rattle.search_branch.specs.Steps.{branch_of, IsStep}
use Rattle.search_branch.specs.Struck.{IsPlaceOf}
use Rattle.search_check.specs.declared.aside.Aside.{Aside}
use Rattle.search_check.specs.Round.{path_at, LivesAreAsserted}
use Rattle.search_check.specs.UnderWay.{Place, Half, IsOnTheWay, IsUnderWay, IsAgainAt}
use Rattle.search_check.proofs.HalfLemmas.{calm_here, halves_more}
use Rattle.search_check.proofs.LivesLemmas.{refuted_lives}
use Rattle.search_check.proofs.WayLemmas.{starts, steps, ends, splits}

-- where a search stands
abbrev pub place_at : Assertions → List (ℕ × ℕ) → List Instance → List ℕ → BranchValues → Place
place_at now struck done spent values =
    record { now = now; struck = struck; done = done; spent = spent; values = values }

-- each asserted node stands in the table at the start, and each live trigger comes from an asserted forall
lives_at_start : (formulas : Formulas) (now : Held) → HoldsExactly formulas now → LivesAreAsserted formulas now
lives_at_start formulas now exact = record {
  nodes = All-weaker (Contains now.asserted) (λ n. n < length formulas.nodes)
      (λ n c. let node = exact.nodes n c in slice_get_within formulas.nodes n node.0 node.1) now.asserted
      (All-contains_itself now.asserted);
  lives = exact.lives;
}

-- nothing is split at first, and no round is spent
pub begins : (rounds : ℕ) (start : Assertions) (asides : List Aside) (struck : List (ℕ × ℕ)) (done : List Instance)
    (spent : List ℕ) (values : BranchValues) → KeepsLevels start start → asides ≡ [] →
    struck ≡ [] → done ≡ [] → spent ≡ [] → AreValuesOf start [] values →
    HoldsExactly start.formulas (held_of start) →
    IsUnderWay rounds start asides (place_at start struck done spent values)
begins rounds start asides struck done spent values same no_aside none_struck none_done none_spent right exact =
    let first = first_path start.formulas (held_of start) in
    record {
      halves = [];
      are = (no_aside, same);
      way = subst (λ (places : List (ℕ × ℕ)). IsOnTheWay rounds first [] (path_at start places done spent))
          (sym none_struck)
          (subst (λ (instances : List Instance). IsOnTheWay rounds first [] (path_at start [] instances spent))
          (sym none_done)
          (subst (λ (counts : List ℕ). IsOnTheWay rounds first [] (path_at start [] [] counts)) (sym none_spent)
          (starts rounds first)));
      right = subst (λ (places : List (ℕ × ℕ)). AreValuesOf start places values) (sym none_struck) right;
      places = subst (All (IsPlaceOf start.formulas.nodes)) (sym none_struck)
          (All-nil (IsPlaceOf start.formulas.nodes));
      lives = lives_at_start start.formulas (held_of start) exact;
      not_past = let none = ap length none_spent in omega (arith, none);
    }

module _ (over_law : (before after : Assertions) → HoldsMoreOver before after → KeepsLevels before after)
    (both : (first second third : Assertions) → KeepsLevels first second → KeepsLevels second third →
    KeepsLevels first third)
    (rounds : ℕ) (start now : Assertions) (asides : List Aside) (struck : List (ℕ × ℕ)) (done : List Instance)
    (spent : List ℕ) (values : BranchValues)
    (under_way : IsUnderWay rounds start asides (place_at now struck done spent values)) where
  module _ (next : Assertions) (part : ℕ) (values_next : BranchValues) (over : HoldsMoreOver now next)
      (asserts : Asserts now.formulas part (held_of now) (held_of next)) (right : AreValuesOf next struck values_next)
      (lives : LivesAreAsserted next.formulas (held_of next)) where
    places_next : All (IsPlaceOf next.formulas.nodes) struck
    places_next = subst (λ (formulas : Formulas). All (IsPlaceOf formulas.nodes) struck) (sym over.formulas_are)
        under_way.places

    -- the part of the first unit was asserted
    pub unit_asserted : ((before : BranchValues) → IsLevelOver before values → IsLevelOver before values_next) →
        IsStep now.formulas (branch_of now struck) (Assert part) →
        IsUnderWay rounds start asides (place_at next struck done spent values_next)
    unit_asserted levels step = record {
      halves = under_way.halves;
      are = halves_more both start under_way.halves asides (place_at now struck done spent values)
          (place_at next struck done spent values_next)
          (record {
            keeps = over_law now next over;
            struck = [];
            struck_are = sym (append-nil struck);
            done = [];
            done_are = sym (append-nil done);
            spent = [];
            spent_are = sym (append-nil spent);
            levels = levels;
          })
          under_way.are;
      way = subst (λ (formulas : Formulas). IsOnTheWay rounds (first_path start.formulas (held_of start))
          under_way.halves
          (record { formulas = formulas; branch = branch_of next struck; done = done; spent = spent }))
          (sym over.formulas_are)
          (steps rounds (first_path start.formulas (held_of start)) under_way.halves (path_at now struck done spent)
          under_way.way step.0 (held_of next) step.1 part step.2 asserts);
      right = right;
      places = places_next;
      lives = lives;
      not_past = under_way.not_past;
    }

    -- a split was put aside, and its part asserted in a level of its own
    pub split_asserted : (aside : Aside) (more : List Aside) → aside.part ≡ part →
        IsStep now.formulas (branch_of now struck) (Split aside.node aside.place part) → IsMark now aside.mark →
        length struck ≡ aside.struck → length done ≡ aside.done → length spent ≡ aside.spent →
        part < length now.formulas.nodes → more ≡ asides ++ aside ∷ [] → IsLevelOver values values_next →
        IsUnderWay rounds start more (place_at next struck done spent values_next)
    split_asserted aside more part_is step mark so_many_struck so_many_done so_many_spent within put level =
        let node : Node = get_or now.formulas.nodes part (Atom true 0) in
        let has : HasNode now.formulas.nodes part node = slice_get-get_or now.formulas.nodes part
        (Atom true 0) within in
        let half : Half = record {
          before = now;
          struck = struck;
          done = done;
          spent = spent;
          values = values;
          aside = record aside { part = part };
          node = node;
        } in
        let same : half.aside ≡ aside = ap (λ (p : ℕ). record aside { part = p }) (sym part_is) in
        record {
          halves = half ∷ under_way.halves;
          are = (
            asides,
            put ∙ ap (λ (last : Aside). asides ++ last ∷ []) (sym same),
            record {
              is_half = record {
                has = has;
                parts = step.2.parts;
                is_or = step.2.is_open.0.has;
                at_place = step.2.left.at_place;
                right = under_way.right;
                calm = calm_here now struck values under_way.right step.0;
                places = under_way.places;
                lives = under_way.lives;
              };
              mark = mark;
              keeps = over_law now next over;
              so_many_struck = so_many_struck;
              so_many_done = so_many_done;
              so_many_spent = so_many_spent;
              struck_later = [];
              struck_are = sym (append-nil struck);
              done_later = [];
              done_are = sym (append-nil done);
              spent_later = [];
              spent_are = sym (append-nil spent);
              level = level;
            },
            under_way.are,
          );
          way = subst (λ (formulas : Formulas). IsOnTheWay rounds (first_path start.formulas (held_of start))
              (half ∷ under_way.halves)
              (record { formulas = formulas; branch = branch_of next struck; done = done; spent = spent }))
              (sym over.formulas_are)
              (splits rounds (first_path start.formulas (held_of start)) half under_way.halves (held_of next)
              under_way.way step.0 step.1 step.2 asserts has);
          right = right;
          places = places_next;
          lives = lives;
          not_past = under_way.not_past;
        }

module _ (rounds : ℕ) (start now : Assertions) (asides : List Aside) (struck : List (ℕ × ℕ)) (done : List Instance)
    (spent : List ℕ) (values : BranchValues)
    (under_way : IsUnderWay rounds start asides (place_at now struck done spent values)) where
  -- nothing is open, and no forall is live
  pub ends_here : IsStep now.formulas (branch_of now struck) WayOut →
      live_in now.formulas (branch_of now struck) ≡ [] →
      Verdict rounds (first_path start.formulas (held_of start)) (sat (path_at now struck done spent))
  ends_here step live = ends rounds (first_path start.formulas (held_of start)) under_way.halves
      (path_at now struck done spent) under_way.way step.0 step.1 step.2 live

-- the second half is taken up
module _ (over_law : (before after : Assertions) → HoldsMoreOver before after → KeepsLevels before after)
    (both : (first second third : Assertions) → KeepsLevels first second → KeepsLevels second third →
    KeepsLevels first third)
    (rounds : ℕ) (start now : Assertions) (asides : List Aside) (struck : List (ℕ × ℕ)) (done : List Instance)
    (spent : List ℕ) (values : BranchValues) (aside : Aside)
    (again : IsAgainAt rounds start asides (place_at now struck done spent values) aside) where
  pub second_refuted : (next : Assertions) (places : List (ℕ × ℕ)) (values_next : BranchValues) →
      HoldsMoreOver now next →
      ((node : Node) → HasNode now.formulas.nodes aside.part node →
      held_of next ≡ held (replay now.graph (refuting_of node)) now.asserted) →
      places ≡ struck ++ (aside.node, aside.place) ∷ [] →
      AreValuesOf next (struck ++ (aside.node, aside.place) ∷ []) values_next →
      ((before : BranchValues) → IsLevelOver before values → IsLevelOver before values_next) →
      IsUnderWay rounds start asides (place_at next places done spent values_next)
  second_refuted next places values_next over refuted put right levels =
      let more : List (ℕ × ℕ) = (aside.node, aside.place) ∷ [] in
      let first = first_path start.formulas (held_of start) in
      let is : held_of next ≡ held (replay now.graph (refuting_of again.node)) now.asserted =
      refuted again.node again.is_half.has in
      subst (λ (all : List (ℕ × ℕ)). IsUnderWay rounds start asides (place_at next all done spent values_next))
      (sym put) (record {
        halves = again.halves;
        are = halves_more both start again.halves asides (place_at now struck done spent values)
            (place_at next (struck ++ more) done spent values_next)
            (record {
              keeps = over_law now next over;
              struck = more;
              struck_are = refl;
              done = [];
              done_are = sym (append-nil done);
              spent = [];
              spent_are = sym (append-nil spent);
              levels = levels;
            })
            again.are;
        way = subst (λ (formulas : Formulas). IsOnTheWay rounds first again.halves (record {
          formulas = formulas;
          branch = record { held = held_of next; struck = struck ++ more };
          done = done;
          spent = spent;
        }))
            (sym over.formulas_are)
            (subst (λ (now_held : Held). IsOnTheWay rounds first again.halves (record {
              formulas = now.formulas;
              branch = record { held = now_held; struck = struck ++ more };
              done = done;
              spent = spent;
            }))
            (sym is) again.way);
        right = right;
        places = subst (λ (formulas : Formulas). All (IsPlaceOf formulas.nodes) (struck ++ more)) (sym over.formulas_are)
            (All-append (IsPlaceOf now.formulas.nodes) struck more again.is_half.places
            (All-cons (IsPlaceOf now.formulas.nodes) (aside.node, aside.place) [] (record {
              parts = again.is_half.parts;
              part = aside.part;
              is_or = again.is_half.is_or;
              at_place = again.is_half.at_place;
            }) (All-nil (IsPlaceOf now.formulas.nodes))));
        lives = subst (λ (formulas : Formulas). LivesAreAsserted formulas (held_of next)) (sym over.formulas_are)
            (subst (LivesAreAsserted now.formulas) (sym is)
            (refuted_lives now.formulas (held_of now) again.node again.is_half.lives));
        not_past = again.not_past;
      })
