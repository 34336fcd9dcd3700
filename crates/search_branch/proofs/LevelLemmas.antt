-- A level of values ends.
use Rattle.std.proofs.Common.{◌≡◌, ℕ, ◌-◌, false, List, [], ◌∷◌, ◌++◌, length, take, reverse, refl, sym}
use Rattle.std.proofs.Common.{ap, ap₂, subst, ◌∙◌, arith}
use Rattle.std.specs.Prelude.{slice_index_or}
use Rattle.std.proofs.lemmas.List.{length-append, reverse-append, reverse-reverse, take-append-le, take_all}
use Rattle.formula_assert.specs.Assertions.{Assertions, held_of}
use Rattle.search_board.specs.Board.{Shown}
use Rattle.search_values.specs.GivenBy.{given_by}
use Rattle.search_values.specs.Kept.{Kept, given_of, popped}
use Rattle.search_watch.specs.declared.mark.Mark.{Mark}
use Rattle.search_watch.specs.Back.{IsMark, CanGoBack}
use Rattle.search_watch.specs.Service.{Serves, service}
use Rattle.search_branch.specs.declared.branch_values.BranchValues.{BranchValues}
use Rattle.search_branch.specs.Given.{IsGivenBy, ends_of}
use Rattle.search_branch.specs.Right.{AreValuesOf}
use Rattle.search_branch.specs.Levels.{IsLevelOver}

module _ {X : Type 0} where
  at_end : (xs : List X) (x other : X) → slice_index_or (xs ++ x ∷ []) (length xs) other ≡ x
  at_end [] x other = refl
  at_end (y ∷ ys) x other = at_end ys x other

  one_less : (xs : List X) (x : X) → length (xs ++ x ∷ []) - 1 ≡ length xs
  one_less xs x = omega (arith, length-append xs (x ∷ []))

  -- the last of a list, and what stands before it
  last_is : (all xs : List X) (x other : X) → all ≡ xs ++ x ∷ [] → slice_index_or all (length all - 1) other ≡ x
  last_is all xs x other is =
      ap (λ (ys : List X). slice_index_or ys (length ys - 1) other) is
      ∙ ap (λ (k : ℕ). slice_index_or (xs ++ x ∷ []) k other) (one_less xs x) ∙ at_end xs x other

  before_last : (all xs : List X) (x : X) → all ≡ xs ++ x ∷ [] → take (length all - 1) all ≡ xs
  before_last all xs x is =
      ap (λ (ys : List X). take (length ys - 1) ys) is ∙ ap (λ (k : ℕ). take k (xs ++ x ∷ [])) (one_less xs x)
      ∙ take-append-le (length xs) xs (x ∷ []) (omega arith) ∙ take_all (length xs) xs (omega arith)

  -- lists that are equal with an element at each end are equal without
  module _ (xs ys : List X) (x y : X) (same : xs ++ x ∷ [] ≡ ys ++ y ∷ []) where
    backwards : x ∷ reverse xs ≡ y ∷ reverse ys
    backwards = sym (reverse-append xs (x ∷ [])) ∙ ap reverse same ∙ reverse-append ys (y ∷ [])

    same_last : x ≡ y
    same_last = cc backwards

    same_front : xs ≡ ys
    same_front = let turned : reverse xs ≡ reverse ys = cc backwards in
        sym (reverse-reverse xs) ∙ ap reverse turned ∙ reverse-reverse ys

-- the last mark was taken from a level that is open
module _ (before now : BranchValues) (over : IsLevelOver before now) (marks : List Mark) (mark : Mark)
    (taken : now.marks.items ≡ marks ++ mark ∷ []) where
  both : before.marks.items ++ over.mark ∷ [] ≡ marks ++ mark ∷ []
  both = sym over.marks ∙ taken

  -- it is the mark of the earlier watch
  pub its_mark : IsMark before.watch mark
  its_mark = subst (IsMark before.watch) (same_last before.marks.items marks over.mark mark both) over.is_mark

  -- the level ended
  module _ (new : BranchValues) (nodes : new.values ≡ popped now.values) (left : new.marks.items ≡ marks)
      (watch : new.watch ≡ before.watch) (found : new.lost ≡ false) where
    shown_back : new.values.shown ≡ before.values.shown
    shown_back = ap (λ (kept : Kept). kept.shown) nodes
        ∙ last_is now.values.saved before.values.saved before.values.shown now.values.shown over.saved

    -- only the nodes that stood then are left
    parts_back : new.values.parts ≡ before.values.parts
    parts_back =
        let count : length new.values.shown.kinds ≡ length before.values.parts =
        ap (λ (shown : Shown). length shown.kinds) shown_back ∙ sym over.each in
        ap (λ (kept : Kept). kept.parts) nodes
        ∙ ap (λ (shown : Shown). take (length shown.kinds) now.values.parts)
        (sym (ap (λ (kept : Kept). kept.shown) nodes))
        ∙ ap₂ (λ (k : ℕ) (parts : List (List ℕ)). take k parts) count over.parts
        ∙ take-append-le (length before.values.parts) before.values.parts over.more (omega arith)
        ∙ take_all (length before.values.parts) before.values.parts (omega arith)

    given_back : given_of new.values ≡ given_of before.values
    given_back = ap₂ given_by parts_back shown_back

    -- the values are those that were right when it was opened
    pub right_back : before.lost ≡ false → (stood : Assertions) (struck : List (ℕ × ℕ)) →
        AreValuesOf stood struck before → AreValuesOf stood struck new
    right_back calm stood struck right =
        let current = right.current calm in
        record {
          table = right.table;
          lost = (λ lost. right.lost.0 (calm ∙ sym found ∙ lost), λ clash. found ∙ sym calm ∙ right.lost.1 clash);
          current = λ same. record {
            given = subst (IsGivenBy stood.formulas (held_of stood) struck) (sym given_back) current.given;
            serves = subst (Serves (service stood.graph.standing (ends_of 0 stood.formulas.nodes)
                (length stood.formulas.nodes))) (sym watch) current.serves;
          };
        }

    -- the level around it is the innermost one
    pub outer_level : (outer : BranchValues) → IsLevelOver outer before → IsLevelOver outer new
    outer_level outer around = record {
      each = around.each;
      more = around.more;
      parts = parts_back ∙ around.parts;
      saved = ap (λ (kept : Kept). kept.saved) nodes
          ∙ before_last now.values.saved before.values.saved before.values.shown over.saved ∙ around.saved;
      mark = around.mark;
      marks = left ∙ sym (same_front before.marks.items marks over.mark mark both) ∙ around.marks;
      is_mark = around.is_mark;
      back = subst (CanGoBack outer.watch) (sym watch) around.back;
    }
