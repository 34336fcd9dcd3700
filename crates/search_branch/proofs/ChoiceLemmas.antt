-- Units, open and stuck disjunctions by what is given are those in the branch.
use Rattle.std.proofs.Common.{◌≡◌, ℕ, ◌<◌, Bool, true, false, List, length, Contains, refl, sym, subst}
use Rattle.std.proofs.lemmas.Option.{slice_get-get_or, slice_get_within, get_or_from_slice_get}
use Rattle.std.proofs.lemmas.List.Elements.{Contains-get_or}
use Rattle.formula_table.specs.declared.node.Node.TheVariants.{Or}
use Rattle.formula_table.specs.Formulas.{Formulas, IsFormulaTable}
use Rattle.search_board.specs.declared.kind.Kind.TheVariants.{Or as OrKind}
use Rattle.search_values.specs.Given as by_nodes
use Rattle.search_values.specs.Given.{Given, HasPlace, HasYes, kind_of, parts_of, part_of}
use Rattle.search_laws.specs.Branch.{Branch, IsYesIn, IsNoIn}
use Rattle.search_laws.specs.Closing.{IsAssertedOr, IsLeftOver, HasNoYesPart, IsUnit, IsFirstUnit, IsOpen, IsSplit}
use Rattle.search_branch.specs.Given.{IsGivenBy}
use Rattle.search_branch.proofs.NodeLemmas.{kind_is, parts_is, or_stands, or_has}
use Rattle.search_branch.proofs.ValueLemmas.{below, among_place, yes_to, no_to, yes_from, no_from}

not_true : (flag : Bool) → (flag ≡ true → ⊥) → flag ≡ false
not_true true other = absurd (other refl)
not_true false other = refl

both : (flag : Bool) → flag ≡ true → flag ≡ false → ⊥
both flag on off = cc

module _ (formulas : Formulas) (branch : Branch) (given : Given) (table : IsFormulaTable formulas)
    (is : IsGivenBy formulas branch.held branch.struck given) where
  pub stands : (n : ℕ) → kind_of given n ≡ OrKind → n < length formulas.nodes
  stands n is_or = or_stands formulas branch.held branch.struck given is n is_or

  -- an asserted disjunction, with its parts
  pub or_to : (n : ℕ) → by_nodes.IsAssertedOr given n → IsAssertedOr formulas branch n (parts_of given n)
  or_to n is_or = record {
    asserted = (is.asserted n (stands n is_or.is_or)).0 is_or.asserted;
    has = or_has formulas branch.held branch.struck given is n is_or.is_or;
  }

  pub or_from : (n : ℕ) (parts : List ℕ) → IsAssertedOr formulas branch n parts → by_nodes.IsAssertedOr given n
  or_from n parts is_or = record {
    is_or = kind_is formulas branch.held branch.struck given is n (Or parts) is_or.has;
    asserted = (is.asserted n (slice_get_within formulas.nodes n (Or parts) is_or.has)).1 is_or.asserted;
  }

  pub its_parts : (n : ℕ) (parts : List ℕ) → IsAssertedOr formulas branch n parts → parts ≡ parts_of given n
  its_parts n parts is_or = sym (parts_is formulas branch.held branch.struck given is n (Or parts) is_or.has)

  module _ (n : ℕ) (is_or : kind_of given n ≡ OrKind) where
    part_below : (i : ℕ) → HasPlace given n i → part_of given n i < length formulas.nodes
    part_below i place = below formulas branch given table is n i (stands n is_or) place

    -- a place left over
    pub left_to : (i : ℕ) → by_nodes.IsLeftOver given n i →
        IsLeftOver formulas branch n (parts_of given n) i (part_of given n i)
    left_to i left = record {
      at_place = slice_get-get_or (parts_of given n) i 0 left.place;
      not_no = λ denied. left.not_no (no_from formulas branch given table is denied);
      not_struck = λ listed. both (given.struck n i) ((is.struck_are n i (stands n is_or)).1 listed) left.not_struck;
    }

    pub part_is : (i part : ℕ) → IsLeftOver formulas branch n (parts_of given n) i part → part_of given n i ≡ part
    part_is i part left = get_or_from_slice_get (parts_of given n) i part 0 left.at_place

    pub left_from : (i part : ℕ) → IsLeftOver formulas branch n (parts_of given n) i part →
        by_nodes.IsLeftOver given n i
    left_from i part left =
        let place = slice_get_within (parts_of given n) i part left.at_place in
        record {
          place = place;
          not_no = λ denied. left.not_no (subst (IsNoIn formulas branch) (part_is i part left)
              (no_to formulas branch given table is (part_below i place) denied));
          not_struck = not_true (given.struck n i)
              (λ on. left.not_struck ((is.struck_are n i (stands n is_or)).0 on));
        }

    -- no part is Yes
    pub no_yes_from : HasNoYesPart formulas branch (parts_of given n) → by_nodes.HasNoYesPart given n
    no_yes_from none i place known = none (part_of given n i) (Contains-get_or (parts_of given n) i 0 place)
        (yes_to formulas branch given table is (part_below i place) known)

    -- whether a part is asserted
    asserted_to : (i : ℕ) → HasPlace given n i → given.asserted (part_of given n i) ≡ false →
        Contains branch.held.asserted (part_of given n i) → ⊥
    asserted_to i place off listed = both (given.asserted (part_of given n i))
        ((is.asserted (part_of given n i) (part_below i place)).1 listed) off

    asserted_from : (i : ℕ) → HasPlace given n i → (Contains branch.held.asserted (part_of given n i) → ⊥) →
        given.asserted (part_of given n i) ≡ false
    asserted_from i place other = not_true (given.asserted (part_of given n i))
        (λ on. other ((is.asserted (part_of given n i) (part_below i place)).0 on))

    unit_over : (part : ℕ) (unit : IsUnit formulas branch n part) → unit.parts ≡ parts_of given n →
        (i : ℕ) × by_nodes.IsUnit given n i
    unit_over part unit same =
        let left = subst (λ (parts : List ℕ). IsLeftOver formulas branch n parts unit.place part) same unit.left in
        let here = left_from unit.place part left in (
          unit.place,
          record {
            is_or = or_from n unit.parts unit.is_or;
            no_yes = no_yes_from (subst (HasNoYesPart formulas branch) same unit.no_yes);
            left = here;
            only = λ j other. unit.only j (part_of given n j)
                (subst (λ (parts : List ℕ). IsLeftOver formulas branch n parts j (part_of given n j)) (sym same)
                (left_to j other));
            not_asserted = asserted_from unit.place here.place (λ listed. unit.not_asserted
                (subst (Contains branch.held.asserted) (part_is unit.place part left) listed));
          },
        )

  -- a unit in the branch is one by what is given
  pub unit_from : (n part : ℕ) → IsUnit formulas branch n part → (i : ℕ) × by_nodes.IsUnit given n i
  unit_from n part unit = unit_over n (or_from n unit.parts unit.is_or).is_or part unit
      (its_parts n unit.parts unit.is_or)

  -- nothing is left over
  pub none_to : (n : ℕ) → by_nodes.IsStuck given n → (place part : ℕ) →
      IsLeftOver formulas branch n (parts_of given n) place part → ⊥
  none_to n stuck place part left = stuck.none place (left_from n stuck.is_or.is_or place part left)

  pub stuck_from : (n : ℕ) (parts : List ℕ) → IsAssertedOr formulas branch n parts →
      ((place part : ℕ) → IsLeftOver formulas branch n parts place part → ⊥) → by_nodes.IsStuck given n
  stuck_from n parts is_or none = record {
    is_or = or_from n parts is_or;
    none = λ i left. none i (part_of given n i)
        (subst (λ (parts : List ℕ). IsLeftOver formulas branch n parts i (part_of given n i))
        (sym (its_parts n parts is_or)) (left_to n (or_from n parts is_or).is_or i left));
  }

  -- an open disjunction in the branch is one by what is given
  pub open_from : (n : ℕ) (parts : List ℕ) → IsOpen formulas branch n parts → by_nodes.IsOpen given n
  open_from n parts is_open = record {
    is_or = or_from n parts is_open.0;
    no_yes = no_yes_from n (or_from n parts is_open.0).is_or
        (subst (HasNoYesPart formulas branch) (its_parts n parts is_open.0) is_open.1);
  }

  -- a disjunction with a Yes part has one in the branch
  pub yes_part_to : (n : ℕ) (parts : List ℕ) → IsAssertedOr formulas branch n parts → by_nodes.HasYesPart given n →
      (part : ℕ) × Contains parts part × IsYesIn formulas branch part
  yes_part_to n parts is_or found = (
    part_of given n found.0,
    subst (λ (parts : List ℕ). Contains parts (part_of given n found.0)) (sym (its_parts n parts is_or))
        (Contains-get_or (parts_of given n) found.0 0 found.1),
    yes_to formulas branch given table is
        (below formulas branch given table is n found.0 (stands n (or_from n parts is_or).is_or) found.1) found.2,
  )

  no_yes_to : (n : ℕ) → by_nodes.HasNoYesPart given n → HasNoYesPart formulas branch (parts_of given n)
  no_yes_to n none part among known =
      let at = among_place formulas branch given table is n part (parts_of given n) refl among in
      none at.0 at.1 (subst (HasYes given) (sym at.2) (yes_from formulas branch given table is known))

  -- a unit by what is given is one in the branch
  unit_to : (n i : ℕ) → by_nodes.IsUnit given n i → IsUnit formulas branch n (part_of given n i)
  unit_to n i unit = record {
    parts = parts_of given n;
    place = i;
    is_or = or_to n unit.is_or;
    no_yes = no_yes_to n unit.no_yes;
    left = left_to n unit.is_or.is_or i unit.left;
    only = λ j part other. unit.only j (left_from n unit.is_or.is_or j part other);
    not_asserted = asserted_to n unit.is_or.is_or i unit.left.place unit.not_asserted;
  }

  pub first_unit_to : (n i : ℕ) → by_nodes.IsFirstUnit given n i →
      IsFirstUnit formulas branch n (part_of given n i)
  first_unit_to n i first = record {
    is_unit = unit_to n i first.is_unit;
    first = λ m part less unit. let other = unit_from m part unit in first.first m other.0 less other.1;
  }

  -- the split by what is given is that in the branch
  pub split_to : (n i : ℕ) → by_nodes.IsSplit given n i → IsSplit formulas branch n i (part_of given n i)
  split_to n i split = record {
    parts = parts_of given n;
    is_open = (or_to n split.is_open.is_or, no_yes_to n split.is_open.no_yes);
    first = λ m parts less other. split.first m less (open_from m parts other);
    left = left_to n split.is_open.is_or.is_or i split.left;
    first_left = λ j part less other. split.first_left j less (left_from n split.is_open.is_or.is_or j part other);
  }
