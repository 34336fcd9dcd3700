use Rattle.std.proofs.Common.{refl, sym, subst}
use Rattle.formula_truth.specs.declared.truth.Truth.{Truth}
use Rattle.formula_truth.specs.declared.truth.Truth.TheVariants.{Unset}
use Rattle.search_board.specs.Board.{Shown}
use Rattle.search_board.specs.Values.{value_of}
use Rattle.search_values.specs.History.{now}
use Rattle.search_values.specs.Changes.{EntersNode}
use Rattle.search_values.specs.Entered.{Enters}
use Rattle.search_values.specs.GivenBy.{given_by}
use Rattle.search_values.specs.KeptInside.{IsRight}
use Rattle.search_values.specs.Settled.{told_by}
use Rattle.search_values.proofs.EnterLemmas.{enter_right, enters_node}
use Rattle.search_values.proofs.noted.Noted.try_node.Goals as goal

pub returns-clause-right : goal.returns-clause-right
returns-clause-right c =
    let s = now c.args.self.now in
    let places = c.in_ok-places.places in
    let truth : Truth = value_of c.args.kind (told_by places) Unset in
    let enters : Enters c.args.wiring.now c.enter.new.self s c.args.parts c.args.kind truth places = record { grows = c.in_ok-enter.ensures.ok; told = c.in_ok-places.ensures.told; few = c.in_ok-enter_told.ensures.few; value = refl } in
    subst (λ (x : Shown). IsRight c.enter.new.self x) (sym c.in_ok-enter_told.ensures.ok)
    (enter_right c.args.wiring.now c.enter.new.self s c.requires.right c.len-count.ensures.wired c.args.parts c.args.kind truth places enters)

pub returns-clause-enters : goal.returns-clause-enters
returns-clause-enters c =
    let s = now c.args.self.now in
    let places = c.in_ok-places.places in
    let truth : Truth = value_of c.args.kind (told_by places) Unset in
    let enters : Enters c.args.wiring.now c.enter.new.self s c.args.parts c.args.kind truth places = record { grows = c.in_ok-enter.ensures.ok; told = c.in_ok-places.ensures.told; few = c.in_ok-enter_told.ensures.few; value = refl } in
    subst (λ (x : Shown). EntersNode c.args.kind c.args.parts (given_by c.args.wiring.now.parts s) (given_by c.enter.new.self.parts x)) (sym c.in_ok-enter_told.ensures.ok)
    (enters_node c.args.wiring.now c.enter.new.self s c.args.parts c.args.kind truth places c.in_ok-enter_told.ensures.aligned c.in_ok-places.ensures.none_struck enters)
