use Rattle.std.proofs.Common.{◌≡◌, ◌+◌, ◌++◌, ◌∷◌, [], List, take, Some, sym, ap, subst, ◌∙◌}
use Rattle.std.proofs.lemmas.Grind.{take_at_read}
use Rattle.std.proofs.lemmas.List.{take_all}
use Rattle.std.proofs.lemmas.Option.{slice_get-get_or}
use Rattle.std.proofs.lemmas.Result.{err_from_is_err_and}
use Rattle.match_store.specs.declared.instance.Instance.{Instance}
use Rattle.search_laws.specs.Rounds.{EntersAll}
use Rattle.search_laws.specs.Rounds as entering
use Rattle.search_check.specs.Round.{path_at, CanEnter}
use Rattle.search_check.proofs.GrowthLemmas.{all_can_still}
use Rattle.search_check.proofs.StandLemmas.{stand_still}
use Rattle.search_check.proofs.EnteredLemmas.{enters_next, asserts_enters, overflows}
use Rattle.search_check.proofs.round.enter_all.Goals as goal

pub loop-instance-init : goal.loop-instance-init
loop-instance-init c = record {
  enters = λ struck spent. entering.EntersAll.none;
  keeps = c.over_law.ensures.same c.args.stack.now;
  can = c.requires.can;
  right = λ struck places right. right;
  level = λ before over. over;
}

pub enter-requires-clause-can : goal.enter-requires-clause-can
enter-requires-clause-can c = subst (CanEnter c.loop-instance.stack) (sym c.instance-item.is)
    (c.loop-instance.invariant.can c.loop-instance.instance-index c.instance-item.result c.loop-instance-test.true)

pub enter-requires-clause-values : goal.enter-requires-clause-values
enter-requires-clause-values c =
    let struck = c.requires.values.0 in
    let places = c.requires.values.1 in (
      struck,
      stand_still c.args.stack.now c.loop-instance.stack (take c.loop-instance.instance-index c.args.instances.now)
          struck c.args.done.now c.loop-instance.done c.loop-instance.invariant.keeps
          (c.loop-instance.invariant.enters struck []) c.requires.lives places,
      c.loop-instance.invariant.right struck places c.requires.values.2,
    )

pub returns-in_err-enter-clause-limit : goal.returns-in_err-enter-clause-limit
returns-in_err-enter-clause-limit c =
    let instances = c.args.instances.now in
    let index = c.loop-instance.instance-index in
    let instance = c.instance-item.result in
    let p = err_from_is_err_and c.from_residual.result c.from_residual.ensures.1 in
    rw (p.1, p.2)
    (λ is struck spent. overflows instances index instance (path_at c.args.stack.now struck c.args.done.now spent)
    c.loop-instance.stack c.enter.new.stack struck c.loop-instance.done spent c.in_err-enter.field-0.0
    (slice_get-get_or instances index instance c.loop-instance-test.true ∙ ap Some (sym c.instance-item.is))
    (c.loop-instance.invariant.enters struck spent) is (c.in_err-enter.ensures.fault is))

pub loop-instance-preserved : goal.loop-instance-preserved
loop-instance-preserved c =
    let instances = c.args.instances.now in
    let index = c.loop-instance.instance-index in
    let instance = c.instance-item.result in
    let grown : take (index + 1) instances ≡ take index instances ++ instance ∷ [] =
    (take_at_read instances index instance c.loop-instance-test.true).1
    ∙ ap (λ (x : Instance). take index instances ++ x ∷ []) (sym c.instance-item.is) in record {
      enters = λ struck spent. subst (λ (list : List Instance). EntersAll list (path_at c.args.stack.now struck c.args.done.now
          spent) (path_at c.enter.new.stack struck c.enter.new.done spent)) (sym grown)
          (enters_next (take index instances) instance (path_at c.args.stack.now struck c.args.done.now spent)
          (path_at c.loop-instance.stack struck c.loop-instance.done spent)
          (path_at c.enter.new.stack struck c.enter.new.done spent) (c.loop-instance.invariant.enters struck spent)
          (asserts_enters instance c.loop-instance.stack c.enter.new.stack struck c.loop-instance.done c.enter.new.done
          spent c.in_ok-enter.ensures.ok.0 c.in_ok-enter.ensures.ok.1));
      keeps = c.over_law.ensures.both c.args.stack.now c.loop-instance.stack c.enter.new.stack
          c.loop-instance.invariant.keeps c.enter.ensures.levels;
      can = all_can_still c.loop-instance.stack c.enter.new.stack c.enter.ensures.levels instances
          c.loop-instance.invariant.can;
      right = λ struck places right. c.in_ok-enter.ensures.values struck
          (stand_still c.args.stack.now c.loop-instance.stack (take index instances) struck c.args.done.now
          c.loop-instance.done c.loop-instance.invariant.keeps (c.loop-instance.invariant.enters struck [])
          c.requires.lives places)
          (c.loop-instance.invariant.right struck places right);
      level = λ before over. c.in_ok-enter.ensures.level before (c.loop-instance.invariant.level before over);
    }

pub returns-clause-ok : goal.returns-clause-ok
returns-clause-ok c struck spent = subst
    (λ (list : List Instance). EntersAll list (path_at c.args.stack.now struck c.args.done.now spent)
    (path_at c.loop-instance.stack struck c.loop-instance.done spent))
    (take_all c.loop-instance.instance-index c.args.instances.now c.loop-instance-test.false)
    (c.loop-instance.invariant.enters struck spent)
