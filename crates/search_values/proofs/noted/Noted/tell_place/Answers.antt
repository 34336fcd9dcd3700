use Rattle.std.proofs.Common.{◌≡◌, ◌<◌, ◌≤◌, ◌+◌, ℕ, Bool, List, length, All, sym, ap, subst, ◌∙◌, arith}
use Rattle.formula_truth.specs.declared.truth.Truth.{Truth}
use Rattle.search_board.specs.declared.place.Place.{Place}
use Rattle.search_board.specs.Board.{Shown, truth_at, places_at, place_at, with_place}
use Rattle.search_values.specs.declared.up.Up.{Up}
use Rattle.search_values.specs.Wiring.{Wires, IsPlace, up, part_at, up_at}
use Rattle.search_values.specs.History.{now}
use Rattle.search_values.specs.Settled.{AreWires, IsSettledBut, IsSettledExcept, Waits, Raises, Tells, weight}
use Rattle.search_values.proofs.SettleLemmas.{telling, tell_step, raise_step, tells_place, tells_raise, tells_trans, weight_raise, wires_place, work_raise}
use Rattle.search_values.proofs.noted.Noted.tell_place.Goals as goal

-- the place that is told
pub record IsTold (wires : Wires) (s mid after : Shown) (work later : List ℕ) (n k : ℕ) (at : Up) (struck : Bool) : Type 0 where
  pub place : IsPlace wires at.node at.place
  pub part : part_at wires at.node at.place ≡ n
  pub is : up_at wires n k ≡ up at.node at.place
  pub same_struck : struck ≡ (place_at s at.node at.place).struck
  pub mid_is : mid ≡ with_place s at.node at.place (telling s n struck)
  pub raises : Raises at.node mid after work later

module _ (wires : Wires) (s mid after : Shown) (work later : List ℕ) (n k : ℕ) (at : Up) (struck : Bool) (are : AreWires wires s) (told : IsTold wires s mid after work later n k at struck) where
  within : at.place < length (places_at s at.node)
  within = omega (arith, are.places at.node, told.place.place)

  told_wires : AreWires wires mid
  told_wires = subst (λ (x : Shown). AreWires wires x) (sym told.mid_is) (wires_place wires s at.node at.place (telling s n struck) within are)

  told_settled : IsSettledBut (Waits wires work n k) wires s → IsSettledBut (Waits wires later n (k + 1)) wires after
  told_settled settled =
      let except = tell_step wires s are work n k at.node at.place struck told.place told.part told.is settled in
      let P : Shown → Type 0 = λ x. IsSettledExcept (Waits wires work n (k + 1)) at.node wires x in
      raise_step wires mid told_wires work n (k + 1) at.node told.place.node (subst P (sym told.mid_is) except) after later told.raises

  told_tells : Tells s after
  told_tells =
      let first = subst (λ (x : Shown). Tells s x) (sym told.mid_is) (tells_place s n at.node at.place struck within told.same_struck) in
      tells_trans s mid after first (tells_raise mid after at.node work later (omega (arith, told_wires.aligned.truths, told_wires.nodes, told.place.node)) told.raises)

  told_weight : weight after later ≤ weight s work
  told_weight =
      let w = weight_raise mid after at.node work later (omega (arith, told_wires.aligned.truths, told_wires.nodes, told.place.node)) told.raises in
      let e : weight mid work ≡ weight s work = ap (λ (x : Shown). weight x work) told.mid_is in
      omega (arith, w, e)

  told_work : All (λ m. m < length wires.parts) work → All (λ m. m < length wires.parts) later
  told_work all = work_raise mid after at.node (length wires.parts) work later told.place.node told.raises all

pub told_of : (c : goal.In_ok-raise) → IsTold c.args.wiring.now (now c.args.self.now) (now c.set_place.new.self) (now c.raise.new.self) c.args.work.now.items c.raise.new.work.items c.args.n c.args.k c.up-up.result c.place-struck.result.struck
told_of c =
    let w = c.args.wiring.now in
    let s = now c.args.self.now in
    let P : Up → Type 0 = λ u. IsPlace w u.node u.place in
    let Q : Up → Type 0 = λ u. part_at w u.node u.place ≡ c.args.n in
    let is = c.up-up.ensures.value in
    let wired = c.up-up.ensures.wired in
    let at = c.up-up.result in
    record {
      place = subst P (sym is) (wired.is_place c.args.n c.args.k c.requires.node c.requires.place);
      part = subst Q (sym is) (wired.is_part c.args.n c.args.k c.requires.node c.requires.place);
      is = sym is;
      same_struck = ap (λ (x : Place). x.struck) c.place-struck.ensures;
      mid_is = c.in_ok-set_place.ensures.ok
          ∙ ap (λ (t : Truth). with_place s at.node at.place (record { told = t; taken = c.asserted-taken.result; struck = c.place-struck.result.struck })) c.truth-told.ensures
          ∙ ap (λ (t : Bool). with_place s at.node at.place (record { told = truth_at s c.args.n; taken = t; struck = c.place-struck.result.struck })) c.asserted-taken.ensures;
      raises = c.in_ok-raise.ensures.ok;
    }

pub returns-clause-settled : goal.returns-clause-settled
returns-clause-settled c = told_settled _ _ _ _ _ _ _ _ _ _ c.requires.wires (told_of c) c.requires.settled

pub returns-clause-work : goal.returns-clause-work
returns-clause-work c = told_work _ _ _ _ _ _ _ _ _ _ c.requires.wires (told_of c) c.requires.work

pub returns-clause-tells : goal.returns-clause-tells
returns-clause-tells c = told_tells _ _ _ _ _ _ _ _ _ _ c.requires.wires (told_of c)

pub returns-clause-weight : goal.returns-clause-weight
returns-clause-weight c = told_weight _ _ _ _ _ _ _ _ _ _ c.requires.wires (told_of c)
