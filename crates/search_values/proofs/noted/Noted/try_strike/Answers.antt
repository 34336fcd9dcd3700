use Rattle.std.proofs.Common.{true, subst, sym, ◌∙◌, ap}
use Rattle.search_board.specs.declared.place.Place.{Place}
use Rattle.search_board.specs.Board.{Shown, with_place}
use Rattle.search_values.specs.History.{now}
use Rattle.search_values.specs.KeptInside.{IsRight}
use Rattle.search_values.proofs.FirstLemmas.{struck_right}
use Rattle.search_values.proofs.noted.Noted.try_strike.Goals as goal

pub returns-clause-right : goal.returns-clause-right
returns-clause-right c =
    let s = now c.args.self.now in
    let e = c.in_ok-set_place.ensures.ok ∙ ap (λ (p : Place). with_place s c.args.n c.args.i (record { told = p.told; taken = p.taken; struck = true })) c.place-old.ensures in
    subst (λ (x : Shown). IsRight c.args.wiring.now x) (sym e) (struck_right c.args.wiring.now s c.requires.right c.args.n c.args.i c.requires.place)
