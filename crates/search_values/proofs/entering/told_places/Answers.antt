use Rattle.std.proofs.Common.{◌+◌, List, take, sym, subst, arith, refl}
use Rattle.search_board.specs.declared.place.Place.{Place}
use Rattle.search_values.specs.Entered.{ArePlaces, NoneStruck}
use Rattle.search_values.proofs.EnterLemmas.{places_more, none_struck_more}
use Rattle.search_values.proofs.WireLemmas.{get_some}
use Rattle.search_values.proofs.entering.told_places.Goals as goal

pub loop-i-preserved : goal.loop-i-preserved
loop-i-preserved c =
    let part = get_some c.args.parts.now c.loop-i.i c.get-part.result 0 c.get-part.ensures in
    record {
      told = subst (λ (ps : List Place). ArePlaces c.args.board.now (take (c.loop-i.i + 1) c.args.parts.now) ps) (sym c.in_ok-push.ensures.ok)
          (places_more c.args.board.now c.args.parts.now c.loop-i.places c.loop-i.i c.get-part.result _ (omega (arith, c.len-i-end.ensures)) part c.truth.ensures c.asserted.ensures c.loop-i.invariant.told);
      none_struck = subst (λ (ps : List Place). NoneStruck ps) (sym c.in_ok-push.ensures.ok) (none_struck_more c.loop-i.places _ refl c.loop-i.invariant.none_struck);
    }
