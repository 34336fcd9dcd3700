use Rattle.std.proofs.Common.{◌≡◌, ◌<◌, ◌^◌, List, length, subst, arith}
use Rattle.search_board.specs.declared.place.Place.{Place}
use Rattle.search_board.specs.BoardInside.{shown_of}
use Rattle.search_board.proofs.BoardLemmas.{alike_of, sound_enter, sound_wider}
use Rattle.search_board.proofs.board.Board.enter.Goals as goal

pub make_room-requires-clause-alike : goal.make_room-requires-clause-alike
make_room-requires-clause-alike c = alike_of c.self.inside.sets (shown_of c.self.inside) c.self.inside.counts.items c.self.invariant

pub invariant_of-self-in-Ok : goal.invariant_of-self-in-Ok
invariant_of-self-in-Ok c =
    let shown = shown_of c.self.inside in
    let count : length shown.kinds ≡ c.len-len.result = omega (arith, c.len-len.ensures, c.self.inside.kinds.ok) in
    let lt : length shown.kinds < 2 ^ c.make_room.new.self.height = omega (arith, count, c.in_ok-make_room.ensures.room) in
    let sound = sound_wider c.self.inside.sets c.make_room.new.self shown c.self.inside.counts.items c.self.invariant c.in_ok-make_room.ensures.alike c.in_ok-make_room.ensures.wider lt in
    let few : length c.args.places < 2 ^ 32 = subst (λ (ps : List Place). length ps < 2 ^ 32) c.places.view_is c.places.invariant in
    let done = sound_enter (2 ^ c.make_room.new.self.height) shown c.self.inside.counts.items c.make_room.new.self.units c.make_room.new.self.opens c.make_room.new.self.stuck sound c.args.kind c.args.truth c.args.places few lt c.count_places-counts.result c.count_places-counts.ensures in
    rw (c.in-Ok.ensures.kinds, c.in-Ok.ensures.truths, c.in-Ok.ensures.asserted, c.in-Ok.ensures.places, c.in-Ok.ensures.counts) done
