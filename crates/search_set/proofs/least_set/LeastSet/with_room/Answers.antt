use Rattle.std.proofs.Common.{◌≡◌, ℕ, ◌^◌, ◌<◌, Bool, false, List, length, slice_set, slice_index_or, ap, sym, subst, ◌∙◌, arith}
use Rattle.search_set.proofs.TreeLemmas.{mark_is, room_is, over_below, over_first, over_last, over_length, over_more, over_off}
use Rattle.search_set.proofs.least_set.LeastSet.with_room.Goals as goal

pub loop-number-init : goal.loop-number-init
loop-number-init c = (c.in_ok-set.ensures ∙ sym (over_first c.args.self.now (2 ^ c.args.height)), omega arith)

pub put_if-requires-clause-within : goal.put_if-requires-clause-within
put_if-requires-clause-within c =
    let sound = c.self.invariant in
    let room = room_is c.args.self.now c.self.inside.marks.items c.self.inside.height c.self.inside.room sound.tree sound.room c.self.view_is in
    let all = ap length c.loop-number.invariant.0 ∙ over_length c.args.self.now (2 ^ c.args.height) c.loop-number.number (omega (arith, room)) c.requires.room in
    omega (arith, all, room, c.requires.room)

pub put_if-requires-clause-off : goal.put_if-requires-clause-off
put_if-requires-clause-off c =
    let sound = c.self.invariant in
    let room = room_is c.args.self.now c.self.inside.marks.items c.self.inside.height c.self.inside.room sound.tree sound.room c.self.view_is in
    ap (λ (set : List Bool). slice_index_or set c.loop-number.number false) c.loop-number.invariant.0 ∙ over_off c.args.self.now (2 ^ c.args.height) c.loop-number.number (omega (arith, room)) c.requires.room

pub loop-number-preserved : goal.loop-number-preserved
loop-number-preserved c =
    let sound = c.self.invariant in
    let room = room_is c.args.self.now c.self.inside.marks.items c.self.inside.height c.self.inside.room sound.tree sound.room c.self.view_is in
    let lt : c.loop-number.number < length c.args.self.now = omega (arith, room) in
    let mark = mark_is c.args.self.now c.self.inside.marks.items c.self.inside.room c.loop-number.number c.index.result.now c.self.view_is c.index.ensures lt in (
      c.put_if.ensures ∙ ap (λ (set : List Bool). slice_set set c.loop-number.number c.index.result.now) c.loop-number.invariant.0
          ∙ ap (λ (v : Bool). slice_set (over_below c.args.self.now (2 ^ c.args.height) c.loop-number.number) c.loop-number.number v) mark
          ∙ over_more c.args.self.now (2 ^ c.args.height) c.loop-number.number lt c.requires.room,
      omega arith,
    )

pub returns : goal.returns
returns c =
    let sound = c.self.invariant in
    let room = room_is c.args.self.now c.self.inside.marks.items c.self.inside.height c.self.inside.room sound.tree sound.room c.self.view_is in
    let all : c.loop-number.number ≡ length c.args.self.now = omega (arith, room, c.loop-number.invariant.1) in
    c.loop-number.invariant.0 ∙ ap (λ (k : ℕ). over_below c.args.self.now (2 ^ c.args.height) k) all ∙ over_last c.args.self.now (2 ^ c.args.height)
