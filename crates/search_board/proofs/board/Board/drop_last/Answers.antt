use Rattle.std.proofs.Common.{◌≡◌, ◌<◌, ◌-◌, ◌^◌, ℕ, take, length, vec_len, ap, sym, subst, ◌∙◌, arith}
use Rattle.search_board.specs.Board.{Shown}
use Rattle.search_board.specs.BoardInside.{shown_of}
use Rattle.search_board.proofs.BoardLemmas.{sound_drop}
use Rattle.search_board.proofs.board.Board.drop_last.Goals as goal

pub invariant_of-self : goal.invariant_of-self
invariant_of-self c =
    let sound = c.self.invariant in
    let shown = shown_of c.self.inside in
    let some : 0 < length c.self.inside.kinds.items = subst (λ (s : Shown). 0 < length s.kinds) (sym c.self.view_is) c.requires in
    let n : length c.self.inside.kinds.items - 1 ≡ c.len.result - 1 = omega (arith, c.len.ensures, c.self.inside.kinds.ok) in
    let done = sound_drop (2 ^ c.self.inside.sets.height) shown c.self.inside.counts.items c.self.inside.sets.units c.self.inside.sets.opens c.self.inside.sets.stuck sound (c.len.result - 1) n some in
    let kinds_len : vec_len c.self.inside.kinds ≡ length c.self.inside.kinds.items = omega (arith, c.self.inside.kinds.ok) in
    let kinds_are = c.pop-kind.ensures.rest ∙ ap (λ (k : ℕ). take (k - 1) c.self.inside.kinds.items) kinds_len in
    let truths_len : vec_len c.self.inside.truths ≡ length c.self.inside.kinds.items = omega (arith, c.self.inside.truths.ok, sound.aligned.truths) in
    let truths_are = c.pop-truth.ensures.rest ∙ ap (λ (k : ℕ). take (k - 1) c.self.inside.truths.items) truths_len in
    let asserted_len : vec_len c.self.inside.asserted ≡ length c.self.inside.kinds.items = omega (arith, c.self.inside.asserted.ok, sound.aligned.asserted) in
    let asserted_are = c.pop-asserted.ensures.rest ∙ ap (λ (k : ℕ). take (k - 1) c.self.inside.asserted.items) asserted_len in
    let places_len : vec_len c.self.inside.places ≡ length c.self.inside.kinds.items = omega (arith, c.self.inside.places.ok, sound.aligned.places) in
    let places_are = c.pop-places.ensures.rest ∙ ap (λ (k : ℕ). take (k - 1) c.self.inside.places.items) places_len in
    let counts_len : vec_len c.self.inside.counts ≡ length c.self.inside.counts.items = omega (arith, c.self.inside.counts.ok) in
    let counts_are = c.pop-counts.ensures.rest ∙ ap (λ (k : ℕ). take (k - 1) c.self.inside.counts.items) counts_len in
    rw (c.set.ensures, c.set-2.ensures, c.set-3.ensures, kinds_are, truths_are, asserted_are, places_are, counts_are) done
