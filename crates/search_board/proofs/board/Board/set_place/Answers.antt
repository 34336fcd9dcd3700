use Rattle.std.proofs.Common.{◌<◌, ◌^◌, List, [], length, false, slice_set, slice_index_or, refl, sym, ap, subst, ◌∙◌, arith}
use Rattle.search_board.specs.declared.kind.Kind.TheVariants.{Leaf}
use Rattle.formula_truth.specs.declared.truth.Truth.TheVariants.{Unset}
use Rattle.search_board.specs.declared.place.Place.{Place}
use Rattle.search_board.specs.declared.counts.Counts.{Counts}
use Rattle.search_board.specs.Places.{counts_of, count_after, CanCount}
use Rattle.search_board.specs.Board.{Shown, blank, places_at}
use Rattle.search_board.specs.BoardInside.{shown_of, no_counts}
use Rattle.search_board.proofs.BoardLemmas.{same_default, get_some, sound_place, can_count, unit_same, stuck_same}
use Rattle.search_board.proofs.board.Board.set_place.Goals as goal

pub counts_with-counts-requires : goal.counts_with-counts-requires
counts_with-counts-requires c =
    let sound = c.self.invariant in
    let shown = shown_of c.self.inside in
    let lt : c.args.n < length c.self.inside.kinds.items = subst (λ (s : Shown). c.args.n < length s.kinds) (sym c.self.view_is) c.requires.node in
    let inside : c.args.i < length (places_at shown c.args.n) = subst (λ (s : Shown). c.args.i < length (places_at s c.args.n)) (sym c.self.view_is) c.requires.place in
    let list = c.index.ensures ∙ same_default c.self.inside.places.items c.args.n c.index.result.now [] (omega (arith, sound.aligned.places)) in
    let old = sym (get_some c.index.result.now c.args.i c.get-old.result blank c.get-old.ensures) ∙ ap (λ (xs : List Place). slice_index_or xs c.args.i blank) list in
    let counts = c.index-2.ensures ∙ same_default c.self.inside.counts.items c.args.n c.index-2.result.now no_counts (omega (arith, sound.len)) ∙ sound.counted c.args.n lt in
    let P : Counts → Type 0 = λ k. CanCount k c.get-old.result c.args.place in
    let Q : Place → Type 0 = λ p. CanCount (counts_of (places_at shown c.args.n)) p c.args.place in
    subst P (sym counts) (subst Q (sym old) (can_count (places_at shown c.args.n) c.args.i c.args.place blank inside (sound.aligned.few_places c.args.n)))

pub invariant_of-self : goal.invariant_of-self
invariant_of-self c =
    let sound = c.self.invariant in
    let shown = shown_of c.self.inside in
    let lt : c.args.n < length c.self.inside.kinds.items = subst (λ (s : Shown). c.args.n < length s.kinds) (sym c.self.view_is) c.requires.node in
    let inside : c.args.i < length (places_at shown c.args.n) = subst (λ (s : Shown). c.args.i < length (places_at s c.args.n)) (sym c.self.view_is) c.requires.place in
    let list = c.index.ensures ∙ same_default c.self.inside.places.items c.args.n c.index.result.now [] (omega (arith, sound.aligned.places)) in
    let list' = c.index_mut-list.ensures.value ∙ same_default c.self.inside.places.items c.args.n c.index_mut-list.result.now [] (omega (arith, sound.aligned.places)) in
    let old = sym (get_some c.index.result.now c.args.i c.get-old.result blank c.get-old.ensures) ∙ ap (λ (xs : List Place). slice_index_or xs c.args.i blank) list in
    let counts = c.index-2.ensures ∙ same_default c.self.inside.counts.items c.args.n c.index-2.result.now no_counts (omega (arith, sound.len)) ∙ sound.counted c.args.n lt in
    let after = c.counts_with-counts.ensures ∙ ap (λ (k : Counts). count_after k c.get-old.result c.args.place) counts ∙ ap (λ (p : Place). count_after (counts_of (places_at shown c.args.n)) p c.args.place) old in
    let kind = c.index-kind.ensures ∙ same_default c.self.inside.kinds.items c.args.n c.index-kind.result.now Leaf lt in
    let truth = c.index-truth.ensures ∙ same_default c.self.inside.truths.items c.args.n c.index-truth.result.now Unset (omega (arith, sound.aligned.truths)) in
    let asserted = c.index-asserted.ensures ∙ same_default c.self.inside.asserted.items c.args.n c.index-asserted.result.now false (omega (arith, sound.aligned.asserted)) in
    let done = sound_place (2 ^ c.self.inside.sets.height) shown c.self.inside.counts.items c.self.inside.sets.units c.self.inside.sets.opens c.self.inside.sets.stuck sound c.args.n lt c.args.i c.args.place c.counts_with-counts.result c.is_unit.result c.is_stuck.result inside after
    (c.is_unit.ensures ∙ unit_same kind truth asserted refl) (c.is_stuck.ensures ∙ stuck_same kind asserted refl) in
    let places = c.set.ensures ∙ ap (λ (xs : List Place). slice_set xs c.args.i c.args.place) list' in
    rw (c.set-2.ensures, c.set-3.ensures, places) done
