-- Of a replay: the standing list, its serials, and fronts that still stand.
use Rattle.std.proofs.Common.{◌≡◌, ℕ, ◌+◌, ◌-◌, ◌<◌, ◌≤◌, List, [], ◌∷◌, ◌++◌, length, take, get_or, slice_get, Some, All, AllPairs, refl, sym, ap, subst, ◌∙◌, ⊎_elim, arith}
use Rattle.std.proofs.lemmas.Grind.{common_steps}
use Rattle.std.proofs.lemmas.List.{length-take, take-append-le, take_all, take-take}
use Rattle.std.proofs.lemmas.List.Elements.{All-nil, All-push, All-take}
use Rattle.std.proofs.lemmas.List.Quantifiers.{all_pairs_push}
use Rattle.std.proofs.lemmas.Option.{slice_get_within}
use Rattle.std.specs.Option.{option_map_or}
use Rattle.graph_terms.proofs.ListLaws.{element_at, push_cases, slice_get-take, All-slice_get}
use Rattle.graph_meaning.specs.declared.done.Done.{Done}
use Rattle.graph_meaning.specs.declared.op.Op.{Op}
use Rattle.graph_meaning.specs.declared.op.Op.TheVariants.{Add, Merge, Differ, Live, Push, Pop}
use Rattle.graph_meaning.specs.Front.{front_of, HasSerials, StillStands}
use Rattle.graph_meaning.proofs.ReplayLaws.{replay-append}
use Rattle.graph_meaning.specs.Standing.{standing_from, standing_of, then_op}
use Rattle.graph_meaning.specs.State.{GraphState, first_state, replay, state_after}

-- a replay does to the list what its operations do
standing-replay : (state : GraphState) (ops : List Op) → (replay state ops).standing ≡ standing_from state.standing state.done ops
standing-replay state [] = refl
standing-replay state (op ∷ ops) = standing-replay (state_after state op) ops

pub standing-first : (limit : ℕ) (ops : List Op) → (replay (first_state limit) ops).standing ≡ standing_of ops
standing-first limit ops = standing-replay (first_state limit) ops

-- ---- serials

get_or-take : {X : Type 0} (n i : ℕ) (xs : List X) (d : X) → i < n → get_or (take n xs) i d ≡ get_or xs i d
get_or-take n i xs d h = grind (arith, common_steps)

AllPairs-take : {X : Type 0} (R : X → X → Type 0) (n : ℕ) (xs : List X) → AllPairs R xs → AllPairs R (take n xs)
AllPairs-take R n xs all i j d less below =
    let len = length-take n xs in
    let low : j < n = omega arith in
    let inside : j < length xs = omega arith in
    subst (λ x. R x (get_or (take n xs) j d)) (sym (get_or-take n i xs d (omega arith))) (subst (R (get_or xs i d)) (sym (get_or-take n j xs d low)) (all i j d less inside))

serials-push : (standing : List Done) (done : ℕ) (op : Op) → HasSerials standing done → HasSerials (then_op standing done op) (done + 1)
serials-push standing done op has = record {
  rise = all_pairs_push (λ (earlier later : Done). earlier.serial < later.serial) standing (record { serial = done; op = op }) has.rise has.below;
  below = All-push (λ (each : Done). each.serial < done + 1) standing (record { serial = done; op = op }) (λ k d h. let low = has.below k d h in omega arith) (omega arith);
}

serials-take : (n : ℕ) (standing : List Done) (done : ℕ) → HasSerials standing done → HasSerials (take n standing) (done + 1)
serials-take n standing done has = record {
  rise = AllPairs-take (λ (earlier later : Done). earlier.serial < later.serial) n standing has.rise;
  below = λ k d h. let low = All-take (λ (each : Done). each.serial < done) n standing has.below k d h in omega arith;
}

serials-after : (state : GraphState) (op : Op) → HasSerials state.standing state.done → HasSerials (state_after state op).standing (state_after state op).done
serials-after state Pop has = serials-take _ state.standing state.done has
serials-after state (Add symbol args) has = serials-push state.standing state.done (Add symbol args) has
serials-after state (Merge left right) has = serials-push state.standing state.done (Merge left right) has
serials-after state (Differ left right) has = serials-push state.standing state.done (Differ left right) has
serials-after state (Live trigger) has = serials-push state.standing state.done (Live trigger) has
serials-after state Push has = serials-push state.standing state.done Push has

serials-replay : (state : GraphState) (ops : List Op) → HasSerials state.standing state.done → HasSerials (replay state ops).standing (replay state ops).done
serials-replay state [] has = has
serials-replay state (op ∷ ops) has = serials-replay (state_after state op) ops (serials-after state op has)

pub serials-first : (limit : ℕ) (ops : List Op) → HasSerials (replay (first_state limit) ops).standing (replay (first_state limit) ops).done
serials-first limit ops = serials-replay (first_state limit) ops (record { rise = λ i j d less below. absurd (omega (arith, below)); below = All-nil _ })

-- ---- fronts

-- up to each operation of which the serial is below the number, the list is the earlier one
Agrees : ℕ → List Done → List Done → Type 0
Agrees n earlier present = (i : ℕ) (done : Done) → slice_get present i ≡ Some done → done.serial < n → take (i + 1) present ≡ take (i + 1) earlier

module _ (n : ℕ) (earlier : List Done) where
  agrees-push : (standing : List Done) (serial : ℕ) (op : Op) → n ≤ serial → Agrees n earlier standing → Agrees n earlier (then_op standing serial op)
  unfolding Agrees
  agrees-push standing serial op past agrees i done is low = ⊎_elim
      (λ old. let inside = slice_get_within standing i done old in take-append-le (i + 1) standing (record { serial = serial; op = op } ∷ []) (omega arith) ∙ agrees i done old low)
      (λ new. let same = ap (λ (d : Done). d.serial) new.1 in absurd (omega arith))
      (push_cases standing (record { serial = serial; op = op }) i done is)

  agrees-take : (m : ℕ) (standing : List Done) → Agrees n earlier standing → Agrees n earlier (take m standing)
  unfolding Agrees
  agrees-take m standing agrees i done is low =
      let inside = slice_get_within (take m standing) i done is in
      let len = length-take m standing in
      take-take (i + 1) m standing (omega arith) ∙ agrees i done (slice_get-take m standing i done is) low

  agrees-after : (state : GraphState) (op : Op) → n ≤ state.done → Agrees n earlier state.standing → Agrees n earlier (state_after state op).standing
  agrees-after state Pop past agrees = agrees-take _ state.standing agrees
  agrees-after state (Add symbol args) past agrees = agrees-push state.standing state.done (Add symbol args) past agrees
  agrees-after state (Merge left right) past agrees = agrees-push state.standing state.done (Merge left right) past agrees
  agrees-after state (Differ left right) past agrees = agrees-push state.standing state.done (Differ left right) past agrees
  agrees-after state (Live trigger) past agrees = agrees-push state.standing state.done (Live trigger) past agrees
  agrees-after state Push past agrees = agrees-push state.standing state.done Push past agrees

  agrees-replay : (state : GraphState) (ops : List Op) → n ≤ state.done → Agrees n earlier state.standing → Agrees n earlier (replay state ops).standing
  agrees-replay state [] past agrees = agrees
  agrees-replay state (op ∷ ops) past agrees = agrees-replay (state_after state op) ops (omega arith) (agrees-after state op past agrees)

  -- a front that still stands names the beginning
  front-begins : (present : List Done) → All (λ (each : Done). each.serial < n) earlier → Agrees n earlier present → StillStands present (front_of earlier) → take (length earlier) present ≡ earlier
  unfolding Agrees
  front-begins present below agrees still = by earlier refl
    where
      by : (es : List Done) → es ≡ earlier → take (length earlier) present ≡ earlier
      by [] is = subst (λ (ds : List Done). take (length ds) present ≡ ds) is refl
      by (e ∷ es) is =
          let some : 0 < length earlier = subst (λ (ds : List Done). 0 < length ds) is (omega arith) in
          ⊎_elim
          (λ none. absurd (omega (arith, none)))
          (λ stands.
          let last = element_at earlier (length earlier - 1) (omega arith) in
          let serial : stands.0.serial ≡ last.0.serial = stands.2 ∙ ap (λ o. option_map_or (λ (d : Done). d.serial) o 0) last.1 in
          let last_low = All-slice_get (λ (each : Done). each.serial < n) earlier (length earlier - 1) last.0 below last.1 in
          let same = agrees (length earlier - 1) stands.0 stands.1 (omega arith) in
          let end : length earlier - 1 + 1 ≡ length earlier = omega arith in
          ap (λ k. take k present) (sym end) ∙ same ∙ ap (λ k. take k earlier) end ∙ take_all (length earlier) earlier (omega arith))
          still

pub front-first : (limit : ℕ) (ops more : List Op) → StillStands (replay (first_state limit) (ops ++ more)).standing (front_of (replay (first_state limit) ops).standing) → take (length (replay (first_state limit) ops).standing) (replay (first_state limit) (ops ++ more)).standing ≡ (replay (first_state limit) ops).standing
unfolding Agrees
front-first limit ops more still =
    let state = replay (first_state limit) ops in
    let later = replay-append (first_state limit) ops more in
    let P : GraphState → Type 0 = λ g. Agrees state.done state.standing g.standing in
    front-begins state.done state.standing (replay (first_state limit) (ops ++ more)).standing (serials-first limit ops).below
    (subst P (sym later) (agrees-replay state.done state.standing state more (omega arith) (λ i done is low. refl))) still
