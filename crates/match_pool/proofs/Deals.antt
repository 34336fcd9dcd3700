-- Each step keeps the rule of the deque.
use Rattle.std.proofs.Common.{◌≡◌, ◌≢◌, ℕ, zero, suc, ◌+◌, ◌-◌, ◌<◌, ◌≤◌, List, [], ◌∷◌, ◌++◌, length, set, sym, refl, ap, ◌∙◌, subst, ⊎_elim, arith}
use mathlib.Core.Option.{some, some-ne-none, some-injective}
use lib.ListN.{get_elem?}
use Rattle.crossbeam_deque.specs.Tasks.{Pushes, Takes, Finds, Forks, Merges}
use Rattle.crossbeam_deque.proofs.Lists.{at_set, at_snoc}
use Rattle.match_pool.specs.declared.share.Share.{Share}
use Rattle.match_pool.specs.Weights.{weigh}
use Rattle.match_pool.specs.Dealing.{share, IsIdle, Dealt, IsAllTaken}
use Rattle.match_pool.proofs.Weighing.{weigh-append}

-- the total after one view changed
total_set : (f : Share → ℕ) (views : List Share) (port : ℕ) (v w : Share) → get_elem? views port ≡ some v → weigh f (set views port w) + f v ≡ weigh f views + f w
total_set f [] port v w at = absurd (some-ne-none v (sym at))
total_set f (u ∷ us) zero v w at = let e : f u ≡ f v = ap f (some-injective u v at) in omega arith
total_set f (u ∷ us) (suc port) v w at = omega (arith, total_set f us port v w at)

total_snoc : (f : Share → ℕ) (views : List Share) (v : Share) → weigh f (views ++ v ∷ []) ≡ weigh f views + f v
total_snoc f [] v = omega arith
total_snoc f (u ∷ us) v = omega (arith, total_snoc f us v)

-- where one view has both parts, the others are idle
total_zero : (f : Share → ℕ) (views : List Share) → ((v : Share) → v.parts ≡ 0 → IsIdle v → f v ≡ 0) → ((seat : ℕ) (v : Share) → get_elem? views seat ≡ some v → IsIdle v)
    → weigh (λ v. v.parts) views ≡ 0 → weigh f views ≡ 0
total_zero f [] none idle sum = refl
total_zero f (u ∷ us) none idle sum =
    let here : f u ≡ 0 = none u (omega arith) (idle 0 u refl) in
    let rest : weigh f us ≡ 0 = total_zero f us none (λ seat v at. idle (suc seat) v at) (omega arith) in
    omega arith

part_of : (views : List Share) (port : ℕ) (v : Share) → get_elem? views port ≡ some v → v.parts ≤ weigh (λ u. u.parts) views
part_of [] port v at = absurd (some-ne-none v (sym at))
part_of (u ∷ us) zero v at = let e : u.parts ≡ v.parts = ap (λ (y : Share). y.parts) (some-injective u v at) in omega arith
part_of (u ∷ us) (suc port) v at = omega (arith, part_of us port v at)

total_whole : (f : Share → ℕ) (views : List Share) (port : ℕ) (v : Share) → ((v : Share) → v.parts ≡ 0 → IsIdle v → f v ≡ 0) → ((seat : ℕ) (v : Share) → get_elem? views seat ≡ some v → IsIdle v)
    → get_elem? views port ≡ some v → weigh (λ v. v.parts) views ≡ v.parts → weigh f views ≡ f v
total_whole f [] port v none idle at sum = absurd (some-ne-none v (sym at))
total_whole f (u ∷ us) zero v none idle at sum =
    let e : u ≡ v = some-injective u v at in
    let p : u.parts ≡ v.parts = ap (λ (y : Share). y.parts) e in
    let g : f u ≡ f v = ap f e in
    let rest : weigh f us ≡ 0 = total_zero f us none (λ seat w at'. idle (suc seat) w at') (omega arith) in
    omega arith
total_whole f (u ∷ us) (suc port) v none idle at sum =
    let more : v.parts ≤ weigh (λ w. w.parts) us = part_of us port v at in
    let here : f u ≡ 0 = none u (omega arith) (idle 0 u refl) in
    let rest : weigh f us ≡ f v = total_whole f us port v none (λ seat w at'. idle (suc seat) w at') at (omega arith) in
    omega arith

idle_set : (views : List Share) (port : ℕ) (w : Share) → IsIdle w → ((seat : ℕ) (v : Share) → get_elem? views seat ≡ some v → IsIdle v)
    → (seat : ℕ) (v : Share) → get_elem? (set views port w) seat ≡ some v → IsIdle v
idle_set views port w mine h j u e = ⊎_elim (λ (t : (j ≡ port) × (w ≡ u)). subst IsIdle t.1 mine) (λ (t : (j ≢ port) × (get_elem? views j ≡ some u)). h j u t.1) (at_set views port j w u e)

pub begins : Dealt [] (share 2 [] [] ∷ [])
begins = (refl, (λ x. refl), λ j v e. ⊎_elim (λ (t : get_elem? {A = Share} [] j ≡ some v). absurd (some-ne-none v (sym t))) (λ (t : share 2 [] [] ≡ v) (none : v.parts ≡ 0). absurd (let p : 2 ≡ v.parts = ap (λ (y : Share). y.parts) t in omega arith)) (at_snoc [] (share 2 [] []) v j e))

pub pushes : (port : ℕ) (v : Share) (xs : List ℕ) → 0 < v.parts → Pushes Dealt port v xs (λ w. w ≡ share v.parts (v.pushed ++ xs) v.taken)
pushes port v xs some_part items views h at = let w = share v.parts (v.pushed ++ xs) v.taken in (
  w,
  (
    (let s = total_set (λ u. u.parts) views port v w at in let p = h.0 in omega arith),
    (λ x.
        let s = total_set (λ u. weigh x u.pushed) views port v w at in
        let t = total_set (λ u. weigh x u.taken) views port v w at in
        let b = h.1 x in
        omega (arith, weigh-append x v.pushed xs, weigh-append x items xs)),
    idle_set views port w (λ none. absurd (omega arith)) h.2,
  ),
  refl,
)

pub takes : (port : ℕ) (v : Share) → 0 < v.parts → Takes Dealt port v 1 (λ xs w. w ≡ share v.parts v.pushed (v.taken ++ xs))
takes port v some_part xs items views _ _ h at = let w = share v.parts v.pushed (v.taken ++ xs) in (
  w,
  (
    (let s = total_set (λ u. u.parts) views port v w at in let p = h.0 in omega arith),
    (λ x.
        let s = total_set (λ u. weigh x u.pushed) views port v w at in
        let t = total_set (λ u. weigh x u.taken) views port v w at in
        let b = h.1 x in
        omega (arith, weigh-append x v.taken xs, weigh-append x xs items)),
    idle_set views port w (λ none. absurd (omega arith)) h.2,
  ),
  refl,
)

none_pushed : (h : ℕ → ℕ) (v : Share) → v.parts ≡ 0 → IsIdle v → weigh h v.pushed ≡ 0
none_pushed h v none idle = ap (weigh h) (idle none).0

none_taken : (h : ℕ → ℕ) (v : Share) → v.parts ≡ 0 → IsIdle v → weigh h v.taken ≡ 0
none_taken h v none idle = ap (weigh h) (idle none).1

pub finds : (port : ℕ) (v : Share) → Finds Dealt port v (IsAllTaken v)
finds port v views h at both x =
    let p : weigh (λ u. weigh x u.pushed) views ≡ weigh x v.pushed = total_whole (λ u. weigh x u.pushed) views port v (none_pushed x) h.2 at (h.0 ∙ sym both) in
    let t : weigh (λ u. weigh x u.taken) views ≡ weigh x v.taken = total_whole (λ u. weigh x u.taken) views port v (none_taken x) h.2 at (h.0 ∙ sym both) in
    let b = h.1 x in omega arith

pub forks : (port : ℕ) (v : Share) → v.parts ≡ 2 → Forks Dealt port v (share (v.parts - 1) v.pushed v.taken) (share 1 [] [])
forks port v two items views h at =
    let l = share (v.parts - 1) v.pushed v.taken in
    let r = share 1 [] [] in
    let vs = set views port l in (
      (let s = total_set (λ u. u.parts) views port v l at in let t = total_snoc (λ u. u.parts) vs r in let p = h.0 in omega arith),
      (λ x.
          let s = total_set (λ u. weigh x u.pushed) views port v l at in
          let t = total_set (λ u. weigh x u.taken) views port v l at in
          let b = h.1 x in
          omega (arith, total_snoc (λ u. weigh x u.pushed) vs r, total_snoc (λ u. weigh x u.taken) vs r)),
      λ j u e. ⊎_elim (λ (t : get_elem? vs j ≡ some u). idle_set views port l (λ none. absurd (omega arith)) h.2 j u t)
          (λ (t : r ≡ u) (none : u.parts ≡ 0). absurd (let p : 1 ≡ u.parts = ap (λ (y : Share). y.parts) t in omega arith)) (at_snoc vs r u j e),
    )

pub merges : (port : ℕ) (v : Share) (other : ℕ) (u : Share) → 0 < v.parts
    → Merges Dealt port v other u (share (v.parts + u.parts) (v.pushed ++ u.pushed) (v.taken ++ u.taken)) (share 0 [] [])
merges port v other u some_part items views h at two there =
    let both = share (v.parts + u.parts) (v.pushed ++ u.pushed) (v.taken ++ u.taken) in
    let spent = share 0 [] [] in
    let vs = set views port both in (
      (let s = total_set (λ w. w.parts) views port v both at in let t = total_set (λ w. w.parts) vs other u spent there in let p = h.0 in omega arith),
      (λ x.
          let s = total_set (λ w. weigh x w.pushed) views port v both at in
          let s' = total_set (λ w. weigh x w.pushed) vs other u spent there in
          let t = total_set (λ w. weigh x w.taken) views port v both at in
          let t' = total_set (λ w. weigh x w.taken) vs other u spent there in
          let b = h.1 x in
          omega (arith, weigh-append x v.pushed u.pushed, weigh-append x v.taken u.taken)),
      idle_set vs other spent (λ none. (refl, refl)) (idle_set views port both (λ none. absurd (omega arith)) h.2),
    )
