use Rattle.std.proofs.Common.{◌≡◌, ◌<◌, ℕ, List, [], ◌∷◌, ◌++◌, length, slice_index, sym, subst, Contains}
use Rattle.std.proofs.lemmas.List.Elements.{Contains-append_left, Contains-push}
use Rattle.graph_classes.specs.State.{State}
use Rattle.graph_classes.specs.Indexed.{IsClosing}
use Rattle.graph_meaning.specs.Lawful.{EndsBelow}
use Rattle.graph_classes.proofs.StepLemmas.{IsComplete-dropped}

-- the pair that was taken off the end
module _ (n : ℕ) (old new : List (ℕ × ℕ)) (a b : ℕ) (split : old ≡ new ++ (a, b) ∷ []) (below : EndsBelow old n) where
  pub last_in : (a < n) × (b < n)
  last_in = below a b (let P : List (ℕ × ℕ) → Type 0 = λ ps. Contains ps (a, b) in subst P (sym split) (Contains-push new (a, b)))

  pub rest_in : EndsBelow new n
  rest_in c d h = below c d (let P : List (ℕ × ℕ) → Type 0 = λ ps. Contains ps (c, d) in subst P (sym split) (Contains-append_left new ((a, b) ∷ []) (c, d) h))

-- a pair of equal labels is done with
pub IsClosing-dropped : (merges : List (ℕ × ℕ)) (s : State) (old new : List (ℕ × ℕ)) (a b : ℕ) → old ≡ new ++ (a, b) ∷ [] → a < length s.rows → b < length s.rows → slice_index s.labels a ≡ slice_index s.labels b → IsClosing merges s old [] → IsClosing merges s new []
IsClosing-dropped merges s old new a b split ha hb e closing =
    let P : List (ℕ × ℕ) → Type 0 = λ ps. IsClosing merges s ps [] in
    let here = subst P split closing in
    record {
      sound = record { label = here.sound.label; entry = here.sound.entry; pair = λ c d h. here.sound.pair c d (Contains-append_left new ((a, b) ∷ []) (c, d) h) };
      complete = IsComplete-dropped s.rows merges s.labels s.table new a b here.complete ha hb e;
    }
