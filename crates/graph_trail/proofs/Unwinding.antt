use Rattle.std.proofs.Common.{◌≡◌, ◌≤◌, [], ◌∷◌, ◌++◌, List, length, drop, ◌∙◌, ap, arith, ℕ}
use Rattle.std.proofs.lemmas.Grind.{common_steps}
use Rattle.graph_trail.specs.Undo.{state_before, EachNoted, UndoneTo}

-- of the notes that stood, the first still stand, and the others were undone
pub record Unwound {T N : Type 0} (step : T → N → T → Type 0) (stood stand : List N) (from to : T) : Type 0 where
  pub popped : List N
  pub split : stood ≡ stand ++ popped
  pub undone : UndoneTo step from popped to

-- where each note undid its change, the first state is back
pub first_state : {S N : Type 0} (before : S → N → S) (first : S) (ns : List N) (last : S) → EachNoted before first ns last → state_before before ns last ≡ first
first_state before first [] last h = h
first_state before first (n ∷ ns) last h = ap (λ s. before s n) (first_state before h.0 ns last h.2) ∙ h.1

module _ {T N S : Type 0} (step : T → N → T → Type 0) (state : T → S) (before : S → N → S) (law : (v : T) (n : N) (w : T) → step v n w → state w ≡ before (state v) n) where
  -- undoing gives the state before
  pub state_of_undone : (ns : List N) (v w : T) → UndoneTo step v ns w → state w ≡ state_before before ns (state v)
  state_of_undone [] v w h = ap state h
  state_of_undone (n ∷ ns) v w h = law h.0 n w h.2 ∙ ap (λ s. before s n) (state_of_undone ns v h.0 h.1)

  -- all past the mark are undone where no more notes than the mark stand
  pub state_at_mark : (mark : ℕ) (stood stand : List N) (v w : T) → Unwound step stood stand v w → mark ≤ length stand → length stand ≤ mark
      → state w ≡ state_before before (drop mark stood) (state v)
  state_at_mark mark stood stand v w u low high =
      let past : drop mark stood ≡ u.popped = rw u.split (grind (arith, common_steps)) in
      rw past (state_of_undone u.popped v w u.undone)
