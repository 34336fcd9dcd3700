-- Values grow with what places were told.
use Rattle.std.proofs.Common.{zero, suc, ◌≡◌, inl, inr, ℕ, true, false, List, [], ◌∷◌, slice_set, slice_index_or, refl}
use Rattle.formula_truth.specs.declared.truth.Truth.{Truth}
use Rattle.formula_truth.specs.declared.truth.Truth.TheVariants.{Yes, No, Unset}
use Rattle.search_board.specs.declared.kind.Kind.{Kind}
use Rattle.search_board.specs.declared.kind.Kind.TheVariants.{Leaf, And, Or}
use Rattle.search_board.specs.declared.place.Place.{Place}
use Rattle.formula_truth.specs.Truths.{is_set_value, and_of, or_of, all_of, some_of}
use Rattle.search_board.specs.Values.{value_of}
use Rattle.search_board.specs.Board.{blank}
use Rattle.search_values.specs.Settled.{told_by, Grows}

pub grows_same : (t : Truth) → Grows t t
grows_same t = inr refl

pub grows_set : (old new : Truth) → is_set_value old ≡ true → Grows old new → old ≡ new
grows_set Yes new set (inl e) = cc
grows_set Yes new set (inr e) = e
grows_set No new set (inl e) = cc
grows_set No new set (inr e) = e
grows_set Unset new set grows = cc

pub grows_unset : (old new : Truth) → is_set_value new ≡ false → Grows old new → old ≡ new
grows_unset old Unset set (inl e) = e
grows_unset old Unset set (inr e) = e
grows_unset old Yes set grows = cc
grows_unset old No set grows = cc

pub unset_is : (t : Truth) → is_set_value t ≡ false → t ≡ Unset
unset_is Unset e = refl
unset_is Yes e = cc
unset_is No e = cc

grows_and : (a a' b b' : Truth) → Grows a a' → Grows b b' → Grows (and_of a b) (and_of a' b')
grows_and No No b b' h k = inr refl
grows_and No Yes b b' h k = absurd (elim h [ inl e ↦ cc | inr e ↦ cc ])
grows_and No Unset b b' h k = absurd (elim h [ inl e ↦ cc | inr e ↦ cc ])
grows_and Yes Yes b b' h k = k
grows_and Yes No b b' h k = absurd (elim h [ inl e ↦ cc | inr e ↦ cc ])
grows_and Yes Unset b b' h k = absurd (elim h [ inl e ↦ cc | inr e ↦ cc ])
grows_and Unset a' Yes b' h k = inl refl
grows_and Unset a' Unset b' h k = inl refl
grows_and Unset a' No Yes h k = absurd (elim k [ inl e ↦ cc | inr e ↦ cc ])
grows_and Unset a' No Unset h k = absurd (elim k [ inl e ↦ cc | inr e ↦ cc ])
grows_and Unset Yes No No h k = inr refl
grows_and Unset No No No h k = inr refl
grows_and Unset Unset No No h k = inr refl

grows_or : (a a' b b' : Truth) → Grows a a' → Grows b b' → Grows (or_of a b) (or_of a' b')
grows_or Yes Yes b b' h k = inr refl
grows_or Yes No b b' h k = absurd (elim h [ inl e ↦ cc | inr e ↦ cc ])
grows_or Yes Unset b b' h k = absurd (elim h [ inl e ↦ cc | inr e ↦ cc ])
grows_or No No b b' h k = k
grows_or No Yes b b' h k = absurd (elim h [ inl e ↦ cc | inr e ↦ cc ])
grows_or No Unset b b' h k = absurd (elim h [ inl e ↦ cc | inr e ↦ cc ])
grows_or Unset a' No b' h k = inl refl
grows_or Unset a' Unset b' h k = inl refl
grows_or Unset a' Yes No h k = absurd (elim k [ inl e ↦ cc | inr e ↦ cc ])
grows_or Unset a' Yes Unset h k = absurd (elim k [ inl e ↦ cc | inr e ↦ cc ])
grows_or Unset Yes Yes Yes h k = inr refl
grows_or Unset No Yes Yes h k = inr refl
grows_or Unset Unset Yes Yes h k = inr refl

grows_all : (places : List Place) (i : ℕ) (new : Place) → Grows (slice_index_or places i blank).told new.told → Grows (all_of (told_by places)) (all_of (told_by (slice_set places i new)))
grows_all [] i new h = grows_same Yes
grows_all (place ∷ places) zero new h = grows_and place.told new.told (all_of (told_by places)) (all_of (told_by places)) h (grows_same _)
grows_all (place ∷ places) (suc i) new h = grows_and place.told place.told (all_of (told_by places)) (all_of (told_by (slice_set places i new))) (grows_same _) (grows_all places i new h)

grows_some : (places : List Place) (i : ℕ) (new : Place) → Grows (slice_index_or places i blank).told new.told → Grows (some_of (told_by places)) (some_of (told_by (slice_set places i new)))
grows_some [] i new h = grows_same No
grows_some (place ∷ places) zero new h = grows_or place.told new.told (some_of (told_by places)) (some_of (told_by places)) h (grows_same _)
grows_some (place ∷ places) (suc i) new h = grows_or place.told place.told (some_of (told_by places)) (some_of (told_by (slice_set places i new))) (grows_same _) (grows_some places i new h)

-- a value only grows where a place is told more
pub value-grows : (kind : Kind) (places : List Place) (i : ℕ) (new : Place) (truth : Truth) → Grows (slice_index_or places i blank).told new.told → Grows (value_of kind (told_by places) truth) (value_of kind (told_by (slice_set places i new)) truth)
value-grows Leaf places i new truth h = grows_same truth
value-grows And places i new truth h = grows_all places i new h
value-grows Or places i new truth h = grows_some places i new h
