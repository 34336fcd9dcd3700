-- Leaders of labels.
use Rattle.std.proofs.Common.{◌≡◌, ◌≤◌, ◌<◌, inl, inr, ℕ, List, length, slice_index, slice_set, refl, sym, ◌∙◌, arith}
use Rattle.std.proofs.lemmas.List.{get_or-set_same, get_or-set_other, length-set}
use Rattle.graph_classes.specs.Listed.{IsLed}

-- the lesser leader of the other label is written
pub IsLed-set : (leaders : List ℕ) (from into leader : ℕ) → into < length leaders → slice_index leaders from ≡ leader → leader < slice_index leaders into → IsLed leaders (slice_set leaders into leader) from into
IsLed-set leaders from into leader h is_leader less = record {
  each = length-set leaders into leader;
  others = λ label apart. get_or-set_other leaders into label leader 0 apart;
  below_from = rw (get_or-set_same leaders into leader 0 h) (omega (arith, is_leader));
  below_into = rw (get_or-set_same leaders into leader 0 h) (omega arith);
  one_of_two = inl (get_or-set_same leaders into leader 0 h ∙ sym is_leader);
}

-- the leader stays
pub IsLed-same : (leaders : List ℕ) (from into : ℕ) → slice_index leaders into ≤ slice_index leaders from → IsLed leaders leaders from into
IsLed-same leaders from into h = record { each = refl; others = λ label apart. refl; below_from = h; below_into = omega arith; one_of_two = inr refl }
