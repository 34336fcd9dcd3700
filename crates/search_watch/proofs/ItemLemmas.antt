-- Items of lists.
use Rattle.std.proofs.Common.{zero, suc, ◌≡◌, ◌<◌, ℕ, List, [], ◌∷◌, length, Some, slice_get, slice_index_or, ap, arith}

-- what stands at a place of a list is got there
pub got_item : {A : Type 0} (xs : List A) (k : ℕ) (x : A) → k < length xs → slice_index_or xs k x ≡ x → slice_get xs k ≡ Some x
got_item [] k x h e = absurd (omega arith)
got_item (y ∷ ys) zero x h e = ap Some e
got_item (y ∷ ys) (suc k) x h e = got_item ys k x (omega arith) e
