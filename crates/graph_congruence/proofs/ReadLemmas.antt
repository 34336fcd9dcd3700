-- What was read of a list.
use Rattle.std.proofs.Common.{◌≡◌, ◌<◌, ℕ, List, [], ◌∷◌, length, Some, zero, suc, slice_get, slice_index, slice_index_or, Contains, refl, sym, ◌∙◌, subst, arith}
use Rattle.std.proofs.lemmas.Option.{slice_get_within}
use Rattle.graph_classes.specs.State.{State}
use Rattle.graph_classes.specs.Indexed.{IsIndexed}
use Rattle.graph_classes.specs.Listed.{IsOwn}

pub contains_none : {A : Type 0} (x : A) → Contains {X = A} [] x → ⊥
contains_none x h = omega (arith, h.1)

pub contains_at : (xs : List ℕ) (k x : ℕ) → slice_get xs k ≡ Some x → Contains xs x
contains_at xs k x is = (k, slice_get_within xs k x is, slice_get_read_or xs k x is)
  where
    slice_get_read_or : (ys : List ℕ) (k x : ℕ) → slice_get ys k ≡ Some x → slice_index_or ys k x ≡ x
    slice_get_read_or [] k x is = let h = slice_get_within [] k x is in absurd (omega arith)
    slice_get_read_or (y ∷ ys) zero x is = cc
    slice_get_read_or (y ∷ ys) (suc k) x is = slice_get_read_or ys k x is

same_default : {A : Type 0} (xs : List A) (i : ℕ) (d e : A) → i < length xs → slice_index_or xs i d ≡ slice_index_or xs i e
same_default [] i d e h = absurd (omega arith)
same_default (x ∷ xs) zero d e h = refl
same_default (x ∷ xs) (suc i) d e h = same_default xs i d e (omega arith)

-- a number that was read at a place is the number there
pub read_is : (xs : List ℕ) (i x : ℕ) → i < length xs → x ≡ slice_index_or xs i x → slice_index xs i ≡ x
read_is xs i x h e = sym (e ∙ same_default xs i x 0 h)

-- the label that was read of a term is its own
pub own_label : (s : State) (t label : ℕ) → IsIndexed s → t < length s.rows → label ≡ slice_index_or s.labels t label → (slice_index s.labels t ≡ label) × IsOwn s.labels label
own_label s t label indexed h read =
    let is = read_is s.labels t label (rw indexed.labels_len h) read in
    let P : ℕ → Type 0 = λ l. IsOwn s.labels l in
    (is, subst P is (rw indexed.labels_len (indexed.label_in t h), indexed.label_fixed t h))
