use Rattle.std.proofs.Common.{◌≡◌, ◌≢◌, ◌<◌, ◌+◌, ℕ, List, [], ◌∷◌, ◌++◌, length, take, slice_set, slice_index, slice_index_or, Contains, refl, sym, ◌∙◌, ap, arith, zero, suc, append_assoc}
use Rattle.std.proofs.lemmas.Grind.{common_steps}
use Rattle.std.proofs.lemmas.List.{get_or-set_other, length-set}
use Rattle.graph_classes.specs.State.{State, list_at}
use Rattle.graph_classes.specs.Indexed.{written, moved}
use Rattle.graph_classes.proofs.HistoryLemmas.{list_at-set, same_default}

pub written-append : (labels xs ys : List ℕ) (v : ℕ) → written labels (xs ++ ys) v ≡ written (written labels xs v) ys v
written-append labels [] ys v = refl
written-append labels (x ∷ xs) ys v = written-append (slice_set labels x v) xs ys v

pub length-written : (labels xs : List ℕ) (v : ℕ) → length (written labels xs v) ≡ length labels
length-written labels [] v = refl
length-written labels (x ∷ xs) v = length-written (slice_set labels x v) xs v ∙ length-set labels x v

pub set-set : {A : Type 0} (xs : List A) (i : ℕ) (x y : A) → slice_set (slice_set xs i x) i y ≡ slice_set xs i y
set-set [] i x y = refl
set-set (z ∷ zs) zero x y = refl
set-set (z ∷ zs) (suc i) x y = ap (λ ws. z ∷ ws) (set-set zs i x y)

-- a list of lists gets one more number at a place
pub one_more_at : (lists : List (List ℕ)) (i t : ℕ) (xs : List ℕ) → i < length lists
    → slice_set (slice_set lists i (list_at lists i ++ xs)) i (list_at (slice_set lists i (list_at lists i ++ xs)) i ++ t ∷ []) ≡ slice_set lists i (list_at lists i ++ (xs ++ t ∷ []))
one_more_at lists i t xs h =
    ap (λ l. slice_set (slice_set lists i (list_at lists i ++ xs)) i (l ++ t ∷ [])) (list_at-set lists i (list_at lists i ++ xs) h)
    ∙ set-set lists i _ _
    ∙ ap (slice_set lists i) (append_assoc (list_at lists i) xs (t ∷ []))

-- a list that is another at the place is as it was
pub list_at-other : (lists : List (List ℕ)) (i j : ℕ) (xs : List ℕ) → j ≢ i → list_at (slice_set lists i xs) j ≡ list_at lists j
list_at-other lists i j xs h = get_or-set_other lists i j xs [] h

pub take_one_more : (xs : List ℕ) (i : ℕ) → i < length xs → take (i + 1) xs ≡ take i xs ++ slice_index xs i ∷ []
take_one_more xs i h = grind (arith, common_steps)

-- what was read at a place of a list at a place
pub read_at : (lists : List (List ℕ)) (j i t : ℕ) (list : List ℕ) → j < length lists → list ≡ slice_index_or lists j list → t ≡ slice_index list i → t ≡ slice_index (list_at lists j) i
read_at lists j i t list h is_list is_item = is_item ∙ ap (λ l. slice_index l i) (is_list ∙ same_default lists j list [] h)

pub contains_index : (xs : List ℕ) (i : ℕ) → i < length xs → Contains xs (slice_index xs i)
contains_index xs i h = (i, h, same_default_number xs i (slice_index xs i) 0 h)
  where
    same_default_number : (xs : List ℕ) (i d e : ℕ) → i < length xs → slice_index_or xs i d ≡ slice_index_or xs i e
    same_default_number xs i d e h = same_default xs i d e h

pub moved_more : (s : State) (xs : List ℕ) (t into : ℕ) (mid new : State) → into < length s.members
    → mid ≡ record (moved s xs into) { labels = slice_set (moved s xs into).labels t into }
    → new ≡ record mid { members = slice_set mid.members into (list_at mid.members into ++ t ∷ []) }
    → new ≡ moved s (xs ++ t ∷ []) into
moved_more s xs t into mid new h is_mid is_new =
    is_new ∙ ap (λ (m : State). record m { members = slice_set m.members into (list_at m.members into ++ t ∷ []) }) is_mid
    ∙ ap (λ ls. record (moved s xs into) { labels = ls; members = slice_set (moved s xs into).members into (list_at (moved s xs into).members into ++ t ∷ []) }) (sym (written-append s.labels xs (t ∷ []) into))
    ∙ ap (λ ms. record s { labels = written s.labels (xs ++ t ∷ []) into; members = ms }) (one_more_at s.members into t xs h)

-- an item of the list that moves, read while another list grows
pub moving_item : (lists now : List (List ℕ)) (from into i t : ℕ) (grown list : List ℕ) → now ≡ slice_set lists into grown → from ≢ into → from < length lists
    → list ≡ slice_index_or now from list → t ≡ slice_index list i → t ≡ slice_index (list_at lists from) i
moving_item lists now from into i t grown list is_now apart h is_list is_item =
    read_at now from i t list (rw is_now (omega (arith, length-set lists into grown))) is_list is_item
    ∙ ap (λ (ls : List (List ℕ)). slice_index (list_at ls from) i) is_now
    ∙ ap (λ l. slice_index l i) (list_at-other lists into from grown apart)

pub count_at : (lists : List (List ℕ)) (i n : ℕ) (list : List ℕ) → i < length lists → list ≡ slice_index_or lists i list → n ≡ length list → n ≡ length (list_at lists i)
count_at lists i n list h is_list is_length = is_length ∙ ap length (is_list ∙ same_default lists i list [] h)

-- a number that was read at a place is the number there
pub read_is : (xs : List ℕ) (i x : ℕ) → i < length xs → x ≡ slice_index_or xs i x → slice_index xs i ≡ x
read_is xs i x h e = sym (e ∙ same_default xs i x 0 h)
