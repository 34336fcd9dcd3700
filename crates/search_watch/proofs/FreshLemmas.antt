-- Chains of terms that end nothing.
use Rattle.std.proofs.Common.{zero, suc, ◌≡◌, ◌<◌, ◌+◌, ◌⊎◌, inl, inr, ℕ, List, [], ◌∷◌, ◌++◌, length, slice_index, slice_index_or, Contains, refl, sym, ◌∙◌, ap, subst, arith, length-append}
use Rattle.search_watch.specs.Chains.{Chained, slot_at, no_chains, with_term}
use Rattle.search_watch.specs.Covers.{Covers, ItemsBelow}
use Rattle.search_watch.specs.Watched.{HaveChains}
use Rattle.search_watch.proofs.ChainLemmas.{get_front}

-- so many terms have a list each, and no list has an item
pub record IsFresh (count : ℕ) (chains : Chained) : Type 0 where
  pub slots : length chains.slots ≡ count
  pub lists : length chains.lists ≡ count
  pub have : HaveChains count chains
  pub none : ItemsBelow 0 chains

pub fresh_none : IsFresh 0 no_chains
fresh_none = record {
  slots = refl;
  lists = refl;
  have = λ term lt. absurd (omega (arith, lt));
  none = λ slot item on. absurd (omega (arith, on.1));
}

get_last : (xs : List ℕ) (x : ℕ) → slice_index (xs ++ x ∷ []) (length xs) ≡ x
get_last [] x = refl
get_last (y ∷ ys) x = get_last ys x

one_more : (xss : List (List ℕ)) (i : ℕ) → slice_index_or (xss ++ [] ∷ []) i [] ≡ slice_index_or xss i []
one_more [] zero = refl
one_more [] (suc i) = refl
one_more (xs ∷ xss) zero = refl
one_more (xs ∷ xss) (suc i) = one_more xss i

split_last : (term count : ℕ) → term < count + 1 → (term < count) ⊎ (term ≡ count)
split_last term count lt = search arith

fresh_with : (count : ℕ) (s : Chained) → IsFresh count s → IsFresh (count + 1) (with_term s)
fresh_with count s fresh =
    let more = length-append s.slots (length s.slots ∷ []) in
    let more' = length-append s.lists ([] ∷ []) in
    record {
      slots = omega (arith, more, fresh.slots);
      lists = omega (arith, more', fresh.lists);
      have = λ term lt. record {
        leader_stands = omega (arith, more, fresh.slots);
        slot_stands = slot term (split_last term count lt);
      };
      none = λ slot item on. fresh.none slot item (subst (λ (xs : List ℕ). Contains xs item) (one_more s.lists slot) on);
    }
  where
    slot : (term : ℕ) → (term < count) ⊎ (term ≡ count) → slot_at (with_term s) term < length (s.lists ++ [] ∷ [])
    slot term (inl old) =
        let has = fresh.have term old in
        let front = get_front s.slots (length s.slots ∷ []) term has.leader_stands in
        omega (arith, front, has.slot_stands, length-append s.lists ([] ∷ []))
    slot term (inr new) =
        let at : term ≡ length s.slots = omega (arith, new, fresh.slots) in
        let last = ap (slice_index (s.slots ++ length s.slots ∷ [])) at ∙ get_last s.slots (length s.slots) in
        omega (arith, last, fresh.slots, fresh.lists, length-append s.lists ([] ∷ []))

-- one term more
pub fresh_more : (count : ℕ) (s t : Chained) → t ≡ with_term s → IsFresh count s → IsFresh (count + 1) t
fresh_more count s t is fresh = subst (λ (c : Chained). IsFresh (count + 1) c) (sym is) (fresh_with count s fresh)

-- chains cover what ends nothing
pub covers_nothing : (same : ℕ → ℕ → Type 0) (s : Chained) → Covers same [] s
covers_nothing same s = record { each = λ leader term item least g on. absurd (omega (arith, on.1)) }

pub none_below : (s : Chained) (count : ℕ) → ItemsBelow 0 s → ItemsBelow count s
none_below s count none slot item on = let lt = none slot item on in omega (arith, lt)
