-- What is found at a union, and at several.
use Rattle.std.proofs.Common.{zero, suc, ◌≡◌, ◌<◌, ◌+◌, ◌⊎◌, inl, inr, ℕ, min, true, false, List, [], ◌∷◌, ◌++◌, length, take, slice_index, slice_index_or, slice_set, slice_get, Some, Contains, sym, ◌∙◌, ap, subst, arith, All}
use Rattle.std.proofs.lemmas.List.{take_more}
use Rattle.std.proofs.lemmas.List.Elements.{Contains-append_left, Contains-append_right, Contains-get_or, All-append, All-same, All-from_get_or}
use Rattle.std.proofs.Math.ListN.{length-set}
use Rattle.graph_meaning.specs.declared.union.Union.{Union}
use Rattle.graph_meaning.specs.Unions.{IsLeast, Leads}
use Rattle.search_watch.specs.declared.watch.Watch.{Watch}
use Rattle.search_watch.specs.Chains.{Chained, HasChain, slot_at, chain_at, chained}
use Rattle.search_watch.specs.Covers.{Covers, ItemsBelow}
use Rattle.search_watch.specs.Watched.{World, classes, HaveChains, Gathers, KeepsItems, Finds, LooksAtUnion, LooksAtUnions}
use Rattle.search_watch.proofs.ChainLemmas.{get-set_same, get-set_other}
use Rattle.search_watch.proofs.CoverLemmas.{below_join}

same_or_not : (i j : ℕ) → (i ≡ j) ⊎ (i ≡ j → ⊥)
same_or_not i j = search arith

-- each term still has a list
pub chains_stand : (terms : ℕ) (s : Chained) (moved kept : ℕ) → HasChain s kept → HaveChains terms s → HaveChains terms (chained s moved kept)
chains_stand terms s moved kept has_kept have term lt = record {
  leader_stands = omega (arith, length-set s.slots (min moved kept) (slot_at s kept), (have term lt).leader_stands);
  slot_stands = elim (same_or_not term (min moved kept)) [
    | inl same ↦ let here = ap (λ k. slice_index (slice_set s.slots (min moved kept) (slot_at s kept)) k) same ∙ get-set_same s.slots (min moved kept) (slot_at s kept) 0 (omega (arith, same, (have term lt).leader_stands)) in
        omega (arith, here, length-set s.lists (slot_at s kept) (chain_at s kept ++ chain_at s moved), has_kept.slot_stands)
    | inr other ↦ omega (arith, get-set_other s.slots (min moved kept) term (slot_at s kept) 0 other, length-set s.lists (slot_at s kept) (chain_at s kept ++ chain_at s moved), (have term lt).slot_stands)
  ];
}

-- what was found stays found
pub gathers : (old new more : List ℕ) → new ≡ old ++ more → (item : ℕ) → Contains old item → Contains new item
gathers old new more is item on = subst (λ (xs : List ℕ). Contains xs item) (sym is) (Contains-append_left old more item on)

pub finds : (same : ℕ → ℕ → Type 0) (ends : List (ℕ × ℕ)) (s : Chained) (leader : ℕ) (old new : List ℕ) → Covers same ends s → IsLeast same leader → new ≡ old ++ chain_at s leader → Finds same leader ends new
finds same ends s leader old new covers least is item term g on = subst (λ (xs : List ℕ). Contains xs item) (sym is) (Contains-append_right old (chain_at s leader) item (covers.each leader term item least g on))

-- the side that was taken
pub looks_at : (world : World) (unions : List Union) (union : Union) (moved kept : ℕ) (literals differs : List ℕ) → ((moved ≡ union.left) × (kept ≡ union.right)) ⊎ ((moved ≡ union.right) × (kept ≡ union.left))
    → Finds (classes world unions) moved world.literal_ends literals → Finds (classes world unions) moved world.differ_ends differs → LooksAtUnion world unions union literals differs
looks_at world unions union moved kept literals differs (inl both) found_literals found_differs = record {
  side = true;
  literals_found = subst (λ (m : ℕ). Finds (classes world unions) m world.literal_ends literals) both.0 found_literals;
  differs_found = subst (λ (m : ℕ). Finds (classes world unions) m world.differ_ends differs) both.0 found_differs;
}
looks_at world unions union moved kept literals differs (inr both) found_literals found_differs = record {
  side = false;
  literals_found = subst (λ (m : ℕ). Finds (classes world unions) m world.literal_ends literals) both.0 found_literals;
  differs_found = subst (λ (m : ℕ). Finds (classes world unions) m world.differ_ends differs) both.0 found_differs;
}

pub moved_least : (same : ℕ → ℕ → Type 0) (union : Union) (moved kept : ℕ) → Leads same union → ((moved ≡ union.left) × (kept ≡ union.right)) ⊎ ((moved ≡ union.right) × (kept ≡ union.left)) → IsLeast same moved
moved_least same union moved kept leads (inl both) = subst (λ (m : ℕ). IsLeast same m) (sym both.0) leads.left
moved_least same union moved kept leads (inr both) = subst (λ (m : ℕ). IsLeast same m) (sym both.0) leads.right

pub both_stand : (terms : ℕ) (union : Union) (moved kept : ℕ) → union.left < terms → union.right < terms → ((moved ≡ union.left) × (kept ≡ union.right)) ⊎ ((moved ≡ union.right) × (kept ≡ union.left)) → (moved < terms) × (kept < terms)
both_stand terms union moved kept l r (inl both) = (omega (arith, both.0), omega (arith, both.1))
both_stand terms union moved kept l r (inr both) = (omega (arith, both.0), omega (arith, both.1))

-- the first unions and the next one
pub take_next : (unions : List Union) (k : ℕ) (union : Union) → slice_get unions k ≡ Some union → take (k + 1) unions ≡ take k unions ++ union ∷ []
take_next unions k union e = take_more unions k union (within unions k e) ∙ ap (λ u. take k unions ++ u ∷ []) (at unions k e)
  where
    within : (us : List Union) (n : ℕ) → slice_get us n ≡ Some union → n < length us
    within [] n e = cc
    within (u ∷ us) zero e = omega arith
    within (u ∷ us) (suc n) e = omega (arith, within us n e)

    at : (us : List Union) (n : ℕ) → slice_get us n ≡ Some union → slice_index_or us n union ≡ union
    at [] n e = cc
    at (u ∷ us) zero e = cc
    at (u ∷ us) (suc n) e = at us n e

pub same_union : (unions : List Union) (k : ℕ) (one other : Union) → slice_get unions k ≡ Some one → slice_get unions k ≡ Some other → one ≡ other
same_union unions k one other p q = cc

pub looks_more : (world : World) (unions : List Union) (union : Union) (literals differs literals' differs' : List ℕ) → Gathers literals literals' → Gathers differs differs' → LooksAtUnion world unions union literals differs → LooksAtUnion world unions union literals' differs'
looks_more world unions union literals differs literals' differs' more more' looks = record {
  side = looks.side;
  literals_found = λ item term g on. more item (looks.literals_found item term g on);
  differs_found = λ item term g on. more' item (looks.differs_found item term g on);
}

pub looks_step : (world : World) (unions : List Union) (k : ℕ) (literals differs literals' differs' : List ℕ) → Gathers literals literals' → Gathers differs differs' → LooksAtUnions world unions k literals differs
    → ((union : Union) → slice_get unions k ≡ Some union → LooksAtUnion world (take k unions) union literals' differs') → LooksAtUnions world unions (k + 1) literals' differs'
looks_step world unions k literals differs literals' differs' more more' before here j union lt at = elim (same_or_not j k) [
  | inl same ↦ subst (λ (i : ℕ). LooksAtUnion world (take i unions) union literals' differs') (sym same) (here union (ap (slice_get unions) (sym same) ∙ at))
  | inr other ↦ looks_more world (take j unions) union literals differs literals' differs' more more' (before j union (omega arith) at)
]

-- ---- items stay below their bound

pub items_none : (watch : Watch) → KeepsItems watch watch
items_none watch = record { terms = λ count has. has; literals = λ count below. below; differs = λ count below. below }

pub items_trans : (a b c : Watch) → KeepsItems a b → KeepsItems b c → KeepsItems a c
items_trans a b c first second = record {
  terms = λ count has. second.terms count (first.terms count has);
  literals = λ count below. second.literals count (first.literals count below);
  differs = λ count below. second.differs count (first.differs count below);
}

pub items_joined : (old new : Watch) (moved kept : ℕ) → HasChain old.literals.chains kept → HasChain old.differs.chains kept
    → new.literals.chains ≡ chained old.literals.chains moved kept → new.differs.chains ≡ chained old.differs.chains moved kept → KeepsItems old new
items_joined old new moved kept has has' is is' = record {
  terms = λ count terms. record {
    literals = ap (λ (s : Chained). length s.slots) is ∙ length-set old.literals.chains.slots (min moved kept) (slot_at old.literals.chains kept) ∙ terms.literals;
    differs = ap (λ (s : Chained). length s.slots) is' ∙ length-set old.differs.chains.slots (min moved kept) (slot_at old.differs.chains kept) ∙ terms.differs;
  };
  literals = λ count below. subst (λ (s : Chained). ItemsBelow count s) (sym is) (below_join old.literals.chains moved kept count has.slot_stands below);
  differs = λ count below. subst (λ (s : Chained). ItemsBelow count s) (sym is') (below_join old.differs.chains moved kept count has'.slot_stands below);
}

-- what is gathered from a chain is below the bound of the chains
pub chain_below : (s : Chained) (leader count : ℕ) → ItemsBelow count s → All (λ item. item < count) (chain_at s leader)
chain_below s leader count below = All-from_get_or (λ item. item < count) (chain_at s leader) 0 (λ i lt. below (slot_at s leader) (slice_index_or (chain_at s leader) i 0) (Contains-get_or (chain_at s leader) i 0 lt))

pub found_below : (s : Chained) (leader count : ℕ) (old new : List ℕ) → new ≡ old ++ chain_at s leader → ItemsBelow count s → All (λ item. item < count) old → All (λ item. item < count) new
found_below s leader count old new is below all = All-same (λ item. item < count) new (old ++ chain_at s leader) is (All-append (λ item. item < count) old (chain_at s leader) all (chain_below s leader count below))

pub looks_none : (world : World) (unions : List Union) (literals differs : List ℕ) → LooksAtUnions world unions 0 literals differs
looks_none world unions literals differs k union lt at = absurd (omega arith)
