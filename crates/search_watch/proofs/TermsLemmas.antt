-- A watch that gains terms which end nothing.
use Rattle.std.proofs.Common.{zero, suc, ◌≡◌, ◌<◌, ◌≤◌, ◌+◌, ◌-◌, ◌⊎◌, inl, inr, ℕ, List, [], ◌∷◌, ◌++◌, length, replicate, slice_index, slice_index_or, Contains, refl, sym, ◌∙◌, ap, subst, arith, length-append, append_assoc, append-nil}
use Rattle.std.proofs.lemmas.List.{get_or-replicate, get_or_past, replicate-append-replicate, length-replicate}
use Rattle.std.proofs.lemmas.List.Elements.{Contains-get_or}
use Rattle.graph_meaning.specs.declared.done.Done.{Done}
use Rattle.graph_meaning.specs.Standing.{terms_of, merges_of, differs_of}
use Rattle.graph_meaning.specs.Same.{Same}
use Rattle.graph_meaning.specs.Lawful.{IsLawful}
use Rattle.graph_meaning.specs.Unions.{Generated, WasSame, was}
use Rattle.search_watch.specs.declared.watch.Watch.{Watch}
use Rattle.search_watch.specs.Chains.{Chained, AreChains, AddsTerms, HasChain, slot_at, list_at, chain_at, with_term}
use Rattle.search_watch.specs.Covers.{Covers, ItemsBelow}
use Rattle.search_watch.specs.Watched.{HaveChains}
use Rattle.search_watch.specs.Service.{EndsStand, Serves, service, ends_from}
use Rattle.search_watch.specs.Grown.{OnlyTermsCame}
use Rattle.search_watch.proofs.ChainLemmas.{get_front}
use Rattle.search_watch.proofs.SettleLemmas.{none_same}
use Rattle.search_watch.proofs.SameLemmas.{derived_terms}
use Rattle.search_watch.proofs.GrownLemmas.{was_before, is_now}

-- ---- chains

pub adds_none : (s : Chained) → AreChains s → AddsTerms 0 s s
adds_none s are = record {
  terms = omega arith;
  aligned = are.aligned;
  lists = sym (append-nil s.lists);
  stay = λ term lt. refl;
  own = λ term past lt. absurd (omega (arith, past, lt));
}

get_last : (xs : List ℕ) (x term : ℕ) → term ≡ length xs → slice_index (xs ++ x ∷ []) term ≡ x
get_last [] x zero e = refl
get_last [] x (suc k) e = absurd (omega (arith, e))
get_last (y ∷ ys) x zero e = absurd (omega (arith, e))
get_last (y ∷ ys) x (suc k) e = get_last ys x k (omega (arith, e))

push_one : (count : ℕ) (xs : List ℕ) → replicate count xs ++ xs ∷ [] ≡ replicate (count + 1) xs
push_one count xs = replicate-append-replicate count 1 xs

one_more : (count : ℕ) (old mid : Chained) → AddsTerms count old mid → AddsTerms (count + 1) old (with_term mid)
one_more count old mid adds =
    let more = length-append mid.slots (length mid.slots ∷ []) in
    let more' = length-append mid.lists ([] ∷ []) in
    record {
      terms = omega (arith, more, adds.terms);
      aligned = omega (arith, more, more', adds.aligned);
      lists = ap (λ (ls : List (List ℕ)). ls ++ [] ∷ []) adds.lists ∙ append_assoc old.lists (replicate count []) ([] ∷ []) ∙ ap (λ (ls : List (List ℕ)). old.lists ++ ls) (push_one count []);
      stay = λ term lt. get_front mid.slots (length mid.slots ∷ []) term (omega (arith, lt, adds.terms)) ∙ adds.stay term lt;
      own = λ term past lt. elim (before_or_last term (length mid.slots) (omega (arith, lt, more))) [
        | inl before ↦ get_front mid.slots (length mid.slots ∷ []) term before ∙ adds.own term past before
        | inr last ↦ get_last mid.slots (length mid.slots) term last ∙ sym last
      ];
    }
  where
    before_or_last : (term n : ℕ) → term < n + 1 → (term < n) ⊎ (term ≡ n)
    before_or_last term n h = search arith

pub adds_more : (count : ℕ) (old mid new : Chained) → new ≡ with_term mid → AddsTerms count old mid → AddsTerms (count + 1) old new
adds_more count old mid new is adds = subst (λ (s : Chained). AddsTerms (count + 1) old s) (sym is) (one_more count old mid adds)

-- ---- lists

before_or_past : (i n : ℕ) → (i < n) ⊎ (n ≤ i)
before_or_past i n = search arith

none_there : (count i : ℕ) (xs : List ℕ) → slice_index_or (replicate count xs) i xs ≡ xs
none_there count i xs = elim (before_or_past i count) [
  | inl before ↦ get_or-replicate count i xs xs before
  | inr past ↦ get_or_past (replicate count xs) i xs (omega (arith, length-replicate count xs))
]

same_lists : (xss : List (List ℕ)) (count i : ℕ) → slice_index_or (xss ++ replicate count []) i [] ≡ slice_index_or xss i []
same_lists [] count i = none_there count i []
same_lists (xs ∷ xss) count zero = refl
same_lists (xs ∷ xss) count (suc i) = same_lists xss count i

module _ (count : ℕ) (old new : Chained) (adds : AddsTerms count old new) where
  list_stays : (slot : ℕ) → list_at new slot ≡ list_at old slot
  list_stays slot = ap (λ (ls : List (List ℕ)). slice_index_or ls slot []) adds.lists ∙ same_lists old.lists count slot

  chain_stays : (leader : ℕ) → leader < length old.slots → chain_at new leader ≡ chain_at old leader
  chain_stays leader lt = list_stays (slot_at new leader) ∙ ap (list_at old) (adds.stay leader lt)

  pub have_more : HaveChains (length old.slots) old → HaveChains (length old.slots + count) new
  have_more have term lt = record {
    leader_stands = omega (arith, lt, adds.terms);
    slot_stands = elim (before_or_past term (length old.slots)) [
      | inl before ↦ omega (arith, (have term before).slot_stands, adds.stay term before, ap length adds.lists, length-append old.lists (replicate count []))
      | inr past ↦ omega (arith, adds.own term past (omega (arith, lt, adds.terms)), lt, adds.terms, adds.aligned)
    ];
  }

  pub below_still : (bound : ℕ) → ItemsBelow bound old → ItemsBelow bound new
  below_still bound below slot item on = below slot item (subst (λ (xs : List ℕ). Contains xs item) (list_stays slot) on)

  -- chains that hold what the classes' terms end do so once only terms came
  pub covers_still : (before now : List Done) → OnlyTermsCame before now → length old.slots ≡ length (terms_of before) → (ends : List (ℕ × ℕ)) → EndsStand (length (terms_of before)) ends
      → Covers (Generated (WasSame before (length (terms_of before))) []) ends old → Covers (Generated (WasSame now (length (terms_of now))) []) ends new
  covers_still before now came terms ends stand covers = record {
    each = λ leader term item least g on.
        let term_lt = stand item term on in
        let same = none_same now g in
        let longer : length (terms_of before) ≤ length (terms_of now) = omega (arith, ap length came.terms, length-append (terms_of before) came.more) in
        let leader_le : leader ≤ term = least term g in
        let leader_lt : leader < length (terms_of before) = omega (arith, leader_le, term_lt) in
        let was_same = was_before before now came leader term leader_lt term_lt same in
        let in_old = covers.each leader term item (λ other h. least other (was (inl (is_now before now came leader other (none_same before h))))) (was (inl was_same)) on in
        subst (λ (xs : List ℕ). Contains xs item) (sym (chain_stays leader (omega (arith, leader_lt, terms)))) in_old;
  }

-- ---- the watch

-- the ends of differences are among those of the pairs
end_is_there : (from : ℕ) (differs : List (ℕ × ℕ)) (item term : ℕ) → Contains (ends_from from differs) (item, term) → (a b : ℕ) × Contains differs (a, b) × ((term ≡ a) ⊎ (term ≡ b))
end_is_there from [] item term on = absurd (omega (arith, on.1))
end_is_there from (pair ∷ pairs) item term (zero, lt, e) = (pair.0, pair.1, (0, omega arith, refl), inl (sym (ap (λ (p : ℕ × ℕ). p.1) e)))
end_is_there from (pair ∷ pairs) item term (suc zero, lt, e) = (pair.0, pair.1, (0, omega arith, refl), inr (sym (ap (λ (p : ℕ × ℕ). p.1) e)))
end_is_there from (pair ∷ pairs) item term (suc (suc k), lt, e) =
    let (a, b, (i, below, at), is) = end_is_there (from + 1) pairs item term (k, omega (arith, lt), e) in
    (a, b, (suc i, omega (arith, below), at), is)

differ_ends_stand : (standing : List Done) → IsLawful standing → EndsStand (length (terms_of standing)) (ends_from 0 (differs_of standing))
differ_ends_stand standing lawful item term on =
    let end = end_is_there 0 (differs_of standing) item term on in
    let both = lawful.whole.different_ends end.0 end.1 end.2 in
    elim end.3 [ inl one ↦ omega (arith, one, both.0) | inr other ↦ omega (arith, other, both.1) ]

pub terms_serve : (before now : List Done) (ends : List (ℕ × ℕ)) (bound count : ℕ) (old new : Watch) → OnlyTermsCame before now → count ≡ length (terms_of now) → Serves (service before ends bound) old
    → AddsTerms (count - length old.literals.chains.slots) old.literals.chains new.literals.chains → AddsTerms (count - length old.literals.chains.slots) old.differs.chains new.differs.chains
    → Serves (service now ends bound) new
terms_serve before now ends bound count old new came counted of literals differs =
    let more = count - length old.literals.chains.slots in
    let longer : length (terms_of before) ≤ length (terms_of now) = omega (arith, ap length came.terms, length-append (terms_of before) came.more) in
    let all : length (terms_of before) + more ≡ length (terms_of now) = omega (arith, longer, counted, of.terms.literals) in
    let all_literals : length old.literals.chains.slots + more ≡ length (terms_of now) = omega (arith, all, of.terms.literals) in
    let all_differs : length old.differs.chains.slots + more ≡ length (terms_of now) = omega (arith, all, of.terms.differs) in
    record {
      terms = record { literals = literals.terms ∙ all_literals; differs = differs.terms ∙ all_differs };
      ends_stand = λ item term on. let lt = of.ends_stand item term on in omega (arith, lt, longer);
      watched = record {
        literals_stand = subst (λ (n : ℕ). HaveChains n new.literals.chains) all_literals (have_more more old.literals.chains new.literals.chains literals (subst (λ (n : ℕ). HaveChains n old.literals.chains) (sym of.terms.literals) of.watched.literals_stand));
        differs_stand = subst (λ (n : ℕ). HaveChains n new.differs.chains) all_differs (have_more more old.differs.chains new.differs.chains differs (subst (λ (n : ℕ). HaveChains n old.differs.chains) (sym of.terms.differs) of.watched.differs_stand));
        literals = covers_still more old.literals.chains new.literals.chains literals before now came of.terms.literals ends of.ends_stand of.watched.literals;
        differs = subst (λ (ds : List (ℕ × ℕ)). Covers (Generated (WasSame now (length (terms_of now))) []) (ends_from 0 ds) new.differs.chains) (sym came.differs)
            (covers_still more old.differs.chains new.differs.chains differs before now came of.terms.differs (ends_from 0 (differs_of before)) (differ_ends_stand before came.was_lawful) of.watched.differs);
      };
      literals = below_still more old.literals.chains new.literals.chains literals bound of.literals;
      differs = subst (λ (ds : List (ℕ × ℕ)). ItemsBelow (length ds) new.differs.chains) (sym came.differs) (below_still more old.differs.chains new.differs.chains differs (length (differs_of before)) of.differs);
    }
