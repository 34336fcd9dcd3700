-- Of the candidates those that are not done.
use Rattle.std.proofs.Common.{◌≡◌, ◌+◌, ◌<◌, ⊎_elim, ℕ, List, [], ◌∷◌, ◌++◌, Contains, length, get_or, take, sym, subst}
use Rattle.std.proofs.lemmas.Grind.{take_at_read}
use Rattle.std.proofs.lemmas.List.Elements.{Contains-append_left, Contains-get_or, Contains-push, Contains-push_cases}
use Rattle.std.proofs.lemmas.List.Quantifiers.{all_pairs_push}
use Rattle.std.specs.Cmp.Lexicographic.{slice_cmp}
use Rattle.std.specs.Ordering.{nat_cmp}
use Rattle.std.specs.declared.cmp.Ordering.TheVariants.{Less}
use Rattle.graph_meaning.specs.Match.{InOrder}
use Rattle.match_store.specs.Candidates.{AreLeft}
use Rattle.match_store.proofs.ListLemmas.{earlier_before}

module _ (done : List (List ℕ)) where
  module _ (candidates : List (List ℕ)) (up : InOrder candidates) (i : ℕ) (within : i < length candidates) (key d : List ℕ) (is : key ≡ get_or candidates i d) (keys : List (List ℕ)) (left : AreLeft done (take i candidates) keys) where
    next : take (i + 1) candidates ≡ take i candidates ++ key ∷ []
    next = subst (λ (k : List ℕ). take (i + 1) candidates ≡ take i candidates ++ k ∷ []) (sym is) (take_at_read candidates i d within).1

    -- a candidate that is not done comes last
    pub left_more : (Contains done key → ⊥) → AreLeft done (take (i + 1) candidates) (keys ++ key ∷ [])
    left_more not_done = subst (λ (cs : List (List ℕ)). AreLeft done cs (keys ++ key ∷ [])) (sym next) (record {
      in_order = all_pairs_push (λ a b. slice_cmp nat_cmp a b ≡ Less) keys key left.in_order
          (λ k e less. subst (λ (b : List ℕ). slice_cmp nat_cmp (get_or keys k e) b ≡ Less) (sym is)
          (earlier_before (λ a b. slice_cmp nat_cmp a b ≡ Less) candidates i d (get_or keys k e) up within ((left.exact (get_or keys k e)).0 (Contains-get_or keys k e less)).0));
      exact = λ other. (
        λ c. ⊎_elim
            (λ old. let both = (left.exact other).0 old in (Contains-append_left (take i candidates) (key ∷ []) other both.0, both.1))
            (λ e. (subst (Contains (take i candidates ++ key ∷ [])) e (Contains-push (take i candidates) key), subst (λ (k : List ℕ). Contains done k → ⊥) e not_done))
            (Contains-push_cases keys key other c),
        λ both. ⊎_elim
            (λ old. Contains-append_left keys (key ∷ []) other ((left.exact other).1 (old, both.1)))
            (λ e. subst (Contains (keys ++ key ∷ [])) e (Contains-push keys key))
            (Contains-push_cases (take i candidates) key other both.0),
      );
    })

    -- one that is done is left out
    pub left_same : Contains done key → AreLeft done (take (i + 1) candidates) keys
    left_same is_done = subst (λ (cs : List (List ℕ)). AreLeft done cs keys) (sym next) (record {
      in_order = left.in_order;
      exact = λ other. (
        λ c. let both = (left.exact other).0 c in (Contains-append_left (take i candidates) (key ∷ []) other both.0, both.1),
        λ both. ⊎_elim (λ old. (left.exact other).1 (old, both.1)) (λ e. absurd (both.1 (subst (Contains done) e is_done))) (Contains-push_cases (take i candidates) key other both.0),
      );
    })
