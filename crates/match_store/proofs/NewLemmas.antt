-- Which instances are new, by their keys.
use Rattle.std.proofs.Common.{◌≡◌, ℕ, map, List, [], ◌∷◌, All, Contains, length, ◌<◌, get_or, sym, ap, ap₂, subst, arith}
use Rattle.std.proofs.lemmas.List.Elements.{Contains-get_or}
use Rattle.std.specs.Cmp.Lexicographic.{slice_cmp}
use Rattle.std.specs.Ordering.{nat_cmp}
use Rattle.std.specs.declared.cmp.Ordering.TheVariants.{Less}
use Rattle.graph_meaning.specs.declared.done.Done.{Done}
use Rattle.graph_meaning.specs.Match.{IsMatch}
use Rattle.graph_meaning.specs.Same.{IsLeader}
use Rattle.match_store.specs.declared.instance.Instance.{Instance}
use Rattle.match_store.specs.Candidates.{AreCandidates, AreDoneKeys, AreLeft}
use Rattle.match_store.specs.DoneInstances.{AreSameEach, IsDone}
use Rattle.match_store.specs.Instance.{instance_of, key_of}
use Rattle.match_store.specs.New.{AreNew}
use Rattle.match_store.proofs.ListLemmas.{AllPairs-from_map, Contains-map, Contains-from_map, less_strict, same_in_order}

-- the first number of a key, and the others
abbrev first_of : List ℕ → ℕ
first_of [] = 0
first_of (n ∷ ns) = n

abbrev rest_of : List ℕ → List ℕ
rest_of [] = []
rest_of (n ∷ ns) = ns

-- an instance has its own key
same_instance : (a b : Instance) → key_of a ≡ key_of b → a ≡ b
same_instance a b e = ap₂ instance_of (ap first_of e) (ap rest_of e)

module _ (standing : List Done) (done : List Instance) where
  -- there is one list of the new instances
  pub one_new : (xs ys : List Instance) → AreNew standing done xs → AreNew standing done ys → xs ≡ ys
  one_new xs ys a b = same_in_order (λ s t. slice_cmp nat_cmp (key_of s) (key_of t) ≡ Less) (λ s t. less_strict (key_of s) (key_of t)) xs ys a.in_order b.in_order
      (λ i c. (b.exact i).1 ((a.exact i).0 c)) (λ i c. (a.exact i).1 ((b.exact i).0 c))

  -- each candidate is of a forall
  pub keys_begin : (keys : List (List ℕ)) → AreCandidates standing keys → All (λ key. 0 < length key) keys
  keys_begin keys are k d within =
      let is = (are.exact (get_or keys k d)).0 (Contains-get_or keys k d within) in
      subst (λ (key : List ℕ). 0 < length key) (sym is.is_key) (omega arith)

  module _ (candidates done_keys : List (List ℕ)) (are : AreCandidates standing candidates) (have : AreDoneKeys standing done done_keys) where
    -- an instance whose key is a done one is done
    key_done : (instance : Instance) → Contains done_keys (key_of instance) → IsDone standing done instance
    key_done instance c =
        let is = (have (key_of instance)).0 c in
        record {
          earlier = is.0;
          stands = is.1;
          of_forall = sym (ap first_of is.2.is_key);
          same = subst (AreSameEach standing is.0.tuple) (sym (ap rest_of is.2.is_key)) is.2.same;
        }

    -- and a match that is done has a done key
    done_key : (instance : Instance) → All (λ term. IsLeader standing term term) instance.tuple → IsDone standing done instance → Contains done_keys (key_of instance)
    done_key instance led is = (have (key_of instance)).1 (
      is.earlier,
      is.stands,
      record {
        leaders = instance.tuple;
        is_key = ap (λ n. n ∷ instance.tuple) (sym is.of_forall);
        same = is.same;
        led = led;
      },
    )

    -- the candidates that are left are the new instances
    pub left_are_new : (instances : List Instance) → AreLeft done_keys candidates (map key_of instances) → AreNew standing done instances
    left_are_new instances left = record {
      in_order = AllPairs-from_map key_of (λ a b. slice_cmp nat_cmp a b ≡ Less) instances left.in_order;
      exact = λ instance. (
        λ c. let both = (left.exact (key_of instance)).0 (Contains-map key_of instances instance c) in
            let is = (are.exact (key_of instance)).0 both.0 in
            record {
              trigger = is.trigger;
              live = is.among;
              of_forall = sym (ap first_of is.is_key);
              matches = subst (IsMatch standing is.trigger) (sym (ap rest_of is.is_key)) is.matches;
              not_done = λ is_done. both.1 (done_key instance (subst (IsMatch standing is.trigger) (sym (ap rest_of is.is_key)) is.matches).leaders is_done);
            },
        λ new. let key = (are.exact (key_of instance)).1 (record {
          trigger = new.trigger;
          among = new.live;
          tuple = instance.tuple;
          is_key = ap (λ n. n ∷ instance.tuple) (sym new.of_forall);
          matches = new.matches;
        }) in
            let from = Contains-from_map key_of instances (key_of instance) ((left.exact (key_of instance)).1 (key, λ c. new.not_done (key_done instance c))) in
            subst (Contains instances) (same_instance from.0 instance from.2) from.1,
      );
    }
