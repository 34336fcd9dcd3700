-- Keys of matches and of done instances, gathered one after another.
use Rattle.std.proofs.Common.{◌≡◌, ◌<◌, inl, inr, ⊎_elim, ℕ, map, List, [], ◌∷◌, ◌++◌, All, Contains, length, sym, ap, subst, ◌∙◌}
use Rattle.std.proofs.lemmas.List.Elements.{All-push, Contains-append_left, Contains-append_right, Contains-append_cases, Contains-push, Contains-push_cases}
use Rattle.graph_meaning.specs.declared.done.Done.{Done}
use Rattle.graph_meaning.specs.Lawful.{IsLawful}
use Rattle.graph_meaning.specs.Match.{AreMatches, IsMatch}
use Rattle.graph_meaning.specs.Same.{IsLeader, turned}
use Rattle.graph_meaning.specs.Standing.{terms_of}
use Rattle.graph_trigger.specs.declared.trigger.Trigger.{Trigger}
use Rattle.match_store.specs.declared.instance.Instance.{Instance}
use Rattle.match_store.specs.Candidates.{AreDoneKeys, HaveMatches, IsLeaderKey}
use Rattle.match_store.specs.DoneInstances.{AreSameEach}
use Rattle.match_store.specs.KeySet.{GainsKeys}
use Rattle.match_store.proofs.ListLemmas.{Contains-map, Contains-from_map}
use Rattle.match_store.proofs.SameLemmas.{each_push, each_stand, leads_itself, one_leader_each}

module _ (standing : List Done) where
  -- the matches of one trigger more come last
  pub matches_more : (triggers : List Trigger) (trigger : Trigger) (tuples keys : List (List ℕ)) → HaveMatches standing triggers keys → AreMatches standing trigger tuples
      → HaveMatches standing (triggers ++ trigger ∷ []) (keys ++ map (λ tuple. trigger.forall ∷ tuple) tuples)
  matches_more triggers trigger tuples keys have are key = (
    λ c. ⊎_elim
        (λ old. let is = (have key).0 old in record { trigger = is.trigger; among = Contains-append_left triggers (trigger ∷ []) is.trigger is.among; tuple = is.tuple; is_key = is.is_key; matches = is.matches })
        (λ new. let from = Contains-from_map (λ (tuple : List ℕ). trigger.forall ∷ tuple) tuples key new in
        record { trigger = trigger; among = Contains-push triggers trigger; tuple = from.0; is_key = sym from.2; matches = (are.exact from.0).0 from.1 })
        (Contains-append_cases keys (map (λ tuple. trigger.forall ∷ tuple) tuples) key c),
    λ is. ⊎_elim
        (λ old. Contains-append_left keys (map (λ tuple. trigger.forall ∷ tuple) tuples) key ((have key).1 (record { trigger = is.trigger; among = old; tuple = is.tuple; is_key = is.is_key; matches = is.matches })))
        (λ e. Contains-append_right keys (map (λ tuple. trigger.forall ∷ tuple) tuples) key
        (subst (Contains (map (λ tuple. trigger.forall ∷ tuple) tuples)) (ap (λ (t : Trigger). t.forall ∷ is.tuple) e ∙ sym is.is_key)
        (Contains-map (λ (tuple : List ℕ). trigger.forall ∷ tuple) tuples is.tuple ((are.exact is.tuple).1 (subst (λ (t : Trigger). IsMatch standing t is.tuple) (sym e) is.matches)))))
        (Contains-push_cases triggers trigger is.trigger is.among),
  )

  -- the key so far: the forall, and the leaders of the first terms
  pub record IsKeySoFar (forall : ℕ) (terms key : List ℕ) : Type 0 where
    pub leaders : List ℕ
    pub is_key : key ≡ forall ∷ leaders
    pub same : AreSameEach standing terms leaders
    pub led : All (λ term. IsLeader standing term term) leaders

  pub key_more : (forall : ℕ) (terms key : List ℕ) (term leader : ℕ) → IsKeySoFar forall terms key → IsLeader standing term leader → IsKeySoFar forall (terms ++ term ∷ []) (key ++ leader ∷ [])
  key_more forall terms key term leader so_far is = record {
    leaders = so_far.leaders ++ leader ∷ [];
    is_key = ap (λ (k : List ℕ). k ++ leader ∷ []) so_far.is_key;
    same = each_push term leader so_far.same (turned is.same);
    led = All-push (λ t. IsLeader standing t t) so_far.leaders leader so_far.led (leads_itself is);
  }

  -- an instance has one key of leaders
  pub one_key : (instance : Instance) (key other : List ℕ) → IsLeaderKey standing instance key → IsLeaderKey standing instance other → key ≡ other
  one_key instance key other a b = a.is_key ∙ ap (λ (ls : List ℕ). instance.forall ∷ ls) (one_leader_each a.same b.same a.led b.led) ∙ sym b.is_key

  -- the set that gained the key of an instance gained exactly its keys
  pub gains_its_key : (instance : Instance) (key : List ℕ) (old new : List (List ℕ)) → IsLeaderKey standing instance key → GainsKeys (λ other. key ≡ other) old new → GainsKeys (IsLeaderKey standing instance) old new
  gains_its_key instance key old new is gains other = (
    λ c. ⊎_elim inl (λ e. inr (subst (IsLeaderKey standing instance) e is)) ((gains other).0 c),
    λ either. (gains other).1 (⊎_elim inl (λ its. inr (one_key instance key other is its)) either),
  )

  -- an instance that is not of terms has no key
  pub gains_no_key : IsLawful standing → (instance : Instance) (keys : List (List ℕ)) → (All (λ term. term < length (terms_of standing)) instance.tuple → ⊥) → GainsKeys (IsLeaderKey standing instance) keys keys
  gains_no_key lawful instance keys not_terms other = (inl, λ either. ⊎_elim (λ c. c) (λ its. absurd (not_terms (each_stand lawful.whole.ends its.same))) either)

  -- with the keys of one instance more
  pub done_more : (done : List Instance) (instance : Instance) (old new : List (List ℕ)) → AreDoneKeys standing done old → GainsKeys (IsLeaderKey standing instance) old new → AreDoneKeys standing (done ++ instance ∷ []) new
  done_more done instance old new are gains key = (
    λ c. ⊎_elim (λ was. let is = (are key).0 was in (is.0, Contains-append_left done (instance ∷ []) is.0 is.1, is.2)) (λ its. (instance, Contains-push done instance, its)) ((gains key).0 c),
    λ is. (gains key).1 (⊎_elim (λ was. inl ((are key).1 (is.0, was, is.2))) (λ e. inr (subst (λ (i : Instance). IsLeaderKey standing i key) (sym e) is.2)) (Contains-push_cases done instance is.0 is.1)),
  )
