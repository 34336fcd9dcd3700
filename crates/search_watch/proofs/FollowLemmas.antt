-- A watch that follows its graph.
use Rattle.std.proofs.Common.{zero, suc, ◌≡◌, ◌<◌, ◌≤◌, ◌⊎◌, ◌↔◌, inl, inr, ℕ, Bool, false, List, [], ◌∷◌, length, take, slice_get, slice_index_or, Some, Contains, All, IsTrue, refl, sym, ◌∙◌, ap, subst, arith}
use Rattle.std.proofs.lemmas.List.{length-take}
use Rattle.std.proofs.lemmas.List.Elements.{All-weaker}
use Rattle.graph_meaning.specs.declared.union.Union.{Union}
use Rattle.graph_meaning.specs.declared.done.Done.{Done}
use Rattle.graph_meaning.specs.Standing.{terms_of, differs_of}
use Rattle.graph_meaning.specs.Same.{Same}
use Rattle.graph_meaning.specs.Same as congruence
use Rattle.graph_meaning.specs.Unions.{AreUnions, WasSame, was}
use Rattle.formula_truth.specs.declared.truth.Truth.{Truth}
use Rattle.formula_truth.specs.declared.truth.Truth.TheVariants.{Yes, No, Unset}
use Rattle.search_watch.specs.declared.watch.Watch.{Watch}
use Rattle.search_watch.specs.Literals.{AreKeptApart, IsEquationValue, IsAtomValue, Clashes}
use Rattle.search_watch.specs.Laws.{Joins}
use Rattle.search_watch.specs.Covers.{Covers, ItemsBelow}
use Rattle.search_watch.specs.Watched.{IsWatched, HasTerms, AreLed, KeepsItems, Gathers, LooksAtUnions, classes}
use Rattle.search_watch.specs.Found.{IsBetween, IsFoundClash}
use Rattle.search_watch.specs.Service.{Service, HasClash, StaysOrFound, FindsChanges, service, world_of, ends_from}
use Rattle.search_watch.specs.Follow.{IsBehind, ServesOver, HasBetween, world_over}
use Rattle.search_watch.proofs.ItemLemmas.{got_item}
use Rattle.search_watch.proofs.FoundLemmas.{equation_found, atom_found, clash_found}
use Rattle.search_watch.proofs.SettleLemmas.{was_same, covers_none, covers_after}
use Rattle.search_watch.proofs.EndsLemmas.{tells_ends, take_got, in_take, in_whole}
use Rattle.search_watch.proofs.BetweenLemmas.{found_is_clash}

split_at : (d n : ℕ) → (d < n) ⊎ (n ≤ d)
split_at d n = search arith

same_or_not : (i j : ℕ) → (i ≡ j) ⊎ (i ≡ j → ⊥)
same_or_not i j = search arith

pub false_no : IsTrue false → ⊥
false_no e = cc

-- a number is on a list or not
on_or_not : (xs : List ℕ) (x : ℕ) → Contains xs x ⊎ (Contains xs x → ⊥)
on_or_not [] x = inr (λ on. omega (arith, on.1))
on_or_not (y ∷ ys) x = go (same_or_not y x) (on_or_not ys x)
  where
    other : (y ≡ x → ⊥) → (Contains ys x → ⊥) → Contains (y ∷ ys) x → ⊥
    other not none (zero, lt, e) = not e
    other not none (suc k, lt, e) = none (k, omega (arith, lt), e)

    go : (y ≡ x) ⊎ (y ≡ x → ⊥) → Contains ys x ⊎ (Contains ys x → ⊥) → Contains (y ∷ ys) x ⊎ (Contains (y ∷ ys) x → ⊥)
    go (inl e) rest = inl (0, omega arith, e)
    go (inr not) (inl (k, lt, e)) = inl (suc k, omega (arith, lt), e)
    go (inr not) (inr none) = inr (other not none)

-- terms that are equal and kept apart make a difference clash
kept_clash : (now : List Done) (differs : List (ℕ × ℕ)) (s t : ℕ) → Same now s t → AreKeptApart (Same now) differs s t → Clashes (Same now) differs
kept_clash now differs s t same (a, b, on, inl both) = (a, b, on, congruence.Derives.joined both.0 (congruence.Derives.joined same (congruence.Derives.turned both.1)))
kept_clash now differs s t same (a, b, on, inr both) = (a, b, on, congruence.Derives.joined both.0 (congruence.Derives.joined (congruence.Derives.turned same) (congruence.Derives.turned both.1)))

module _ (before : Service) (now : List Done) (unions : List Union) (earlier : ℕ) (watch : Watch) (behind : IsBehind before now unions earlier watch) where
  joins : Joins before.standing now (length (terms_of before.standing)) unions
  joins = subst (λ (n : ℕ). AreUnions n (WasSame before.standing n) (Same now) unions) (ap length behind.terms) behind.unions

  -- each union names two leaders of its moment
  pub are_led : AreLed (world_of before) unions
  are_led k union at = record { leads = joins.led k union at; left = (joins.below k union at).0; right = (joins.below k union at).1 }

  module _ (differs : List (ℕ × ℕ)) (is : differs ≡ differs_of now) where
    first : take earlier differs ≡ differs_of before.standing
    first = ap (take earlier) is ∙ behind.differs

    fewer : length (differs_of before.standing) ≤ length differs
    fewer = omega (arith, ap length first, length-take earlier differs)

    -- after the unions it serves the list that stands now, over the first differences
    pub after_serves : (new : Watch) → IsWatched (world_of before) unions new → KeepsItems watch new → ServesOver (service now before.ends before.bound) (take earlier differs) new
    after_serves new watched keeps =
        let same = classes (world_over (service now before.ends before.bound) (take earlier differs)) [] in
        record {
          terms = subst (λ (n : ℕ). HasTerms n new) (sym (ap length behind.terms)) (keeps.terms (length (terms_of before.standing)) behind.serves.terms);
          ends_stand = λ item term on. let lt = behind.serves.ends_stand item term on in omega (arith, lt, ap length behind.terms);
          watched = record {
            literals_stand = λ term lt. watched.literals_stand term (omega (arith, lt, ap length behind.terms));
            differs_stand = λ term lt. watched.differs_stand term (omega (arith, lt, ap length behind.terms));
            literals = covers_none now before.ends new.literals.chains (covers_after (world_of before) now unions before.ends new.literals.chains joins watched.literals);
            differs = subst (λ (ds : List (ℕ × ℕ)). Covers same (ends_from 0 ds) new.differs.chains) (sym first)
                (covers_none now (ends_from 0 (differs_of before.standing)) new.differs.chains (covers_after (world_of before) now unions (ends_from 0 (differs_of before.standing)) new.differs.chains joins watched.differs));
          };
          literals = keeps.literals before.bound behind.serves.literals;
          differs = subst (λ (ds : List (ℕ × ℕ)). ItemsBelow (length ds) new.differs.chains) (sym first) (keeps.differs (length (differs_of before.standing)) behind.serves.differs);
        }

    -- what was found are numbers of differences
    pub found_numbers : (found : List ℕ) → All (λ d. d < length (differs_of before.standing)) found → All (λ d. d < length differs) found
    found_numbers found below = All-weaker (λ d. d < length (differs_of before.standing)) (λ d. d < length differs) (λ d lt. omega (arith, lt, fewer)) found below

    -- ---- what was found at the unions, and the later differences

    module _ (literals found found' : List ℕ) (looks : LooksAtUnions (world_of before) unions (length unions) literals found) (gathers : Gathers found found')
        (later : (d : ℕ) → earlier ≤ d → d < length differs → Contains found' d) where
      -- no difference clashed
      calm : Clashes (WasSame before.standing (length (terms_of before.standing))) (differs_of before.standing) → ⊥
      calm (a, b, on, same) = behind.calm (inr (a, b, on, was_same before.standing a b same))

      met_clash : (a b d : ℕ) → d < length differs → slice_index_or differs d (a, b) ≡ (a, b) → Same now a b → (d < earlier) ⊎ (earlier ≤ d) → IsFoundClash now differs found'
      met_clash a b d lt e same (inr le) = record { d = d; a = a; b = b; at = got_item differs d (a, b) lt e; on = later d le lt; same = same }
      met_clash a b d lt e same (inl less) =
          elim (clash_found (world_of before) now unions literals found joins looks (differs_of before.standing) (tells_ends (differs_of before.standing))
          (a, b, subst (λ (ds : List (ℕ × ℕ)). Contains ds (a, b)) first (in_take earlier differs d (a, b) less lt e), same)) [
            | inl old ↦ absurd (calm old)
            | inr new ↦ record {
              d = new.d;
              a = new.a;
              b = new.b;
              at = take_got earlier differs new.d (new.a, new.b) (subst (λ (ds : List (ℕ × ℕ)). slice_get ds new.d ≡ Some (new.a, new.b)) (sym first) new.at);
              on = gathers new.d new.on;
              same = new.same;
            }
          ]

      -- a difference with equal ends was found
      clash_is_found : Clashes (Same now) differs → IsFoundClash now differs found'
      clash_is_found (a, b, (d, lt, e), same) = met_clash a b d lt e same (split_at d earlier)

      -- so what is said of those that were found is said of all
      pub clash_is : (clash : Bool) → IsTrue clash ↔ (Same now 0 1 ⊎ IsFoundClash now differs found') → IsTrue clash ↔ HasClash now
      clash_is clash tells = (λ yes. there (tells.0 yes), λ has. tells.1 (back has))
        where
          there : Same now 0 1 ⊎ IsFoundClash now differs found' → HasClash now
          there (inl same) = inl same
          there (inr found) = inr (subst (λ (ds : List (ℕ × ℕ)). Clashes (Same now) ds) is (found_is_clash now differs found' found))

          back : HasClash now → Same now 0 1 ⊎ IsFoundClash now differs found'
          back (inl same) = inl same
          back (inr clash) = inr (clash_is_found (subst (λ (ds : List (ℕ × ℕ)). Clashes (Same now) ds) (sym is) clash))

      -- ---- values, where nothing clashes

      module _ (literals' : List ℕ) (more : Gathers literals literals') (between : HasBetween now differs found' before.ends literals') (quiet : HasClash now → ⊥) where
        grows : (s t : ℕ) → Same before.standing s t → Same now s t
        grows s t g = joins.held s t (was (inl g))

        whole : (a b : ℕ) → Contains (differs_of before.standing) (a, b) → Contains differs (a, b)
        whole a b on = in_whole earlier differs (a, b) (subst (λ (ds : List (ℕ × ℕ)). Contains ds (a, b)) (sym first) on)

        apart_grows : (s t : ℕ) → AreKeptApart (Same before.standing) (differs_of before.standing) s t → AreKeptApart (Same now) differs s t
        apart_grows s t (a, b, on, inl both) = (a, b, whole a b on, inl (grows a s both.0, grows b t both.1))
        apart_grows s t (a, b, on, inr both) = (a, b, whole a b on, inr (grows a t both.0, grows b s both.1))

        calm_now : Clashes (Same now) differs → ⊥
        calm_now clash = quiet (inr (subst (λ (ds : List (ℕ × ℕ)). Clashes (Same now) ds) is clash))

        -- the earlier values, by what was the same
        not_was : (s t : ℕ) → (Same before.standing s t → ⊥) → WasSame before.standing (length (terms_of before.standing)) s t → ⊥
        not_was s t not old = not (was_same before.standing s t old)

        not_apart : (s t : ℕ) → (AreKeptApart (Same before.standing) (differs_of before.standing) s t → ⊥)
            → AreKeptApart (WasSame before.standing (length (terms_of before.standing))) (differs_of before.standing) s t → ⊥
        not_apart s t not (a, b, on, inl both) = not (a, b, on, inl (was_same before.standing a s both.0, was_same before.standing b t both.1))
        not_apart s t not (a, b, on, inr both) = not (a, b, on, inr (was_same before.standing a t both.0, was_same before.standing b s both.1))

        module _ (item s t : ℕ) (of_s : Contains before.ends (item, s)) (of_t : Contains before.ends (item, t)) (absent : Contains literals' item → ⊥)
            (not_same : Same before.standing s t → ⊥) (not_kept : AreKeptApart (Same before.standing) (differs_of before.standing) s t → ⊥) where
          -- what was found at the unions is on the list
          widened : IsBetween now (differs_of before.standing) found s t → IsBetween now differs found' s t
          widened x = record {
            d = x.d;
            a = x.a;
            b = x.b;
            at = take_got earlier differs x.d (x.a, x.b) (subst (λ (ds : List (ℕ × ℕ)). slice_get ds x.d ≡ Some (x.a, x.b)) (sym first) x.at);
            on = gathers x.d x.on;
            between = x.between;
          }

          stays_unset : (after : Truth) → (Unset ≡ after → ⊥) → IsEquationValue (Same now) (differs_of before.standing) s t after → ⊥
          stays_unset after other value =
              elim (equation_found (world_of before) now unions literals found joins looks (differs_of before.standing) item s t Unset after (tells_ends (differs_of before.standing)) of_s of_t
              (not_was s t not_same, not_apart s t not_kept) value) [
                | inl same ↦ other same
                | inr (inl on) ↦ absent (more item on)
                | inr (inr x) ↦ absent (between item s t (widened x) of_s of_t)
              ]

          unset_no_yes : Unset ≡ Yes → ⊥
          unset_no_yes e = cc

          unset_no_no : Unset ≡ No → ⊥
          unset_no_no e = cc

          pub still_not_same : Same now s t → ⊥
          still_not_same same = stays_unset Yes unset_no_yes same

          apart_at : (a b d : ℕ) → d < length differs → slice_index_or differs d (a, b) ≡ (a, b) → (Same now a s × Same now b t) ⊎ (Same now a t × Same now b s) → (d < earlier) ⊎ (earlier ≤ d) → ⊥
          apart_at a b d lt e sides (inl less) =
              stays_unset No unset_no_no (still_not_same, (a, b, subst (λ (ds : List (ℕ × ℕ)). Contains ds (a, b)) first (in_take earlier differs d (a, b) less lt e), sides))
          apart_at a b d lt e sides (inr le) =
              absent (between item s t (record { d = d; a = a; b = b; at = got_item differs d (a, b) lt e; on = later d le lt; between = sides }) of_s of_t)

          pub still_not_apart : AreKeptApart (Same now) differs s t → ⊥
          still_not_apart (a, b, (d, lt, e), sides) = apart_at a b d lt e sides (split_at d earlier)

        equation_stays : (item s t : ℕ) (old : Truth) → Contains before.ends (item, s) → Contains before.ends (item, t) → Contains literals' item ⊎ (Contains literals' item → ⊥)
            → IsEquationValue (Same before.standing) (differs_of before.standing) s t old → StaysOrFound (IsEquationValue (Same now) differs s t) literals' item old
        equation_stays item s t Yes of_s of_t on value = inl (grows s t value)
        equation_stays item s t No of_s of_t on value = inl (λ same. calm_now (kept_clash now differs s t same (apart_grows s t value.1)), apart_grows s t value.1)
        equation_stays item s t Unset of_s of_t (inl on) value = inr (refl, on)
        equation_stays item s t Unset of_s of_t (inr absent) value = inl (still_not_same item s t of_s of_t absent value.0 value.1, still_not_apart item s t of_s of_t absent value.0 value.1)

        module _ (item t : ℕ) (of_t : Contains before.ends (item, t)) (of_0 : Contains before.ends (item, 0)) (of_1 : Contains before.ends (item, 1)) (absent : Contains literals' item → ⊥)
            (not_true : Same before.standing t 0 → ⊥) (not_false : Same before.standing t 1 → ⊥) where
          atom_unset : (after : Truth) → (Unset ≡ after → ⊥) → IsAtomValue (Same now) t after → ⊥
          atom_unset after other value =
              elim (atom_found (world_of before) now unions literals found joins looks item t Unset after of_t of_0 of_1 (not_was t 0 not_true, not_was t 1 not_false) value) [
                | inl same ↦ other same
                | inr on ↦ absent (more item on)
              ]

          pub still_not_true : Same now t 0 → ⊥
          still_not_true same = atom_unset Yes (λ e. cc) same

          pub still_not_false : Same now t 1 → ⊥
          still_not_false same = atom_unset No (λ e. cc) (still_not_true, same)

        atom_stays : (item t : ℕ) (old : Truth) → Contains before.ends (item, t) → Contains before.ends (item, 0) → Contains before.ends (item, 1) → Contains literals' item ⊎ (Contains literals' item → ⊥)
            → IsAtomValue (Same before.standing) t old → StaysOrFound (IsAtomValue (Same now) t) literals' item old
        atom_stays item t Yes of_t of_0 of_1 on value = inl (grows t 0 value)
        atom_stays item t No of_t of_0 of_1 on value =
            inl (λ same. quiet (inl (congruence.Derives.joined (congruence.Derives.turned same) (grows t 1 value.1))), grows t 1 value.1)
        atom_stays item t Unset of_t of_0 of_1 (inl on) value = inr (refl, on)
        atom_stays item t Unset of_t of_0 of_1 (inr absent) value = inl (still_not_true item t of_t of_0 of_1 absent value.0 value.1, still_not_false item t of_t of_0 of_1 absent value.0 value.1)

        -- each value stays, or its literal was found
        pub finds_changes : FindsChanges before.standing now before.ends literals'
        finds_changes = record {
          equations = λ item s t old of_s of_t value. subst (λ (ds : List (ℕ × ℕ)). StaysOrFound (IsEquationValue (Same now) ds s t) literals' item old) is
              (equation_stays item s t old of_s of_t (on_or_not literals' item) value);
          atoms = λ item t old of_t of_0 of_1 value. atom_stays item t old of_t of_0 of_1 (on_or_not literals' item) value;
        }
