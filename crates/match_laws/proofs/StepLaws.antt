-- The step law: whatever operations came, a match was there before or a justified claim has it.
use Rattle.std.proofs.Common.{◌≡◌, ℕ, zero, suc, ◌<◌, ◌⊎◌, List, [], ◌∷◌, ◌++◌, length, get_or, Some, slice_get, All, Contains, refl, sym, ap, subst, ◌∙◌, inl, inr, ⊎_elim, arith, length-append}
use Rattle.std.specs.List.{filter_map}
use Rattle.std.proofs.lemmas.Bool.{cases_eq, cases_lt}
use Rattle.std.proofs.lemmas.List.{take-append-le, take_all}
use Rattle.std.proofs.lemmas.List.Elements.{filter_map-append, All-from_get_or, Contains-append_left}
use Rattle.std.proofs.lemmas.Option.{none-some, same_Some, slice_get_within}
use Rattle.graph_terms.proofs.ListLaws.{element_at, All-slice_get, push_cases, slice_get-append_left}
use Rattle.graph_trigger.specs.declared.trigger.Trigger.{Trigger}
use Rattle.graph_meaning.specs.declared.done.Done.{Done}
use Rattle.graph_trigger.specs.declared.pattern_row.PatternRow.{PatternRow}
use Rattle.graph_trigger.specs.declared.pattern_row.PatternRow.TheVariants.{Var}
use Rattle.graph_terms.specs.declared.term_row.TermRow.{TermRow}
use Rattle.graph_terms.specs.Terms.{term_row, first_rows, HasRow}
use Rattle.graph_meaning.specs.Standing.{terms_of, merges_of, triggers_of, added_row, merged_ends, live_trigger}
use Rattle.graph_meaning.specs.Lawful.{IsLawful, KeepsRules}
use Rattle.graph_trigger.specs.Trigger.{at_root, IsValid}
use Rattle.graph_meaning.specs.Same.{Derives, DerivesEach, Same, IsLeader, same_term, turned, joined, merged, congruent}
use Rattle.graph_meaning.specs.Same as same
use Rattle.graph_meaning.specs.Match.{MatchesTerm, at, MatchesClass, variable, application, MatchesEach, none, more, At, IsItemMatch}
use Rattle.graph_meaning.specs.Justified as why
use Rattle.graph_meaning.specs.Justified.{Justified, from_root}
use Rattle.match_laws.specs.StepLaw.{MatchedBefore, IsClaimed, StepLaw}
use Rattle.match_laws.proofs.DecideLaws.{all_or, derived_terms, leader_of}
use Rattle.match_laws.proofs.FollowLaws.{MatchesRoots, no_root, one_root, RootAt, Home, home, opened}
use Rattle.match_laws.proofs.WalkLaws.{Continues, walk_term}

-- an element of the front of a list
pub slice_get-front : {X : Type 0} (xs ys : List X) (i : ℕ) (x : X) → i < length xs → slice_get (xs ++ ys) i ≡ Some x → slice_get xs i ≡ Some x
slice_get-front [] ys i x lt h = absurd (omega arith)
slice_get-front (y ∷ xs) ys zero x lt h = h
slice_get-front (y ∷ xs) ys (suc i) x lt h = slice_get-front xs ys i x (omega arith) h

-- a list with something at each place
pub choose : (P : ℕ → ℕ → Type 0) (n : ℕ) → ((i : ℕ) → i < n → (u : ℕ) × P i u) → (us : List ℕ) × (length us ≡ n) × ((i u : ℕ) → slice_get us i ≡ Some u → P i u)
choose P zero each = ([], refl, λ i u h. absurd (none-some u h))
choose P (suc n) each =
    let front = choose P n (λ i lt. each i (omega arith)) in
    let last = each n (omega arith) in (
      front.0 ++ last.0 ∷ [],
      omega (arith, length-append front.0 (last.0 ∷ []), front.1),
      λ i u h. ⊎_elim (λ old. front.2 i u old) (λ new. let is : n ≡ i = omega (arith, new.0, front.1) in subst (λ k. P k u) is (subst (P n) (sym new.1) last.1)) (push_cases front.0 last.0 i u h),
    )

pub all_at : (P : ℕ → Type 0) (xs : List ℕ) → ((i x : ℕ) → slice_get xs i ≡ Some x → P x) → All P xs
all_at P xs each = All-from_get_or P xs 0 (λ i lt. let there = element_at xs i lt in each i (get_or xs i 0) (there.1 ∙ ap Some (is_get_or xs i there.0 there.1)))
  where
    is_get_or : (ys : List ℕ) (i x : ℕ) → slice_get ys i ≡ Some x → x ≡ get_or ys i 0
    is_get_or [] i x h = absurd (none-some x h)
    is_get_or (y ∷ ys) zero x h = sym (same_Some y x h)
    is_get_or (y ∷ ys) (suc i) x h = is_get_or ys i x h

module _ {rows : List TermRow} {merges : List (ℕ × ℕ)} where
  -- place by place
  pub each_at : (xs ys : List ℕ) → length xs ≡ length ys → ((i s t : ℕ) → slice_get xs i ≡ Some s → slice_get ys i ≡ Some t → Derives rows merges s t) → DerivesEach rows merges xs ys
  each_at [] [] len each = same.none
  each_at [] (y ∷ ys) len each = absurd (omega arith)
  each_at (x ∷ xs) [] len each = absurd (omega arith)
  each_at (x ∷ xs) (y ∷ ys) len each = same.more (each zero x y refl refl) (each_at xs ys (omega arith) (λ i s t h k. each (suc i) s t h k))

  -- the chosen match of each pattern stands at its place
  abbrev ChosenAt : (patterns : List PatternRow) (binding : List ℕ) (Q : ℕ → ℕ → Type 0) (roots : List ℕ) → MatchesRoots rows merges patterns binding roots → Type 0
  ChosenAt patterns binding Q roots all = (k root : ℕ) → slice_get roots k ≡ Some root → (found : RootAt roots all k root) × Q k found.term

  chosen_more : (patterns : List PatternRow) (binding : List ℕ) (Q : ℕ → ℕ → Type 0) (r term : ℕ) (match : MatchesTerm rows merges patterns binding r term) (roots : List ℕ) (rest : MatchesRoots rows merges patterns binding roots) → Q zero term → ChosenAt patterns binding (λ k. Q (suc k)) roots rest → ChosenAt patterns binding Q (r ∷ roots) (one_root term match rest)
  chosen_more patterns binding Q r term match roots rest q chosen zero root h = (record { pattern = r; is = same_Some r root h; term = term; match = match; follows = λ down. refl }, q)
  chosen_more patterns binding Q r term match roots rest q chosen (suc k) root h = let inner = chosen k root h in (record { pattern = inner.0.pattern; is = inner.0.is; term = inner.0.term; match = inner.0.match; follows = inner.0.follows }, inner.1)

  -- one match of each pattern, chosen at each place
  choose_roots : (patterns : List PatternRow) (binding : List ℕ) (Q : ℕ → ℕ → Type 0) (roots : List ℕ) → ((k root : ℕ) → slice_get roots k ≡ Some root → (term : ℕ) × MatchesTerm rows merges patterns binding root term × Q k term) → (all : MatchesRoots rows merges patterns binding roots) × ChosenAt patterns binding Q roots all
  choose_roots patterns binding Q [] each = (no_root, λ k root h. absurd (none-some root h))
  choose_roots patterns binding Q (r ∷ roots) each =
      let first = each zero r refl in
      let rest = choose_roots patterns binding (λ k. Q (suc k)) roots (λ k root h. each (suc k) root h) in
      (one_root first.0 first.1 rest.0, chosen_more patterns binding Q r first.0 first.1 roots rest.0 first.2 rest.1)

  -- a match under another tuple whose entries are the same
  module _ {patterns : List PatternRow} {binding other : List ℕ} (same_at : (index bound : ℕ) → slice_get binding index ≡ Some bound → (u : ℕ) × (slice_get other index ≡ Some u) × Derives rows merges u bound) where
    mutual
      pub rebind_term : {pattern term : ℕ} → MatchesTerm rows merges patterns binding pattern term → MatchesTerm rows merges patterns other pattern term
      rebind_term (at shape has each) = at shape has (rebind_each each)

      rebind_class : {pattern term : ℕ} → MatchesClass rows merges patterns binding pattern term → MatchesClass rows merges patterns other pattern term
      rebind_class (variable {index = index} {bound = bound} shape has d) = let there = same_at index bound has in variable shape there.1 (joined there.2 d)
      rebind_class (application d inner) = application d (rebind_term inner)

      rebind_each : {parts args : List ℕ} → MatchesEach rows merges patterns binding parts args → MatchesEach rows merges patterns other parts args
      rebind_each none = none
      rebind_each (more m rest) = more (rebind_class m) (rebind_each rest)

module _ {before now : List Done} (continues : Continues before now) where
  mutual
    -- equal terms stay equal
    pub still_same : {s t : ℕ} → Same before s t → Same now s t
    still_same (same_term h) = same_term (omega (arith, h, continues.longer))
    still_same (turned d) = turned (still_same d)
    still_same (joined d e) = joined (still_same d) (still_same e)
    still_same (merged {s} {t} h) = merged (continues.grown_merge s t h)
    still_same (congruent {s} {t} {symbol} {ss} {ts} left right each) = congruent (continues.grown s (term_row symbol ss) left) (continues.grown t (term_row symbol ts) right) (still_same_each each)

    pub still_same_each : {ss ts : List ℕ} → DerivesEach (terms_of before) (merges_of before) ss ts → DerivesEach (terms_of now) (merges_of now) ss ts
    still_same_each same.none = same.none
    still_same_each (same.more d each) = same.more (still_same d) (still_same_each each)

-- a list that goes on from a front of it
pub continues_front : (before later : List Done) → IsLawful (before ++ later) → Continues before (before ++ later)
continues_front before later lawful =
    let terms : terms_of (before ++ later) ≡ terms_of before ++ filter_map added_row later = ap (λ rows. first_rows ++ rows) (filter_map-append added_row before later) in
    let merges : merges_of (before ++ later) ≡ merges_of before ++ filter_map merged_ends later = filter_map-append merged_ends before later in
    let triggers : triggers_of (before ++ later) ≡ triggers_of before ++ filter_map live_trigger later = filter_map-append live_trigger before later in
    let front : KeepsRules before = subst KeepsRules (take-append-le (length before) before later (omega arith) ∙ take_all (length before) before (omega arith)) (lawful.fronts (length before)) in
    record {
      table = front.table;
      ends = front.ends;
      grown = λ term row h. subst (λ rows. HasRow rows term row) (sym terms) (slice_get-append_left (terms_of before) (filter_map added_row later) term row h);
      grown_merge = λ s t c. subst (λ pairs. Contains pairs (s, t)) (sym merges) (Contains-append_left (merges_of before) (filter_map merged_ends later) (s, t) c);
      grown_trigger = λ n trigger h. subst (λ ts. slice_get ts n ≡ Some trigger) (sym triggers) (slice_get-append_left (triggers_of before) (filter_map live_trigger later) n trigger h);
      more_triggers = omega (arith, ap length triggers, length-append (triggers_of before) (filter_map live_trigger later));
      longer = omega (arith, ap length terms, length-append (terms_of before) (filter_map added_row later));
      old_row = λ term row less h. slice_get-front (terms_of before) (filter_map added_row later) term row less (subst (λ rows. HasRow rows term row) terms h);
    }

module _ (before now : List Done) (continues : Continues before now) (number : ℕ) (trigger : Trigger) (is_live : slice_get (triggers_of now) number ≡ Some trigger) (was_live : slice_get (triggers_of before) number ≡ Some trigger) (valid : IsValid trigger) (start root : ℕ) (binding : List ℕ) (item : IsItemMatch now trigger start root binding) where
  -- the item's pattern matches its own root
  begins_at : (r : ℕ) → slice_get trigger.roots start ≡ Some r → At now trigger.rows binding r root
  begins_at r h = subst (λ p. At now trigger.rows binding p root) (same_Some item.begins.0 r (sym item.begins.1 ∙ h)) item.begins.2

  -- the item's own root at its start, and some root at the others
  chosen : (k r : ℕ) → slice_get trigger.roots k ≡ Some r → (term : ℕ) × At now trigger.rows binding r term × (k ≡ start → term ≡ root)
  chosen k r h =
      ⊎_elim
      (λ is. (root, begins_at r (subst (λ i. slice_get trigger.roots i ≡ Some r) is h), λ _. refl))
      (λ other. let some = All-slice_get (λ p. (term : ℕ) × At now trigger.rows binding p term) trigger.roots k r item.is_match.each_pattern h in (some.0, some.1, λ is. absurd (other is)))
      (cases_eq k start)

  module _ (all : MatchesRoots (terms_of now) (merges_of now) trigger.rows binding trigger.roots) (at_root_of : ChosenAt trigger.rows binding (λ k term. k ≡ start → term ≡ root) trigger.roots all) where
    homes_of : (homes : List ℕ) × (length homes ≡ trigger.variables) × ((index term : ℕ) → slice_get homes index ≡ Some term → Home trigger all index term)
    homes_of = choose (λ index term. Home trigger all index term) trigger.variables (λ index lt.
        let somewhere = valid.occur index lt in
        let there = valid.reached somewhere.0 (slice_get_within trigger.rows somewhere.0 (Var index) somewhere.1) in
        home trigger all valid.roots there.2 index somewhere.1)

    module _ (homes : List ℕ) (each_variable : length homes ≡ trigger.variables) (each_home : (index term : ℕ) → slice_get homes index ≡ Some term → Home trigger all index term) where
      -- the pattern at this place matched before, or a claim has the match
      walk_root : (k : ℕ) → k < length trigger.roots → IsClaimed before now number trigger binding ⊎ ((r : ℕ) → slice_get trigger.roots k ≡ Some r → (term : ℕ) × At before trigger.rows homes r term × (k ≡ start → term ≡ root))
      walk_root k lt =
          let there = element_at trigger.roots k lt in
          let r = there.0 in
          let chosen_root = at_root_of k r there.1 in
          let found = chosen_root.0 in
          let o = opened found.match in
          let stands : slice_get trigger.roots k ≡ Some found.pattern = there.1 ∙ ap Some (sym found.is) in
          let itself : IsItemMatch now trigger k found.term binding = record { is_match = item.is_match; begins = (found.pattern, stands, found.match) } in
          ⊎_elim
          (λ old. ⊎_elim inl
          (λ was. inr (λ other h. (found.term, subst (λ p. At before trigger.rows homes p found.term) (same_Some found.pattern other (sym stands ∙ h)) was, chosen_root.1)))
          (walk_term before now continues number trigger is_live valid binding all homes each_variable each_home k found.term itself (o.symbol, o.args, (found.pattern, o.parts, at_root stands, o.shape), o.has) found.match [] (at_root stands) old (λ symbol place arg applies has. from_root applies has) (λ place down. found.follows (place ∷ down))))
          (λ new. inl (record { claim = record { trigger = number; start = k; root = found.term }; names = refl; justified = why.new_term new; matched = itself }))
          (cases_lt found.term (length (terms_of before)))

      module _ (matched : (k : ℕ) → k < length trigger.roots → (r : ℕ) → slice_get trigger.roots k ≡ Some r → (term : ℕ) × At before trigger.rows homes r term × (k ≡ start → term ≡ root)) where
        matched_at : (k r : ℕ) → slice_get trigger.roots k ≡ Some r → (term : ℕ) × At before trigger.rows homes r term × (k ≡ start → term ≡ root)
        matched_at k r h = matched k (slice_get_within trigger.roots k r h) r h

        -- so the terms of the variables are old
        is_old : (index term : ℕ) → slice_get homes index ≡ Some term → term < length (terms_of before)
        is_old index term h =
            let lt = slice_get_within homes index term h in
            let somewhere = valid.occur index (omega (arith, lt, each_variable)) in
            let there = valid.reached somewhere.0 (slice_get_within trigger.rows somewhere.0 (Var index) somewhere.1) in
            let was = (choose_roots trigger.rows homes (λ k t. k ≡ start → t ≡ root) trigger.roots matched_at).0 in
            let at_home = (home trigger was valid.roots there.2 index somewhere.1).1 in
            subst (λ t. t < length (terms_of before)) (same_Some at_home.bound term (sym at_home.is_bound ∙ h)) (derived_terms continues.ends at_home.same).0

        leaders_of : (leaders : List ℕ) × (length leaders ≡ trigger.variables) × ((index leader : ℕ) → slice_get leaders index ≡ Some leader → (term : ℕ) × (slice_get homes index ≡ Some term) × IsLeader before term leader)
        leaders_of = choose (λ index leader. (term : ℕ) × (slice_get homes index ≡ Some term) × IsLeader before term leader) trigger.variables (λ index lt.
            let there = element_at homes index (omega (arith, lt, each_variable)) in
            let leader = leader_of continues.table continues.ends there.0 (is_old index there.0 there.1) in
            (leader.0, (there.0, there.1, record { same = leader.1; least = leader.2 })))

        matched_before : MatchedBefore before now number trigger start root binding
        matched_before =
            let all_leaders = leaders_of in
            let leaders = all_leaders.0 in
            let leads : (index leader : ℕ) → slice_get leaders index ≡ Some leader → (term : ℕ) × (slice_get homes index ≡ Some term) × IsLeader before term leader = all_leaders.2 in
            let same_at : (index term : ℕ) → slice_get homes index ≡ Some term → (leader : ℕ) × (slice_get leaders index ≡ Some leader) × Same before leader term = λ index term h.
            let there = element_at leaders index (let lt = slice_get_within homes index term h in omega (arith, lt, each_variable, all_leaders.1)) in
            let led = leads index there.0 there.1 in
            (there.0, there.1, subst (λ t. Same before there.0 t) (same_Some led.0 term (sym led.1 ∙ h)) led.2.same) in
            let at_place : (k r : ℕ) → slice_get trigger.roots k ≡ Some r → (term : ℕ) × At before trigger.rows leaders r term × (k ≡ start → term ≡ root) = λ k r h.
            let was = matched_at k r h in
            (was.0, rebind_term same_at was.1, was.2) in
            record {
              was_live = was_live;
              was_term = begins_old at_place;
              earlier = leaders;
              matched = record {
                is_match = record {
                  each_variable = all_leaders.1;
                  leaders = all_at (λ term. IsLeader before term term) leaders (λ index leader h.
                      let led = leads index leader h in
                      record { same = same_term (derived_terms continues.ends led.2.same).0; least = λ other d. led.2.least other (joined d led.2.same) });
                  each_pattern = all_at (λ r. (term : ℕ) × At before trigger.rows leaders r term) trigger.roots (λ k r h. let was = at_place k r h in (was.0, was.1));
                };
                begins = (item.begins.0, item.begins.1, let was = at_place start item.begins.0 item.begins.1 in subst (λ t. At before trigger.rows leaders item.begins.0 t) (was.2 refl) was.1);
              };
              same = each_at leaders binding (omega (arith, all_leaders.1, item.is_match.each_variable)) (λ index leader bound h has.
                  let led = leads index leader h in
                  let at_home = each_home index led.0 led.1 in
                  joined (still_same continues led.2.same) (turned (subst (λ b. Same now b led.0) (same_Some at_home.bound bound (sym at_home.is_bound ∙ has)) at_home.same)));
            }
          where
            begins_old : {leaders : List ℕ} → ((k r : ℕ) → slice_get trigger.roots k ≡ Some r → (term : ℕ) × At before trigger.rows leaders r term × (k ≡ start → term ≡ root)) → root < length (terms_of before)
            begins_old at_place =
                let was = at_place start item.begins.0 item.begins.1 in
                let o = opened was.1 in
                subst (λ t. t < length (terms_of before)) (was.2 refl) (slice_get_within (terms_of before) was.0 (term_row o.symbol o.args) o.has)

    -- each pattern matched before, or a claim has the match
    step : MatchedBefore before now number trigger start root binding ⊎ IsClaimed before now number trigger binding
    step =
        let homes = homes_of in
        ⊎_elim inr (λ matched. inl (matched_before homes.0 homes.1 homes.2 matched)) (all_or _ (length trigger.roots) (walk_root homes.0 homes.1 homes.2))

-- the step law
pub step_law : StepLaw
step_law before later lawful number trigger start root binding is_live item =
    let now : List Done = before ++ later in
    let triggers : triggers_of now ≡ triggers_of before ++ filter_map live_trigger later = filter_map-append live_trigger before later in
    let continues = continues_front before later lawful in
    let valid : IsValid trigger = All-slice_get IsValid (triggers_of now) number trigger lawful.whole.triggers is_live in
    ⊎_elim
    (λ old.
    let was_live = slice_get-front (triggers_of before) (filter_map live_trigger later) number trigger old (subst (λ ts. slice_get ts number ≡ Some trigger) triggers is_live) in
    let all = choose_roots trigger.rows binding (λ k term. k ≡ start → term ≡ root) trigger.roots (chosen before now continues number trigger is_live was_live valid start root binding item) in
    step before now continues number trigger is_live was_live valid start root binding item all.0 all.1)
    (λ new. inr (record { claim = record { trigger = number; start = start; root = root }; names = refl; justified = why.new_trigger new; matched = item }))
    (cases_lt number (length (triggers_of before)))
