-- That owed work stays complete and justified when operations come.
use Rattle.std.proofs.Common.{◌≡◌, ℕ, ◌⊎◌, List, [], ◌++◌, length, Some, slice_get, Contains, refl, sym, subst, ◌∙◌, inl, inr, ⊎_elim, arith}
use Rattle.std.proofs.lemmas.Option.{none-some, same_Some, slice_get_within}
use Rattle.graph_terms.specs.Terms.{term_row}
use Rattle.graph_terms.proofs.ListLaws.{element_at, All-slice_get}
use Rattle.graph_meaning.specs.declared.done.Done.{Done}
use Rattle.graph_trigger.specs.declared.trigger.Trigger.{Trigger}
use Rattle.graph_meaning.specs.Standing.{terms_of, merges_of, triggers_of}
use Rattle.graph_meaning.specs.Lawful.{IsLawful, EndsBelow}
use Rattle.graph_trigger.specs.Trigger.{IsValid, at_root}
use Rattle.graph_meaning.specs.Match.{At, IsMatch, IsItemMatch}
use Rattle.graph_meaning.specs.declared.claim.Claim.{Claim}
use Rattle.graph_meaning.specs.Justified.{Justified}
use Rattle.match_laws.specs.StepLaw.{AreSame, MatchedBefore, IsClaimed}
use Rattle.match_laws.proofs.FollowLaws.{opened}
use Rattle.match_laws.proofs.StepLaws.{step_law, continues_front, still_same, still_same_each}
use Rattle.match_laws.proofs.GrowLaws.{both_each, item_stays, justified_stays, justified_since}
use Rattle.match_laws.proofs.StepLaws.{choose, all_at, each_at, rebind_term}
use Rattle.match_laws.proofs.GrowLaws.{same_place, still_matches}
use Rattle.match_laws.proofs.DecideLaws.{derived_terms, leader_of}
use Rattle.graph_meaning.specs.Same.{Same, IsLeader, same_term, joined, turned}
use Rattle.match_laws.specs.Given.{IsOnSymbol}
use Rattle.match_laws.specs.Due.{Stored, IsStored, IsOwed, IsComplete, IsSoundTuple, IsSound, AreJustified, Covers, IsAnswered}

-- the root of a match of an item has the symbol of the item's pattern
pub on_symbol : (standing : List Done) (claim : Claim) (trigger : Trigger) (binding : List ℕ) →
    slice_get (triggers_of standing) claim.trigger ≡ Some trigger →
    IsItemMatch standing trigger claim.start claim.root binding → IsOnSymbol standing claim
on_symbol standing claim trigger binding is_live item =
    let o = opened item.begins.2 in
    record { trigger = trigger; is_live = is_live; symbol = o.symbol; args = o.args; applies = (item.begins.0, o.parts, at_root item.begins.1, o.shape); has = o.has }

-- where what was owed stays owed, and each claim that is justified comes to it, it stays complete
pub complete_after : (before later : List Done) → IsLawful (before ++ later) → (owed owed' : List Claim) (stored : Stored) → ((claim : Claim) → Contains owed claim → Contains owed' claim) → ((claim : Claim) → IsOnSymbol (before ++ later) claim → Justified before (before ++ later) claim → Contains owed' claim) → IsComplete before owed stored → IsComplete (before ++ later) owed' stored
complete_after before later lawful owed owed' stored kept came complete number trigger binding is_live match =
    let now : List Done = before ++ later in
    let continues = continues_front before later lawful in
    let valid : IsValid trigger = All-slice_get IsValid (triggers_of now) number trigger lawful.whole.triggers is_live in
    let first = element_at trigger.roots 0 (omega (arith, valid.some_root)) in
    let begun = All-slice_get (λ root. (term : ℕ) × At now trigger.rows binding root term) trigger.roots 0 first.0 match.each_pattern first.1 in
    let item : IsItemMatch now trigger 0 begun.0 binding = record { is_match = match; begins = (first.0, first.1, begun.1) } in
    let old : MatchedBefore before now number trigger 0 begun.0 binding → IsStored now stored number binding ⊎ IsOwed now owed' number trigger binding = λ m.
    ⊎_elim
    (λ stored_before. inl (stored_before.0, stored_before.1, both_each (still_same_each continues stored_before.2) m.same))
    (λ owed_before. inr (owed_before.0, kept owed_before.0 owed_before.1, owed_before.2, item_stays continues trigger owed_before.0.start owed_before.0.root m.earlier binding owed_before.3 m.same match))
    (complete number trigger m.earlier m.was_live m.matched.is_match) in
    let new : IsClaimed before now number trigger binding → IsStored now stored number binding ⊎ IsOwed now owed' number trigger binding = λ c.
    inr (c.claim, came c.claim (on_symbol now c.claim trigger binding (subst (λ n. slice_get (triggers_of now) n ≡ Some trigger) (sym c.names) is_live) c.matched) c.justified, c.names, c.matched) in
    ⊎_elim old new (step_law before later lawful number trigger 0 begun.0 binding is_live item)

-- where each claim that comes is justified, all stay justified since the base
pub justified_after : (base middle later : List Done) → IsLawful (base ++ middle) → IsLawful ((base ++ middle) ++ later) → (owed owed' : List Claim) → ((claim : Claim) → Contains owed' claim → Contains owed claim ⊎ Justified (base ++ middle) ((base ++ middle) ++ later) claim) → AreJustified base (base ++ middle) owed → AreJustified base ((base ++ middle) ++ later) owed'
justified_after base middle later lawful_before lawful owed owed' each all claim has =
    ⊎_elim (λ old. justified_stays (continues_front (base ++ middle) later lawful) (all claim old)) (λ new. justified_since (continues_front base middle lawful_before) new) (each claim has)

-- the terms of a match are the same as themselves
pub same_match : (standing : List Done) → EndsBelow (merges_of standing) (length (terms_of standing)) → (trigger : Trigger) (binding : List ℕ) → IsMatch standing trigger binding → AreSame standing binding binding
same_match standing ends trigger binding match = each_at binding binding refl (λ i s t h k. subst (λ x. Same standing s x) (same_Some s t (sym h ∙ k)) (same_term (derived_terms ends (All-slice_get (λ term. IsLeader standing term term) binding i s match.leaders h).same).0))

-- all is there when nothing came
pub covers_none : (standing : List Done) → IsLawful standing → Covers standing standing []
covers_none standing lawful number trigger start root binding is_live item =
    let o = opened item.begins.2 in
    inl (record {
      was_live = is_live;
      was_term = slice_get_within (terms_of standing) root (term_row o.symbol o.args) o.has;
      earlier = binding;
      matched = item;
      same = same_match standing lawful.whole.ends trigger binding item.is_match;
    })

-- and stays there when operations come that give their claims
pub covers_after : (before middle later : List Done) → IsLawful ((before ++ middle) ++ later) → (came came' : List Claim) → ((claim : Claim) → Contains came claim → Contains came' claim) → ((claim : Claim) → IsOnSymbol ((before ++ middle) ++ later) claim → Justified (before ++ middle) ((before ++ middle) ++ later) claim → Contains came' claim) → Covers before (before ++ middle) came → Covers before ((before ++ middle) ++ later) came'
covers_after before middle later lawful came came' kept new covers number trigger start root binding is_live item =
    let between : List Done = before ++ middle in
    let now : List Done = between ++ later in
    let continues = continues_front between later lawful in
    ⊎_elim
    (λ m. ⊎_elim
    (λ first. inl (record { was_live = first.was_live; was_term = first.was_term; earlier = first.earlier; matched = first.matched; same = both_each (still_same_each continues first.same) m.same }))
    (λ owed. inr (owed.0, kept owed.0 owed.1, owed.2, item_stays continues trigger owed.0.start owed.0.root m.earlier binding owed.3 m.same item.is_match))
    (covers number trigger start root m.earlier m.was_live m.matched))
    (λ c. inr (c.claim, new c.claim (on_symbol now c.claim trigger binding (subst (λ n. slice_get (triggers_of now) n ≡ Some trigger) (sym c.names) is_live) c.matched) c.justified, c.names, c.matched))
    (step_law between later lawful number trigger start root binding is_live item)

-- claims that were answered before may go, where those that came since stay
pub complete_late : (before now : List Done) → (owed owed' came : List Claim) (stored stored' : Stored) → Covers before now came → ((claim : Claim) → Contains came claim → Contains owed' claim) → ((claim : Claim) → Contains owed claim → Contains owed' claim ⊎ IsAnswered before stored' claim) → ((number : ℕ) (tuple : List ℕ) → Contains stored (number, tuple) → Contains stored' (number, tuple)) → IsComplete now owed stored → IsComplete now owed' stored'
complete_late before now owed owed' came stored stored' covers came_stay each kept complete number trigger binding is_live match =
    ⊎_elim
    (λ old. inl (old.0, kept number old.0 old.1, old.2))
    (λ claimed. ⊎_elim
    (λ stays. inr (claimed.0, stays, claimed.2, claimed.3))
    (λ answered. ⊎_elim
    (λ m. inl (m.earlier, subst (λ n. Contains stored' (n, m.earlier)) claimed.2 (answered trigger m.earlier (subst (λ n. slice_get (triggers_of before) n ≡ Some trigger) (sym claimed.2) m.was_live) m.matched), m.same))
    (λ other. inr (other.0, came_stay other.0 other.1, other.2, other.3))
    (covers number trigger claimed.0.start claimed.0.root binding is_live claimed.3))
    (each claimed.0 claimed.1))
    (complete number trigger binding is_live match)

-- a tuple that was a match stays one
pub sound_tuple : (before later : List Done) → IsLawful (before ++ later) → (number : ℕ) (tuple : List ℕ) → IsSoundTuple before number tuple → IsSoundTuple (before ++ later) number tuple
sound_tuple before later lawful number tuple old =
    let now : List Done = before ++ later in
    let continues = continues_front before later lawful in
    let trigger = old.0 in
    let binding = old.1 in
    let chosen = choose (λ i leader. (bound : ℕ) × (slice_get binding i ≡ Some bound) × IsLeader now bound leader) trigger.variables (λ i lt.
    let there = element_at binding i (omega (arith, lt, old.3.each_variable)) in
    let is_term = (derived_terms lawful.whole.ends (still_same continues (All-slice_get (λ term. IsLeader before term term) binding i there.0 old.3.leaders there.1).same)).0 in
    let leader = leader_of lawful.whole.table lawful.whole.ends there.0 is_term in
    (leader.0, (there.0, there.1, record { same = leader.1; least = leader.2 }))) in
    let leaders = chosen.0 in
    let leads : (i leader : ℕ) → slice_get leaders i ≡ Some leader → (bound : ℕ) × (slice_get binding i ≡ Some bound) × IsLeader now bound leader = chosen.2 in
    let alike : AreSame now binding leaders = each_at binding leaders (omega (arith, old.3.each_variable, chosen.1)) (λ i s t h k. let led = leads i t k in turned (subst (λ b. Same now t b) (same_Some led.0 s (sym led.1 ∙ h)) led.2.same)) in (
      trigger,
      leaders,
      continues.grown_trigger number trigger old.2,
      record {
        each_variable = chosen.1;
        leaders = all_at (λ term. IsLeader now term term) leaders (λ i leader h. let led = leads i leader h in record { same = same_term (derived_terms lawful.whole.ends led.2.same).0; least = λ other d. led.2.least other (joined d led.2.same) });
        each_pattern = all_at (λ root. (term : ℕ) × At now trigger.rows leaders root term) trigger.roots (λ k root h. let m = All-slice_get (λ root. (term : ℕ) × At before trigger.rows binding root term) trigger.roots k root old.3.each_pattern h in (m.0, rebind_term (same_place alike) (still_matches continues m.1)));
      },
      both_each (still_same_each continues old.4) alike,
    )

-- stored tuples stay matches
pub sound_after : (before later : List Done) → IsLawful (before ++ later) → (stored : Stored) → IsSound before stored → IsSound (before ++ later) stored
sound_after before later lawful stored sound number tuple has = sound_tuple before later lawful number tuple (sound number tuple has)

-- where each claim that is owed was answered, each match is stored and nothing is owed
pub settled : (standing : List Done) → IsLawful standing → (owed : List Claim) (stored stored' : Stored) → ((claim : Claim) → Contains owed claim → IsAnswered standing stored' claim) → ((number : ℕ) (tuple : List ℕ) → Contains stored (number, tuple) → Contains stored' (number, tuple)) → IsComplete standing owed stored → IsComplete standing [] stored'
settled standing lawful owed stored stored' answered kept complete = complete_late standing standing owed [] [] stored stored' (covers_none standing lawful) (λ claim c. c) (λ claim c. inr (answered claim c)) kept complete

-- a new engine has no trigger, and so no match
pub complete_first : IsComplete [] [] []
complete_first number trigger binding is_live match = absurd (none-some trigger is_live)
