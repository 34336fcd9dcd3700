-- A match now is a match before, or one of its links is new.
use Rattle.std.proofs.Common.{◌≡◌, ◌≢◌, ℕ, zero, suc, ◌<◌, ◌≤◌, ◌⊎◌, List, [], ◌∷◌, length, Some, slice_get, Contains, refl, sym, ap, subst, ◌∙◌, inl, inr, ⊎_elim, arith}
use Rattle.std.proofs.lemmas.Bool.{cases_eq}
use Rattle.std.proofs.lemmas.Option.{same_Some}
use Rattle.graph_terms.proofs.ListLaws.{element_at, All-slice_get}
use Rattle.graph_trigger.specs.declared.trigger.Trigger.{Trigger}
use Rattle.graph_meaning.specs.declared.done.Done.{Done}
use Rattle.graph_terms.specs.declared.term_row.TermRow.{TermRow}
use Rattle.graph_terms.specs.Terms.{term_row, HasRow, IsTable}
use Rattle.graph_meaning.specs.Standing.{terms_of, merges_of, triggers_of}
use Rattle.graph_meaning.specs.Lawful.{EndsBelow}
use Rattle.graph_trigger.specs.Trigger.{Occurs, below, IsValid}
use Rattle.graph_meaning.specs.Same.{Same, same_term, turned, joined}
use Rattle.graph_meaning.specs.Match.{at, variable, application, none, more, At, Match, MatchEach, IsItemMatch}
use Rattle.graph_meaning.specs.Justified as why
use Rattle.graph_meaning.specs.Justified.{Justified, Reach, further, from_root, HasArg, AppliesAt, LinksAt, Through}
use Rattle.match_laws.specs.StepLaw.{IsClaimed}
use Rattle.match_laws.proofs.DecideLaws.{decide_same, derived_terms, decide_lists}
use Rattle.match_laws.proofs.FollowLaws.{onto, follow, follow_term, follow_class, follow_each, MatchesRoots, Home, opened}

-- the later list has the terms of the earlier, with their rows
pub record Continues (before now : List Done) : Type 0 where
  pub table : IsTable (terms_of before)
  pub ends : EndsBelow (merges_of before) (length (terms_of before))
  pub grown : (term : ℕ) (row : TermRow) → HasRow (terms_of before) term row → HasRow (terms_of now) term row
  pub grown_merge : (s t : ℕ) → Contains (merges_of before) (s, t) → Contains (merges_of now) (s, t)
  pub grown_trigger : (n : ℕ) (trigger : Trigger) → slice_get (triggers_of before) n ≡ Some trigger → slice_get (triggers_of now) n ≡ Some trigger
  pub more_triggers : length (triggers_of before) ≤ length (triggers_of now)
  pub longer : length (terms_of before) ≤ length (terms_of now)
  pub old_row : (term : ℕ) (row : TermRow) → term < length (terms_of before) → HasRow (terms_of now) term row → HasRow (terms_of before) term row

module _ (before now : List Done) (continues : Continues before now) (number : ℕ) (trigger : Trigger) (is_live : slice_get (triggers_of now) number ≡ Some trigger) (valid : IsValid trigger) (binding : List ℕ) (all : MatchesRoots (terms_of now) (merges_of now) trigger.rows binding trigger.roots) where
  -- each variable has a term where it was matched
  module _ (homes : List ℕ) (each_variable : length homes ≡ trigger.variables) (each_home : (index term : ℕ) → slice_get homes index ≡ Some term → Home trigger all index term) where
    module _ (start root : ℕ) (itself : IsItemMatch now trigger start root binding) (root_symbol : (symbol : ℕ) × (args : List ℕ) × AppliesAt trigger start [] symbol × HasRow (terms_of now) root (term_row symbol args)) where
      -- what a new link at this path gives
      new_link : (place : ℕ) (path : List ℕ) (term joined_with : ℕ) → Reach now trigger start root (place ∷ path) term → LinksAt now trigger start (place ∷ path) term → Same now term joined_with → (Same before term joined_with → ⊥) → term < length (terms_of now) → IsClaimed before now number trigger binding
      new_link place path term joined_with reached links same apart is_term =
          record {
            claim = record { trigger = number; start = start; root = root };
            names = refl;
            justified = why.joined {left = term} {right = joined_with} is_live (record { same = same; apart = apart })
                (record { root_symbol = root_symbol; place = place; path = path; term = term; reached = reached; same = same_term is_term; links = links });
            matched = itself;
          }

      -- the variable was matched elsewhere too
      elsewhere : (place : ℕ) (path : List ℕ) (term index home_term : ℕ) → (home : Home trigger all index home_term) → follow all start (onto path (place ∷ [])) ≡ Some term → (home_term ≡ term → ⊥) → (home.start ≢ start) ⊎ (home.place ∷ home.above ≢ place ∷ path)
      elsewhere place path term index home_term home here apart =
          ⊎_elim
          (λ one_start. ⊎_elim
          (λ one_path. absurd (apart (same_Some home_term term (sym home.follows ∙ ap (λ s. follow all s (onto (home.place ∷ home.above) [])) one_start ∙ ap (λ p. follow all start (onto p [])) one_path ∙ here))))
          inr
          (decide_lists (home.place ∷ home.above) (place ∷ path)))
          inl
          (cases_eq home.start start)

      mutual
        pub walk_term : {pattern term : ℕ} (match : At now trigger.rows binding pattern term) (path : List ℕ) → Occurs trigger start path pattern → term < length (terms_of before) → ((symbol place arg : ℕ) → AppliesAt trigger start path symbol → HasArg now term symbol place arg → Reach now trigger start root (place ∷ path) arg) → ((place : ℕ) (down : List ℕ) → follow all start (onto path (place ∷ down)) ≡ follow_term match (place ∷ down)) → IsClaimed before now number trigger binding ⊎ At before trigger.rows homes pattern term
        walk_term {pattern} {term} (at {symbol = symbol} {parts = parts} {args = args} shape has each) path occurs old reach follows =
            let was = continues.old_row term (term_row symbol args) old has in
            ⊎_elim inl (λ each_before. inr (at shape was each_before))
            (walk_each each path (λ j. j) (λ j part h. below occurs shape h) (λ j arg h. reach symbol j arg (pattern, parts, occurs, shape) (args, has, h))
            (λ j arg h. let less = All-slice_get (λ a. a < term) args j arg (continues.table.earlier term (term_row symbol args) was) h in omega (arith, less, old))
            (λ j down. follows j down))

        walk_each : {parts args : List ℕ} (each : MatchEach now trigger.rows binding parts args) (path : List ℕ) (place_of : ℕ → ℕ) → ((j part : ℕ) → slice_get parts j ≡ Some part → Occurs trigger start (place_of j ∷ path) part) → ((j arg : ℕ) → slice_get args j ≡ Some arg → Reach now trigger start root (place_of j ∷ path) arg) → ((j arg : ℕ) → slice_get args j ≡ Some arg → arg < length (terms_of before)) → ((j : ℕ) (down : List ℕ) → follow all start (onto path (place_of j ∷ down)) ≡ follow_each each j down) → IsClaimed before now number trigger binding ⊎ MatchEach before trigger.rows homes parts args
        walk_each none path place_of occurs reached old follows = inr none
        walk_each (more {pattern = pattern} {term = term} match rest) path place_of occurs reached old follows =
            ⊎_elim inl
            (λ first. ⊎_elim inl (λ others. inr (more first others))
            (walk_each rest path (λ j. place_of (suc j)) (λ j part h. occurs (suc j) part h) (λ j arg h. reached (suc j) arg h) (λ j arg h. old (suc j) arg h) (λ j down. follows (suc j) down)))
            (walk_class match path (place_of zero) (occurs zero pattern refl) (reached zero term refl) (old zero term refl) (λ down. follows zero down))

        walk_class : {pattern term : ℕ} (match : Match now trigger.rows binding pattern term) (path : List ℕ) (place : ℕ) → Occurs trigger start (place ∷ path) pattern → Reach now trigger start root (place ∷ path) term → term < length (terms_of before) → ((down : List ℕ) → follow all start (onto path (place ∷ down)) ≡ follow_class match down) → IsClaimed before now number trigger binding ⊎ Match before trigger.rows homes pattern term
        walk_class {pattern} {term} (variable {index = index} {bound = bound} shape has same) path place occurs reached old follows =
            let at_home = element_at homes index (let below = valid.below pattern index shape in omega (arith, each_variable, below)) in
            let home_term = at_home.0 in
            let home : Home trigger all index home_term = each_home index home_term at_home.1 in
            let same_home : Same now home_term term = joined (turned (subst (λ b. Same now b home_term) (same_Some home.bound bound (sym home.is_bound ∙ has)) home.same)) same in
            ⊎_elim
            (λ was. inr (variable shape at_home.1 was))
            (λ apart. inl (new_link place path term home_term reached
            (why.parent_and_parent (pattern, occurs, shape) (home.row, home.occurs, home.is_variable)
            (elsewhere place path term index home_term home (follows []) (λ e. apart (subst (λ t. Same before home_term t) e (same_term (subst (λ t. t < length (terms_of before)) (sym e) old)))))
            (home.above_row, home.parts, home.above_occurs, home.above_shape) (home.parent, home_term, (home.args, home.has, home.at), same_home))
            (turned same_home) (λ d. apart (turned d)) (omega (arith, old, continues.longer))))
            (decide_same continues.table continues.ends home_term term)
        walk_class {pattern} {term} (application {other = other} same inner) path place occurs reached old follows =
            let o = opened inner in
            ⊎_elim
            (λ was. ⊎_elim inl (λ inner_before. inr (application was inner_before))
            (walk_term inner (place ∷ path) occurs (derived_terms continues.ends was).0 (λ symbol deeper arg applies has. further reached applies same has) (λ deeper down. follows (deeper ∷ down))))
            (λ apart. inl (new_link place path term other reached (why.parent_and_child (pattern, o.parts, occurs, o.shape) (other, o.args, same, o.has)) (turned same) (λ d. apart (turned d)) (omega (arith, old, continues.longer))))
            (decide_same continues.table continues.ends other term)
