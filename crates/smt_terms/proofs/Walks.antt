-- The steps of going on.
use Rattle.std.proofs.Common.{◌≡◌, ℕ, ◌+◌, ◌<◌, ◌≤◌, List, [], ◌∷◌, ◌++◌, reverse, Result, Ok, Err, sym, ap, ◌∙◌, refl, subst, arith}
use Rattle.smt_text.specs.Word.{Word}
use Rattle.smt_text.specs.declared.token.Place.{Place}
use Rattle.formula_draft.specs.Draft.{Draft}
use Rattle.smt_names.specs.declared.value.Value.{Value}
use Rattle.smt_names.specs.declared.bound.Bound.{Bound}
use Rattle.smt_names.specs.declared.stop.Stop.{Stop}
use Rattle.smt_names.specs.declared.refusal.Refusal.TheVariants as refusal
use Rattle.smt_names.specs.Making.{then_from, fault_of}
use Rattle.smt_names.specs.Makes.{Refuses}
use Rattle.smt_names.specs.Names.{State}
use Rattle.smt_terms.specs.declared.frame.Frame.{Frame}
use Rattle.smt_terms.specs.declared.work.Work.{Work}
use Rattle.smt_terms.specs.declared.work.Work.TheVariants.{Apply, Let, Pass}
use Rattle.smt_terms.specs.declared.inside.Inside.{Inside}
use Rattle.smt_terms.specs.declared.opened.Opened.{Opened}
use Rattle.smt_terms.specs.declared.opened.Opened.TheVariants as opened
use Rattle.smt_terms.specs.declared.next.Next.{Next}
use Rattle.smt_terms.specs.declared.next.Next.TheVariants as step
use Rattle.smt_terms.specs.declared.walked.Walked.{Walked}
use Rattle.smt_terms.specs.declared.step.Step.{Step}
use Rattle.smt_terms.specs.Reading.{Reading, Meaning, End}
use Rattle.smt_terms.specs.Terms.{value, token_value, list_value, forall_value}
use Rattle.smt_terms.specs.Cursor.{word_at, trees_from, SeesList, SeesToken}
use Rattle.smt_terms.specs.Machine.{outside, goes_by, finish, resume, weight, load, base_of, bound_round, weight_by, scope_of, rest_of, work_of, work_in, given_to, GivesOn, Opens, IsUniversalAt, Advances, Stands, Walks, Progress, Steps, step_of, step_for}
use Rattle.smt_terms.proofs.Machines.{pushed, at_token, at_list}
use Rattle.smt_terms.proofs.Openings.{refuses_same}

module _ (words : List Word) (state : State) (inside : Inside) (missing : Place) (frames : List Frame) (bound : List Bound) (new : List Frame) (later : List Bound) (draft after_draft : Draft) (i : ℕ) where
  -- a step that goes on is one that does
  pub steps_on : (n : Next) (s : Step) → s ≡ step_of n → Progress words state inside missing frames bound new later draft after_draft i n
      → Steps words state inside missing frames bound new later draft after_draft i (Ok s)
  steps_on (step.At j) s is goes = rw is goes
  steps_on (step.Whole v) s is goes = rw is goes

  -- a value that was made is given on
  pub gave : (most next : ℕ) (at : Place) (v : Value) (n : Next) (popped : List Frame) → work_of words popped next < work_of words frames i → base_of (reverse popped) bound ≡ base_of (reverse frames) bound
      → rest_of words state inside missing frames bound i draft ≡ given_to words state inside popped bound next at v after_draft
      → GivesOn words popped bound new later next at v (Ok n)
      → Progress words state inside missing frames bound new later draft after_draft i n
  gave most next at v (step.At j) popped less base gives goes =
      let g = goes state inside missing after_draft in
      record { most = work_of words popped next; less = less; goes = (gives ∙ g.0, g.1, g.2 ∙ base) }
  gave most next at v (step.Whole u) popped less base gives goes =
      let g = goes state inside missing after_draft in
      record { most = work_of words popped next; less = less; goes = (gives ∙ g.0, g.1 ∙ base) }

module _ (words : List Word) (state : State) (inside : Inside) (missing : Place) (frames : List Frame) (bound : List Bound) (draft : Draft) (i : ℕ) where
  -- a token
  pub token_gives : (v : Value) (later : Draft) → SeesToken words i → token_value (scope_of state inside bound) (word_at words i) draft ≡ Ok (v, later)
      → rest_of words state inside missing frames bound i draft ≡ given_to words state inside frames bound (i + 1) (word_at words i).place v later
  token_gives v later sees makes = ap (λ (trees : Reading). resume words missing (scope_of state inside bound) (reverse frames) trees draft) sees.is
      ∙ at_token words missing (scope_of state inside bound) (reverse frames) (word_at words i) (trees_from words (i + 1)) draft
      ∙ ap (then_from (λ (u : Value). finish words (scope_of state inside bound) (reverse frames) (trees_from words (i + 1)) (word_at words i).place u)) makes

  pub token_refused : (stopped : Stop) → SeesToken words i → Refuses stopped (token_value (scope_of state inside bound) (word_at words i) draft)
      → Refuses stopped (rest_of words state inside missing frames bound i draft)
  token_refused stopped sees = refuses_same stopped _ _ (λ fault makes. ap (λ (trees : Reading). resume words missing (scope_of state inside bound) (reverse frames) trees draft) sees.is
      ∙ at_token words missing (scope_of state inside bound) (reverse frames) (word_at words i) (trees_from words (i + 1)) draft
      ∙ ap (then_from (λ (u : Value). finish words (scope_of state inside bound) (reverse frames) (trees_from words (i + 1)) (word_at words i).place u)) makes)

  pub token_less : SeesToken words i → work_of words frames (i + 1) < work_of words frames i
  unfolding weight
  token_less sees = omega (arith, ap (weight words) sees.is)

  -- a list
  pub at_list_here : (after : ℕ) → SeesList words i after
      → rest_of words state inside missing frames bound i draft
      ≡ then_from (λ (u : Value). finish words (scope_of state inside bound) (reverse frames) (trees_from words after) (word_at words i).place u) (list_value (word_at words i) (trees_from words (i + 1)) (scope_of state inside bound) draft)
  at_list_here after sees = ap (λ (trees : Reading). resume words missing (scope_of state inside bound) (reverse frames) trees draft) sees.is
      ∙ at_list words missing (scope_of state inside bound) (reverse frames) (word_at words i) (list_value (word_at words i) (trees_from words (i + 1))) (trees_from words (i + 1)) (trees_from words after) draft

  pub list_refused : (after : ℕ) (stopped : Stop) → SeesList words i after → Refuses stopped (list_value (word_at words i) (trees_from words (i + 1)) (scope_of state inside bound) draft)
      → Refuses stopped (rest_of words state inside missing frames bound i draft)
  list_refused after stopped sees = refuses_same stopped _ _ (λ fault makes. at_list_here after sees
      ∙ ap (then_from (λ (u : Value). finish words (scope_of state inside bound) (reverse frames) (trees_from words after) (word_at words i).place u)) makes)

  list_less : (after : ℕ) → SeesList words i after → 2 + work_in words frames (i + 1) after < work_of words frames i
  unfolding weight
  list_less after sees = omega (arith, ap (weight words) sees.is)

  pub forall_less : (after : ℕ) → SeesList words i after → work_of words frames after < work_of words frames i
  unfolding weight
  forall_less after sees = omega (arith, ap (weight words) sees.is)

  -- a forall
  module _ (after : ℕ) (sees : SeesList words i after) (universal : IsUniversalAt words inside i) where
    forall_here : rest_of words state inside missing frames bound i draft
        ≡ then_from (λ (u : Value). finish words (scope_of state inside bound) (reverse frames) (trees_from words after) (word_at words i).place u) (forall_value (word_at words i).place (word_at words (i + 1)).place (trees_from words (i + 2)) (scope_of state inside bound) draft)
    forall_here = at_list_here after sees
        ∙ ap (λ (m : Meaning). then_from (λ (u : Value). finish words (scope_of state inside bound) (reverse frames) (trees_from words after) (word_at words i).place u) (m (scope_of state inside bound) draft)) universal.means

    pub forall_gives : (at : Place) (v : Value) (later : Draft) → at ≡ (word_at words i).place → forall_value (word_at words i).place (word_at words (i + 1)).place (trees_from words (i + 2)) (scope_of state inside bound) draft ≡ Ok (v, later)
        → rest_of words state inside missing frames bound i draft ≡ given_to words state inside frames bound after at v later
    forall_gives at v later place makes = forall_here ∙ ap (then_from (λ (u : Value). finish words (scope_of state inside bound) (reverse frames) (trees_from words after) (word_at words i).place u)) makes
        ∙ ap (λ (p : Place). given_to words state inside frames bound after p v later) (sym place)

    pub forall_refused : (stopped : Stop) → Refuses stopped (forall_value (word_at words i).place (word_at words (i + 1)).place (trees_from words (i + 2)) (scope_of state inside bound) draft)
        → Refuses stopped (rest_of words state inside missing frames bound i draft)
    forall_refused stopped = refuses_same stopped _ _ (λ fault makes. forall_here ∙ ap (then_from (λ (u : Value). finish words (scope_of state inside bound) (reverse frames) (trees_from words after) (word_at words i).place u)) makes)

  -- it opens
  pub list_steps : (after : ℕ) (new : List Frame) (later : List Bound) (o : Opened) (s : Step) → SeesList words i after → s ≡ step_for o i after
      → Opens words state inside frames bound new later i after (2 + work_in words frames (i + 1) after) (list_value (word_at words i) (trees_from words (i + 1))) (Ok o)
      → Steps words state inside missing frames bound new later draft draft i (Ok s)
  list_steps after new later (opened.At j) s sees is opens =
      let g = opens missing draft in
      rw is (record { most = 2 + work_in words frames (i + 1) after; less = list_less after sees; goes = (at_list_here after sees ∙ g.0, g.1, g.2) })
  list_steps after new later opened.Universal s sees is opens =
      rw is (record { same_place = refl; same_frames = opens.1; same_bound = opens.2; sees = sees; universal = opens.0 }, refl)

  -- the end of a list
  module _ (ends : trees_from words i ≡ End) where
    pub end_none : frames ≡ [] → rest_of words state inside missing frames bound i draft ≡ Err (fault_of refusal.BadForm missing [])
    unfolding resume
    end_none empty = rw (empty, ends) refl

    module _ (popped : List Frame) (f : Frame) (was : frames ≡ popped ++ f ∷ []) where
      at_end : rest_of words state inside missing frames bound i draft
          ≡ then_from (λ (u : Value). finish words (outside f.work (scope_of state inside bound)) (reverse popped) (trees_from words f.after) f.paren u) (goes_by words f.work (scope_of state inside bound) f End draft)
      unfolding resume
      at_end = ap (λ (trees : Reading). resume words missing (scope_of state inside bound) (reverse frames) trees draft) ends
          ∙ ap (λ (fs : List Frame). resume words missing (scope_of state inside bound) fs End draft) (pushed popped frames f was)

      pub end_refused : (stopped : Stop) → Refuses stopped (goes_by words f.work (scope_of state inside bound) f End draft) → Refuses stopped (rest_of words state inside missing frames bound i draft)
      end_refused stopped = refuses_same stopped _ _ (λ fault makes. at_end
          ∙ ap (then_from (λ (u : Value). finish words (outside f.work (scope_of state inside bound)) (reverse popped) (trees_from words f.after) f.paren u)) makes)

      -- a list that has a value at its end binds no names
      no_names : (work : Work) (v : Value) (later : Draft) → goes_by words work (scope_of state inside bound) f End draft ≡ Ok (v, later) → bound_round work bound ≡ bound
      no_names (Apply called head args) v later makes = refl
      no_names (Let name done next body) v later makes = refl
      no_names (Pass n) v later makes = absurd (cc)

      pub end_gives : (v : Value) (later : Draft) → goes_by words f.work (scope_of state inside bound) f End draft ≡ Ok (v, later)
          → rest_of words state inside missing frames bound i draft ≡ given_to words state inside popped bound f.after f.paren v later
      end_gives v later makes = at_end
          ∙ ap (then_from (λ (u : Value). finish words (outside f.work (scope_of state inside bound)) (reverse popped) (trees_from words f.after) f.paren u)) makes
          ∙ ap (λ (names : List Bound). finish words (scope_of state inside names) (reverse popped) (trees_from words f.after) f.paren v later) (no_names f.work v later makes)

      pub end_base : (v : Value) (later : Draft) → goes_by words f.work (scope_of state inside bound) f End draft ≡ Ok (v, later) → base_of (reverse popped) bound ≡ base_of (reverse frames) bound
      unfolding base_of
      end_base v later makes = sym (ap (λ (fs : List Frame). base_of fs bound) (pushed popped frames f was) ∙ ap (base_of (reverse popped)) (no_names f.work v later makes))

      weighs : (work : Work) → 1 ≤ weight_by words work
      weighs (Apply called head args) = omega arith
      weighs (Let name done next body) = omega arith
      weighs (Pass n) = omega arith

      pub end_less : work_of words popped f.after < work_of words frames i
      unfolding load weight
      end_less = rw (pushed popped frames f was, ends) (omega (arith, weighs f.work))

-- at the beginning all is left to do
pub at_start : (words : List Word) (state : State) (inside : Inside) (missing : Place) (bound : List Bound) (frames : List Frame) (i : ℕ) (draft : Draft) → frames ≡ []
    → value missing (scope_of state inside bound) (trees_from words i) draft ≡ rest_of words state inside missing frames bound i draft
unfolding resume
at_start words state inside missing bound frames i draft empty = rw empty refl

pub base_at_start : (frames : List Frame) (bound : List Bound) → frames ≡ [] → base_of (reverse frames) bound ≡ bound
unfolding base_of
base_at_start frames bound empty = rw empty refl

-- a step that goes on advances
pub advances_by : (words : List Word) (state : State) (inside : Inside) (missing : Place) (frames : List Frame) (bound : List Bound) (new : List Frame) (later_bound : List Bound) (draft later : Draft) (i : ℕ) (n : Next)
    → Progress words state inside missing frames bound new later_bound draft later i n → Advances words state inside missing frames bound new later_bound draft later i (Ok n)
advances_by words state inside missing frames bound new later_bound draft later i (step.At j) p = (p.goes.0, p.goes.2, omega (arith, p.less, p.goes.1))
advances_by words state inside missing frames bound new later_bound draft later i (step.Whole v) p = p.goes

-- what advances from where going on ended advances from where it began
pub advances_after : (words : List Word) (state : State) (inside : Inside) (missing : Place) (frames : List Frame) (bound : List Bound) (mid : List Frame) (mid_bound : List Bound) (new : List Frame) (new_bound : List Bound) (draft mid_draft later : Draft) (i at after : ℕ) (r : Result Next Stop)
    → Stands words state inside missing frames bound mid mid_bound draft mid_draft i at after → Advances words state inside missing mid mid_bound new new_bound mid_draft later at r
    → Advances words state inside missing frames bound new new_bound draft later i r
advances_after words state inside missing frames bound mid mid_bound new new_bound draft mid_draft later i at after (Ok (step.At j)) s a = (s.same ∙ a.0, a.1 ∙ s.base, omega (arith, a.2, s.no_more))
advances_after words state inside missing frames bound mid mid_bound new new_bound draft mid_draft later i at after (Ok (step.Whole v)) s a = (s.same ∙ a.0, a.1 ∙ s.base)
advances_after words state inside missing frames bound mid mid_bound new new_bound draft mid_draft later i at after (Err stopped) s a = refuses_same stopped _ _ (λ fault e. s.same ∙ e) a

pub stands_so : (words : List Word) (state : State) (inside : Inside) (missing : Place) (frames : List Frame) (bound : List Bound) (new : List Frame) (new_bound : List Bound) (draft later : Draft) (i : ℕ) (w v : Walked) → w ≡ v
    → Walks words state inside missing frames bound new new_bound draft later i (Ok w) → Walks words state inside missing frames bound new new_bound draft later i (Ok v)
stands_so words state inside missing frames bound new new_bound draft later i w v e walks = subst (λ (x : Walked). Walks words state inside missing frames bound new new_bound draft later i (Ok x)) e walks

pub gives_on_from : (words : List Word) (popped : List Frame) (found bound : List Bound) (new : List Frame) (later : List Bound) (next : ℕ) (at : Place) (v : Value) (n : Next) → found ≡ bound
    → GivesOn words popped found new later next at v (Ok n) → GivesOn words popped bound new later next at v (Ok n)
gives_on_from words popped found bound new later next at v n e gives = subst (λ (b : List Bound). GivesOn words popped b new later next at v (Ok n)) e gives
