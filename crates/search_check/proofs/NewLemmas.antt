-- A new instance can be entered.
use Rattle.std.proofs.Common.{◌≡◌, ℕ, ◌<◌, true, false, List, [], ◌∷◌, length, slice_get, Option, Some, None}
use Rattle.std.proofs.Common.{All, Contains, refl, sym, ap, subst, ⊎_elim}
use Rattle.std.specs.Option.{option_map_or}
use Rattle.std.proofs.lemmas.List.Elements.{All-weaker}
use Rattle.std.proofs.lemmas.Option.{none-some, same_Some, slice_get_within}
use Rattle.graph_terms.specs.declared.term_row.TermRow.{TermRow}
use Rattle.graph_terms.specs.Terms.{term_row}
use Rattle.graph_trigger.specs.declared.trigger.Trigger.{Trigger}
use Rattle.graph_meaning.specs.declared.op.Op.{Op}
use Rattle.graph_meaning.specs.declared.op.Op.TheVariants.{Add, Merge, Differ, Live, Push, Pop}
use Rattle.graph_meaning.specs.declared.done.Done.{Done}
use Rattle.graph_meaning.specs.Lawful.{EndsBelow, IsLawful}
use Rattle.graph_meaning.specs.Same.{Derives, IsClassLeader}
use Rattle.graph_meaning.specs.Same as equations
use Rattle.graph_meaning.specs.Standing.{terms_of, merges_of, triggers_of, live_trigger}
use Rattle.match_store.specs.declared.instance.Instance.{Instance}
use Rattle.match_store.specs.New.{IsNew, AreNew}
use Rattle.formula_table.specs.declared.node.Node.{Node}
use Rattle.formula_table.specs.declared.node.Node.TheVariants.{Equal, Atom, And, Or, Forall}
use Rattle.formula_table.specs.declared.table_forall.TableForall.{TableForall}
use Rattle.formula_table.specs.Formulas.{Formulas, IsFormulaTable}
use Rattle.formula_table.specs.Instance.{HasVariables}
use Rattle.formula_assert.specs.Held.{triggers_at, operations_of}
use Rattle.formula_assert.specs.Assertions.{Assertions, held_of}
use Rattle.formula_assert.specs.AssertInstance.{TermsStand}
use Rattle.formula_assert.specs.Exactly.{operations_in}
use Rattle.search_check.specs.Round.{CanEnter, LivesAreAsserted}
use Rattle.search_check.proofs.ElementLemmas.{in_none, in_cases, in_map, from_map, from_filter_map}
use Rattle.search_check.proofs.ElementLemmas.{at_place, all_of}

-- terms that are derived equal stand
module _ (rows : List TermRow) (merges : List (ℕ × ℕ)) (ends : EndsBelow merges (length rows)) where
  derived_stand : {s t : ℕ} → Derives rows merges s t → (s < length rows) × (t < length rows)
  derived_stand (equations.Derives.same_term within) = (within, within)
  derived_stand (equations.Derives.turned same) = let both = derived_stand same in (both.1, both.0)
  derived_stand (equations.Derives.joined first second) = ((derived_stand first).0, (derived_stand second).1)
  derived_stand (equations.Derives.merged {s = s} {t = t} among) = ends s t among
  derived_stand (equations.Derives.congruent {s = s} {t = t} {symbol = symbol} {ss = ss} {ts = ts} one other each) = (
    slice_get_within rows s (term_row symbol ss) one,
    slice_get_within rows t (term_row symbol ts) other,
  )

-- what makes a trigger live is this operation
live_op : (op : Op) (serial : ℕ) (trigger : Trigger) →
    live_trigger (record { serial = serial; op = op }) ≡ Some trigger → op ≡ Live trigger
live_op (Add symbol args) serial trigger e = absurd (none-some trigger e)
live_op (Merge left right) serial trigger e = absurd (none-some trigger e)
live_op (Differ left right) serial trigger e = absurd (none-some trigger e)
live_op (Live other) serial trigger e = ap Live (same_Some other trigger e)
live_op Push serial trigger e = absurd (none-some trigger e)
live_op Pop serial trigger e = absurd (none-some trigger e)

-- a live trigger's operation stands
live_stands : (standing : List Done) (trigger : Trigger) → Contains (triggers_of standing) trigger →
    Contains (operations_in standing) (Live trigger)
live_stands standing trigger live =
    let from = from_filter_map live_trigger standing trigger live in
    subst (Contains (operations_in standing)) (live_op from.0.op from.0.serial trigger from.2)
    (in_map (λ (done : Done). done.op) standing from.0 from.1)

-- the triggers of what was found
abbrev option_triggers : Option TableForall → List Trigger
option_triggers found = option_map_or (λ (forall : TableForall). forall.triggers) found []

-- a trigger of a number is one of the forall that stands there
at_number : (foralls : List TableForall) (n : ℕ) (trigger : Trigger) →
    Contains (triggers_at foralls n) trigger →
    (quantified : TableForall) × (slice_get foralls n ≡ Some quantified) × Contains quantified.triggers trigger
at_number foralls n trigger among = by (slice_get foralls n) refl
  where
    by : (found : Option TableForall) → slice_get foralls n ≡ found →
        (quantified : TableForall) × (slice_get foralls n ≡ Some quantified) × Contains quantified.triggers trigger
    by None is = in_none trigger (subst (λ (found : Option TableForall). Contains (option_triggers found) trigger) is
        among)
    by (Some quantified) is = (
      quantified,
      is,
      subst (λ (found : Option TableForall). Contains (option_triggers found) trigger) is among,
    )

-- the one operation is another
not_live : {P : Type 0} (op : Op) (trigger : Trigger) → Contains (op ∷ []) (Live trigger) → (op ≡ Live trigger → ⊥) → P
not_live op trigger c not = absurd (⊎_elim not (in_none (Live trigger)) (in_cases op (Live trigger) [] c))

same_live : (one other : Trigger) → Live one ≡ Live other → one ≡ other
same_live one other e = cc e

-- an operation of a node that makes a trigger live is that of a forall
of_forall : (formulas : Formulas) (node : Node) (trigger : Trigger) →
    Contains (operations_of formulas node) (Live trigger) →
    (forall : ℕ) × (node ≡ Forall forall) × Contains (triggers_at formulas.foralls forall) trigger
of_forall formulas (Equal true left right) trigger c = not_live (Merge left right) trigger c (λ e. cc)
of_forall formulas (Equal false left right) trigger c = not_live (Differ left right) trigger c (λ e. cc)
of_forall formulas (Atom true term) trigger c = not_live (Merge term 0) trigger c (λ e. cc)
of_forall formulas (Atom false term) trigger c = not_live (Merge term 1) trigger c (λ e. cc)
of_forall formulas (And parts) trigger c = in_none (Live trigger) c
of_forall formulas (Or parts) trigger c = in_none (Live trigger) c
of_forall formulas (Forall forall) trigger c =
    let from = from_map Live (triggers_at formulas.foralls forall) (Live trigger) c in
    (forall, refl, subst (Contains (triggers_at formulas.foralls forall)) (same_live from.0 trigger from.2) from.1)

module _ (now : Assertions) (lawful : IsLawful now.graph.standing) (table : IsFormulaTable now.formulas)
    (lives : LivesAreAsserted now.formulas (held_of now)) where
  -- a leader stands
  leaders_stand : (tuple : List ℕ) →
      All (λ term. IsClassLeader (terms_of now.graph.standing) (merges_of now.graph.standing) term term) tuple →
      TermsStand now tuple
  leaders_stand tuple leaders = All-weaker
      (λ term. IsClassLeader (terms_of now.graph.standing) (merges_of now.graph.standing) term term)
      (λ term. term < length (terms_of now.graph.standing))
      (λ term leader. (derived_stand (terms_of now.graph.standing) (merges_of now.graph.standing) lawful.whole.ends
      leader.same).0)
      tuple leaders

  -- a live trigger has as many variables as its forall
  live_variables : (trigger : Trigger) → Contains (triggers_of now.graph.standing) trigger →
      HasVariables now.formulas trigger.forall trigger.variables
  live_variables trigger live =
      let of = lives.lives trigger (live_stands now.graph.standing trigger live) in
      let node = of_forall now.formulas of.node trigger of.of_node in
      let found = at_number now.formulas.foralls node.0 trigger node.2 in
      let place = at_place found.0.triggers trigger found.2 in
      let is = (table.foralls node.0 found.0 found.1).triggers place.0 trigger place.1 in (
        found.0,
        subst (λ (n : ℕ). slice_get now.formulas.foralls n ≡ Some found.0) (sym is.forall_is) found.1,
        sym is.variables_are,
      )

  can_enter : (done : List Instance) (instance : Instance) → IsNew now.graph.standing done instance →
      CanEnter now instance
  can_enter done instance new = record {
    variables = subst (HasVariables now.formulas instance.forall) (sym new.matches.each_variable)
        (subst (λ (forall : ℕ). HasVariables now.formulas forall new.trigger.variables) new.of_forall
        (live_variables new.trigger new.live));
    terms = leaders_stand instance.tuple new.matches.leaders;
  }

  -- new instances can be entered
  pub all_can_enter : (done instances : List Instance) → AreNew now.graph.standing done instances →
      All (CanEnter now) instances
  all_can_enter done instances new = all_of (CanEnter now) instances
      (λ instance among. can_enter done instance ((new.exact instance).0 among))
