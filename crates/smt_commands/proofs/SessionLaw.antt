-- Every command keeps what stands in a session right, and what it asserts is a formula.
use Rattle.std.proofs.Common.{◌≡◌, ℕ, zero, suc, ◌-◌, ◌≤◌, ◌==◌, Bool, true, false, cond, List, [], ◌∷◌, ◌++◌, reverse, length, take, get_or, bytes_eq, codes, Result, Ok, Err, refl, sym, subst, append-nil, length-append, arith}
use Rattle.std.proofs.lemmas.List.{length-take-le}
use Rattle.std.proofs.lemmas.List.Elements.{All-nil}
use Rattle.std.proofs.lemmas.Option.{none-some}
use Rattle.em_outside.specs.declared.limits.Limits.{Limits}
use Rattle.smt_text.specs.Trees as trees
use Rattle.smt_text.specs.declared.token.Place.{Place}
use Rattle.formula_draft.specs.Draft.{Draft, Formula, IsFormula, finished}
use Rattle.smt_names.specs.declared.value.Value.{Value}
use Rattle.smt_names.specs.declared.bound.Bound.{Bound}
use Rattle.smt_names.specs.declared.signature.Signature.{Signature}
use Rattle.smt_names.specs.declared.syntax_fault.SyntaxFault.{SyntaxFault}
use Rattle.smt_names.specs.declared.refusal.Refusal.TheVariants as refusal
use Rattle.smt_names.specs.Value.{sort_of, self}
use Rattle.smt_names.specs.Making.{Making, gives, then_from, ◌>>◌, must_hold, bad_form}
use Rattle.smt_names.specs.Names.{State, Defined, is_symbol, with_sort, with_function, declared_as, at_start, cleared, level_of, pushed, popped}
use Rattle.smt_terms.specs.Reading.{Reading, from, first_place, at_most}
use Rattle.smt_terms.specs.Terms.{value, reading}
use Rattle.smt_laws.specs.Sorted.{IsTruth}
use Rattle.smt_laws.specs.Sound.{IsDefinition}
use Rattle.smt_terms.specs.Scopes.{outside, inside_definition, sorts_of}
use Rattle.smt_laws.specs.Laws.{MakesFormulas, MakesDefinitions, KeepsDefinitions}
use Rattle.smt_commands.specs.declared.command.Command.{Command}
use Rattle.smt_commands.specs.declared.command.Command.TheVariants.{Silent, Unsupported, Assert, Push, Pop, CheckSat, GetInfo, Reset, ResetAssertions, Exit}
use Rattle.smt_commands.specs.declared.named.Named.{Named}
use Rattle.smt_commands.specs.declared.named.Named.TheVariants as named
use Rattle.smt_commands.specs.Commands.{Answer, answer, silent, logic_form, truth_first, plain_value, set_by, key_form, set_option, info_form, sort_form, declare_fun, declare_const, sorted_value, defined, define_fun, assert_truth, push_form, pop_form, asked_form, headed, command_named, command_of, command_at, without_draft, elaborate}
use Rattle.smt_commands.specs.SessionLaws.{FunctionIsWithin, DefinitionIsWithin, AreWithin, AreSoundLevels, IsSound, AssertsTruth, KeepsSound}
use Rattle.smt_commands.proofs.Steps.{draft_of}
use Rattle.smt_commands.proofs.SessionLawLevels.{function_declared, definition_declared, within_more, function_within, definition_within, levels_behind, levels_opened, levels_closed}
use Rattle.smt_commands.proofs.SessionLawForms.{Checked, checked, stopped, checks_exactly, checks_named_form, checks_sort, AreFewSorts, checks_signature, checks_constant, AreParameters, checks_parameters}

-- States.
-- nothing declared is right
pub sound_at_start : (limits : Limits) → IsSound (at_start limits)
sound_at_start limits = record {
  declared = record { functions_are = λ n f at. absurd (none-some f at); definitions_are = λ n d at. absurd (none-some d at) };
  within = record { functions_are = All-nil (FunctionIsWithin 0); definitions_are = All-nil (DefinitionIsWithin 0) };
  levels = tt {0};
}

sound_cleared : (state : State) → IsSound (cleared state)
sound_cleared state = let start = sound_at_start state.limits in record { declared = start.declared; within = start.within; levels = start.levels }

module _ (state : State) (is : IsSound state) where
  sound_printing : (prints : Bool) → IsSound (record state { prints_success = prints })
  sound_printing prints = record { declared = is.declared; within = is.within; levels = is.levels }

  sound_with_sort : (name : List ℕ) → IsSound (with_sort name state)
  sound_with_sort name =
      let fewer : length state.sorts ≤ length (state.sorts ++ name ∷ []) = omega (arith, length-append state.sorts (name ∷ [])) in
      record {
        declared = is.declared;
        within = within_more (length state.sorts) (length (state.sorts ++ name ∷ [])) fewer state.functions state.definitions is.within;
        levels = rw (append-nil state.functions, append-nil state.definitions) at (levels_behind (length state.sorts) (length (state.sorts ++ name ∷ [])) fewer state.functions [] state.definitions [] (reverse state.levels) is.levels);
      }

  sound_with_function : KeepsDefinitions → (name : List ℕ) (sorts : Signature) → AreFewSorts (length state.sorts) sorts → IsSound (with_function name sorts state)
  sound_with_function keeps name sorts few =
      let f = declared_as name sorts in
      record {
        declared = function_declared keeps state.functions state.definitions f (record { few = few.arguments.few; others = few.arguments.others }) is.declared;
        within = function_within (length state.sorts) state.functions state.definitions f (record { arguments = few.arguments.known; value = few.value }) is.within;
        levels = rw (append-nil state.definitions) at (levels_behind (length state.sorts) (length state.sorts) (omega arith) state.functions (f ∷ []) state.definitions [] (reverse state.levels) is.levels);
      }

  sound_with_definition : (d : Defined) → IsDefinition state.functions d → DefinitionIsWithin (length state.sorts) d → IsSound (record state { definitions = state.definitions ++ d ∷ [] })
  sound_with_definition d right known = record {
    declared = definition_declared state.functions state.definitions d right is.declared;
    within = definition_within (length state.sorts) state.functions state.definitions d known is.within;
    levels = rw (append-nil state.functions) at (levels_behind (length state.sorts) (length state.sorts) (omega arith) state.functions [] state.definitions (d ∷ []) (reverse state.levels) is.levels);
  }

  sound_pushed : (n : ℕ) → IsSound (pushed n state)
  sound_pushed n = record { declared = is.declared; within = is.within; levels = levels_opened (length state.sorts) state.functions state.definitions is.declared is.within (level_of state) refl refl refl n state.levels is.levels }

  sound_popped : (n : ℕ) → IsSound (popped n state)
  sound_popped n =
      let kept = length state.levels - n in
      let level = get_or state.levels kept (level_of state) in
      let functions = take level.functions state.functions in
      let definitions = take level.definitions state.definitions in
      let back = levels_closed (length state.sorts) state.functions state.definitions is.declared is.within (level_of state) refl refl refl kept state.levels is.levels in
      let stand : level.sorts ≡ length (take level.sorts state.sorts) = sym (length-take-le level.sorts state.sorts back.fewer) in
      record {
        declared = back.declared;
        within = subst (λ (sorts : ℕ). AreWithin sorts functions definitions) stand back.within_are;
        levels = subst (λ (sorts : ℕ). AreSoundLevels sorts functions definitions (reverse (take kept state.levels))) stand back.levels_are;
      }

-- Answers.
-- the state after it is right, and what is asserted is a formula; or the command is refused
data Answered : Result (Answer × Draft) SyntaxFault → Type 0 where
  answers : {given : Answer} {draft : Draft} → IsSound given.state → AssertsTruth given → Answered (Ok (given, draft))
  refused : {fault : SyntaxFault} → Answered (Err fault)

-- behind a step that puts nothing
behind_check : {A : Type 0} {P : A → Type 0} (draft : Draft) (rest : A → Making Answer) {r : Result (A × Draft) SyntaxFault} → Checked P draft r → ((given : A) → P given → Answered (rest given draft)) → Answered (then_from rest r)
behind_check draft rest (checked {given = given} is) goes = goes given is
behind_check draft rest stopped goes = refused

-- behind a step of which nothing is known
behind : {A : Type 0} (rest : A → Making Answer) (r : Result (A × Draft) SyntaxFault) → ((given : A) (later : Draft) → Answered (rest given later)) → Answered (then_from rest r)
behind rest (Ok done) goes = goes done.0 done.1
behind rest (Err fault) goes = refused

-- nothing is asserted
changed : (command : Command) (new : State) (draft : Draft) → IsSound new → ((formula : Formula) → command ≡ Assert formula → ⊥) → Answered (answer new command draft)
changed command new draft is other = answers is (λ formula same. absurd (other formula same))

silence : (new : State) (draft : Draft) → IsSound new → Answered (silent new draft)
silence new draft is = changed Silent new draft is (λ formula same. cc)

-- Values of a sort.
eq_from : (m n : ℕ) → (m == n) ≡ true → m ≡ n
eq_from m n same = grind arith

-- a value that was made, and has this sort
data Sorted (sort : ℕ) (made_so : Result (Value × Draft) SyntaxFault) : Result (Value × Draft) SyntaxFault → Type 0 where
  sorted : {v : Value} {later : Draft} → made_so ≡ Ok (v, later) → sort_of v ≡ sort → Sorted sort made_so (Ok (v, later))
  unsorted : {fault : SyntaxFault} → Sorted sort made_so (Err fault)

sorted_by : (place : Place) (sort : ℕ) (r : Result (Value × Draft) SyntaxFault) → Sorted sort r (then_from (λ (v : Value). must_hold (sort_of v == sort) refusal.WrongSort place >> gives v) r)
sorted_by place sort (Err fault) = unsorted
sorted_by place sort (Ok done) = by (sort_of done.0 == sort) refl
  where
    by : (b : Bool) → (sort_of done.0 == sort) ≡ b → Sorted sort (Ok done) (then_from (λ (_ : Unit {0}). gives done.0) (must_hold b refusal.WrongSort place done.1))
    by true same = sorted refl (eq_from (sort_of done.0) sort same)
    by false same = unsorted

behind_sorted : (sort : ℕ) (made_so : Result (Value × Draft) SyntaxFault) (rest : Value → Making Answer) {r : Result (Value × Draft) SyntaxFault} → Sorted sort made_so r
    → ((v : Value) (later : Draft) → made_so ≡ Ok (v, later) → sort_of v ≡ sort → Answered (rest v later)) → Answered (then_from rest r)
behind_sorted sort made_so rest (sorted {v = v} {later = later} is has) goes = goes v later is has
behind_sorted sort made_so rest unsorted goes = refused

-- Parts of commands.
-- the trees from the n-th on, before lists have their meanings
behind_trees : ℕ → trees.Trees → trees.Trees
behind_trees zero t = t
behind_trees (suc n) trees.End = trees.End
behind_trees (suc n) (trees.Token word after) = behind_trees n after
behind_trees (suc n) (trees.Group paren inner after) = behind_trees n after

from_reading : (n : ℕ) (t : trees.Trees) → from n (reading t) ≡ reading (behind_trees n t)
unfolding reading behind_trees
from_reading zero t = refl
from_reading (suc n) trees.End = refl
from_reading (suc n) (trees.Token word after) = from_reading n after
from_reading (suc n) (trees.Group paren inner after) = from_reading n after

-- Commands.
module _ (makes_formulas : MakesFormulas) (makes_definitions : MakesDefinitions) (keeps : KeepsDefinitions) (state : State) (is : IsSound state) where
  set_option_right : (head : Place) (parts : Reading) (draft : Draft) → Answered (set_option state head parts draft)
  set_option_right head parts draft = behind _ (key_form head parts draft) λ key later. by (bytes_eq key.text (codes ":print-success")) later
    where
      by : (b : Bool) (later : Draft) → Answered (set_by state head (from 1 parts) b later)
      by true later = behind _ (truth_first head (from 1 parts) later) λ prints last. silence (record state { prints_success = prints }) last (sound_printing state is prints)
      by false later = behind _ (plain_value (from 1 parts) later) λ _ last. changed Unsupported state last is (λ formula same. cc)

  declare_fun_right : (head : Place) (parts : Reading) (draft : Draft) → Answered (declare_fun state head parts draft)
  declare_fun_right head parts draft =
      behind_check draft _ (checks_named_form draft 3 state head parts) λ name _.
      behind_check draft _ (checks_signature draft state head (from 1 parts)) λ sorts few.
      silence (with_function name.text sorts state) draft (sound_with_function state is keeps name.text sorts few)

  declare_const_right : (head : Place) (parts : Reading) (draft : Draft) → Answered (declare_const state head parts draft)
  declare_const_right head parts draft =
      behind_check draft _ (checks_named_form draft 2 state head parts) λ name _.
      behind_check draft _ (checks_constant draft state head (from 1 parts)) λ sorts few.
      silence (with_function name.text sorts state) draft (sound_with_function state is keeps name.text sorts few)

  define_fun_right : (head : Place) (t : trees.Trees) → Answered (define_fun state head (reading t) (draft_of state))
  define_fun_right head t =
      let draft = draft_of state in
      behind_check draft _ (checks_named_form draft 4 state head (reading t)) λ name _.
      behind_check draft _ (checks_parameters draft state head (from 1 (reading t))) λ parameters are.
      behind_check draft _ (checks_sort draft state head (from 2 (reading t))) λ sort known.
      define name.text parameters are sort known
    where
      define : (name : List ℕ) (parameters : List Bound) → AreParameters state (draft_of state) parameters → (sort : ℕ) → sort ≤ length state.sorts
          → Answered (then_from (defined state name parameters sort) (sorted_value head (inside_definition state parameters) sort (from 3 (reading t)) (draft_of state)))
      define name parameters are sort known =
          let draft = draft_of state in
          let made_so = value head (inside_definition state parameters) (from 3 (reading t)) draft in
          behind_sorted sort made_so _ (sorted_by (first_place head (from 3 (reading t))) sort made_so) λ v later was _.
          let right = makes_definitions state head are.bindings draft draft parameters (behind_trees 3 t) state.limits.terms state.limits.nodes v later name sort (sorts_of parameters) is.declared are.given
          (subst (λ (parts : Reading). value head (inside_definition state parameters) parts draft ≡ Ok (v, later)) (from_reading 3 t) was) refl in
          silence (record state { definitions = state.definitions ++ record { name = name; parameters = sorts_of parameters; sort = sort; rows = later.rows; nodes = later.nodes; value = v } ∷ [] }) later
          (sound_with_definition state is (record { name = name; parameters = sorts_of parameters; sort = sort; rows = later.rows; nodes = later.nodes; value = v }) right (record { parameters = are.known; value = known }))

  assert_right : (head : Place) (t : trees.Trees) → Answered (assert_truth state head (reading t) (draft_of state))
  assert_right head t =
      let draft = draft_of state in
      behind_check draft _ (checks_exactly draft 1 head (reading t)) λ _ _.
      let made_so = value head (outside state) (reading t) draft in
      behind_sorted 0 made_so _ (sorted_by (first_place head (reading t)) 0 made_so) λ v later was bool.
      answers is (λ formula same. let e : finished later (self v) ≡ formula = cc in
      subst (λ (f : Formula). IsFormula f × IsTruth state.functions [] f.rows f.nodes f.foralls f.root) e (makes_formulas state head t state.limits.terms state.limits.nodes v later is.declared was bool))

  headed_right : (head : Place) (t : trees.Trees) (name : Named) → Answered (headed state head (reading t) name (draft_of state))
  headed_right head t named.SetLogic = behind _ (logic_form head (reading t) (draft_of state)) λ _ later. silence state later is
  headed_right head t named.SetOption = set_option_right head (reading t) (draft_of state)
  headed_right head t named.SetInfo = behind _ (info_form head (reading t) (draft_of state)) λ _ later. silence state later is
  headed_right head t named.DeclareSort = behind _ (sort_form state head (reading t) (draft_of state)) λ name later. silence (with_sort name.text state) later (sound_with_sort state is name.text)
  headed_right head t named.DeclareFun = declare_fun_right head (reading t) (draft_of state)
  headed_right head t named.DeclareConst = declare_const_right head (reading t) (draft_of state)
  headed_right head t named.DefineFun = define_fun_right head t
  headed_right head t named.Assert = assert_right head t
  headed_right head t named.Push = behind _ (push_form state head (reading t) (draft_of state)) λ n later. changed (Push n) (pushed n state) later (sound_pushed state is n) (λ formula same. cc)
  headed_right head t named.Pop = behind _ (pop_form state head (reading t) (draft_of state)) λ n later. changed (Pop n) (popped n state) later (sound_popped state is n) (λ formula same. cc)
  headed_right head t named.CheckSat = behind _ (at_most 0 (reading t) (draft_of state)) λ _ later. changed CheckSat state later is (λ formula same. cc)
  headed_right head t named.GetInfo = behind _ (asked_form head (reading t) (draft_of state)) λ key later. changed (GetInfo _) state later is (λ formula same. cc)
  headed_right head t named.Reset = behind _ (at_most 0 (reading t) (draft_of state)) λ _ later. changed Reset (at_start state.limits) later (sound_at_start state.limits) (λ formula same. cc)
  headed_right head t named.ResetAssertions = behind _ (at_most 0 (reading t) (draft_of state)) λ _ later. changed ResetAssertions (cleared state) later (sound_cleared state) (λ formula same. cc)
  headed_right head t named.Exit = behind _ (at_most 0 (reading t) (draft_of state)) λ _ later. changed Exit state later is (λ formula same. cc)
  headed_right head t named.Unsupported = changed Unsupported state (draft_of state) is (λ formula same. cc)
  headed_right head t named.Foreign = refused
  headed_right head t named.Unknown = refused

  list_right : (paren : Place) (t : trees.Trees) → Answered (command_of state paren (reading t) (draft_of state))
  unfolding reading
  list_right paren trees.End = refused
  list_right paren (trees.Group inner parts after) = refused
  list_right paren (trees.Token head parts) = by (is_symbol head.kind) (command_named head.text)
    where
      by : (b : Bool) (name : Named) → Answered (cond b (headed state head.place (reading parts) name) (bad_form head.place) (draft_of state))
      by true name = headed_right head.place parts name
      by false name = refused

  command_right : (t : trees.Trees) → Answered (command_at state (reading t) (draft_of state))
  unfolding reading
  command_right trees.End = refused
  command_right (trees.Token word after) = refused
  command_right (trees.Group paren inner after) = list_right paren.place inner

-- what was answered
right_of : {r : Result (Answer × Draft) SyntaxFault} → Answered r → (given : Answer) → without_draft r ≡ Ok given → IsSound given.state × AssertsTruth given
right_of (answers {given = found} sound truth) given is = let same : found ≡ given = cc in subst (λ (a : Answer). IsSound a.state × AssertsTruth a) same (sound, truth)
right_of refused given is = absurd cc

pub keeps_sound : MakesFormulas → MakesDefinitions → KeepsDefinitions → KeepsSound
unfolding elaborate
keeps_sound makes_formulas makes_definitions keeps state words given is found =
    right_of (command_right makes_formulas makes_definitions keeps state is (trees.tree_of words)) given found
