-- One step after another.
use Rattle.std.proofs.Common.{◌≡◌, List, [], ℕ, ◌==◌, Bool, true, false, Result, Ok, Err, refl, sym, ap, subst, ◌∙◌, arith}
use Rattle.std.proofs.lemmas.Grind.{common_steps}
use Rattle.smt_text.specs.Word.{Word}
use Rattle.smt_text.specs.declared.token.Kind.{Kind}
use Rattle.smt_text.specs.declared.token.Place.{Place}
use Rattle.formula_draft.specs.Draft.{Draft}
use Rattle.smt_names.specs.declared.stop.Stop.{Stop}
use Rattle.smt_names.specs.declared.stop.Stop.TheVariants as stop
use Rattle.smt_names.specs.declared.syntax_fault.SyntaxFault.{SyntaxFault}
use Rattle.formula_draft.specs.Draft.{empty_draft}
use Rattle.smt_names.specs.declared.refusal.Refusal.{Refusal}
use Rattle.smt_names.specs.Making.{Making, gives, then_from, ◌>>=◌, fault_of, must_hold}
use Rattle.smt_names.specs.Makes.{Checks, Makes, Refuses, StopsWith}
use Rattle.smt_names.specs.Names.{State, word_of}
use Rattle.smt_commands.specs.declared.command.Command.{Command}
use Rattle.smt_terms.specs.Checks.{ChecksAs}
use Rattle.smt_commands.specs.Answers.{Answers}
use Rattle.smt_commands.specs.Commands.{Answer, begun, without_draft}

-- a token, by what calls told of it
pub same_word : (w : Word) (k : Kind) (p : Place) (t : List ℕ) → k ≡ w.kind → p ≡ w.place → t ≡ w.text → word_of k p t ≡ w
same_word w k p t ek ep et = rw (ek, ep, et) refl

-- an answer with the state after it
abbrev pub answered : Command → State → Result Answer SyntaxFault
answered command state = Ok (record { command = command; state = state })

module _ {A B : Type 0} (rest : A → Making B) where
  -- a refusal stays
  pub refused_first : (stopped : Stop) (first : Result (A × Draft) SyntaxFault) → Refuses stopped first → Refuses stopped (then_from rest first)
  refused_first stop.Memory first is = tt {0}
  refused_first (stop.Refused fault) first is = ap (then_from rest) is

  -- what follows a step is refused
  pub refused_after : (stopped : Stop) (first : Result (A × Draft) SyntaxFault) (value : A) (later : Draft) → first ≡ Ok (value, later) → Refuses stopped (rest value later) → Refuses stopped (then_from rest first)
  refused_after stopped first value later is refused = subst (λ (r : Result (A × Draft) SyntaxFault). Refuses stopped (then_from rest r)) (sym is) refused

  -- what follows a step
  pub made_after : (first : Result (A × Draft) SyntaxFault) (value : A) (later : Draft) → first ≡ Ok (value, later) → then_from rest first ≡ rest value later
  made_after first value later is = ap (then_from rest) is

  -- a call that does what follows a step does the whole
  pub makes_after : (result : Result B Stop) (first : Making A) (value : A) (old later new : Draft) → first old ≡ Ok (value, later) → Makes result later new (rest value) → Makes result old new (first >>= rest)
  makes_after (Ok found) first value old later new is makes = ap (then_from rest) is ∙ makes
  makes_after (Err stop.Memory) first value old later new is makes = tt {0}
  makes_after (Err (stop.Refused fault)) first value old later new is makes = ap (then_from rest) is ∙ makes

  -- the same of a call that checks
  pub checks_after : (result : Result (Unit {0}) Stop) (first : Making A) (value : A) (found : B) → ((draft : Draft) → first draft ≡ Ok (value, draft)) → ChecksAs result found (rest value) → ChecksAs result found (first >>= rest)
  checks_after (Ok done) first value found is checks = λ draft. ap (then_from rest) (is draft) ∙ checks draft
  checks_after (Err stopped) first value found is checks = λ draft. refused_after stopped (first draft) value draft (is draft) (checks draft)

-- a check, and then what was found before it
pub checked_as : {A : Type 0} (result : Result (Unit {0}) Stop) (first : Making (Unit {0})) (found : A) → Checks result first → ChecksAs result found (first >>= λ (_ : Unit {0}). gives found)
checked_as (Ok done) first found checks = λ draft. ap (then_from (λ (_ : Unit {0}). gives found)) (checks draft)
checked_as (Err stopped) first found checks = λ draft. refused_first (λ (_ : Unit {0}). gives found) stopped (first draft) (checks draft)

-- the same answer
pub same_answer : (a b : Command) (s t : State) → a ≡ b → s ≡ t → answered b t ≡ answered a s
same_answer a b s t command state = rw (command, state) refl

-- a test that fails
pub unwanted : (stopped : Stop) (test : Bool) (refusal : Refusal) (a b : Place) (draft : Draft) → StopsWith stopped (fault_of refusal a []) → a ≡ b → test ≡ false → Refuses stopped (must_hold test refusal b draft)
unwanted stop.Memory test refusal a b draft is same fails = tt {0}
unwanted (stop.Refused fault) test refusal a b draft is same fails = rw (fails, is, same) refl

-- a test that holds
pub wanted : (test : Bool) (refusal : Refusal) (place : Place) (draft : Draft) → test ≡ true → must_hold test refusal place draft ≡ Ok (tt {0}, draft)
wanted test refusal place draft holds = rw holds refl

pub not_zero : (n : ℕ) → (n ≡ 0 → ⊥) → (n == 0) ≡ false
not_zero n other = grind (arith, common_steps)

-- the formula of a command begins so
abbrev pub draft_of : State → Draft
draft_of state = empty_draft state.limits.terms state.limits.nodes

pub refused_command : (stopped : Stop) (made_so : Result (Answer × Draft) SyntaxFault) → Refuses stopped made_so → Refuses stopped (without_draft made_so)
refused_command stop.Memory made_so is = tt {0}
refused_command (stop.Refused fault) made_so is = ap without_draft is

module _ {A : Type 0} (state : State) (first : Making A) (rest : A → Making Answer) where
  -- a command whose first step is refused
  pub command_refused : (stopped : Stop) → Refuses stopped (first (draft_of state)) → Refuses stopped (begun state (first >>= rest))
  command_refused stopped is = refused_command stopped (then_from rest (first (draft_of state))) (refused_first rest stopped (first (draft_of state)) is)

  -- a command goes on behind its first step
  pub command_after : (result : Result Command Stop) (new : State) (value : A) → first (draft_of state) ≡ Ok (value, draft_of state) → Answers result new (begun state (rest value)) → Answers result new (begun state (first >>= rest))
  command_after result new value is answers = subst (λ (r : Result (A × Draft) SyntaxFault). Answers result new (without_draft (then_from rest r))) (sym is) answers
