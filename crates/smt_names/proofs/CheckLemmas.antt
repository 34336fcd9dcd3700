-- Checks, one after another.
use Rattle.std.proofs.Common.{◌≡◌, ℕ, Bool, true, false, not, ◌==◌, List, Result, Ok, Err, refl, subst, sym, arith}
use Rattle.std.proofs.lemmas.Grind.{common_steps}
use Rattle.smt_text.specs.declared.token.Place.{Place}
use Rattle.formula_draft.specs.Draft.{Draft}
use Rattle.smt_names.specs.declared.refusal.Refusal.{Refusal}
use Rattle.smt_names.specs.declared.syntax_fault.SyntaxFault.{SyntaxFault}
use Rattle.smt_names.specs.declared.stop.Stop.{Stop}
use Rattle.smt_names.specs.declared.stop.Stop.TheVariants as stop
use Rattle.smt_names.specs.Making.{Making, then_from, fault_of, must_hold, must_hold_named}
use Rattle.smt_names.specs.Makes.{StopsWith, Refuses}

module _ {A B : Type 0} (rest : A → Making B) where
  -- a refusal stays
  pub refused_first : (stopped : Stop) (first : Result (A × Draft) SyntaxFault) → Refuses stopped first → Refuses stopped (then_from rest first)
  refused_first stop.Memory first is = tt
  refused_first (stop.Refused fault) first is = rw is refl

  -- what follows a step is refused
  pub refused_after : (stopped : Stop) (first : Result (A × Draft) SyntaxFault) (value : A) (later : Draft) → first ≡ Ok (value, later) → Refuses stopped (rest value later) → Refuses stopped (then_from rest first)
  refused_after stopped first value later is refused = subst (λ (r : Result (A × Draft) SyntaxFault). Refuses stopped (then_from rest r)) (sym is) refused

  -- what follows a step
  pub made_after : (first : Result (A × Draft) SyntaxFault) (value : A) (later : Draft) → first ≡ Ok (value, later) → then_from rest first ≡ rest value later
  made_after first value later is = rw is refl

-- a test that fails
pub unwanted : (stopped : Stop) (test : Bool) (refusal : Refusal) (place : Place) (name : List ℕ) (draft : Draft) → StopsWith stopped (fault_of refusal place name) → test ≡ false → Refuses stopped (must_hold_named test refusal place name draft)
unwanted stop.Memory test refusal place name draft is fails = tt
unwanted (stop.Refused fault) test refusal place name draft is fails = rw (fails, is) refl

-- a test that holds
pub wanted : (test : Bool) (refusal : Refusal) (place : Place) (name : List ℕ) (draft : Draft) → test ≡ true → must_hold_named test refusal place name draft ≡ Ok (tt, draft)
wanted test refusal place name draft holds = rw holds refl

pub not_zero : (n : ℕ) → (n ≡ 0 → ⊥) → not (n == 0) ≡ true
not_zero n other = grind (arith, common_steps)
