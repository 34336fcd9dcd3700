-- What an Add of a new row answers.
use Rattle.std.proofs.Common.{◌≡◌, ℕ, List, Bool, IsTrue, length, Result, Ok, Err, OnOk, IfOk, sym, subst}
use Rattle.graph_meaning.specs.declared.op.Op.TheVariants.{Add}
use Rattle.graph_meaning.specs.Standing.{terms_of}
use Rattle.graph_meaning.specs.State.{GraphState, state_after}
use Rattle.graph_terms.specs.Terms.{term_row, IsAbsent}
use Rattle.graph_classes.specs.declared.added.Added.{Added}
use Rattle.graph_congruence.specs.Operations.{Adds, new_row}
use Rattle.graph_meaning.specs.Unions.{ListsUnions}

pub Adds-new : {E : Type 0} (result : Result Added E) (old new : GraphState) (symbol : ℕ) (args : List ℕ) → IsAbsent (terms_of old.standing) (term_row symbol args) → IfOk result (λ added. added.term ≡ length (terms_of old.standing)) → IfOk result (λ added. IsTrue added.fresh)
    → OnOk result (new ≡ state_after old (Add symbol args)) → IfOk result (λ added. ListsUnions old.standing new.standing added.unions) → IfOk result (λ added. Adds old new (term_row symbol args) added.term added.unions added.fresh)
Adds-new (Ok added) old new symbol args absent term fresh done unions = let P : Bool → Type 0 = λ b. Adds old new (term_row symbol args) added.term added.unions b in subst P (sym fresh) (new_row absent term done unions)
Adds-new (Err e) old new symbol args absent term fresh done unions = tt
