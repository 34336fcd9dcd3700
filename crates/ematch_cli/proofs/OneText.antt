-- Each text that is listed is the only one of its kind.
use Rattle.std.proofs.Common.{◌≡◌, ℕ, List, ◌∷◌, ◌++◌, length, refl, sym, ap, ap₂, subst, ◌∙◌}
use Rattle.graph_terms.specs.declared.term_row.TermRow.{TermRow}
use Rattle.graph_trigger.specs.declared.trigger.Trigger.{Trigger}
use Rattle.graph_meaning.specs.declared.done.Done.{Done}
use Rattle.graph_meaning.specs.Standing.{terms_of}
use Rattle.graph_meaning.proofs.OneListLaws.{one_matches}
use Rattle.ematch_cli.specs.Joined.{AreJoined, joined_none, joined_more}
use Rattle.em_printing.proofs.PrintedLaws.{printed_once}
use Rattle.ematch_cli.specs.Listing.{line, heading, IsEntry, IsTupleLine, IsTriggerListing, IsListing}
use Rattle.std.specs.Prelude.{codes}

-- texts one after another are one text, where each is
pub joined_once : {A : Type 0} (IsTextOf : A → List ℕ → Type 0) → ((x : A) (a b : List ℕ) → IsTextOf x a → IsTextOf x b → a ≡ b) → {xs : List A} {a b : List ℕ} → AreJoined IsTextOf xs a → AreJoined IsTextOf xs b → a ≡ b
joined_once IsTextOf once joined_none joined_none = refl
joined_once IsTextOf once (joined_more {thing = x} {text = a} is rest) (joined_more {text = b} is' rest') = ap₂ (λ (t u : List ℕ). t ++ u) (once x a b is is') (joined_once IsTextOf once rest rest')

entry_once : (names : ℕ → List ℕ) (rows : List TermRow) (term : ℕ) (a b : List ℕ) → IsEntry names rows term a → IsEntry names rows term b → a ≡ b
entry_once names rows term a b one other = one.2 ∙ ap (λ (t : List ℕ). 32 ∷ t) (printed_once one.1 other.1) ∙ sym other.2

line_once : (names : ℕ → List ℕ) (standing : List Done) (tuple : List ℕ) (a b : List ℕ) → IsTupleLine names standing tuple a → IsTupleLine names standing tuple b → a ≡ b
line_once names standing tuple a b one other =
    one.2 ∙ ap (λ (t : List ℕ). line (32 ∷ t)) (joined_once (IsEntry names (terms_of standing)) (entry_once names (terms_of standing)) one.1 other.1) ∙ sym other.2

trigger_once : (names : ℕ → List ℕ) (standing : List Done) (trigger : Trigger) (a b : List ℕ) → IsTriggerListing names standing trigger a → IsTriggerListing names standing trigger b → a ≡ b
trigger_once names standing trigger a b one other =
    let same : one.tuples ≡ other.tuples = one_matches standing trigger one.tuples other.tuples one.matches other.matches in
    let lines : one.lines ≡ other.lines =
    joined_once (IsTupleLine names standing) (line_once names standing) one.printed (subst (λ (tuples : List (List ℕ)). AreJoined (IsTupleLine names standing) tuples other.lines) (sym same) other.printed) in
    one.is ∙ ap₂ (λ (n : ℕ) (t : List ℕ). heading trigger n ++ t) (ap length same) lines ∙ sym other.is

-- a standing list has one listing
pub listing_once : (names : ℕ → List ℕ) (standing : List Done) (a b : List ℕ) → IsListing names standing a → IsListing names standing b → a ≡ b
listing_once names standing a b one other =
    one.is ∙ ap (λ (t : List ℕ). t ++ line (codes "settled")) (joined_once (IsTriggerListing names standing) (trigger_once names standing) one.triggers other.triggers) ∙ sym other.is
