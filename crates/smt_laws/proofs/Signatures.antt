-- The sorts of declared functions.
use Rattle.std.proofs.Common.{◌≡◌, ℕ, zero, suc, List, [], ◌∷◌, slice_get, Some, refl, ap, subst, ◌∙◌}
use Rattle.std.specs.Option.{option_map}
use Rattle.std.proofs.lemmas.Option.{none-some, same_Some, slice_get-map}
use Rattle.formula_draft.specs.Sorted.{Signature}
use Rattle.smt_names.specs.Names.{Declared}
use Rattle.smt_laws.specs.Sorted.{as_signature, signatures_of}
use Rattle.smt_laws.specs.Sound.{AreArguments, IsFunction}

-- where a function is declared, its sorts stand
pub signature_stands : (functions : List Declared) (n : ℕ) (f : Declared) → slice_get functions n ≡ Some f → slice_get (signatures_of functions) n ≡ Some (as_signature f)
signature_stands functions n f at = slice_get-map as_signature functions n ∙ ap (option_map as_signature) at

-- the sorts of functions that are right are right
pub signatures_are : (functions : List Declared) → ((n : ℕ) (f : Declared) → slice_get functions n ≡ Some f → IsFunction f) → (n : ℕ) (f : Signature) → slice_get (signatures_of functions) n ≡ Some f → AreArguments f.arguments
signatures_are [] are n f at = absurd (none-some f at)
signatures_are (g ∷ functions) are zero f at = subst (λ (s : Signature). AreArguments s.arguments) (same_Some (as_signature g) f at) (are zero g refl)
signatures_are (g ∷ functions) are (suc n) f at = signatures_are functions (λ m h. are (suc m) h) n f at
