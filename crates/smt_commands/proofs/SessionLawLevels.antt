-- What stands and the levels stay right when more is declared, and when levels are opened and closed.
use Rattle.std.proofs.Common.{◌≡◌, ℕ, zero, suc, ◌≤◌, List, [], ◌∷◌, ◌++◌, length, take, drop, reverse, replicate, get_or, ⊎_elim, sym, ap, subst, ◌∙◌, append_assoc, append-nil, length-append, take-append-drop, take_all, get_or-drop, add-zero, arith}
use Rattle.std.proofs.lemmas.List.{take-append-le, reverse-append}
use Rattle.std.proofs.lemmas.List.Elements.{All-nil, All-cons, All-append, All-weaker}
use Rattle.graph_terms.proofs.ListLaws.{push_cases}
use Rattle.smt_names.specs.declared.level.Level.{Level}
use Rattle.smt_names.specs.Names.{Declared, Defined}
use Rattle.smt_laws.specs.Sound.{IsFunction, IsDefinition, AreDeclared}
use Rattle.smt_laws.specs.Laws.{KeepsDefinitions}
use Rattle.smt_commands.specs.SessionLaws.{FunctionIsWithin, DefinitionIsWithin, AreWithin, AreSoundLevels}

-- Declarations.
-- a function more
pub function_declared : KeepsDefinitions → (functions : List Declared) (definitions : List Defined) (f : Declared) → IsFunction f → AreDeclared functions definitions → AreDeclared (functions ++ f ∷ []) definitions
function_declared keeps functions definitions f is are = record {
  functions_are = λ n g at. ⊎_elim (λ old. are.functions_are n g old) (λ new. subst IsFunction (sym new.1) is) (push_cases functions f n g at);
  definitions_are = λ n d at. keeps functions (f ∷ []) d (are.definitions_are n d at);
}

-- a definition more
pub definition_declared : (functions : List Declared) (definitions : List Defined) (d : Defined) → IsDefinition functions d → AreDeclared functions definitions → AreDeclared functions (definitions ++ d ∷ [])
definition_declared functions definitions d is are = record {
  functions_are = are.functions_are;
  definitions_are = λ n e at. ⊎_elim (λ old. are.definitions_are n e old) (λ new. subst (IsDefinition functions) (sym new.1) is) (push_cases definitions d n e at);
}

-- Sorts.
-- more sorts
pub within_more : (sorts more : ℕ) → sorts ≤ more → (functions : List Declared) (definitions : List Defined) → AreWithin sorts functions definitions → AreWithin more functions definitions
within_more sorts more fewer functions definitions are = record {
  functions_are = All-weaker (FunctionIsWithin sorts) (FunctionIsWithin more) (λ f is. record { arguments = All-weaker (λ sort. sort ≤ sorts) (λ sort. sort ≤ more) (λ sort below. omega arith) f.arguments is.arguments; value = omega (arith, is.value, fewer) }) functions are.functions_are;
  definitions_are = All-weaker (DefinitionIsWithin sorts) (DefinitionIsWithin more) (λ d is. record { parameters = All-weaker (λ sort. sort ≤ sorts) (λ sort. sort ≤ more) (λ sort below. omega arith) d.parameters is.parameters; value = omega (arith, is.value, fewer) }) definitions are.definitions_are;
}

-- a function more
pub function_within : (sorts : ℕ) (functions : List Declared) (definitions : List Defined) (f : Declared) → FunctionIsWithin sorts f → AreWithin sorts functions definitions → AreWithin sorts (functions ++ f ∷ []) definitions
function_within sorts functions definitions f is are = record {
  functions_are = All-append (FunctionIsWithin sorts) functions (f ∷ []) are.functions_are (All-cons (FunctionIsWithin sorts) f [] is (All-nil (FunctionIsWithin sorts)));
  definitions_are = are.definitions_are;
}

-- a definition more
pub definition_within : (sorts : ℕ) (functions : List Declared) (definitions : List Defined) (d : Defined) → DefinitionIsWithin sorts d → AreWithin sorts functions definitions → AreWithin sorts functions (definitions ++ d ∷ [])
definition_within sorts functions definitions d is are = record {
  functions_are = are.functions_are;
  definitions_are = All-append (DefinitionIsWithin sorts) definitions (d ∷ []) are.definitions_are (All-cons (DefinitionIsWithin sorts) d [] is (All-nil (DefinitionIsWithin sorts)));
}

-- Levels, the innermost first.
-- they stay right when more is declared
pub levels_behind : (sorts more_sorts : ℕ) → sorts ≤ more_sorts → (functions more : List Declared) (definitions others : List Defined) (levels : List Level)
    → AreSoundLevels sorts functions definitions levels → AreSoundLevels more_sorts (functions ++ more) (definitions ++ others) levels
levels_behind sorts more_sorts fewer functions more definitions others [] are = tt {0}
levels_behind sorts more_sorts fewer functions more definitions others (level ∷ levels) are =
    let same_functions = take-append-le level.functions functions more are.1 in
    let same_definitions = take-append-le level.definitions definitions others are.2 in (
      omega (arith, are.0, fewer),
      omega (arith, are.1, length-append functions more),
      omega (arith, are.2, length-append definitions others),
      rw (same_functions, same_definitions) are.3,
      rw (same_functions, same_definitions) are.4,
      rw (same_functions, same_definitions) are.5,
    )

-- where those inside are closed, the others are right
pub levels_outside : (inside levels : List Level) (sorts : ℕ) (functions : List Declared) (definitions : List Defined) → AreSoundLevels sorts functions definitions (inside ++ levels) → AreSoundLevels sorts functions definitions levels
levels_outside [] levels sorts functions definitions are = are
levels_outside (level ∷ inside) levels sorts functions definitions are =
    let f = level.functions in
    let d = level.definitions in
    let outer = levels_behind level.sorts sorts are.0 (take f functions) (drop f functions) (take d definitions) (drop d definitions) (inside ++ levels) are.5 in
    levels_outside inside levels sorts functions definitions (rw (take-append-drop f functions, take-append-drop d definitions) at outer)

module _ (sorts : ℕ) (functions : List Declared) (definitions : List Defined) (are : AreDeclared functions definitions) (within : AreWithin sorts functions definitions)
    (level : Level) (all_sorts : level.sorts ≡ sorts) (all_functions : level.functions ≡ length functions) (all_definitions : level.definitions ≡ length definitions) where
  whole_functions : take level.functions functions ≡ functions
  whole_functions = take_all level.functions functions (omega arith)

  whole_definitions : take level.definitions definitions ≡ definitions
  whole_definitions = take_all level.definitions definitions (omega arith)

  declared_whole : AreDeclared (take level.functions functions) (take level.definitions definitions)
  declared_whole = rw (whole_functions, whole_definitions) are

  within_whole : AreWithin level.sorts (take level.functions functions) (take level.definitions definitions)
  within_whole = within_more sorts level.sorts (omega arith) (take level.functions functions) (take level.definitions definitions) (rw (whole_functions, whole_definitions) within)

  levels_whole : (levels : List Level) → AreSoundLevels sorts functions definitions levels → AreSoundLevels level.sorts (take level.functions functions) (take level.definitions definitions) levels
  levels_whole levels sound = subst (λ (n : ℕ). AreSoundLevels n (take level.functions functions) (take level.definitions definitions) levels) (sym all_sorts) (rw (whole_functions, whole_definitions) sound)

  -- a level that is opened
  level_opened : (levels : List Level) → AreSoundLevels sorts functions definitions levels → AreSoundLevels sorts functions definitions (level ∷ levels)
  level_opened levels sound = (omega arith, omega arith, omega arith, declared_whole, within_whole, levels_whole levels sound)

  -- so many levels that are opened
  pub levels_opened : (n : ℕ) (levels : List Level) → AreSoundLevels sorts functions definitions (reverse levels) → AreSoundLevels sorts functions definitions (reverse (levels ++ replicate n level))
  levels_opened zero levels sound = rw (append-nil levels) sound
  levels_opened (suc n) levels sound =
      let next = levels_opened n (levels ++ level ∷ []) (rw (reverse-append levels (level ∷ [])) (level_opened (reverse levels) sound)) in
      rw (append_assoc levels (level ∷ []) (replicate n level)) at next

  -- what stands in a level that is gone back to, and the levels before it
  pub record Back (back : Level) (levels : List Level) : Type 0 where
    pub fewer : back.sorts ≤ sorts
    pub declared : AreDeclared (take back.functions functions) (take back.definitions definitions)
    pub within_are : AreWithin back.sorts (take back.functions functions) (take back.definitions definitions)
    pub levels_are : AreSoundLevels back.sorts (take back.functions functions) (take back.definitions definitions) (reverse levels)

  back_from : (front rest : List Level) → AreSoundLevels sorts functions definitions (reverse (front ++ rest)) → Back (get_or rest 0 level) front
  back_from front [] sound = record {
    fewer = omega arith;
    declared = declared_whole;
    within_are = within_whole;
    levels_are = levels_whole (reverse front) (rw (append-nil front) at sound);
  }
  back_from front (back ∷ rest) sound =
      let apart : reverse (front ++ back ∷ rest) ≡ reverse rest ++ back ∷ reverse front = reverse-append front (back ∷ rest) ∙ ap (λ ls. ls ++ reverse front) (reverse-append (back ∷ []) rest) ∙ append_assoc (reverse rest) (back ∷ []) (reverse front) in
      let outer = levels_outside (reverse rest) (back ∷ reverse front) sorts functions definitions (subst (AreSoundLevels sorts functions definitions) apart sound) in
      record { fewer = outer.0; declared = outer.3; within_are = outer.4; levels_are = outer.5 }

  -- of the levels so many are kept
  pub levels_closed : (kept : ℕ) (levels : List Level) → AreSoundLevels sorts functions definitions (reverse levels) → Back (get_or levels kept level) (take kept levels)
  levels_closed kept levels sound =
      let same : get_or (drop kept levels) 0 level ≡ get_or levels kept level = get_or-drop kept levels 0 level ∙ ap (λ n. get_or levels n level) (add-zero kept) in
      subst (λ back. Back back (take kept levels)) same (back_from (take kept levels) (drop kept levels) (rw (take-append-drop kept levels) sound))
