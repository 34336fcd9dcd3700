-- What a name stands for, by the entries of a state.
use Rattle.std.proofs.Common.{◌≡◌, ℕ, ◌+◌, ◌-◌, Bool, true, false, cond, List, [], ◌∷◌, map, take, length, get_or, Vec, Option, Some, None, refl, sym, ap, ◌∙◌, bytes_eq, codes}
use Rattle.std.specs.List.{position_from}
use Rattle.std.specs.Option.{option_map}
use Rattle.std.specs.declared.alloc.Global.{Global}
use Rattle.std.proofs.lemmas.List.{take-map}
use Rattle.smt_names.specs.declared.level.Level.{Level}
use Rattle.smt_names.specs.declared.signature.Signature.{Signature}
use Rattle.smt_names.specs.declared.definition.Definition as definition
use Rattle.smt_names.specs.declared.connective.Connective.{Connective}
use Rattle.smt_names.specs.declared.session_state.SessionState.TheInside.{Inside}
use Rattle.smt_names.specs.declared.head.Head.{Head}
use Rattle.smt_names.specs.declared.head.Head.TheVariants as head
use Rattle.smt_names.specs.Entries.{place_of}
use Rattle.smt_names.specs.Names.{State, Declared, Defined, connective, function_at, definition_at, head_of, or_core, or_function, or_definition, sort_number, sort_at_place, level_of, popped}
use Rattle.smt_names.specs.StateInside.{state_of, sort_of_entry, declared, defined}
use Rattle.smt_names.proofs.EntryLemmas.{position_mapped}

module _ (s : Inside) (name : List ℕ) where
  function_place : function_at name (state_of s).functions ≡ place_of name s.functions.entries
  function_place = position_mapped declared (λ (f : Declared). bytes_eq name f.name) s.functions.entries 0

  definition_place : definition_at name (state_of s).definitions ≡ place_of name s.definitions.entries
  definition_place = position_mapped defined (λ (d : Defined). bytes_eq name d.name) s.definitions.entries 0

  sort_place : position_from (bytes_eq name) 0 (state_of s).sorts ≡ place_of name s.sorts.entries
  sort_place = position_mapped sort_of_entry (bytes_eq name) s.sorts.entries 0

  -- what a name stands for, by the places of its entries
  pub headed : (c : Option Connective) (f d : Option ℕ) → connective name ≡ c → place_of name s.functions.entries ≡ f → place_of name s.definitions.entries ≡ d
      → head_of (state_of s) name ≡ or_core c (or_function f (or_definition d))
  headed c f d core function definition = rw (core, function_place, function, definition_place, definition) refl

  -- a name that stands for nothing has no entry
  pub no_function : head_of (state_of s) name ≡ head.Unknown → place_of name s.functions.entries ≡ None
  no_function h = by (connective name) (place_of name s.functions.entries) (or_definition (definition_at name (state_of s).definitions)) (sym (ap (λ f. or_core (connective name) (or_function f (or_definition (definition_at name (state_of s).definitions)))) function_place) ∙ h)
    where
      by : (c : Option Connective) (f : Option ℕ) (d : Head) → or_core c (or_function f d) ≡ head.Unknown → f ≡ None
      by None None d h = refl
      by None (Some n) d h = absurd (cc)
      by (Some c) f d h = absurd (cc)

  pub no_definition : head_of (state_of s) name ≡ head.Unknown → place_of name s.definitions.entries ≡ None
  no_definition h = by (connective name) (function_at name (state_of s).functions) (place_of name s.definitions.entries) (sym (ap (λ d. or_core (connective name) (or_function (function_at name (state_of s).functions) (or_definition d))) definition_place) ∙ h)
    where
      by : (c : Option Connective) (f d : Option ℕ) → or_core c (or_function f (or_definition d)) ≡ head.Unknown → d ≡ None
      by None None None h = refl
      by None None (Some n) h = absurd (cc)
      by None (Some n) d h = absurd (cc)
      by (Some c) f d h = absurd (cc)

  -- the number of a sort, by the place of its entry
  pub sort_numbered : (p : Option ℕ) → place_of name s.sorts.entries ≡ p → bytes_eq name (codes "Bool") ≡ false → sort_number (state_of s) name ≡ sort_at_place p
  sort_numbered p at other = ap (λ b. cond b (Some 0) (sort_at_place (position_from (bytes_eq name) 0 (state_of s).sorts))) other ∙ ap sort_at_place (sort_place ∙ at)

  -- a name that is no sort has no entry
  pub no_sort : sort_number (state_of s) name ≡ None → place_of name s.sorts.entries ≡ None
  no_sort h = sym sort_place ∙ by (bytes_eq name (codes "Bool")) (position_from (bytes_eq name) 0 (state_of s).sorts) h
    where
      by : (b : Bool) (p : Option ℕ) → cond b (Some 0) (sort_at_place p) ≡ None → p ≡ None
      by true p h = absurd (cc)
      by false None h = refl
      by false (Some n) h = absurd (cc)

module _ (s : Inside) where
  -- what stood when a level was opened, by the entries
  pub cut : (n kept : ℕ) (level : Level) (sorts : List (Vec ℕ Global × Unit {0})) (functions : List (Vec ℕ Global × Signature)) (definitions : List (Vec ℕ Global × definition.Definition)) (levels : List Level)
      → kept ≡ length (state_of s).levels - n → level ≡ get_or (state_of s).levels kept (level_of (state_of s))
      → sorts ≡ take level.sorts s.sorts.entries → functions ≡ take level.functions s.functions.entries → definitions ≡ take level.definitions s.definitions.entries → levels ≡ take kept s.levels.items
      → record (state_of s) { sorts = map sort_of_entry sorts; functions = map declared functions; definitions = map defined definitions; levels = levels } ≡ popped n (state_of s)
  cut n kept level sorts functions definitions levels is_kept is_level is_sorts is_functions is_definitions is_levels =
      rw (is_sorts, is_functions, is_definitions, is_levels, ← take-map sort_of_entry level.sorts s.sorts.entries, ← take-map declared level.functions s.functions.entries, ← take-map defined level.definitions s.definitions.entries, is_level, is_kept) refl
