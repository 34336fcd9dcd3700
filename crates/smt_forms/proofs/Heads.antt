-- What stands at a place, and that an application doesn't look at its name.
use Rattle.std.proofs.Common.{◌≡◌, ℕ, ◌+◌, List, [], Option, Some, None, slice_get, refl, sym, ap, ◌∙◌}
use Rattle.std.specs.Option.{option_map}
use Rattle.std.proofs.lemmas.Option.{none-some, same_Some}
use Rattle.smt_text.specs.declared.token.Place.{Place}
use Rattle.smt_names.specs.declared.value.Value.{Value}
use Rattle.smt_names.specs.declared.arg.Arg.{Arg}
use Rattle.smt_names.specs.declared.signature.Signature.{Signature}
use Rattle.smt_names.specs.declared.definition.Definition as definition
use Rattle.smt_names.specs.Making.{Making}
use Rattle.smt_names.specs.Names.{Declared, Defined, Named, Function, Definition, Unknown, function_of, definition_of, signature_of, declared_as, defined_as, DefinedAt}
use Rattle.smt_forms.specs.Applied.{applied}

module _ (at head : Place) (called : List ℕ) (args : List Arg) where
  -- a declared function by its sorts
  pub function_applied : (symbol : ℕ) (there : Option Declared) (s : Signature) → Some s ≡ option_map signature_of there → applied at head called (function_of symbol there) args ≡ applied at head called (Function symbol (declared_as [] s)) args
  unfolding applied
  function_applied symbol None s is = absurd (none-some s (sym is))
  function_applied symbol (Some f) s is = ap (λ (t : Signature). applied at head called (Function symbol (declared_as [] t)) args) (same_Some (signature_of f) s (sym is))

  pub no_function : (there : Option Declared) (symbol : ℕ) → None ≡ option_map signature_of there → function_of symbol there ≡ Unknown
  no_function None symbol is = refl
  no_function (Some f) symbol is = absurd (none-some (signature_of f) is)

  -- a definition by all but its name
  pub definition_applied : (there : Option Defined) (d : definition.Definition) → DefinedAt there (Some d) → applied at head called (definition_of there) args ≡ applied at head called (Definition (defined_as [] d)) args
  unfolding applied
  definition_applied there d (name, is) = rw is refl

  pub no_definition : (there : Option Defined) → DefinedAt there None → definition_of there ≡ Unknown
  no_definition there is = rw is refl
