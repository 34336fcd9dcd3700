-- As many sorts are wanted as there are arguments.
use Rattle.std.proofs.Common.{◌≡◌, List, length, true, rules, arith, sym}
use Rattle.std.proofs.lemmas.Grind.{common_steps}
use Rattle.smt_names.specs.declared.connective.Connective.{Connective}
use Rattle.smt_names.specs.declared.connective.Connective.TheVariants as core
use Rattle.smt_names.specs.declared.arg.Arg.{Arg}
use Rattle.smt_forms.specs.Applied.{arity_of, wanted_by}

pub length_wanted : (c : Connective) (args : List Arg) → arity_of c (length args) ≡ true → length (wanted_by c args) ≡ length args
length_wanted core.Equals args right = grind (arith, common_steps)
length_wanted core.Distinct args right = grind (arith, common_steps)
length_wanted core.Ite args right = grind (arith, common_steps)
length_wanted c args right = grind (arith, common_steps)
