use Rattle.std.proofs.Common.{sym, ◌∙◌}
use Rattle.std.proofs.lemmas.List.{get_or-map}
use Rattle.smt_names.specs.declared.arg.Arg.{Arg}
use Rattle.smt_names.specs.Value.{sort_of}
use Rattle.smt_forms.proofs.checks.sort_of_arg.Goals as goal

pub returns-then-n-args : goal.returns-then-n-args
returns-then-n-args c = c.sort.ensures ∙ sym (get_or-map (λ (arg : Arg). sort_of arg.value) c.args.args.now c.args.n _ 0 c.if-n-args.true)
