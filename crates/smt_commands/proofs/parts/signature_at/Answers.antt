use Rattle.std.proofs.Common.{ℕ, List, ap, sym, subst, ◌∙◌}
use Rattle.std.proofs.lemmas.Result.{err_from_is_err_and}
use Rattle.smt_text.specs.declared.token.Place.{Place}
use Rattle.smt_names.specs.declared.signature.Signature.{Signature}
use Rattle.smt_names.specs.Making.{Making, gives, ◌>>=◌}
use Rattle.smt_names.specs.Makes.{Refuses}
use Rattle.smt_names.specs.Names.{State}
use Rattle.smt_terms.specs.Reading.{Reading, from, sort_first}
use Rattle.smt_terms.specs.Cursor.{trees_from}
use Rattle.smt_commands.specs.Commands.{arguments_first, signature}
use Rattle.smt_commands.proofs.Steps.{refused_first, refused_after, made_after}
use Rattle.smt_commands.proofs.parts.signature_at.Goals as goal

abbrev rest : State → Place → Reading → List ℕ → Making Signature
rest state head trees arguments = sort_first state head trees >>= λ (sort : ℕ). gives (signature arguments sort)

pub returns-in_err-arguments : goal.returns-in_err-arguments
returns-in_err-arguments c draft =
    let p = err_from_is_err_and c.from_residual.result c.from_residual.ensures.1 in rw (p.1, p.2)
    (let parts = trees_from c.args.tree.now c.args.i in
    refused_first (rest c.args.state.now c.args.missing (from 1 parts)) c.in_err-arguments.field-0.0 (arguments_first c.args.state.now c.args.missing parts draft) (c.in_err-arguments.ensures draft))

pub returns-in_err-sort : goal.returns-in_err-sort
returns-in_err-sort c draft =
    let p = err_from_is_err_and c.from_residual-in_err-sort.result c.from_residual-in_err-sort.ensures.1 in rw (p.1, p.2)
    (let parts = trees_from c.args.tree.now c.args.i in
    refused_after (rest c.args.state.now c.args.missing (from 1 parts)) c.in_err-sort.field-0.0 (arguments_first c.args.state.now c.args.missing parts draft) c.in_ok-arguments.arguments draft (c.in_ok-arguments.ensures draft)
    (refused_first (λ (sort : ℕ). gives (signature c.in_ok-arguments.arguments sort)) c.in_err-sort.field-0.0 (sort_first c.args.state.now c.args.missing (from 1 parts) draft)
    (subst (λ (t : Reading). Refuses c.in_err-sort.field-0.0 (sort_first c.args.state.now c.args.missing t draft)) c.behind_one.ensures (c.in_err-sort.ensures draft))))

pub returns : goal.returns
returns c draft =
    let parts = trees_from c.args.tree.now c.args.i in
    made_after (rest c.args.state.now c.args.missing (from 1 parts)) (arguments_first c.args.state.now c.args.missing parts draft) c.in_ok-arguments.arguments draft (c.in_ok-arguments.ensures draft)
    ∙ made_after (λ (sort : ℕ). gives (signature c.in_ok-arguments.arguments sort)) (sort_first c.args.state.now c.args.missing (from 1 parts) draft) c.in_ok-sort.sort draft
    (ap (λ (t : Reading). sort_first c.args.state.now c.args.missing t draft) (sym c.behind_one.ensures) ∙ c.in_ok-sort.ensures draft)
