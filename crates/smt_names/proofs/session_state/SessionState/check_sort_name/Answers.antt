use Rattle.std.proofs.Common.{◌≡◌, ℕ, Bool, true, not, Option, is_some, sym, ap, ◌∙◌}
use Rattle.smt_names.specs.declared.refusal.Refusal.TheVariants.{AlreadyDeclared}
use Rattle.smt_names.specs.Making.{must_hold_named}
use Rattle.smt_names.specs.Names.{sort_number, new_name, word_of}
use Rattle.smt_names.proofs.CheckLemmas.{refused_after, made_after, unwanted, wanted}
use Rattle.smt_names.proofs.session_state.SessionState.check_sort_name.Goals as goal

pub returns-in-Some-clause-check : goal.returns-in-Some-clause-check
returns-in-Some-clause-check c =
    λ draft. refused_after (λ _. must_hold_named (not (is_some (sort_number c.args.self.now c.args.name.now))) AlreadyDeclared c.args.place c.args.name.now)
    c.of_name.result (new_name (word_of c.args.kind c.args.place c.args.name.now) draft) tt draft (c.in_ok-check_new_name.ensures draft)
    (unwanted c.of_name.result (not (is_some (sort_number c.args.self.now c.args.name.now))) AlreadyDeclared c.args.place c.args.name.now draft c.of_name.ensures
    (ap (λ (o : Option ℕ). not (is_some o)) (sym c.in-Some.ensures)))

pub returns-in-None-clause-check : goal.returns-in-None-clause-check
returns-in-None-clause-check c =
    λ draft. made_after (λ _. must_hold_named (not (is_some (sort_number c.args.self.now c.args.name.now))) AlreadyDeclared c.args.place c.args.name.now)
    (new_name (word_of c.args.kind c.args.place c.args.name.now) draft) tt draft (c.in_ok-check_new_name.ensures draft)
    ∙ wanted (not (is_some (sort_number c.args.self.now c.args.name.now))) AlreadyDeclared c.args.place c.args.name.now draft (ap (λ (o : Option ℕ). not (is_some o)) (sym c.in-None.ensures))
