use Rattle.std.proofs.Common.{◌≡◌, Bool, true, not, Ok, sym, ap, ◌∙◌}
use Rattle.smt_names.specs.declared.head.Head.{Head}
use Rattle.smt_names.specs.declared.refusal.Refusal.TheVariants.{AlreadyDeclared}
use Rattle.smt_names.specs.Making.{must_hold_named}
use Rattle.smt_names.specs.Names.{named, named_by, is_known, new_name, word_of}
use Rattle.smt_names.proofs.CheckLemmas.{refused_after, made_after, unwanted, wanted}
use Rattle.smt_names.proofs.session_state.SessionState.check_function_name.Goals as goal

pub returns-then-is_something-clause-check : goal.returns-then-is_something-clause-check
returns-then-is_something-clause-check c =
    let known : is_known (named c.args.self.now c.args.name.now) ≡ true =
    ap (λ (h : Head). is_known (named_by c.args.self.now h)) (sym c.head.ensures.value) ∙ c.head.ensures.known ∙ sym c.is_something.ensures ∙ c.if-is_something.true in
    λ draft. refused_after (λ _. must_hold_named (not (is_known (named c.args.self.now c.args.name.now))) AlreadyDeclared c.args.place c.args.name.now)
    c.of_name.result (new_name (word_of c.args.kind c.args.place c.args.name.now) draft) tt draft (c.in_ok-check_new_name.ensures draft)
    (unwanted c.of_name.result (not (is_known (named c.args.self.now c.args.name.now))) AlreadyDeclared c.args.place c.args.name.now draft c.of_name.ensures (ap not known))

pub returns-else-is_something-clause-check : goal.returns-else-is_something-clause-check
returns-else-is_something-clause-check c =
    let unknown = ap (λ (h : Head). is_known (named_by c.args.self.now h)) (sym c.head.ensures.value) ∙ c.head.ensures.known ∙ sym c.is_something.ensures ∙ c.if-is_something.false in
    λ draft. made_after (λ _. must_hold_named (not (is_known (named c.args.self.now c.args.name.now))) AlreadyDeclared c.args.place c.args.name.now)
    (new_name (word_of c.args.kind c.args.place c.args.name.now) draft) tt draft (c.in_ok-check_new_name.ensures draft)
    ∙ wanted (not (is_known (named c.args.self.now c.args.name.now))) AlreadyDeclared c.args.place c.args.name.now draft (ap not unknown)
