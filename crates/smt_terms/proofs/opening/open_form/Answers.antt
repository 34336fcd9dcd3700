use Rattle.std.proofs.Common.{◌+◌, sym, ap, ◌∙◌}
use Rattle.smt_terms.specs.declared.form.Form.TheVariants.{Application}
use Rattle.smt_terms.specs.Terms.{form_of, form_value, let_value, annotated_value}
use Rattle.smt_terms.specs.Cursor.{word_at, trees_from}
use Rattle.smt_terms.specs.Machine.{work_in}
use Rattle.smt_terms.proofs.Openings.{opens_as, opens_forall}
use Rattle.smt_terms.proofs.opening.open_form.Goals as goal

pub returns-in-Let : goal.returns-in-Let
returns-in-Let c = opens_as c.args.context.now.tree.now c.args.context.now.state.now c.args.context.now.inside c.args.frames.now.items c.args.bound.now c.open_let.new.frames.items c.open_let.new.bound c.args.i c.args.after (3 + work_in c.args.context.now.tree.now c.args.frames.now.items (c.args.i + 2) c.args.after) (let_value (word_at c.args.context.now.tree.now (c.args.i + 1)).place (trees_from c.args.context.now.tree.now (c.args.i + 2))) (form_value (word_at c.args.context.now.tree.now c.args.i).place (word_at c.args.context.now.tree.now (c.args.i + 1)) (trees_from c.args.context.now.tree.now (c.args.i + 2)) (form_of (word_at c.args.context.now.tree.now (c.args.i + 1)).text)) c.open_let.result
    (ap (form_value (word_at c.args.context.now.tree.now c.args.i).place (word_at c.args.context.now.tree.now (c.args.i + 1)) (trees_from c.args.context.now.tree.now (c.args.i + 2))) (ap form_of (sym c.text_at.ensures) ∙ sym c.form_of_head.ensures ∙ c.in-Let.is)) (c.open_let.ensures c.args.context.now.state.now c.args.context.now.inside)

pub returns-in-Annotated : goal.returns-in-Annotated
returns-in-Annotated c = opens_as c.args.context.now.tree.now c.args.context.now.state.now c.args.context.now.inside c.args.frames.now.items c.args.bound.now c.open_annotated.new.frames.items c.args.bound.now c.args.i c.args.after (3 + work_in c.args.context.now.tree.now c.args.frames.now.items (c.args.i + 2) c.args.after) (annotated_value (word_at c.args.context.now.tree.now (c.args.i + 1)).place (trees_from c.args.context.now.tree.now (c.args.i + 2))) (form_value (word_at c.args.context.now.tree.now c.args.i).place (word_at c.args.context.now.tree.now (c.args.i + 1)) (trees_from c.args.context.now.tree.now (c.args.i + 2)) (form_of (word_at c.args.context.now.tree.now (c.args.i + 1)).text)) c.open_annotated.result
    (ap (form_value (word_at c.args.context.now.tree.now c.args.i).place (word_at c.args.context.now.tree.now (c.args.i + 1)) (trees_from c.args.context.now.tree.now (c.args.i + 2))) (ap form_of (sym c.text_at.ensures) ∙ sym c.form_of_head.ensures ∙ c.in-Annotated.is)) (c.open_annotated.ensures c.args.context.now.state.now c.args.context.now.inside)

pub returns-in-Application : goal.returns-in-Application
returns-in-Application c = opens_as c.args.context.now.tree.now c.args.context.now.state.now c.args.context.now.inside c.args.frames.now.items c.args.bound.now c.open_application.new.frames.items c.args.bound.now c.args.i c.args.after (3 + work_in c.args.context.now.tree.now c.args.frames.now.items (c.args.i + 2) c.args.after) (form_value (word_at c.args.context.now.tree.now c.args.i).place (word_at c.args.context.now.tree.now (c.args.i + 1)) (trees_from c.args.context.now.tree.now (c.args.i + 2)) Application) (form_value (word_at c.args.context.now.tree.now c.args.i).place (word_at c.args.context.now.tree.now (c.args.i + 1)) (trees_from c.args.context.now.tree.now (c.args.i + 2)) (form_of (word_at c.args.context.now.tree.now (c.args.i + 1)).text)) c.open_application.result
    (ap (form_value (word_at c.args.context.now.tree.now c.args.i).place (word_at c.args.context.now.tree.now (c.args.i + 1)) (trees_from c.args.context.now.tree.now (c.args.i + 2))) (ap form_of (sym c.text_at.ensures) ∙ sym c.form_of_head.ensures ∙ c.in-Application.is)) (c.open_application.ensures c.args.context.now.inside)

pub returns-in-Universal : goal.returns-in-Universal
returns-in-Universal c = opens_forall c.args.context.now.tree.now c.args.context.now.state.now c.args.context.now.inside c.args.frames.now.items c.args.bound.now c.args.i c.args.after (3 + work_in c.args.context.now.tree.now c.args.frames.now.items (c.args.i + 2) c.args.after) (form_value (word_at c.args.context.now.tree.now c.args.i).place (word_at c.args.context.now.tree.now (c.args.i + 1)) (trees_from c.args.context.now.tree.now (c.args.i + 2)) (form_of (word_at c.args.context.now.tree.now (c.args.i + 1)).text)) c.open_universal.result
    (ap (form_value (word_at c.args.context.now.tree.now c.args.i).place (word_at c.args.context.now.tree.now (c.args.i + 1)) (trees_from c.args.context.now.tree.now (c.args.i + 2))) (ap form_of (sym c.text_at.ensures) ∙ sym c.form_of_head.ensures ∙ c.in-Universal.is)) c.open_universal.ensures
