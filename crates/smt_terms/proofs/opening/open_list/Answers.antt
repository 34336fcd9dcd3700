use Rattle.std.proofs.Common.{◌+◌, sym, ap, ◌∙◌, ℕ, arith}
use Rattle.smt_terms.specs.Reading.{Token}
use Rattle.smt_names.specs.declared.refusal.Refusal.TheVariants as refusal
use Rattle.smt_names.specs.Names.{is_symbol}
use Rattle.smt_terms.specs.Cursor.{word_at, trees_from}
use Rattle.smt_terms.specs.Machine.{scope_of}
use Rattle.smt_terms.proofs.CheckLemmas.{refuses_at}
use Rattle.smt_terms.proofs.Openings.{opens_symbol, empty_list, list_head, no_symbol}
use Rattle.smt_terms.proofs.opening.open_list.Goals as goal

pub returns-in-End : goal.returns-in-End
returns-in-End c draft = refuses_at c.at.result refusal.BadForm c.place_at.result (word_at c.args.context.now.tree.now c.args.i).place _ c.at.ensures c.place_at.ensures
    (empty_list (word_at c.args.context.now.tree.now c.args.i) (trees_from c.args.context.now.tree.now (c.args.i + 1)) (scope_of c.args.context.now.state.now c.args.context.now.inside c.args.bound.now) draft c.in-End.ensures)

pub returns-in-List : goal.returns-in-List
returns-in-List c draft = refuses_at c.at-in-List.result refusal.NotInProfile c.place_at-in-List.result (word_at c.args.context.now.tree.now (c.args.i + 1)).place _ c.at-in-List.ensures c.place_at-in-List.ensures
    (list_head (word_at c.args.context.now.tree.now c.args.i) (trees_from c.args.context.now.tree.now (c.args.i + 1)) (scope_of c.args.context.now.state.now c.args.context.now.inside c.args.bound.now) draft (word_at c.args.context.now.tree.now (c.args.i + 1)) _ _ _ c.in-List.ensures.is)

pub returns-else-is_symbol : goal.returns-else-is_symbol
returns-else-is_symbol c draft = refuses_at c.at-else-is_symbol.result refusal.BadForm c.place_at-else-is_symbol.result (word_at c.args.context.now.tree.now (c.args.i + 1)).place _ c.at-else-is_symbol.ensures c.place_at-else-is_symbol.ensures
    (no_symbol (word_at c.args.context.now.tree.now c.args.i) (trees_from c.args.context.now.tree.now (c.args.i + 1)) (scope_of c.args.context.now.state.now c.args.context.now.inside c.args.bound.now) draft (word_at c.args.context.now.tree.now (c.args.i + 1)) _ c.in-Token.ensures.is
    (ap is_symbol (sym c.kind_at.ensures) ∙ sym c.is_symbol.ensures ∙ c.if-is_symbol.false))

pub returns-then-is_symbol : goal.returns-then-is_symbol
returns-then-is_symbol c = opens_symbol c.args.context.now.tree.now c.args.context.now.state.now c.args.context.now.inside c.args.frames.now.items c.args.bound.now c.open_form.new.frames.items c.open_form.new.bound c.args.i c.args.after c.open_form.result
    (c.in-Token.ensures.is ∙ ap (λ (n : ℕ). Token (word_at c.args.context.now.tree.now (c.args.i + 1)) (trees_from c.args.context.now.tree.now n)) (omega arith)) (ap is_symbol (sym c.kind_at.ensures) ∙ sym c.is_symbol.ensures ∙ c.if-is_symbol.true) c.open_form.ensures
