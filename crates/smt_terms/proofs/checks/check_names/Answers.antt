use Rattle.std.proofs.Common.{◌≡◌, ◌+◌, [], ◌∷◌, ◌++◌, false, sym, ap, subst, ◌∙◌, List, ℕ, bytes_eq}
use Rattle.std.specs.List.{list_any}
use Rattle.smt_terms.specs.Reading.{binding_name, bindings_after}
use Rattle.smt_terms.specs.Cursor.{word_at, trees_from}
use Rattle.smt_terms.proofs.CheckLemmas.{passes_binding, binding_refused, weighs_list}
use Rattle.smt_terms.proofs.checks.check_names.Goals as goal

pub returns-in-Err : goal.returns-in-Err
returns-in-Err c draft = binding_refused c.in-Err.stop c.loop-names.names (word_at c.args.tree.now c.loop-names.at) _ (trees_from c.args.tree.now (c.loop-names.at + 1)) (trees_from c.args.tree.now c.loop-names.at) (trees_from c.args.tree.now c.in-List.after) c.in-List.ensures.is
    c.in-Err.ensures.check (bindings_after _ (trees_from c.args.tree.now c.args.i)) (λ d. sym (c.loop-names.invariant d)) draft

pub push-requires : goal.push-requires
push-requires c = subst (λ (name : List ℕ). list_any (bytes_eq name) c.loop-names.names ≡ false) (sym c.text_at.ensures) c.in-Ok.ensures.new

pub loop-names-smaller : goal.loop-names-smaller
loop-names-smaller c = weighs_list c.args.tree.now (word_at c.args.tree.now c.loop-names.at) _ (trees_from c.args.tree.now (c.loop-names.at + 1)) (trees_from c.args.tree.now c.loop-names.at) (trees_from c.args.tree.now c.in-List.after) c.in-List.ensures.is

pub loop-names-preserved : goal.loop-names-preserved
loop-names-preserved c draft = passes_binding c.loop-names.names c.push.new.self (word_at c.args.tree.now c.loop-names.at) (word_at c.args.tree.now (c.loop-names.at + 1)) c.text_at.result.now _ (trees_from c.args.tree.now (c.loop-names.at + 1)) (trees_from c.args.tree.now c.loop-names.at) (trees_from c.args.tree.now c.in-List.after) draft
    c.in-List.ensures.is (c.in-Ok.ensures.check draft) c.text_at.ensures c.in_ok-push-in-Ok.ensures.ok ∙ c.loop-names.invariant draft
