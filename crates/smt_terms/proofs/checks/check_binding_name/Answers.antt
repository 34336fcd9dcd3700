use Rattle.std.proofs.Common.{◌+◌, sym, ap, ◌∙◌, List, ℕ}
use Rattle.std.specs.List.{list_any}
use Rattle.std.proofs.Common.{bytes_eq}
use Rattle.smt_text.specs.Word.{Word}
use Rattle.smt_names.specs.Names.{lawful_name}
use Rattle.smt_terms.specs.Cursor.{word_at, trees_from}
use Rattle.smt_terms.proofs.CheckLemmas.{same_word, name_new, name_old}
use Rattle.smt_terms.proofs.checks.check_binding_name.Goals as goal

pub returns-then-contains-clause-check : goal.returns-then-contains-clause-check
returns-then-contains-clause-check c =
    let w = word_at c.args.tree.now c.args.i in
    let same = same_word w c.kind_at.result c.place_at-place.result c.text_at-name.result.now c.kind_at.ensures c.place_at-place.ensures c.text_at-name.ensures in
    name_old c.args.names.now c.args.missing w (trees_from c.args.tree.now c.args.i) (trees_from c.args.tree.now (c.args.i + 1)) c.in-Token.ensures.is
    (λ draft. ap (λ (x : Word). lawful_name x draft) (sym same) ∙ c.in-Ok.ensures draft)
    c.at-then-contains.result c.place_at-place.result c.place_at-place.ensures
    (ap (λ (t : List ℕ). list_any (bytes_eq t) c.args.names.now) (sym c.text_at-name.ensures) ∙ sym c.contains.ensures ∙ c.if-contains.true) c.at-then-contains.ensures

pub returns-else-contains-clause-check : goal.returns-else-contains-clause-check
returns-else-contains-clause-check c =
    let w = word_at c.args.tree.now c.args.i in
    let same = same_word w c.kind_at.result c.place_at-place.result c.text_at-name.result.now c.kind_at.ensures c.place_at-place.ensures c.text_at-name.ensures in
    name_new c.args.names.now c.args.missing w (trees_from c.args.tree.now c.args.i) (trees_from c.args.tree.now (c.args.i + 1)) c.in-Token.ensures.is
    (λ draft. ap (λ (x : Word). lawful_name x draft) (sym same) ∙ c.in-Ok.ensures draft)
    (ap (λ (t : List ℕ). list_any (bytes_eq t) c.args.names.now) (sym c.text_at-name.ensures) ∙ sym c.contains.ensures ∙ c.if-contains.false)

pub returns-else-contains-clause-new : goal.returns-else-contains-clause-new
returns-else-contains-clause-new c = ap (λ (t : List ℕ). list_any (bytes_eq t) c.args.names.now) (sym c.text_at-name.ensures) ∙ sym c.contains.ensures ∙ c.if-contains.false
