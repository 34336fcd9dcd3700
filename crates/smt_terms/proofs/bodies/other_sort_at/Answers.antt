use Rattle.std.proofs.Common.{sym, ap, ◌∙◌}
use Rattle.smt_text.specs.Word.{Word}
use Rattle.smt_names.specs.Names.{other_sort_of_token, word_of}
use Rattle.smt_terms.specs.Reading.{Reading, other_sort}
use Rattle.smt_terms.specs.Cursor.{word_at, trees_from}
use Rattle.smt_terms.proofs.CheckLemmas.{makes_as, same_word}
use Rattle.smt_terms.proofs.bodies.other_sort_at.Goals as goal

pub returns-in-Token : goal.returns-in-Token
returns-in-Token c draft =
    let w = word_at c.args.tree.now c.args.i in
    makes_as c.other_sort_of_token.result draft draft (other_sort c.args.state.now c.args.missing (trees_from c.args.tree.now c.args.i)) (other_sort_of_token c.args.state.now (word_of c.kind_at.result c.place_at-in-Token.result c.text_at.result.now))
    (ap (λ (t : Reading). other_sort c.args.state.now c.args.missing t draft) c.in-Token.ensures.is
    ∙ ap (λ (x : Word). other_sort_of_token c.args.state.now x draft) (sym (same_word w c.kind_at.result c.place_at-in-Token.result c.text_at.result.now c.kind_at.ensures c.place_at-in-Token.ensures c.text_at.ensures)))
    (c.other_sort_of_token.ensures draft)
