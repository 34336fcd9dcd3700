use Rattle.std.proofs.Common.{subst}
use Rattle.smt_text.specs.Word.{Word}
use Rattle.smt_names.specs.Makes.{Makes}
use Rattle.smt_names.specs.Names.{new_function_name}
use Rattle.smt_terms.specs.Cursor.{word_at}
use Rattle.smt_commands.proofs.Steps.{same_word}
use Rattle.smt_commands.proofs.parts.check_function_name_at.Goals as goal

pub returns-clause-check : goal.returns-clause-check
returns-clause-check c draft = subst (λ (w : Word). Makes c.check_function_name.result draft draft (new_function_name c.args.state.now w))
    (same_word (word_at c.args.tree.now c.args.i) c.kind_at.result c.place_at.result c.text_at.result.now c.kind_at.ensures c.place_at.ensures c.text_at.ensures)
    (c.check_function_name.ensures.check draft)
