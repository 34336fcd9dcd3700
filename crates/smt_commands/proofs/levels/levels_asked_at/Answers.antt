use Rattle.std.proofs.Common.{◌≡◌, ◌+◌, ℕ, refl, sym, subst}
use Rattle.smt_text.specs.Word.{Word}
use Rattle.smt_text.specs.declared.token.Place.{Place}
use Rattle.smt_names.specs.Making.{Making}
use Rattle.smt_names.specs.Makes.{Makes}
use Rattle.smt_terms.specs.Cursor.{word_at, trees_from}
use Rattle.smt_terms.specs.Reading.{Reading, Token}
use Rattle.smt_commands.specs.Commands.{levels_asked, numeral_first}
use Rattle.smt_commands.proofs.levels.levels_asked_at.Goals as goal

asks_token : (head : Place) (trees rest : Reading) (w : Word) → trees ≡ Token w rest → levels_asked head trees ≡ numeral_first head trees
asks_token head trees rest w is = rw is refl

pub returns-in-Token : goal.returns-in-Token
returns-in-Token c draft = subst (λ (m : Making ℕ). Makes c.numeral_at.result draft draft m)
    (sym (asks_token c.args.head (trees_from c.args.tree.now c.args.i) (trees_from c.args.tree.now (c.args.i + 1)) (word_at c.args.tree.now c.args.i) c.in-Token.ensures.is)) (c.numeral_at.ensures draft)
