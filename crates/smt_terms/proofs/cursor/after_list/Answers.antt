use Rattle.std.proofs.Common.{arith}
use Rattle.smt_terms.specs.Cursor.{word_at}
use Rattle.smt_terms.proofs.CursorLemmas.{closes_left, behind_list, partner_within, token_word}
use Rattle.smt_terms.proofs.cursor.after_list.Goals as goal

pub overflow_add-result : goal.overflow_add-result
overflow_add-result c =
    let closes = closes_left c.args.tree.now c.args.i c.token.result.now.partner c.token.result.now.kind (word_at c.args.tree.now c.args.i).kind (token_word c.args.tree.now c.args.i c.token.result.now c.requires.within c.token.ensures.word) c.requires.left c.token.ensures.partner in
    let w = partner_within c.args.tree.now c.args.i c.token.result.now.partner closes in
    omega (arith, w.1)

pub returns : goal.returns
returns c =
    let closes = closes_left c.args.tree.now c.args.i c.token.result.now.partner c.token.result.now.kind (word_at c.args.tree.now c.args.i).kind (token_word c.args.tree.now c.args.i c.token.result.now c.requires.within c.token.ensures.word) c.requires.left c.token.ensures.partner in
    behind_list c.args.tree.now c.args.i c.token.result.now.partner closes
