use Rattle.std.proofs.Common.{ap, sym, ◌∙◌, arith}
use Rattle.smt_terms.specs.Cursor.{is_left, is_right}
use Rattle.smt_terms.proofs.CursorLemmas.{here_past, here_right, here_token, here_list}
use Rattle.smt_terms.proofs.cursor.look.Goals as goal

pub returns-then-i-len : goal.returns-then-i-len
returns-then-i-len c = here_past c.args.tree.now c.args.i (omega arith)

pub returns-then-closes_list : goal.returns-then-closes_list
returns-then-closes_list c = here_right c.args.tree.now c.args.i (omega arith)
    (ap is_right (sym c.kind_at-kind.ensures) ∙ sym c.closes_list.ensures ∙ c.if-closes_list.true)

pub returns-then-opens_list : goal.returns-then-opens_list
returns-then-opens_list c = record {
  within = omega arith;
  fits = omega arith;
  is = here_list c.args.tree.now c.args.i c.after_list.result (omega arith)
      (ap is_left (sym c.kind_at-kind.ensures) ∙ sym c.opens_list.ensures ∙ c.if-opens_list.true) c.after_list.ensures;
}

pub returns : goal.returns
returns c = record {
  within = omega arith;
  fits = omega arith;
  is = here_token c.args.tree.now c.args.i (omega arith)
      (ap is_left (sym c.kind_at-kind.ensures) ∙ sym c.opens_list.ensures ∙ c.if-opens_list.false)
      (ap is_right (sym c.kind_at-kind.ensures) ∙ sym c.closes_list.ensures ∙ c.if-closes_list.false);
}
