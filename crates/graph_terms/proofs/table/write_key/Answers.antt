use Rattle.std.proofs.Common.{◌∷◌, ◌++◌, length, set, ◌∙◌, ap, arith, length-set}
use Rattle.std.proofs.lemmas.Slice.{take-put_mid}
use Rattle.graph_terms.proofs.ListLaws.{take-one-set}
use Rattle.graph_terms.proofs.table.write_key.Goals as goal

pub returns : goal.returns
returns c =
    let key = set c.args.buffer.now 0 c.args.symbol in
    let args = c.copy_from_slice.new.self in
    take-put_mid 1 _ key args _ (omega (arith, ap length c.copy_from_slice.ensures.after)) (omega (arith, length-set c.args.buffer.now 0 c.args.symbol))
    ∙ ap (λ front. front ++ args) (take-one-set c.args.buffer.now c.args.symbol (omega arith))
    ∙ ap (λ xs. c.args.symbol ∷ xs) c.copy_from_slice.ensures.after
