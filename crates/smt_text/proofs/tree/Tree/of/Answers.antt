use Rattle.std.proofs.Common.{◌≡◌, ◌++◌, arith, drop, length, sym, ◌∙◌, subst, take}
use Rattle.std.proofs.lemmas.List.{take_at}
use Rattle.smt_text.specs.Partners.{IsWhole}
use Rattle.smt_text.proofs.Pairs.{whole_tokens, is_tree, same_words}
use Rattle.smt_text.proofs.tree.Tree.of.Goals as goal

pub pair-requires-clause-whole : goal.pair-requires-clause-whole
pair-requires-clause-whole c =
    rw c.deref_mut.ensures.value (whole_tokens c.list.inside.tokens.items c.list.inside.text.items (subst IsWhole (sym c.list.view_is) c.requires))

pub invariant_of-result : goal.invariant_of-result
invariant_of-result c =
    let back : take c.list.inside.tokens.len (c.pair.new.tokens ++ drop (length c.pair.new.tokens) c.list.inside.tokens.items) ≡ c.pair.new.tokens =
    take_at c.pair.new.tokens (drop (length c.pair.new.tokens) c.list.inside.tokens.items) c.list.inside.tokens.len (grind (arith, c.deref_mut.ensures.len, c.pair.auto.tokens)) in
    rw back (is_tree c.list.inside.tokens.items c.pair.new.tokens c.list.inside.text.items c.list.invariant.0 c.list.invariant.1
    (whole_tokens c.list.inside.tokens.items c.list.inside.text.items (subst IsWhole (sym c.list.view_is) c.requires))
    (rw c.deref_mut.ensures.value at c.in_ok-pair.ensures.same) c.in_ok-pair.ensures.paired)

pub returns : goal.returns
returns c =
    let back : take c.list.inside.tokens.len (c.pair.new.tokens ++ drop (length c.pair.new.tokens) c.list.inside.tokens.items) ≡ c.pair.new.tokens =
    take_at c.pair.new.tokens (drop (length c.pair.new.tokens) c.list.inside.tokens.items) c.list.inside.tokens.len (grind (arith, c.deref_mut.ensures.len, c.pair.auto.tokens)) in
    rw back (same_words c.list.inside.tokens.items c.pair.new.tokens c.list.inside.text.items (rw c.deref_mut.ensures.value at c.in_ok-pair.ensures.same) ∙ c.list.view_is)
