use Rattle.std.proofs.Common.{[], ◌∷◌}
use Rattle.formula_table.specs.declared.node.Node.TheVariants.{Equal, Atom}
use Rattle.search_branch.proofs.StartLemmas.{still_serves, both_ends, ends_are}
use Rattle.search_branch.proofs.build.add_ends.Goals as goal

pub add_literal-requires-in-Equal-clause-serves : goal.add_literal-requires-in-Equal-clause-serves
add_literal-requires-in-Equal-clause-serves c =
    still_serves c.args.graph.now.standing c.args.n ((c.args.n, c.in-Equal.left) ∷ []) c.args.watch.now
    c.add_literal.new.self c.in_ok-add_literal-in-Equal.ensures.serves c.requires.serves

pub add_literal-requires-in-Atom-2-clause-serves :
    goal.add_literal-requires-in-Atom-2-clause-serves
add_literal-requires-in-Atom-2-clause-serves c =
    still_serves c.args.graph.now.standing c.args.n ((c.args.n, c.in-Atom.term) ∷ []) c.args.watch.now
    c.add_literal-in-Atom.new.self c.in_ok-add_literal-in-Atom.ensures.serves c.requires.serves

pub add_literal-requires-in-Atom-3-clause-serves :
    goal.add_literal-requires-in-Atom-3-clause-serves
add_literal-requires-in-Atom-3-clause-serves c =
    let n = c.args.n in
    let standing = c.args.graph.now.standing in
    let first = c.add_literal-in-Atom.new.self in
    let second = c.add_literal-in-Atom-2.new.self in
    still_serves standing n ((n, 0) ∷ []) first second c.in_ok-add_literal-in-Atom-2.ensures.serves
    (still_serves standing n ((n, c.in-Atom.term) ∷ []) c.args.watch.now first c.in_ok-add_literal-in-Atom.ensures.serves
    c.requires.serves)

pub returns-in_ok-add_literal-in-Equal-2-clause-serves : goal.returns-in_ok-add_literal-in-Equal-2-clause-serves
returns-in_ok-add_literal-in-Equal-2-clause-serves c =
    let n = c.args.n in
    let standing = c.args.graph.now.standing in
    let left = c.in-Equal.left in
    let right = c.in-Equal.right in
    let new = c.add_literal-in-Equal.new.self in
    ends_are standing n c.args.node.now (Equal c.in-Equal.positive left right) c.args.watch.now new c.in-Equal.is
    (both_ends standing n ((n, left) ∷ []) ((n, right) ∷ []) c.args.watch.now c.add_literal.new.self new
    c.in_ok-add_literal-in-Equal.ensures.serves c.in_ok-add_literal-in-Equal-2.ensures.serves)

pub returns-in_ok-add_literal-in-Atom-3-clause-serves : goal.returns-in_ok-add_literal-in-Atom-3-clause-serves
returns-in_ok-add_literal-in-Atom-3-clause-serves c =
    let n = c.args.n in
    let standing = c.args.graph.now.standing in
    let term = c.in-Atom.term in
    let old = c.args.watch.now in
    let first = c.add_literal-in-Atom.new.self in
    let second = c.add_literal-in-Atom-2.new.self in
    let new = c.add_literal-in-Atom-3.new.self in
    ends_are standing n c.args.node.now (Atom c.in-Atom.positive term) old new c.in-Atom.is
    (both_ends standing n ((n, term) ∷ (n, 0) ∷ []) ((n, 1) ∷ []) old second new
    (both_ends standing n ((n, term) ∷ []) ((n, 0) ∷ []) old first second c.in_ok-add_literal-in-Atom.ensures.serves
    c.in_ok-add_literal-in-Atom-2.ensures.serves)
    c.in_ok-add_literal-in-Atom-3.ensures.serves)

pub returns-in_ok-add_literal-in-Equal-2-clause-back : goal.returns-in_ok-add_literal-in-Equal-2-clause-back
returns-in_ok-add_literal-in-Equal-2-clause-back c =
    c.can_go_back_further.ensures.further c.args.watch.now c.add_literal.new.self c.add_literal-in-Equal.new.self
    c.add_literal.ensures.back c.add_literal-in-Equal.ensures.back

pub returns-in_ok-add_literal-in-Atom-3-clause-back : goal.returns-in_ok-add_literal-in-Atom-3-clause-back
returns-in_ok-add_literal-in-Atom-3-clause-back c =
    let further = c.can_go_back_further.ensures.further in
    further c.args.watch.now c.add_literal-in-Atom-2.new.self c.add_literal-in-Atom-3.new.self
    (further c.args.watch.now c.add_literal-in-Atom.new.self c.add_literal-in-Atom-2.new.self
    c.add_literal-in-Atom.ensures.back c.add_literal-in-Atom-2.ensures.back)
    c.add_literal-in-Atom-3.ensures.back
