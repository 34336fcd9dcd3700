use Rattle.std.proofs.Common.{sym, ◌∙◌}
use Rattle.smt_terms.specs.Terms.{is_pattern_key}
use Rattle.smt_terms.specs.Cursor.{word_at}
use Rattle.smt_terms.proofs.ForallLemmas.{no_key}
use Rattle.smt_terms.proofs.bodies.push_key.Goals as goal

pub returns-then-not-has_pattern_key : goal.returns-then-not-has_pattern_key
returns-then-not-has_pattern_key c = no_key c.args.tree.now c.args.patterns.now.items c.args.i (is_pattern_key (word_at c.args.tree.now c.args.i)) (sym c.has_pattern_key.ensures ∙ c.if-not-has_pattern_key.true)
