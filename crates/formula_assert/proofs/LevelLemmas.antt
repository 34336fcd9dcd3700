-- Levels that are kept.
use Rattle.std.proofs.Common.{List, ◌++◌, refl, ap, ◌∙◌, append_assoc}
use Rattle.formula_table.specs.declared.node.Node.{Node}
use Rattle.formula_table.specs.declared.table_forall.TableForall.{TableForall}
use Rattle.formula_table.specs.Formulas.{Formulas, GrowsTable}
use Rattle.formula_assert.specs.Assertions.{Assertions, held_of}
use Rattle.formula_assert.specs.InLevel.{HoldsMoreOver, KeepsLevels}
use Rattle.formula_assert.proofs.Growth.{holds_same, holds_both}
use Rattle.formula_assert.proofs.StackLemmas.{grows_nothing}

-- a table that grew, and then grew again
table_grows_both : (first second third : Formulas) → GrowsTable first second → GrowsTable second third →
    GrowsTable first third
table_grows_both first second third one two = record {
  more_nodes = one.more_nodes ++ two.more_nodes;
  more_foralls = one.more_foralls ++ two.more_foralls;
  nodes_are = two.nodes_are ∙ ap (λ (nodes : List Node). nodes ++ two.more_nodes) one.nodes_are
      ∙ append_assoc first.nodes one.more_nodes two.more_nodes;
  foralls_are = two.foralls_are ∙ ap (λ (foralls : List TableForall). foralls ++ two.more_foralls) one.foralls_are
      ∙ append_assoc first.foralls one.more_foralls two.more_foralls;
  limit_is = two.limit_is ∙ one.limit_is;
}

-- nothing comes
pub same_levels : (now : Assertions) → KeepsLevels now now
same_levels now = record {
  holds_more = holds_same (held_of now);
  formulas_grow = grows_nothing now.formulas now.formulas refl;
  saved_are = refl;
}

-- more is held over the same formulas
pub over_levels : (before after : Assertions) → HoldsMoreOver before after → KeepsLevels before after
over_levels before after over = record {
  holds_more = over.holds_more;
  formulas_grow = grows_nothing before.formulas after.formulas over.formulas_are;
  saved_are = over.saved_are;
}

-- one after another
pub both_levels : (first second third : Assertions) → KeepsLevels first second → KeepsLevels second third →
    KeepsLevels first third
both_levels first second third one two = record {
  holds_more = holds_both (held_of first) (held_of second) (held_of third) one.holds_more two.holds_more;
  formulas_grow = table_grows_both first.formulas second.formulas third.formulas one.formulas_grow two.formulas_grow;
  saved_are = two.saved_are ∙ one.saved_are;
}
