-- Foralls.
use Rattle.formula_table.specs.declared.node.Node.{Node}
use Rattle.formula_table.specs.declared.node.Node.TheVariants.{Equal, Atom, And, Or, Forall}

-- the node is a forall
abbrev pub IsForall : Node → Type 0
IsForall (Equal positive left right) = ⊥
IsForall (Atom positive term) = ⊥
IsForall (And parts) = ⊥
IsForall (Or parts) = ⊥
IsForall (Forall forall) = Unit {0}
