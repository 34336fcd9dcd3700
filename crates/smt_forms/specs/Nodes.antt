-- What each form of a formula puts into a formula, in this order.
use Rattle.std.specs.Prelude.{◌≡◌, ℕ, ◌==◌, if◌then◌else◌, Bool, true, false, cond, ◌&&◌}
use Rattle.std.specs.Prelude.{List, [], ◌∷◌, ◌++◌, map, Option, Some, None, option_map}
use Rattle.smt_text.specs.declared.token.Place.{Place}
use Rattle.formula_draft.specs.declared.draft_row.DraftRow.TheVariants.{App}
use Rattle.formula_draft.specs.declared.draft_node.DraftNode.{DraftNode}
use Rattle.formula_draft.specs.declared.draft_node.DraftNode.TheVariants.{Equal, Atom, And, Or}
use Rattle.smt_names.specs.declared.value.Value.{Value}
use Rattle.smt_names.specs.declared.value.Value.TheVariants.{Term, Formula}
use Rattle.smt_names.specs.declared.connective.Connective.{Connective}
use Rattle.smt_names.specs.declared.connective.Connective.TheVariants as core
use Rattle.smt_forms.specs.declared.crossed.Crossed.{Crossed}
use Rattle.smt_names.specs.Value.{row_of, self, other, complement, has_complement, swapped}
use Rattle.smt_names.specs.Making.{Making, gives, ◌>>=◌, bad_form, row, node, node_if}

abbrev pub selves : List Value → List ℕ
selves parts = map self parts

abbrev pub all_have_complements : List Value → Bool
all_have_complements [] = true
all_have_complements (part ∷ parts) = has_complement part && all_have_complements parts

-- the complements of all parts, where each part has one
abbrev pub complements : List Value → Option (List ℕ)
complements parts = cond (all_have_complements parts) (Some (map other parts)) None

-- a formula by its node and, where there is one, the node of its complement
abbrev pub both : Place → DraftNode → Option DraftNode → Making Value
both at itself against = do
  n ← node at itself
  c ← node_if at against
  gives (Formula n c)

-- no parts, of which each is true; against it that one of them is
abbrev pub true_form : Place → Making Value
true_form at = both at (And []) (Some (Or []))

abbrev pub not_form : Place → List Value → Making Value
not_form at (a ∷ []) = gives (swapped a)
not_form at parts = bad_form at

abbrev pub and_form : Place → List Value → Making Value
and_form at parts = both at (And (selves parts)) (option_map Or (complements parts))

abbrev pub or_form : Place → List Value → Making Value
or_form at parts = both at (Or (selves parts)) (option_map And (complements parts))

-- the complements of all parts but the last, and the last itself
abbrev pub implied : List Value → List ℕ
implied [] = []
implied (part ∷ []) = self part ∷ []
implied (part ∷ next ∷ parts) = other part ∷ implied (next ∷ parts)

-- all parts but the last, and the complement of the last where it has one
abbrev pub refuted : List Value → Option (List ℕ)
refuted [] = Some []
refuted (part ∷ []) = option_map (λ c. c ∷ []) (complement part)
refuted (part ∷ next ∷ parts) = option_map (λ ns. self part ∷ ns) (refuted (next ∷ parts))

abbrev pub implies_form : Place → List Value → Making Value
implies_form at parts = both at (Or (implied parts)) (option_map And (refuted parts))

abbrev pub or_of : Place → ℕ → ℕ → Making ℕ
or_of at a b = node at (Or (a ∷ b ∷ []))

abbrev pub and_of : ℕ → ℕ → DraftNode
and_of a b = And (a ∷ b ∷ [])

-- the four nodes on which xor and = of two formulas stand
abbrev pub crossed : Place → Value → Value → Making Crossed
crossed at a b = do
  m ← or_of at (self a) (self b)
  n ← or_of at (other a) (other b)
  p ← or_of at (self a) (other b)
  q ← or_of at (other a) (self b)
  gives (record { m = m; n = n; p = p; q = q })

-- one of the two, and not both
abbrev pub xor_of_two : Place → Value → Value → Making Value
xor_of_two at a b = do
  c ← crossed at a b
  both at (and_of c.m c.n) (Some (and_of c.p c.q))

-- both or none
abbrev pub same_truth : Place → Value → Value → Making Value
same_truth at a b = do
  c ← crossed at a b
  both at (and_of c.p c.q) (Some (and_of c.m c.n))

-- from the left, two at a time
abbrev pub xor_from : Place → Value → List Value → Making Value
xor_from at a [] = gives a
xor_from at a (b ∷ parts) = do
  first ← xor_of_two at a b
  xor_from at first parts

abbrev pub xor_form : Place → List Value → Making Value
xor_form at [] = bad_form at
xor_form at (a ∷ parts) = xor_from at a parts

abbrev pub equal_of_two : Place → Value → Value → Making Value
equal_of_two at (Formula a a') b = same_truth at (Formula a a') b
equal_of_two at (Term s sort) b = both at (Equal true s (row_of b)) (Some (Equal false s (row_of b)))

-- each part with the next
abbrev pub neighbours : Place → Value → List Value → Making (List Value)
neighbours at a [] = gives []
neighbours at a (b ∷ parts) = do
  first ← equal_of_two at a b
  others ← neighbours at b parts
  gives (first ∷ others)

-- each part equals the next
abbrev pub all_equal : Place → Value → List Value → Making Value
all_equal at a parts = do
  equations ← neighbours at a parts
  and_form at equations

abbrev pub equal_form : Place → List Value → Making Value
equal_form at [] = bad_form at
equal_form at (a ∷ []) = bad_form at
equal_form at (a ∷ b ∷ []) = equal_of_two at a b
equal_form at (a ∷ b ∷ c ∷ parts) = all_equal at a (b ∷ c ∷ parts)

abbrev pub distinct_of_two : Place → Value → Value → Making Value
distinct_of_two at a b = do
  equation ← equal_of_two at a b
  gives (swapped equation)

-- a part with each that follows
abbrev pub distinct_from : Place → Value → List Value → Making (List Value)
distinct_from at a [] = gives []
distinct_from at a (b ∷ parts) = do
  first ← distinct_of_two at a b
  others ← distinct_from at a parts
  gives (first ∷ others)

-- each part with each that follows
abbrev pub distinct_pairs : Place → List Value → Making (List Value)
distinct_pairs at [] = gives []
distinct_pairs at (a ∷ parts) = do
  first ← distinct_from at a parts
  others ← distinct_pairs at parts
  gives (first ++ others)

-- three formulas or more are never all different
abbrev pub never : Place → Option (List ℕ) → Making Value
never at against = both at (Or []) (option_map (λ _. And []) against)

-- each part differs from each that follows
abbrev pub all_distinct : Place → List Value → Making Value
all_distinct at parts = do
  differences ← distinct_pairs at parts
  and_form at differences

-- three or more, by the first of them
abbrev pub distinct_of_many : Place → Value → List Value → Making Value
distinct_of_many at (Formula a a') parts = never at (complements parts)
distinct_of_many at (Term a sort) parts = all_distinct at parts

abbrev pub distinct_form : Place → List Value → Making Value
distinct_form at [] = bad_form at
distinct_form at (a ∷ []) = bad_form at
distinct_form at (a ∷ b ∷ []) = distinct_of_two at a b
distinct_form at (a ∷ b ∷ c ∷ parts) = distinct_of_many at a (a ∷ b ∷ c ∷ parts)

-- the complement of an ite, where both branches have one
abbrev pub ite_complement : Place → Value → Option (List ℕ) → Making (Option DraftNode)
ite_complement at c (Some (a ∷ b ∷ [])) = do
  first ← or_of at (other c) a
  second ← or_of at (self c) b
  gives (Some (and_of first second))
ite_complement at c against = gives None

abbrev pub ite_of_three : Place → Value → Value → Value → Making Value
ite_of_three at c a b = do
  first ← or_of at (other c) (self a)
  second ← or_of at (self c) (self b)
  against ← ite_complement at c (complements (a ∷ b ∷ []))
  both at (and_of first second) against

abbrev pub ite_form : Place → List Value → Making Value
ite_form at (c ∷ a ∷ b ∷ []) = ite_of_three at c a b
ite_form at parts = bad_form at

-- what a connective puts for its parts, whose number, sorts and complements are right
unfoldable pub connected : Place → Connective → List Value → Making Value
connected at core.True parts = true_form at
connected at core.False parts = do
  t ← true_form at
  gives (swapped t)
connected at core.Not parts = not_form at parts
connected at core.And parts = and_form at parts
connected at core.Or parts = or_form at parts
connected at core.Implies parts = implies_form at parts
connected at core.Xor parts = xor_form at parts
connected at core.Equals parts = equal_form at parts
connected at core.Distinct parts = distinct_form at parts
connected at core.Ite parts = ite_form at parts

-- an application of a declared function, with its value's sort
abbrev pub application : Place → ℕ → ℕ → List Value → Making Value
application at symbol sort parts = do
  r ← row at (App symbol (map row_of parts))
  if sort == 0 then both at (Atom true r) (Some (Atom false r)) else gives (Term r sort)
