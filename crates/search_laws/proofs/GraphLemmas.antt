-- What operations that add no term, and open and end no level, make of a graph.
use Rattle.std.proofs.Common.{◌≡◌, ℕ, ◌<◌, true, false, List, [], ◌∷◌, ◌++◌, length, map, Some, Contains, refl, sym, ap, ap₂, subst}
use Rattle.std.proofs.Common.{◌∙◌, ⊎_elim, append-nil, append_assoc}
use Rattle.std.specs.List.{filter_map}
use Rattle.std.proofs.lemmas.Option.{none-some, same_Some, some_pair_parts, slice_get_within}
use Rattle.std.proofs.lemmas.List.{map-append}
use Rattle.std.proofs.lemmas.List.Elements.{filter_map-append}
use Rattle.graph_terms.specs.declared.term_row.TermRow.{TermRow}
use Rattle.graph_terms.specs.Terms.{term_row, first_rows, IsTable}
use Rattle.graph_trigger.specs.declared.trigger.Trigger.{Trigger}
use Rattle.graph_meaning.specs.declared.done.Done.{Done}
use Rattle.graph_meaning.specs.declared.op.Op.{Op}
use Rattle.graph_meaning.specs.declared.op.Op.TheVariants.{Add, Merge, Differ, Live, Push, Pop}
use Rattle.graph_meaning.specs.Same.{Derives}
use Rattle.graph_meaning.specs.Same as same
use Rattle.graph_meaning.specs.Standing.{terms_of, merges_of, differs_of, triggers_of, added_row, merged_ends}
use Rattle.graph_meaning.specs.Standing.{different_ends, live_trigger}
use Rattle.graph_meaning.specs.State.{GraphState, replay, state_after}
use Rattle.formula_table.specs.declared.node.Node.{Node}
use Rattle.formula_table.specs.declared.node.Node.TheVariants.{Equal, Atom, And, Or, Forall}
use Rattle.formula_table.specs.Formulas.{Formulas}
use Rattle.formula_assert.specs.Held.{triggers_at, operations_of, refuting_of}
use Rattle.formula_assert.specs.Exactly.{operations_in}
use Rattle.search_laws.proofs.Places.{contains_none, contains_cases, map_keeps, map_from, filter_map_keeps}
use Rattle.search_laws.proofs.Places.{filter_map_from}

-- an equation, a disequation or a trigger
abbrev pub IsPlain : Op → Type 0
IsPlain (Add symbol args) = ⊥
IsPlain (Merge left right) = Unit {0}
IsPlain (Differ left right) = Unit {0}
IsPlain (Live trigger) = Unit {0}
IsPlain Push = ⊥
IsPlain Pop = ⊥

-- some of them
abbrev pub ArePlain : List Op → Type 0
ArePlain [] = Unit {0}
ArePlain (op ∷ ops) = IsPlain op × ArePlain ops

-- the terms are as before, and these operations stand behind the others
pub record Does (ops : List Op) (before after : GraphState) : Type 0 where
  pub terms : terms_of after.standing ≡ terms_of before.standing
  pub operations : operations_in after.standing ≡ operations_in before.standing ++ ops

-- the operation stands last, and adds no row
last_stands : (standing : List Done) (done : Done) → operations_in (standing ++ done ∷ []) ≡ operations_in standing
    ++ done.op ∷ []
last_stands standing done = map-append (λ (d : Done). d.op) standing (done ∷ [])

no_row : (standing : List Done) (done : Done) → filter_map added_row (done ∷ []) ≡ [] →
    terms_of (standing ++ done ∷ []) ≡ terms_of standing
no_row standing done none = ap (λ rows. first_rows ++ rows) (filter_map-append added_row standing (done ∷ [])
    ∙ ap (λ rows. filter_map added_row standing ++ rows) none ∙ append-nil (filter_map added_row standing))

does_one : (before : GraphState) (op : Op) → IsPlain op → Does (op ∷ []) before (state_after before op)
does_one before (Add symbol args) plain = absurd plain
does_one before (Merge left right) plain =
    let done : Done = record { serial = before.done; op = Merge left right } in
    record { terms = no_row before.standing done refl; operations = last_stands before.standing done }
does_one before (Differ left right) plain =
    let done : Done = record { serial = before.done; op = Differ left right } in
    record { terms = no_row before.standing done refl; operations = last_stands before.standing done }
does_one before (Live trigger) plain =
    let done : Done = record { serial = before.done; op = Live trigger } in
    record { terms = no_row before.standing done refl; operations = last_stands before.standing done }
does_one before Push plain = absurd plain
does_one before Pop plain = absurd plain

-- some operations one after another
pub does : (before : GraphState) (ops : List Op) → ArePlain ops → Does ops before (replay before ops)
does before [] plain = record { terms = refl; operations = sym (append-nil (operations_in before.standing)) }
does before (op ∷ ops) plain =
    let one = does_one before op plain.0 in
    let rest = does (state_after before op) ops plain.1 in
    record {
      terms = rest.terms ∙ one.terms;
      operations = rest.operations ∙ ap (λ list. list ++ ops) one.operations
          ∙ append_assoc (operations_in before.standing) (op ∷ []) ops;
    }

plain_live : (triggers : List Trigger) → ArePlain (map Live triggers)
plain_live [] = tt
plain_live (trigger ∷ triggers) = (tt, plain_live triggers)

-- the operations of a node are such, and those that refute one
pub plain_of : (formulas : Formulas) (node : Node) → ArePlain (operations_of formulas node)
plain_of formulas (Equal true left right) = (tt, tt)
plain_of formulas (Equal false left right) = (tt, tt)
plain_of formulas (Atom true term) = (tt, tt)
plain_of formulas (Atom false term) = (tt, tt)
plain_of formulas (And parts) = tt
plain_of formulas (Or parts) = tt
plain_of formulas (Forall forall) = plain_live (triggers_at formulas.foralls forall)

pub plain_refuting : (node : Node) → ArePlain (refuting_of node)
plain_refuting (Equal true left right) = (tt, tt)
plain_refuting (Equal false left right) = (tt, tt)
plain_refuting (Atom true term) = (tt, tt)
plain_refuting (Atom false term) = (tt, tt)
plain_refuting (And parts) = tt
plain_refuting (Or parts) = tt
plain_refuting (Forall forall) = tt

-- an operation that makes a trigger live
pub live_only : (P : Op → Type 0) → ((trigger : Trigger) → P (Live trigger)) → (triggers : List Trigger) (op : Op) →
    Contains (map Live triggers) op → P op
live_only P live [] op c = contains_none op c
live_only P live (trigger ∷ triggers) op c = ⊎_elim (λ e. subst P e (live trigger)) (live_only P live triggers op)
    (contains_cases (Live trigger) op (map Live triggers) c)

-- the operation whose ends these are
merge_of : (s t serial : ℕ) (op : Op) → merged_ends (record { serial = serial; op = op }) ≡ Some (s, t) →
    op ≡ Merge s t
merge_of s t serial (Add symbol args) e = absurd (none-some (s, t) e)
merge_of s t serial (Merge left right) e = let h = some_pair_parts left s right t e in ap₂ Merge h.0 h.1
merge_of s t serial (Differ left right) e = absurd (none-some (s, t) e)
merge_of s t serial (Live trigger) e = absurd (none-some (s, t) e)
merge_of s t serial Push e = absurd (none-some (s, t) e)
merge_of s t serial Pop e = absurd (none-some (s, t) e)

differ_of : (s t serial : ℕ) (op : Op) → different_ends (record { serial = serial; op = op }) ≡ Some (s, t) →
    op ≡ Differ s t
differ_of s t serial (Add symbol args) e = absurd (none-some (s, t) e)
differ_of s t serial (Merge left right) e = absurd (none-some (s, t) e)
differ_of s t serial (Differ left right) e = let h = some_pair_parts left s right t e in ap₂ Differ h.0 h.1
differ_of s t serial (Live trigger) e = absurd (none-some (s, t) e)
differ_of s t serial Push e = absurd (none-some (s, t) e)
differ_of s t serial Pop e = absurd (none-some (s, t) e)

module _ (standing : List Done) (s t : ℕ) where
  stands_as : (op : Op) (done : Done) → Contains standing done → done.op ≡ op → Contains (operations_in standing) op
  stands_as op done c e = subst (Contains (operations_in standing)) e
      (map_keeps (λ (d : Done). d.op) standing done c)

  -- an equation that is read off a standing list is one of its operations, and each of these is read off
  pub merge_stands : Contains (merges_of standing) (s, t) → Contains (operations_in standing) (Merge s t)
  merge_stands c = let h = filter_map_from merged_ends standing (s, t) c in
      stands_as (Merge s t) h.0 h.1 (merge_of s t h.0.serial h.0.op h.2)

  pub merge_read : Contains (operations_in standing) (Merge s t) → Contains (merges_of standing) (s, t)
  merge_read c = let h = map_from (λ (d : Done). d.op) standing (Merge s t) c in
      filter_map_keeps merged_ends standing h.0 (s, t) h.1
      (ap (λ op. merged_ends (record { serial = h.0.serial; op = op })) h.2)

  -- so for disequations
  pub differ_stands : Contains (differs_of standing) (s, t) → Contains (operations_in standing) (Differ s t)
  differ_stands c = let h = filter_map_from different_ends standing (s, t) c in
      stands_as (Differ s t) h.0 h.1 (differ_of s t h.0.serial h.0.op h.2)

  pub differ_read : Contains (operations_in standing) (Differ s t) → Contains (differs_of standing) (s, t)
  differ_read c = let h = map_from (λ (d : Done). d.op) standing (Differ s t) c in
      filter_map_keeps different_ends standing h.0 (s, t) h.1
      (ap (λ op. different_ends (record { serial = h.0.serial; op = op })) h.2)

-- the operation that makes a trigger live
live_of : (trigger : Trigger) (serial : ℕ) (op : Op) →
    live_trigger (record { serial = serial; op = op }) ≡ Some trigger → op ≡ Live trigger
live_of trigger serial (Add symbol args) e = absurd (none-some trigger e)
live_of trigger serial (Merge s t) e = absurd (none-some trigger e)
live_of trigger serial (Differ s t) e = absurd (none-some trigger e)
live_of trigger serial (Live other) e = ap Live (same_Some other trigger e)
live_of trigger serial Push e = absurd (none-some trigger e)
live_of trigger serial Pop e = absurd (none-some trigger e)

-- a live trigger stands
pub live_stands : (standing : List Done) (trigger : Trigger) → Contains (triggers_of standing) trigger →
    Contains (operations_in standing) (Live trigger)
live_stands standing trigger c =
    let from = filter_map_from live_trigger standing trigger c in
    subst (Contains (operations_in standing)) (live_of trigger (from.0).serial (from.0).op from.2)
    (map_keeps (λ (done : Done). done.op) standing from.0 from.1)

-- where the equations are between terms that stand, each term that is derived equal to another stands
pub both_stand : (rows : List TermRow) (merges : List (ℕ × ℕ)) → ((s t : ℕ) → Contains merges (s, t) →
    (s < length rows) × (t < length rows)) → {s t : ℕ} → Derives rows merges s t → (s < length rows) × (t < length rows)
both_stand rows merges stand (same.Derives.same_term less) = (less, less)
both_stand rows merges stand (same.Derives.turned d) = let both = both_stand rows merges stand d in (both.1, both.0)
both_stand rows merges stand (same.Derives.joined d e) =
    ((both_stand rows merges stand d).0, (both_stand rows merges stand e).1)
both_stand rows merges stand (same.Derives.merged {s} {t} c) = stand s t c
both_stand rows merges stand (same.Derives.congruent {s} {t} {symbol} {ss} {ts} has also each) =
    (slice_get_within rows s (term_row symbol ss) has, slice_get_within rows t (term_row symbol ts) also)

-- true and false stand
pub truths_stand : (rows : List TermRow) → IsTable rows → 1 < length rows
truths_stand rows table = slice_get_within rows 1 (term_row 1 []) table.false_row
