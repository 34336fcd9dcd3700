-- What one operation more adds to a standing list, and that an allowed one keeps it lawful.
use Rattle.std.proofs.Common.{◌≡◌, ℕ, ◌+◌, ◌<◌, ◌≤◌, List, [], ◌∷◌, ◌++◌, length}
use Rattle.std.proofs.Common.{take, All, refl, sym, ap, subst, append-nil, ◌∙◌, ⊎_elim, arith}
use Rattle.std.specs.List.{filter_map}
use Rattle.std.proofs.lemmas.Bool.{cases_lt}
use Rattle.std.proofs.lemmas.List.{length-append, length-take, take-append-le, take_all, take-take}
use Rattle.std.proofs.lemmas.List.Elements.{filter_map-append, Contains-append_cases, Contains-push_cases}
use Rattle.std.proofs.lemmas.List.Elements.{All-append, All-nil, All-push}
use Rattle.graph_meaning.specs.declared.done.Done.{Done}
use Rattle.graph_meaning.specs.declared.op.Op.{Op}
use Rattle.graph_meaning.specs.declared.op.Op.TheVariants.{Add, Merge, Differ, Live, Push, Pop}
use Rattle.graph_terms.specs.Terms.{term_row, first_rows, IsTable}
use Rattle.graph_trigger.specs.Trigger.{IsValid}
use Rattle.graph_meaning.specs.Standing.{added_row, merged_ends, different_ends, live_trigger, terms_of}
use Rattle.graph_meaning.specs.Standing.{merges_of, differs_of, triggers_of, rows_added, merges_added}
use Rattle.graph_meaning.specs.Standing.{differs_added, triggers_added, standing_after}
pub use Rattle.graph_meaning.specs.Standing.{then_op}
use Rattle.graph_meaning.specs.Lawful.{Allows, EndsBelow, KeepsRules, IsLawful}
use Rattle.graph_terms.proofs.TableLaws.{IsTable-first, IsTable-push}

module _ (standing : List Done) (serial : ℕ) where
  -- the terms after one operation more
  pub terms_of-push : (op : Op) → terms_of (then_op standing serial op) ≡ terms_of standing ++ rows_added op
  terms_of-push op = ap (λ rows. first_rows ++ rows) (filter_map-append added_row standing
      (record { serial = serial; op = op } ∷ []) ∙ ap (λ rows. filter_map added_row standing ++ rows) (each op))
    where
      each : (op : Op) → filter_map added_row (record { serial = serial; op = op } ∷ []) ≡ rows_added op
      each (Add symbol args) = refl
      each (Merge left right) = refl
      each (Differ left right) = refl
      each (Live trigger) = refl
      each Push = refl
      each Pop = refl

  -- the equations
  pub merges_of-push : (op : Op) → merges_of (then_op standing serial op) ≡ merges_of standing ++ merges_added op
  merges_of-push op = filter_map-append merged_ends standing (record { serial = serial; op = op } ∷ [])
      ∙ ap (λ pairs. filter_map merged_ends standing ++ pairs) (each op)
    where
      each : (op : Op) → filter_map merged_ends (record { serial = serial; op = op } ∷ []) ≡ merges_added op
      each (Add symbol args) = refl
      each (Merge left right) = refl
      each (Differ left right) = refl
      each (Live trigger) = refl
      each Push = refl
      each Pop = refl

  -- the disequations
  pub differs_of-push : (op : Op) → differs_of (then_op standing serial op) ≡ differs_of standing ++ differs_added op
  differs_of-push op = filter_map-append different_ends standing (record { serial = serial; op = op } ∷ [])
      ∙ ap (λ pairs. filter_map different_ends standing ++ pairs) (each op)
    where
      each : (op : Op) → filter_map different_ends (record { serial = serial; op = op } ∷ []) ≡ differs_added op
      each (Add symbol args) = refl
      each (Merge left right) = refl
      each (Differ left right) = refl
      each (Live trigger) = refl
      each Push = refl
      each Pop = refl

  -- and the live triggers
  pub triggers_of-push : (op : Op) → triggers_of (then_op standing serial op) ≡ triggers_of standing
      ++ triggers_added op
  triggers_of-push op = filter_map-append live_trigger standing (record { serial = serial; op = op } ∷ [])
      ∙ ap (λ triggers. filter_map live_trigger standing ++ triggers) (each op)
    where
      each : (op : Op) → filter_map live_trigger (record { serial = serial; op = op } ∷ []) ≡ triggers_added op
      each (Add symbol args) = refl
      each (Merge left right) = refl
      each (Differ left right) = refl
      each (Live trigger) = refl
      each Push = refl
      each Pop = refl

-- no pair has an end that is not below
pub EndsBelow-none : (bound : ℕ) → EndsBelow [] bound
EndsBelow-none bound s t c = absurd (omega (arith, c.1))

EndsBelow-one : (left right bound : ℕ) → left < bound → right < bound → EndsBelow ((left, right) ∷ []) bound
EndsBelow-one left right bound low high s t c = ⊎_elim (λ nothing. absurd (omega (arith, nothing.1)))
    (λ e. subst (λ (p : ℕ × ℕ). (p.0 < bound) × (p.1 < bound)) e (low, high))
    (Contains-push_cases [] (left, right) (s, t) c)

EndsBelow-append : (pairs more : List (ℕ × ℕ)) (bound later : ℕ) → bound ≤ later → EndsBelow pairs bound →
    EndsBelow more bound → EndsBelow (pairs ++ more) later
EndsBelow-append pairs more bound later le ends new_ends s t c =
    ⊎_elim (λ old. let h = ends s t old in (omega (arith, h.0), omega (arith, h.1)))
    (λ new. let h = new_ends s t new in (omega (arith, h.0), omega (arith, h.1)))
    (Contains-append_cases pairs more (s, t) c)

-- what an allowed operation adds
module _ (standing : List Done) where
  merges_below : (op : Op) → Allows standing op → EndsBelow (merges_added op) (length (terms_of standing))
  merges_below (Merge left right) allowed = EndsBelow-one left right _ allowed.0 allowed.1
  merges_below (Add symbol args) allowed = EndsBelow-none _
  merges_below (Differ left right) allowed = EndsBelow-none _
  merges_below (Live trigger) allowed = EndsBelow-none _
  merges_below Push allowed = EndsBelow-none _
  merges_below Pop allowed = EndsBelow-none _

  differs_below : (op : Op) → Allows standing op → EndsBelow (differs_added op) (length (terms_of standing))
  differs_below (Differ left right) allowed = EndsBelow-one left right _ allowed.0 allowed.1
  differs_below (Add symbol args) allowed = EndsBelow-none _
  differs_below (Merge left right) allowed = EndsBelow-none _
  differs_below (Live trigger) allowed = EndsBelow-none _
  differs_below Push allowed = EndsBelow-none _
  differs_below Pop allowed = EndsBelow-none _

  triggers_valid : (op : Op) → Allows standing op → All IsValid (triggers_added op)
  triggers_valid (Live trigger) allowed = All-push IsValid [] trigger (All-nil IsValid) allowed
  triggers_valid (Add symbol args) allowed = All-nil IsValid
  triggers_valid (Merge left right) allowed = All-nil IsValid
  triggers_valid (Differ left right) allowed = All-nil IsValid
  triggers_valid Push allowed = All-nil IsValid
  triggers_valid Pop allowed = All-nil IsValid

  stays_table : (op : Op) → Allows standing op → IsTable (terms_of standing) →
      IsTable (terms_of standing ++ rows_added op)
  stays_table (Add symbol args) allowed table = IsTable-push (terms_of standing) (term_row symbol args) allowed.0
      allowed.1 allowed.2 table
  stays_table (Merge left right) allowed table = subst IsTable (sym (append-nil (terms_of standing))) table
  stays_table (Differ left right) allowed table = subst IsTable (sym (append-nil (terms_of standing))) table
  stays_table (Live trigger) allowed table = subst IsTable (sym (append-nil (terms_of standing))) table
  stays_table Push allowed table = subst IsTable (sym (append-nil (terms_of standing))) table
  stays_table Pop allowed table = subst IsTable (sym (append-nil (terms_of standing))) table

  -- a list keeps to the rules with an allowed operation at its end
  pub KeepsRules-push : (serial : ℕ) (op : Op) → KeepsRules standing → Allows standing op →
      KeepsRules (then_op standing serial op)
  KeepsRules-push serial op keeps allowed =
      let terms = terms_of-push standing serial op in
      let longer : length (terms_of standing) ≤ length (terms_of (then_op standing serial op)) = omega (
        arith,
        ap length terms,
        length-append (terms_of standing) (rows_added op),
      ) in
      record {
        table = subst IsTable (sym terms) (stays_table op allowed keeps.table);
        ends = subst (λ pairs. EndsBelow pairs (length (terms_of (then_op standing serial op))))
            (sym (merges_of-push standing serial op)) (EndsBelow-append (merges_of standing) (merges_added op) _ _
            longer keeps.ends (merges_below op allowed));
        different_ends = subst (λ pairs. EndsBelow pairs (length (terms_of (then_op standing serial op))))
            (sym (differs_of-push standing serial op)) (EndsBelow-append (differs_of standing) (differs_added op) _ _
            longer keeps.different_ends (differs_below op allowed));
        triggers = subst (All IsValid) (sym (triggers_of-push standing serial op))
            (All-append IsValid (triggers_of standing) (triggers_added op) keeps.triggers
            (triggers_valid op allowed));
      }

-- the empty list is lawful
pub IsLawful-first : IsLawful []
IsLawful-first = record { whole = keeps; fronts = λ k. subst KeepsRules (sym (take_all k [] (omega arith))) keeps }
  where
    keeps : KeepsRules []
    keeps = record {
      table = IsTable-first;
      ends = EndsBelow-none 2;
      different_ends = EndsBelow-none 2;
      triggers = All-nil IsValid;
    }

-- so is a front of a lawful list
pub IsLawful-take : (n : ℕ) (standing : List Done) → IsLawful standing → IsLawful (take n standing)
IsLawful-take n standing lawful = record {
  whole = lawful.fronts n;
  fronts = λ k. ⊎_elim
      (λ below. subst KeepsRules (sym (take-take k n standing (omega arith))) (lawful.fronts k))
      (λ past. subst KeepsRules (sym (take_all k (take n standing) (let len = length-take n standing in omega arith)))
      (lawful.fronts n))
      (cases_lt k n);
}

-- and a lawful list with an allowed operation at its end
pub IsLawful-push : (standing : List Done) (serial : ℕ) (op : Op) → IsLawful standing → Allows standing op →
    IsLawful (then_op standing serial op)
IsLawful-push standing serial op lawful allowed = record {
  whole = KeepsRules-push standing serial op lawful.whole allowed;
  fronts = λ k. ⊎_elim
      (λ inside. subst KeepsRules (sym (take-append-le k standing (record { serial = serial; op = op } ∷ [])
      (omega arith))) (lawful.fronts k))
      (λ past. subst KeepsRules (sym (take_all k (then_op standing serial op)
      (let longer = length-append standing (record { serial = serial; op = op } ∷ []) in omega arith)))
      (KeepsRules-push standing serial op lawful.whole allowed))
      (cases_lt k (length standing + 1));
}

-- so an allowed operation keeps a list lawful
pub IsLawful-after : (standing : List Done) (serial : ℕ) (op : Op) → IsLawful standing → Allows standing op →
    IsLawful (standing_after standing serial op)
IsLawful-after standing serial Pop lawful allowed = IsLawful-take _ standing lawful
IsLawful-after standing serial (Add symbol args) lawful allowed = IsLawful-push standing serial (Add symbol args)
    lawful allowed
IsLawful-after standing serial (Merge left right) lawful allowed = IsLawful-push standing serial (Merge left right)
    lawful allowed
IsLawful-after standing serial (Differ left right) lawful allowed = IsLawful-push standing serial (Differ left right)
    lawful allowed
IsLawful-after standing serial (Live trigger) lawful allowed = IsLawful-push standing serial (Live trigger) lawful
    allowed
IsLawful-after standing serial Push lawful allowed = IsLawful-push standing serial Push lawful allowed
