-- Going over the places of patterns.
use Rattle.std.proofs.Common.{◌≡◌, ◌<◌, ◌≤◌, ◌+◌, ⊎_elim, ℕ, List, [], ◌∷◌, ◌++◌, length, slice_get, Some, Contains, refl, sym, ap, subst, ◌∙◌, arith}
use Rattle.std.proofs.lemmas.Bool.{cases_lt}
use Rattle.std.proofs.lemmas.Option.{same_Some, slice_get_within}
use Rattle.std.proofs.lemmas.List.Elements.{Contains-append_left, Contains-append_right, Contains-append_cases, Contains-push, Contains-push_cases}
use Rattle.graph_terms.proofs.ListLaws.{place_from_Contains, Contains-slice_get}
use Rattle.graph_trigger.specs.declared.trigger.Trigger.{Trigger}
use Rattle.graph_trigger.specs.declared.pattern_row.PatternRow.TheVariants.{App}
use Rattle.graph_trigger.specs.Trigger.{Occurs, at_root}
use Rattle.graph_trigger.specs.Trigger as pattern
use Rattle.match_laws.proofs.FollowLaws.{same_symbol, same_parts}
use Rattle.match_laws.proofs.StepLaws.{slice_get-front}
use Rattle.match_paths.specs.declared.occurrence.Occurrence.{Occurrence}
use Rattle.match_paths.specs.Occurrences.{LinksOf, root, below, IsOccurrence, IsAmong, AreOccurrences, part_at, IsPartOf, AreParts, ArePartsIn, AreRoots}

-- exactly what there is for the first k numbers, one for each
pub record CollectedTo (Is : ℕ → Occurrence → Type 0) (k : ℕ) (xs : List Occurrence) : Type 0 where
  pub sound : (x : Occurrence) → Contains xs x → (i : ℕ) × (i < k) × Is i x
  pub complete : (i : ℕ) (x : Occurrence) → i < k → Is i x → Contains xs x

module _ (Is : ℕ → Occurrence → Type 0) where
  pub collected_none : CollectedTo Is 0 []
  collected_none = record { sound = λ x c. absurd (omega (arith, c.1)); complete = λ i x lt is. absurd (omega arith) }

  pub collected_next : (k : ℕ) (xs : List Occurrence) (x : Occurrence) → Is k x → ((y : Occurrence) → Is k y → x ≡ y) → CollectedTo Is k xs → CollectedTo Is (k + 1) (xs ++ x ∷ [])
  collected_next k xs x is only so_far = record {
    sound = λ y c. ⊎_elim (λ old. let s = so_far.sound y old in (s.0, omega (arith, s.1), s.2)) (λ e. (k, omega arith, subst (Is k) e is)) (Contains-push_cases xs x y c);
    complete = λ i y lt h. ⊎_elim (λ less. Contains-append_left xs (x ∷ []) y (so_far.complete i y less h)) (λ not_less. let this : i ≡ k = omega arith in subst (Contains (xs ++ x ∷ [])) (only y (subst (λ j. Is j y) this h)) (Contains-push xs x)) (cases_lt i k);
  }

-- the place of a root by its number
abbrev pub IsRootAt : Trigger → ℕ → Occurrence → Type 0
IsRootAt trigger start x = (slice_get trigger.roots start ≡ Some x.row) × (x.start ≡ start) × (x.links ≡ [])

abbrev pub root_place : ℕ → ℕ → Occurrence
root_place start row = record { start = start; row = row; links = [] }

pub root_next : (trigger : Trigger) (k row : ℕ) (xs : List Occurrence) → slice_get trigger.roots k ≡ Some row → CollectedTo (IsRootAt trigger) k xs → CollectedTo (IsRootAt trigger) (k + 1) (xs ++ root_place k row ∷ [])
root_next trigger k row xs at so_far = collected_next (IsRootAt trigger) k xs (root_place k row) (at, refl, refl)
    (λ y h. ap (λ s. record { start = s; row = row; links = [] }) (sym h.1) ∙ ap (λ r. record { start = y.start; row = r; links = [] }) (same_Some row y.row (sym at ∙ h.0)) ∙ ap (λ ls. record { start = y.start; row = y.row; links = ls }) (sym h.2)) so_far

pub roots_all : (trigger : Trigger) (k : ℕ) (xs : List Occurrence) → length trigger.roots ≤ k → CollectedTo (IsRootAt trigger) k xs → AreRoots trigger xs
roots_all trigger k xs past so_far = record {
  sound = λ x c. let s = so_far.sound x c in (subst (λ i. slice_get trigger.roots i ≡ Some x.row) (sym s.2.1) s.2.0, s.2.2);
  complete = λ start row at. let lt = slice_get_within trigger.roots start row at in so_far.complete start (root_place start row) (omega (arith, lt, past)) (at, refl, refl);
}

-- the place of a part by its number
abbrev pub IsPartAt : Occurrence → ℕ → List ℕ → ℕ → Occurrence → Type 0
IsPartAt above symbol args place x = (part : ℕ) × (slice_get args place ≡ Some part) × (x ≡ part_at above symbol place part)

pub part_next : (above : Occurrence) (symbol : ℕ) (args : List ℕ) (k part : ℕ) (x : Occurrence) (xs : List Occurrence) → slice_get args k ≡ Some part → x ≡ part_at above symbol k part → CollectedTo (IsPartAt above symbol args) k xs → CollectedTo (IsPartAt above symbol args) (k + 1) (xs ++ x ∷ [])
part_next above symbol args k part x xs at is so_far = collected_next (IsPartAt above symbol args) k xs x (part, at, is)
    (λ y h. is ∙ ap (part_at above symbol k) (same_Some part h.0 (sym at ∙ h.1)) ∙ sym h.2) so_far

pub parts_all : (above : Occurrence) (symbol : ℕ) (args : List ℕ) (k : ℕ) (xs : List Occurrence) → length args ≤ k → CollectedTo (IsPartAt above symbol args) k xs → ArePartsIn above symbol args xs
parts_all above symbol args k xs past so_far = record {
  sound = λ x c. let s = so_far.sound x c in (s.0, s.2.0, s.2.1, s.2.2);
  complete = λ x h. let lt = slice_get_within args h.0 h.1 h.2 in so_far.complete h.0 x (omega (arith, lt, past)) (h.1, h.2, h.3);
}

module _ (trigger : Trigger) (above : Occurrence) where
  pub parts_here : (symbol : ℕ) (args : List ℕ) (xs : List Occurrence) → slice_get trigger.rows above.row ≡ Some (App symbol args) → ArePartsIn above symbol args xs → AreParts trigger above xs
  parts_here symbol args xs is are = record {
    sound = λ x c. let s = are.sound x c in (symbol, args, s.0, s.1, is, s.2, s.3);
    complete = λ x h.
        let one = same_symbol trigger.rows above.row h.0 symbol h.1 args h.4 is in
        are.complete x (h.2, h.3, subst (λ ps. slice_get ps h.2 ≡ Some h.3) (same_parts trigger.rows above.row h.0 symbol h.1 args h.4 is) h.5, h.6 ∙ ap (λ f. part_at above f h.2 h.3) one);
  }

  pub parts_none : (xs : List Occurrence) → xs ≡ [] → ((symbol : ℕ) (args : List ℕ) → slice_get trigger.rows above.row ≡ Some (App symbol args) → ⊥) → AreParts trigger above xs
  parts_none xs empty none = record { sound = λ x c. absurd (omega (arith, c.1, ap length empty)); complete = λ x h. absurd (none h.0 h.1 h.4) }

-- the first places were opened
pub record Opened (trigger : Trigger) (turn : ℕ) (all : List Occurrence) : Type 0 where
  pub sound : (x : Occurrence) → Contains all x → IsOccurrence trigger x
  pub roots : (start row : ℕ) → slice_get trigger.roots start ≡ Some row → Contains all (root_place start row)
  pub opened : (j : ℕ) (x other : Occurrence) → j < turn → slice_get all j ≡ Some x → IsPartOf trigger x other → Contains all other

module _ (trigger : Trigger) where
  pub opened_none : (all : List Occurrence) → AreRoots trigger all → Opened trigger 0 all
  opened_none all are = record {
    sound = λ x c. let r = are.sound x c in record { path = []; occurs = at_root r.0; links = subst (LinksOf trigger x.start []) (sym r.1) root };
    roots = are.complete;
    opened = λ j x other lt at part. absurd (omega arith);
  }

  pub opened_next : (turn : ℕ) (x : Occurrence) (all parts : List Occurrence) → slice_get all turn ≡ Some x → AreParts trigger x parts → Opened trigger turn all → Opened trigger (turn + 1) (all ++ parts)
  opened_next turn x all parts at are so_far =
      let own = so_far.sound x (Contains-slice_get all turn x at) in
      record {
        sound = λ y c. ⊎_elim (so_far.sound y)
            (λ new.
            let p = are.sound y new in
            subst (IsOccurrence trigger) (sym p.6) (record { path = p.2 ∷ own.path; occurs = pattern.below own.occurs p.4 p.5; links = below (x.row, p.1, own.occurs, p.4) own.links }))
            (Contains-append_cases all parts y c);
        roots = λ start row h. Contains-append_left all parts (root_place start row) (so_far.roots start row h);
        opened = λ j y other lt has part.
            let within = slice_get_within all turn x at in
            let old = slice_get-front all parts j y (omega (arith, lt, within)) has in
            ⊎_elim
            (λ earlier. Contains-append_left all parts other (so_far.opened j y other earlier old part))
            (λ not_earlier. let this : j ≡ turn = omega (arith, lt, not_earlier) in
            let same : y ≡ x = same_Some y x (sym old ∙ ap (slice_get all) this ∙ at) in
            Contains-append_right all parts other (are.complete other (subst (λ (z : Occurrence). IsPartOf trigger z other) same part)))
            (cases_lt j turn);
      }

  module _ (turn : ℕ) (all : List Occurrence) (past : length all ≤ turn) (so_far : Opened trigger turn all) where
    among : {start : ℕ} {path : List ℕ} {row : ℕ} → Occurs trigger start path row → IsAmong trigger start path row all
    among {start} (at_root {row = row} is) = record { occurrence = root_place start row; is = so_far.roots start row is; start_is = refl; row_is = refl; links = root }
    among {start} (pattern.below {path = path} {parts = parts} {place = place} {row = row} {part = part} {symbol = symbol} occurs shape is_part) =
        let above = among occurs in
        let at = place_from_Contains all above.occurrence above.is in
        let lt = slice_get_within all at.0 above.occurrence at.1 in
        let shape_there : slice_get trigger.rows above.occurrence.row ≡ Some (App symbol parts) = subst (λ r. slice_get trigger.rows r ≡ Some (App symbol parts)) (sym above.row_is) shape in
        record {
          occurrence = part_at above.occurrence symbol place part;
          is = so_far.opened at.0 above.occurrence (part_at above.occurrence symbol place part) (omega (arith, lt, past)) at.1 (symbol, parts, place, part, shape_there, is_part, refl);
          start_is = above.start_is;
          row_is = refl;
          links = below (row, parts, occurs, shape) above.links;
        }

    pub opened_all : AreOccurrences trigger all
    opened_all = record { sound = so_far.sound; complete = λ start path row occurs. among occurs }
