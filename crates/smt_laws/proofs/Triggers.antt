-- A trigger is made of the rows that its roots reach.
use Rattle.std.proofs.Common.{◌≡◌, ℕ, ◌<◌, List, length, get_or, slice_get, Some, All, Contains, refl, arith, ◌∙◌, ap}
use Rattle.std.proofs.lemmas.Option.{slice_get_within}
use Rattle.graph_terms.proofs.ListLaws.{All-slice_get, Contains-slice_get, place_from_Contains}
use Rattle.graph_trigger.specs.declared.pattern_row.PatternRow.{PatternRow}
use Rattle.formula_draft.specs.declared.draft_row.DraftRow.{DraftRow}
use Rattle.formula_draft.specs.declared.draft_row.DraftRow.TheVariants.{Var, App}
use Rattle.formula_draft.specs.DraftRow.{args_of}
use Rattle.formula_draft.specs.Draft.{FitsRow}
use Rattle.smt_patterns.specs.Patterns.{Kept, kept_of, renumbered, reached_from}
use Rattle.smt_laws.specs.Triggers.{IsReached, with_numbers, IsTriggerOf, MakesTriggers}
use Rattle.smt_laws.proofs.Marks.{Marked, From, root, part, roots_marked, args_marked, marked_reached}
use Rattle.smt_laws.proofs.Keeping.{KeptSo, kept_rows}

-- a row with its new numbers
renumbered_so : (numbers : List ℕ) (row : DraftRow) → renumbered numbers row ≡ with_numbers (λ n. get_or numbers n 0) row
renumbered_so numbers (Var index) = refl
renumbered_so numbers (App symbol args) = refl

module _ (rows : List DraftRow) (roots : List ℕ) (fit : (n : ℕ) (row : DraftRow) → slice_get rows n ≡ Some row → FitsRow n row) (stand : All (λ root. root < length rows) roots) where
  -- what is marked is reached
  reached_of : {row : ℕ} → From rows roots row → IsReached rows roots row
  reached_of (root {r = r} start at) = IsReached.root (Contains-slice_get roots start r at)
  reached_of (part {i = i} {a = a} {args = args} symbol place from at arg) = IsReached.argument (reached_of from) at (Contains-slice_get args place a arg)

  -- and what is reached is marked
  marked_of : {row : ℕ} → IsReached rows roots row → Marked (reached_from rows roots) row
  marked_of (IsReached.root {row = row} is) =
      let here = place_from_Contains roots row is in
      roots_marked rows fit roots here.0 row here.1 (All-slice_get (λ r. r < length rows) roots here.0 row stand here.1)
  marked_of (IsReached.argument {row = row} {arg = arg} {at = at} is stands has) =
      let here = place_from_Contains (args_of at) arg has in
      args_marked rows fit roots row at stands (marked_of is) here.0 arg here.1

  so : KeptSo rows fit (reached_from rows roots) (length rows) (kept_of rows roots)
  so = kept_rows rows fit (reached_from rows roots)

  -- a row that is reached stands
  stands_of : {row : ℕ} → IsReached rows roots row → row < length rows
  stands_of (IsReached.root {row = row} is) = let here = place_from_Contains roots row is in All-slice_get (λ r. r < length rows) roots here.0 row stand here.1
  stands_of (IsReached.argument {row = row} {arg = arg} {at = at} is stands has) =
      let here = place_from_Contains (args_of at) arg has in
      let below : arg < row = All-slice_get (λ x. x < row) (args_of at) here.0 arg (fit row at stands).args here.1 in
      let within : row < length rows = slice_get_within rows row at stands in
      omega arith

pub makes_triggers : MakesTriggers
makes_triggers variables rows roots fit stand =
    let kept = kept_of rows roots in
    let is = so rows roots fit stand in
    record {
      variables_are = refl;
      number = λ n. get_or kept.numbers n 0;
      rising = λ row other first second less. is.rising row other less (stands_of rows roots fit stand second) (marked_of rows roots fit stand first) (marked_of rows roots fit stand second);
      standing = λ row at reached stands. is.placed row at (stands_of rows roots fit stand reached) stands (marked_of rows roots fit stand reached) ∙ ap Some (renumbered_so kept.numbers at);
      only = λ place within. let o = is.origin place within in (o.0, reached_of rows roots fit stand (marked_reached rows fit roots o.0 o.2), o.3);
      roots_are = refl;
    }
