-- What it is for a graph that only terms came.
use Rattle.std.specs.Prelude.{◌≡◌, ℕ, ◌<◌, ◌++◌, ◌↔◌, List, length, map}
use Rattle.graph_terms.specs.declared.term_row.TermRow.{TermRow}
use Rattle.graph_meaning.specs.declared.done.Done.{Done}
use Rattle.graph_meaning.specs.declared.op.Op.{Op}
use Rattle.graph_meaning.specs.declared.op.Op.TheVariants.{Add}
use Rattle.graph_meaning.specs.Standing.{terms_of, merges_of, differs_of}
use Rattle.graph_meaning.specs.Same.{Same}
use Rattle.graph_meaning.specs.Lawful.{IsLawful}
use Rattle.graph_meaning.specs.State.{GraphState, replay}

-- the terms that stood are the first ones that stand now, and the equations and the disequations are those that stood
pub record OnlyTermsCame (before now : List Done) : Type 0 where
  pub more : List TermRow
  pub terms : terms_of now ≡ terms_of before ++ more
  pub merges : merges_of now ≡ merges_of before
  pub differs : differs_of now ≡ differs_of before
  pub was_lawful : IsLawful before
  pub is_lawful : IsLawful now

-- terms that stood are equal where only terms came just where they were before
abbrev pub TermsKeepClasses : Type 0
TermsKeepClasses =
    (before now : List Done) → OnlyTermsCame before now → (s t : ℕ) →
    s < length (terms_of before) → t < length (terms_of before) → Same now s t ↔ Same before s t

-- the operation that adds a row
abbrev pub row_added : TermRow → Op
row_added row = Add row.symbol row.args

-- only terms come where operations add rows
abbrev pub AddsAreTerms : Type 0
AddsAreTerms =
    (state : GraphState) (rows : List TermRow) → IsLawful state.standing →
    IsLawful (replay state (map row_added rows)).standing →
    OnlyTermsCame state.standing (replay state (map row_added rows)).standing
