-- Lists to which only terms came.
use Rattle.std.proofs.Common.{◌≡◌, ◌<◌, ◌↔◌, ℕ, Option, List, [], ◌∷◌, ◌++◌, length, map, refl, sym, ◌∙◌, ap, subst, append-nil, append_assoc}
use Rattle.std.specs.List.{filter_map}
use Rattle.std.proofs.lemmas.List.Elements.{filter_map-append}
use Rattle.graph_terms.specs.declared.term_row.TermRow.{TermRow}
use Rattle.graph_terms.specs.Terms.{first_rows}
use Rattle.graph_meaning.specs.declared.done.Done.{Done}
use Rattle.graph_meaning.specs.Standing.{terms_of, merges_of, differs_of, added_row, merged_ends, different_ends}
use Rattle.graph_meaning.specs.Same.{Derives, Same}
use Rattle.graph_meaning.specs.Lawful.{IsLawful, EndsBelow}
use Rattle.graph_meaning.specs.State.{GraphState, replay, state_after}
use Rattle.search_watch.specs.Grown.{OnlyTermsCame, row_added}
use Rattle.search_watch.proofs.ConserveLemmas.{AreEarlier, still, conserves}

module _ (before now : List Done) (came : OnlyTermsCame before now) where
  pub was_before : (s t : ℕ) → s < length (terms_of before) → t < length (terms_of before) → Same now s t → Same before s t
  was_before s t lt lt' d =
      let rows = subst (λ (rs : List TermRow). Derives rs (merges_of now) s t) came.terms d in
      let both = subst (λ (ms : List (ℕ × ℕ)). Derives (terms_of before ++ came.more) ms s t) came.merges rows in
      conserves (terms_of before) came.more (merges_of before) came.was_lawful.whole.ends
      (subst AreEarlier came.terms came.is_lawful.whole.table.earlier) lt lt' both

  pub is_now : (s t : ℕ) → Same before s t → Same now s t
  is_now s t d =
      let more = still (terms_of before) came.more (merges_of before) d in
      let rows = subst (λ (rs : List TermRow). Derives rs (merges_of before) s t) (sym came.terms) more in
      subst (λ (ms : List (ℕ × ℕ)). Derives (terms_of now) ms s t) (sym came.merges) rows

-- ---- operations that add rows

none_more : {A : Type 0} (read : Done → Option A) (standing : List Done) (done : Done) → filter_map read (done ∷ []) ≡ [] → filter_map read (standing ++ done ∷ []) ≡ filter_map read standing
none_more read standing done e = filter_map-append read standing (done ∷ []) ∙ ap (λ xs. filter_map read standing ++ xs) e ∙ append-nil (filter_map read standing)

pub adds_merges : (state : GraphState) (rows : List TermRow) → merges_of (replay state (map row_added rows)).standing ≡ merges_of state.standing
adds_merges state [] = refl
adds_merges state (row ∷ rows) =
    adds_merges (state_after state (row_added row)) rows ∙ none_more merged_ends state.standing (record { serial = state.done; op = row_added row }) refl

pub adds_differs : (state : GraphState) (rows : List TermRow) → differs_of (replay state (map row_added rows)).standing ≡ differs_of state.standing
adds_differs state [] = refl
adds_differs state (row ∷ rows) =
    adds_differs (state_after state (row_added row)) rows ∙ none_more different_ends state.standing (record { serial = state.done; op = row_added row }) refl

terms_more : (state : GraphState) (row : TermRow) → terms_of (state_after state (row_added row)).standing ≡ terms_of state.standing ++ row ∷ []
terms_more state row =
    let done : Done = record { serial = state.done; op = row_added row } in
    ap (λ (rows : List TermRow). first_rows ++ rows) (filter_map-append added_row state.standing (done ∷ []))

pub adds_terms : (state : GraphState) (rows : List TermRow) → terms_of (replay state (map row_added rows)).standing ≡ terms_of state.standing ++ rows
adds_terms state [] = sym (append-nil (terms_of state.standing))
adds_terms state (row ∷ rows) =
    adds_terms (state_after state (row_added row)) rows
    ∙ ap (λ (terms : List TermRow). terms ++ rows) (terms_more state row)
    ∙ append_assoc (terms_of state.standing) (row ∷ []) rows

pub only_terms : (state : GraphState) (rows : List TermRow) → IsLawful state.standing → IsLawful (replay state (map row_added rows)).standing → OnlyTermsCame state.standing (replay state (map row_added rows)).standing
only_terms state rows was is = record {
  more = rows;
  terms = adds_terms state rows;
  merges = adds_merges state rows;
  differs = adds_differs state rows;
  was_lawful = was;
  is_lawful = is;
}
