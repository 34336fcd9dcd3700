-- What one operation more does to the terms, the equations and the labels.
use Rattle.std.proofs.Common.{◌≡◌, ℕ, ◌+◌, ◌<◌, ◌≤◌, ◌^◌, List, [], ◌∷◌, ◌++◌, length, take, drop, append-nil, refl, sym, ap, subst, ◌∙◌, Bool, cond, arith}
use Rattle.std.specs.List.{filter_map}
use Rattle.std.proofs.lemmas.List.{length-append, length-take, take-append-le, take_all, take-append-drop}
use Rattle.std.proofs.lemmas.List.Sums.{sum_by-append}
use Rattle.graph_plain.specs.Operations.{AllowsOpRow, levels_opened}
use Rattle.graph_meaning.specs.Same.{Derives, same_term}
use Rattle.std.proofs.lemmas.List.Elements.{filter_map-append}
use Rattle.graph_terms.specs.declared.term_row.TermRow.{TermRow}
use Rattle.graph_meaning.specs.declared.done.Done.{Done}
use Rattle.graph_meaning.specs.declared.op.Op.{Op}
use Rattle.graph_meaning.specs.declared.op.Op.TheVariants.{Add, Merge, Differ, Live, Push, Pop}
use Rattle.graph_terms.specs.Terms.{term_row, first_rows}
use Rattle.graph_meaning.specs.Standing.{added_row, is_push, levels_of, terms_of, merges_of, rows_added, merges_added}
use Rattle.graph_plain.specs.Labels.{labels_added}
use Rattle.graph_plain.specs.Labels.{AreOwn, label_of, AreSound, AreMerged, AreCongruent}
use Rattle.graph_meaning.specs.Lawful.{EndsBelow}
use Rattle.graph_meaning.specs.Lawful.{Allows, IsLawful}
use Rattle.graph_plain.specs.PlainInside.{AreKept}
use Rattle.graph_meaning.proofs.LawfulLaws.{terms_of-push, merges_of-push, IsLawful-first, IsLawful-take, IsLawful-push}
use Rattle.graph_plain.proofs.SameLemmas.{AreSound-merges, AreSound-row}

module _ (rows : List TermRow) (merges : List (ℕ × ℕ)) (labels : List ℕ) where
  -- where nothing comes
  unchanged : AreSound rows merges labels → AreSound (rows ++ []) (merges ++ []) (labels ++ [])
  unchanged sound =
      subst (λ r. AreSound r (merges ++ []) (labels ++ [])) (sym (append-nil rows))
      (subst (λ m. AreSound rows m (labels ++ [])) (sym (append-nil merges)) (subst (AreSound rows merges) (sym (append-nil labels)) sound))

  -- labels stay sound
  pub AreSound-after : (op : Op) → AreSound rows merges labels → AreSound (rows ++ rows_added op) (merges ++ merges_added op) (labels ++ labels_added (length rows) op)
  AreSound-after (Add symbol args) sound = subst (λ m. AreSound (rows ++ term_row symbol args ∷ []) m (labels ++ length rows ∷ [])) (sym (append-nil merges)) (AreSound-row rows (term_row symbol args) merges labels sound)
  AreSound-after (Merge left right) sound =
      subst (λ r. AreSound r (merges ++ (left, right) ∷ []) (labels ++ [])) (sym (append-nil rows))
      (subst (AreSound rows (merges ++ (left, right) ∷ [])) (sym (append-nil labels)) (AreSound-merges rows merges ((left, right) ∷ []) labels sound))
  AreSound-after (Differ left right) sound = unchanged sound
  AreSound-after (Live trigger) sound = unchanged sound
  AreSound-after Push sound = unchanged sound
  AreSound-after Pop sound = unchanged sound

-- what is kept, before the labels are closed
module _ (rows new_rows : List TermRow) (standing new_standing : List Done) (labels new_labels : List ℕ) (serial : ℕ) (op : Op) (kept : AreKept rows standing labels) (allowed : Allows standing op)
    (rows_are : new_rows ≡ rows ++ rows_added op) (standing_is : new_standing ≡ standing ++ record { serial = serial; op = op } ∷ []) (labels_are : new_labels ≡ labels ++ labels_added (length rows) op) where
  terms_are : terms_of new_standing ≡ terms_of standing ++ rows_added op
  terms_are = ap terms_of standing_is ∙ terms_of-push standing serial op

  merges_are : merges_of new_standing ≡ merges_of standing ++ merges_added op
  merges_are = ap merges_of standing_is ∙ merges_of-push standing serial op

  pub rows_are_terms : new_rows ≡ terms_of new_standing
  rows_are_terms = rows_are ∙ ap (λ r. r ++ rows_added op) kept.terms ∙ sym terms_are

  pub lawful_after : IsLawful new_standing
  lawful_after = subst IsLawful (sym standing_is) (IsLawful-push standing serial op kept.lawful allowed)

  pub sound_after : AreSound (terms_of new_standing) (merges_of new_standing) new_labels
  sound_after =
      subst (λ r. AreSound r (merges_of new_standing) new_labels) (sym terms_are)
      (subst (λ m. AreSound (terms_of standing ++ rows_added op) m new_labels) (sym merges_are)
      (subst (AreSound (terms_of standing ++ rows_added op) (merges_of standing ++ merges_added op)) (ap (λ r. labels ++ labels_added (length r) op) (sym kept.terms) ∙ sym labels_are)
      (AreSound-after (terms_of standing) (merges_of standing) labels op kept.sound)))

  -- what `close` requires, over the table's rows
  pub ends_before_close : EndsBelow (merges_of new_standing) (length new_rows)
  ends_before_close = subst (λ r. EndsBelow (merges_of new_standing) (length r)) (sym rows_are_terms) lawful_after.whole.ends

  pub sound_before_close : AreSound new_rows (merges_of new_standing) new_labels
  sound_before_close = subst (λ r. AreSound r (merges_of new_standing) new_labels) (sym rows_are_terms) sound_after

  -- and what is kept when it has closed them
  pub AreKept-after : (closed : List ℕ) → AreSound new_rows (merges_of new_standing) closed → AreMerged (merges_of new_standing) closed → AreCongruent new_rows closed → length new_standing < 2 ^ 32 → AreKept new_rows new_standing closed
  AreKept-after closed sound merged congruent few = record {
    lawful = lawful_after;
    terms = rows_are_terms;
    sound = subst (λ r. AreSound r (merges_of new_standing) closed) rows_are_terms sound;
    merged = merged;
    congruent = subst (λ r. AreCongruent r closed) rows_are_terms congruent;
    few = few;
  }

-- what the last operation of a list added
pub length-terms_of-push : (standing longer : List Done) (done : Done) → longer ≡ standing ++ done ∷ [] → length (terms_of longer) ≡ length (terms_of standing) + length (rows_added done.op)
length-terms_of-push standing longer done is = ap (λ s. length (terms_of s)) is ∙ ap length (terms_of-push standing done.serial done.op) ∙ length-append (terms_of standing) (rows_added done.op)

-- labels that are the terms' own numbers are sound
pub AreSound-own : (rows : List TermRow) (merges : List (ℕ × ℕ)) (labels : List ℕ) → length labels ≡ length rows → AreOwn labels → AreSound rows merges labels
AreSound-own rows merges labels len own = record {
  each_term = len;
  derived = λ term h. subst (λ l. Derives rows merges l term) (sym (own term (omega arith))) (same_term h);
  no_later = λ term h. let is = own term (omega arith) in omega arith;
  own = λ term h. ap (label_of labels) (own term (omega arith));
}

-- where a front of the list stays
module _ (rows : List TermRow) (standing : List Done) (labels : List ℕ) (kept : AreKept rows standing labels) (n : ℕ) (left : List Done) (left_is : left ≡ take n standing) where
  all_terms : terms_of standing ≡ terms_of left ++ filter_map added_row (drop n standing)
  all_terms =
      ap terms_of (sym (take-append-drop n standing)) ∙ ap (λ r. first_rows ++ r) (filter_map-append added_row (take n standing) (drop n standing))
      ∙ ap (λ s. terms_of s ++ filter_map added_row (drop n standing)) (sym left_is)

  pub fewer_terms : length (terms_of left) ≤ length rows
  fewer_terms = omega (arith, ap length kept.terms, ap length all_terms, length-append (terms_of left) (filter_map added_row (drop n standing)))

  pub terms_left : take (length (terms_of left)) rows ≡ terms_of left
  terms_left =
      ap (take (length (terms_of left))) (kept.terms ∙ all_terms) ∙ take-append-le (length (terms_of left)) (terms_of left) (filter_map added_row (drop n standing)) (omega arith)
      ∙ take_all (length (terms_of left)) (terms_of left) (omega arith)

  pub lawful_left : IsLawful left
  lawful_left = subst IsLawful (sym left_is) (IsLawful-take n standing kept.lawful)

  pub AreKept-left : (new_rows : List TermRow) (closed : List ℕ) → new_rows ≡ terms_of left → AreSound new_rows (merges_of left) closed → AreMerged (merges_of left) closed → AreCongruent new_rows closed → AreKept new_rows left closed
  AreKept-left new_rows closed rows_are sound merged congruent = record {
    lawful = lawful_left;
    terms = rows_are;
    sound = subst (λ r. AreSound r (merges_of left) closed) rows_are sound;
    merged = merged;
    congruent = subst (λ r. AreCongruent r closed) rows_are congruent;
    few = omega (arith, ap length left_is, length-take n standing, kept.few);
  }

-- what is kept at first
pub AreKept-first : (rows : List TermRow) (labels : List ℕ) → rows ≡ first_rows → AreSound rows [] labels → AreMerged [] labels → AreCongruent rows labels → AreKept rows [] labels
AreKept-first rows labels is sound merged congruent = record {
  lawful = IsLawful-first;
  terms = is;
  sound = subst (λ r. AreSound r [] labels) is sound;
  merged = merged;
  congruent = subst (λ r. AreCongruent r labels) is congruent;
  few = omega arith;
}

-- how many levels are open after one operation more
pub levels_of-push : (standing longer : List Done) (done : Done) → longer ≡ standing ++ done ∷ [] → levels_of longer ≡ levels_of standing + levels_opened done.op
levels_of-push standing longer done is = ap levels_of is ∙ sum_by-append (λ d. cond (is_push d) 1 0) standing (done ∷ []) ∙ ap (λ n. levels_of standing + n) (each done.op)
  where
    each : (op : Op) → levels_of (record { serial = done.serial; op = op } ∷ []) ≡ levels_opened op
    each (Add symbol args) = refl
    each (Merge left right) = refl
    each (Differ left right) = refl
    each (Live trigger) = refl
    each Push = refl
    each Pop = refl

-- an operation opens at most one level
pub levels_opened-few : (op : Op) → levels_opened op ≤ 1
levels_opened-few (Add symbol args) = omega arith
levels_opened-few (Merge left right) = omega arith
levels_opened-few (Differ left right) = omega arith
levels_opened-few (Live trigger) = omega arith
levels_opened-few Push = omega arith
levels_opened-few Pop = omega arith

-- an operation that opens a level opens one
pub levels_opened-push : (done : Done) (b : Bool) → is_push done ≡ b → levels_opened done.op ≡ cond b 1 0
levels_opened-push done b is = each done.op ∙ ap (λ c. cond c 1 0) is
  where
    each : (op : Op) → levels_opened op ≡ cond (is_push (record { serial = done.serial; op = op })) 1 0
    each (Add symbol args) = refl
    each (Merge left right) = refl
    each (Differ left right) = refl
    each (Live trigger) = refl
    each Push = refl
    each Pop = refl

-- the row that an allowed operation adds
pub AllowsOpRow-allowed : (standing : List Done) (op : Op) → Allows standing op → AllowsOpRow (terms_of standing) op
AllowsOpRow-allowed standing (Add symbol args) allowed = allowed
AllowsOpRow-allowed standing (Merge left right) allowed = tt
AllowsOpRow-allowed standing (Differ left right) allowed = tt
AllowsOpRow-allowed standing (Live trigger) allowed = tt
AllowsOpRow-allowed standing Push allowed = tt
AllowsOpRow-allowed standing Pop allowed = tt
