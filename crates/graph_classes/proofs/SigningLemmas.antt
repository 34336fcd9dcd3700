use Rattle.std.proofs.Common.{◌≡◌, ◌<◌, inl, inr, ℕ, List, [], ◌∷◌, ◌++◌, length, Some, None, Result, Ok, Err, is_ok, is_err, false, OnOk, OnErr, IfOk, slice_get, ap, if◌then◌else◌}
use Rattle.graph_terms.specs.declared.term_row.TermRow.{TermRow}
use Rattle.graph_classes.specs.Closure.{signature, found}
use Rattle.graph_classes.specs.State.{State}
use Rattle.graph_classes.specs.Indexed.{IsSignable, IsClosing}
use Rattle.graph_meaning.specs.Lawful.{EndsBelow}
use Rattle.graph_classes.proofs.Elements.{contains_found, contains_push_cases}
use Rattle.graph_classes.proofs.SignLemmas.{IsSound-found, IsComplete-found, IsSound-new, IsComplete-new}

pub on_ok : {X E : Type 0} {P Q : Type 0} (r : Result X E) → (P → Q) → OnOk r P → OnOk r Q
on_ok (Ok x) f p = f p
on_ok (Err e) f p = tt

pub if_ok : {X E : Type 0} (P Q : X → Type 0) (r : Result X E) → ((x : X) → P x → Q x) → IfOk r P → IfOk r Q
if_ok P Q (Ok x) f p = f x p
if_ok P Q (Err e) f p = tt

pub on_both : {X E : Type 0} (P Q : Type 0) (r : Result X E) → OnOk r P → OnOk r Q → OnOk r (P × Q)
on_both P Q (Ok x) p q = (p, q)
on_both P Q (Err e) p q = tt

pub on_err : {X E : Type 0} {P Q : Type 0} (r : Result X E) → (P → Q) → OnErr r P → OnErr r Q
on_err (Ok x) f p = tt
on_err (Err e) f p = f p

pub pushed_items : {A X E : Type 0} (r : Result X E) (new pushed otherwise : List A) → is_err r ≡ false → new ≡ (if is_ok r then pushed else otherwise) → new ≡ pushed
pushed_items (Ok x) new pushed otherwise ok e = e
pushed_items (Err x) new pushed otherwise ok e = cc

pub EndsBelow-push : (n : ℕ) (pairs : List (ℕ × ℕ)) (u v : ℕ) → EndsBelow pairs n → u < n → v < n → EndsBelow (pairs ++ (u, v) ∷ []) n
EndsBelow-push n pairs u v below hu hv a b c = elim (contains_push_cases pairs (u, v) (a, b) c) [
  | inl earlier ↦ below a b earlier
  | inr last ↦ (rw (ap (λ (p : ℕ × ℕ). p.0) last) hu, rw (ap (λ (p : ℕ × ℕ). p.1) last) hv)
]

module _ (s : State) (pending : List (ℕ × ℕ)) (u : ℕ) (row : TermRow) (signable : IsSignable s) (is_row : slice_get s.rows u ≡ Some row) where
  pub found_in : (v : ℕ) → found s.table (signature s.labels row) ≡ Some v → v < length s.rows
  found_in v is_found = signable.entry_in (signature s.labels row) v (contains_found s.table (signature s.labels row) v is_found)

  pub IsClosing-found : (v : ℕ) → found s.table (signature s.labels row) ≡ Some v → (merges : List (ℕ × ℕ)) (rest : List ℕ) → IsClosing merges s pending (u ∷ rest) → IsClosing merges s (pending ++ (u, v) ∷ []) rest
  IsClosing-found v is_found merges rest closing = record {
    sound = IsSound-found s.rows merges s.labels s.table pending u row is_row v closing.sound (λ x c. signable.args_in u row x is_row c) is_found;
    complete = IsComplete-found s.rows merges s.labels s.table pending u row is_row v rest closing.complete is_found;
  }

  pub IsClosing-new : found s.table (signature s.labels row) ≡ None → (merges : List (ℕ × ℕ)) (rest : List ℕ) → IsClosing merges s pending (u ∷ rest) → IsClosing merges (record s { table = s.table ++ (signature s.labels row, u) ∷ [] }) pending rest
  IsClosing-new none merges rest closing = record {
    sound = IsSound-new s.rows merges s.labels s.table pending u row is_row closing.sound (λ x c. signable.args_in u row x is_row c);
    complete = IsComplete-new s.rows merges s.labels s.table pending u row is_row rest closing.complete none;
  }

  pub IsSignable-new : u < length s.rows → IsSignable (record s { table = s.table ++ (signature s.labels row, u) ∷ [] })
  IsSignable-new h = record {
    labels_len = signable.labels_len;
    args_in = signable.args_in;
    entry_in = λ key term c. elim (contains_push_cases s.table (signature s.labels row, u) (key, term) c) [
      | inl earlier ↦ signable.entry_in key term earlier
      | inr last ↦ rw (ap (λ (p : List ℕ × ℕ). p.1) last) h
    ];
  }
