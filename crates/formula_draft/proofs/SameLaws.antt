-- Rows and nodes are the same where their keys are.
use Rattle.std.proofs.Common.{◌≡◌, ℕ, zero, suc, ◌+◌, Bool, true, false, cond, ◌&&◌}
use Rattle.std.proofs.Common.{nat_eq, List, [], ◌∷◌, ◌++◌, get_or, slice_get, Some, None, refl}
use Rattle.std.proofs.Common.{sym, ap, ap₂, subst, ◌∙◌, ⊎_elim, arith, true≢false}
use Rattle.std.specs.List.{position_from}
use Rattle.std.specs.Cmp.Lexicographic.{pointwise, bytes_decides}
use Rattle.std.proofs.lemmas.Option.{none-some, same_Some}
use Rattle.graph_terms.proofs.ListLaws.{push_cases}
use Rattle.formula_draft.specs.declared.draft_row.DraftRow.{DraftRow}
use Rattle.formula_draft.specs.declared.draft_row.DraftRow.TheVariants.{Var, App}
use Rattle.formula_draft.specs.declared.draft_node.DraftNode.{DraftNode}
use Rattle.formula_draft.specs.declared.draft_node.DraftNode.TheVariants.{Equal, Atom, And, Or, Forall}
use Rattle.formula_draft.specs.DraftRow.{same_row, row_key}
use Rattle.formula_draft.specs.DraftNode.{same_node, node_key, sign_of}

pub and_true : (b : Bool) → (b && true) ≡ b
and_true true = refl
and_true false = refl

pub row_by_keys : (a b : DraftRow) → pointwise nat_eq (row_key a) (row_key b) ≡ same_row a b
row_by_keys (Var i) (Var j) = and_true (nat_eq i j)
row_by_keys (Var i) (App g ys) = refl
row_by_keys (App f xs) (Var j) = refl
row_by_keys (App f xs) (App g ys) = refl

nought : (n : ℕ) → n ≡ suc n → ⊥
nought n h = omega arith

row_from_key : (a b : DraftRow) → row_key a ≡ row_key b → a ≡ b
row_from_key (Var i) (Var j) h = ap Var (ap (λ k. get_or k 1 0) h)
row_from_key (App f xs) (App g ys) h = let first : f ≡ g = cc in let second : xs ≡ ys = cc in ap₂ App first second
row_from_key (Var i) (App g ys) h = absurd (nought 0 (ap (λ k. get_or k 0 0) h))
row_from_key (App f xs) (Var j) h = absurd (nought 0 (sym (ap (λ k. get_or k 0 0) h)))

pub node_by_keys : (a b : DraftNode) → pointwise nat_eq (node_key a) (node_key b) ≡ same_node a b
node_by_keys (Equal p s t) (Equal q u v) = ap (λ x. nat_eq (sign_of p) (sign_of q) && (nat_eq s u && x))
    (and_true (nat_eq t v))
node_by_keys (Atom p s) (Atom q t) = ap (λ x. nat_eq (sign_of p) (sign_of q) && x) (and_true (nat_eq s t))
node_by_keys (And xs) (And ys) = refl
node_by_keys (Or xs) (Or ys) = refl
node_by_keys (Forall i) (Forall j) = and_true (nat_eq i j)
node_by_keys a b = refl

pub sign_from : (p q : Bool) → sign_of p ≡ sign_of q → p ≡ q
sign_from true true h = refl
sign_from false false h = refl
sign_from true false h = absurd (omega arith)
sign_from false true h = absurd (omega arith)

node_from_key : (a b : DraftNode) → node_key a ≡ node_key b → a ≡ b
node_from_key (Equal p s t) (Equal q u v) h =
    let first = sign_from p q (ap (λ k. get_or k 1 0) h) in
    let second : s ≡ u = ap (λ k. get_or k 2 0) h in
    let third : t ≡ v = ap (λ k. get_or k 3 0) h in
    cc
node_from_key (Atom p s) (Atom q t) h = ap₂ Atom (sign_from p q (ap (λ k. get_or k 1 0) h)) (ap (λ k. get_or k 2 0) h)
node_from_key (And xs) (And ys) h = let same : xs ≡ ys = cc in ap And same
node_from_key (Or xs) (Or ys) h = let same : xs ≡ ys = cc in ap Or same
node_from_key (Forall i) (Forall j) h = ap Forall (ap (λ k. get_or k 1 0) h)
node_from_key a b h = let kinds : get_or (node_key a) 0 0 ≡ get_or (node_key b) 0 0 = ap (λ k. get_or k 0 0) h in
    absurd (omega arith)

-- a test tells equality
pub record Tells {X : Type 0} (same : X → X → Bool) : Type 0 where
  pub equal : (a b : X) → same a b ≡ true → a ≡ b
  pub itself : (a : X) → same a a ≡ true

pub tells_by_keys : {X : Type 0} (key : X → List ℕ) (same : X → X → Bool) →
    ((a b : X) → pointwise nat_eq (key a) (key b) ≡ same a b) → ((a b : X) → key a ≡ key b → a ≡ b) → Tells same
tells_by_keys key same by_keys from_key = record {
  equal = λ a b h. from_key a b ((bytes_decides (key a) (key b)).0 (by_keys a b ∙ h));
  itself = λ a. sym (by_keys a a) ∙ (bytes_decides (key a) (key a)).1 refl;
}

pub rows_told : Tells same_row
rows_told = tells_by_keys row_key same_row row_by_keys row_from_key

pub nodes_told : Tells same_node
nodes_told = tells_by_keys node_key same_node node_by_keys node_from_key

module _ {X : Type 0} (same : X → X → Bool) (told : Tells same) (new : X) where
  found : (items : List X) (j n : ℕ) → position_from (same new) j items ≡ Some n → (k : ℕ) × (n ≡ j + k) ×
      (slice_get items k ≡ Some new)
  found [] j n h = absurd (none-some n h)
  found (x ∷ items) j n h = by (found items (j + 1) n) (same new x) refl
    where
      by : (position_from (same new) (j + 1) items ≡ Some n → (k : ℕ) × (n ≡ (j + 1) + k) ×
          (slice_get items k ≡ Some new)) → (b : Bool) → same new x ≡ b → (k : ℕ) × (n ≡ j + k) ×
          (slice_get (x ∷ items) k ≡ Some new)
      by more true is = (
        0,
        sym (same_Some j n (ap (λ b. cond b (Some j) (position_from (same new) (j + 1) items))
            (sym is) ∙ h)) ∙ omega arith,
        ap Some (sym (told.equal new x is)),
      )
      by more false is =
          let rest = more (ap (λ b. cond b (Some j) (position_from (same new) (j + 1) items)) (sym is) ∙ h) in
          (suc rest.0, omega (arith, rest.1), rest.2)

  -- what is found stands there
  pub found_at : (items : List X) (n : ℕ) → position_from (same new) 0 items ≡ Some n → slice_get items n ≡ Some new
  found_at items n h = let here = found items 0 n h in let place : here.0 ≡ n = omega (arith, here.1) in
      subst (λ k. slice_get items k ≡ Some new) place here.2

  not_found : (items : List X) (j : ℕ) → position_from (same new) j items ≡ None → (n : ℕ) →
      slice_get items n ≡ Some new → ⊥
  not_found [] j h n at = none-some new at
  not_found (x ∷ items) j h n at = by (not_found items (j + 1)) (same new x) refl n at
    where
      by : (position_from (same new) (j + 1) items ≡ None → (n : ℕ) → slice_get items n ≡ Some new → ⊥) → (b : Bool) →
          same new x ≡ b → (n : ℕ) → slice_get (x ∷ items) n ≡ Some new → ⊥
      by more true is n at = none-some j (sym h ∙ ap (λ b. cond b (Some j) (position_from (same new) (j + 1) items))
          is)
      by more false is zero at = true≢false (sym (told.itself new) ∙ ap (same new) (sym (same_Some x new at)) ∙ is)
      by more false is (suc n) at = more (ap (λ b. cond b (Some j) (position_from (same new) (j + 1) items)) (sym is)
          ∙ h) n at

  -- what isn't found stands nowhere
  pub absent : (items : List X) → position_from (same new) 0 items ≡ None → (n : ℕ) → slice_get items n ≡ Some new → ⊥
  absent items = not_found items 0

  -- with a new item at the end, none stands twice
  pub once-push : (items : List X) → position_from (same new) 0 items ≡ None →
      ((m n : ℕ) (x : X) → slice_get items m ≡ Some x → slice_get items n ≡ Some x → m ≡ n) → (m n : ℕ) (x : X) →
      slice_get (items ++ new ∷ []) m ≡ Some x → slice_get (items ++ new ∷ []) n ≡ Some x → m ≡ n
  once-push items h once m n x at_m at_n =
      ⊎_elim (λ old. ⊎_elim (once m n x old) (λ p. absurd (absent items h m (old ∙ ap Some p.1)))
      (push_cases items new n x at_n))
      (λ fresh. ⊎_elim (λ old. absurd (absent items h n (old ∙ ap Some fresh.1))) (λ p. fresh.0 ∙ sym p.0)
      (push_cases items new n x at_n))
      (push_cases items new m x at_m)
