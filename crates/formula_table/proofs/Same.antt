-- Entered nodes are the same where their keys are.
use Rattle.std.proofs.Common.{◌≡◌, ◌&&◌, nat_eq, get_or, refl, ap, ap₂, arith}
use Rattle.std.specs.Cmp.Lexicographic.{pointwise}
use Rattle.formula_draft.specs.DraftNode.{sign_of}
use Rattle.formula_draft.proofs.SameLaws.{Tells, tells_by_keys, and_true, sign_from}
use Rattle.formula_table.specs.declared.node.Node.{Node}
use Rattle.formula_table.specs.declared.node.Node.TheVariants as at
use Rattle.formula_table.specs.Node.{same_entered, entered_key}

pub entered_by_keys : (a b : Node) → pointwise nat_eq (entered_key a) (entered_key b) ≡ same_entered a b
entered_by_keys (at.Equal p s t) (at.Equal q u v) = ap (λ x. nat_eq (sign_of p) (sign_of q) && (nat_eq s u && x)) (and_true (nat_eq t v))
entered_by_keys (at.Atom p s) (at.Atom q t) = ap (λ x. nat_eq (sign_of p) (sign_of q) && x) (and_true (nat_eq s t))
entered_by_keys (at.And xs) (at.And ys) = refl
entered_by_keys (at.Or xs) (at.Or ys) = refl
entered_by_keys (at.Forall i) (at.Forall j) = and_true (nat_eq i j)
entered_by_keys a b = refl

entered_from_key : (a b : Node) → entered_key a ≡ entered_key b → a ≡ b
entered_from_key (at.Equal p s t) (at.Equal q u v) h =
    let first = sign_from p q (ap (λ k. get_or k 1 0) h) in
    let second : s ≡ u = ap (λ k. get_or k 2 0) h in
    let third : t ≡ v = ap (λ k. get_or k 3 0) h in
    cc
entered_from_key (at.Atom p s) (at.Atom q t) h = ap₂ at.Atom (sign_from p q (ap (λ k. get_or k 1 0) h)) (ap (λ k. get_or k 2 0) h)
entered_from_key (at.And xs) (at.And ys) h = let same : xs ≡ ys = cc in ap at.And same
entered_from_key (at.Or xs) (at.Or ys) h = let same : xs ≡ ys = cc in ap at.Or same
entered_from_key (at.Forall i) (at.Forall j) h = ap at.Forall (ap (λ k. get_or k 1 0) h)
entered_from_key a b h = let kinds : get_or (entered_key a) 0 0 ≡ get_or (entered_key b) 0 0 = ap (λ k. get_or k 0 0) h in absurd (omega arith)

pub entered_told : Tells same_entered
entered_told = tells_by_keys entered_key same_entered entered_by_keys entered_from_key
