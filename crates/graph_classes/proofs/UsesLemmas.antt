use Rattle.std.proofs.Common.{◌≡◌, ◌<◌, ◌+◌, ℕ, List, [], ◌∷◌, ◌++◌, length, drop, slice_index, slice_set, sym, ◌∙◌, ap, subst, arith}
use Rattle.std.proofs.lemmas.Grind.{common_steps}
use Rattle.graph_classes.specs.State.{State, list_at}
use Rattle.graph_classes.specs.Indexed.{IsSignable, HasUsesMoved, IsClosing}
use Rattle.graph_classes.proofs.MoveLemmas.{one_more_at}

-- the uses play no part in what signing needs and does
pub IsSignable-uses : (s mid : State) (uses : List (List ℕ)) → mid ≡ record s { uses = uses } → IsSignable s → IsSignable mid
IsSignable-uses s mid uses e signable =
    let P : State → Type 0 = λ m. IsSignable m in
    subst P (sym e) (record { labels_len = signable.labels_len; args_in = signable.args_in; entry_in = signable.entry_in })

pub IsClosing-uses : (merges : List (ℕ × ℕ)) (s mid : State) (uses : List (List ℕ)) (pending : List (ℕ × ℕ)) (to_sign : List ℕ) → mid ≡ record s { uses = uses } → IsClosing merges s pending to_sign → IsClosing merges mid pending to_sign
IsClosing-uses merges s mid uses pending to_sign e closing =
    let P : State → Type 0 = λ m. IsClosing merges m pending to_sign in
    subst P (sym e) (record { sound = closing.sound; complete = closing.complete })

pub HasUsesMoved-more : (s now mid new : State) (xs : List ℕ) (t into : ℕ) (table : List (List ℕ × ℕ)) → into < length s.uses → HasUsesMoved s now xs into
    → mid ≡ record now { uses = slice_set now.uses into (list_at now.uses into ++ t ∷ []) } → new ≡ record mid { table = table } → IsSignable new → HasUsesMoved s new (xs ++ t ∷ []) into
HasUsesMoved-more s now mid new xs t into table h moved is_mid is_new signable = record {
  rows = ap (λ (m : State). m.rows) is_new ∙ ap (λ (m : State). m.rows) is_mid ∙ moved.rows;
  labels = ap (λ (m : State). m.labels) is_new ∙ ap (λ (m : State). m.labels) is_mid ∙ moved.labels;
  members = ap (λ (m : State). m.members) is_new ∙ ap (λ (m : State). m.members) is_mid ∙ moved.members;
  limit = ap (λ (m : State). m.limit) is_new ∙ ap (λ (m : State). m.limit) is_mid ∙ moved.limit;
  leaders = ap (λ (m : State). m.leaders) is_new ∙ ap (λ (m : State). m.leaders) is_mid ∙ moved.leaders;
  lists = ap (λ (m : State). m.lists) is_new ∙ ap (λ (m : State). m.lists) is_mid ∙ moved.lists;
  log = ap (λ (m : State). m.log) is_new ∙ ap (λ (m : State). m.log) is_mid ∙ moved.log;
  uses = ap (λ (m : State). m.uses) is_new ∙ ap (λ (m : State). m.uses) is_mid
      ∙ ap (λ us. slice_set us into (list_at us into ++ t ∷ [])) moved.uses
      ∙ one_more_at s.uses into t xs h;
  signable = signable;
}

pub drop_one : (xs : List ℕ) (i : ℕ) → i < length xs → drop i xs ≡ slice_index xs i ∷ drop (i + 1) xs
drop_one xs i h = grind (arith, common_steps)
