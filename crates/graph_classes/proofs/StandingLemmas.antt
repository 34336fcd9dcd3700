-- What the operations that stand have to do with the classes.
use Rattle.std.proofs.Common.{◌≡◌, ℕ, List, [], ◌∷◌, ◌++◌, sym, subst}
use Rattle.graph_meaning.specs.declared.done.Done.{Done}
use Rattle.graph_classes.specs.declared.place.Place.{Place}
use Rattle.graph_classes.specs.State.{State}
use Rattle.graph_classes.specs.Indexed.{IsIndexed, IsClosing}
use Rattle.graph_classes.proofs.GrowLemmas.{IsSound-merge, IsComplete-merge}

-- the state with other lists, leaders and operations
abbrev pub with_others : State → List ℕ → (Place → List ℕ) → List Done → State
with_others s leaders lists log = record s { leaders = leaders; lists = lists; log = log }

-- they play no part in where the labels stand
pub IsIndexed-others : (s new : State) (leaders : List ℕ) (lists : Place → List ℕ) (log : List Done) → new ≡ with_others s leaders lists log → IsIndexed s → IsIndexed new
IsIndexed-others s new leaders lists log e i =
    let P : State → Type 0 = λ m. IsIndexed m in
    subst P (sym e) (record {
      labels_len = i.labels_len;
      members_len = i.members_len;
      uses_len = i.uses_len;
      args_in = i.args_in;
      label_in = i.label_in;
      label_fixed = i.label_fixed;
      member_in = i.member_in;
      is_member = i.is_member;
      use_in = i.use_in;
      is_use = i.is_use;
      entry_in = i.entry_in;
    })

-- nor in the closure
pub IsClosing-others : (merges pending : List (ℕ × ℕ)) (to_sign : List ℕ) (s new : State) (leaders : List ℕ) (lists : Place → List ℕ) (log : List Done) → new ≡ with_others s leaders lists log → IsClosing merges s pending to_sign → IsClosing merges new pending to_sign
IsClosing-others merges pending to_sign s new leaders lists log e closing =
    let P : State → Type 0 = λ m. IsClosing merges m pending to_sign in
    subst P (sym e) (record { sound = closing.sound; complete = closing.complete })

-- a merge begins with its pair pending
pub IsClosing-merge : (merges : List (ℕ × ℕ)) (s : State) (left right : ℕ) → IsClosing merges s [] [] → IsClosing (merges ++ (left, right) ∷ []) s ((left, right) ∷ []) []
IsClosing-merge merges s left right closing = record { sound = IsSound-merge s.rows merges s.labels s.table left right closing.sound; complete = IsComplete-merge s.rows merges s.labels s.table left right closing.complete }
