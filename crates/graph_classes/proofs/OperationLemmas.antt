-- Operations on the parts of a graph.
use Rattle.std.proofs.Common.{◌≡◌, ◌≤◌, ℕ, List, [], ◌∷◌, ◌++◌, length, refl, sym, ◌∙◌, ap, subst, append-nil, Result, Ok, Err, OnOk, OnErr}
use Rattle.graph_meaning.specs.declared.done.Done.{Done}
use Rattle.graph_meaning.specs.declared.op.Op.{Op}
use Rattle.graph_meaning.specs.declared.op.Op.TheVariants.{Merge}
use Rattle.graph_meaning.specs.Lawful.{Allows, IsLawful}
use Rattle.graph_meaning.proofs.LawfulLaws.{terms_of-push, merges_of-push, IsLawful-push}
use Rattle.graph_meaning.specs.Standing.{then_op, terms_of, merges_of, rows_added, merges_added}
use Rattle.graph_classes.specs.State.{State}
use Rattle.graph_classes.specs.Indexed.{IsIndexed, IsClosing}
use Rattle.graph_classes.specs.Listed.{IsListed}
use Rattle.graph_classes.specs.Standing.{IsGood, Follows}
use Rattle.graph_classes.proofs.StandingLemmas.{IsIndexed-others, IsClosing-others}

-- after an allowed operation the parts are in order again
pub IsGood-after : (s new : State) (serial : ℕ) (op : Op) → IsGood s → Allows s.log op → Follows s new serial op → length new.rows ≤ new.limit → IsIndexed new → IsListed new → IsClosing (merges_of s.log ++ merges_added op) new [] [] → IsGood new
IsGood-after s new serial op good allowed follows within indexed listed closing =
    let P : List Done → Type 0 = λ log. IsLawful log in
    let Q : List (ℕ × ℕ) → Type 0 = λ merges. IsClosing merges new [] [] in
    record {
      terms = follows.rows ∙ ap (λ rows. rows ++ rows_added op) good.terms ∙ sym (terms_of-push s.log serial op) ∙ ap terms_of (sym follows.log);
      lawful = subst P (sym follows.log) (IsLawful-push s.log serial op good.lawful allowed);
      within = within;
      indexed = indexed;
      listed = listed;
      closed = subst Q (sym (ap merges_of follows.log ∙ merges_of-push s.log serial op)) closing;
    }

-- the lists stay right with other operations
pub IsListed-log : (s new : State) (log : List Done) → new ≡ record s { log = log } → IsListed s → IsListed new
IsListed-log s new log e listed = let P : State → Type 0 = λ m. IsListed m in subst P (sym e) (record { lists = listed.lists; leaders = listed.leaders })

-- an operation that adds no row follows where the rows stay
pub Follows-same : (s new : State) (serial : ℕ) (op : Op) → rows_added op ≡ [] → new.rows ≡ s.rows → new.limit ≡ s.limit → new.log ≡ then_op s.log serial op → Follows s new serial op
Follows-same s new serial op none rows limit log = record { rows = rows ∙ sym (append-nil s.rows) ∙ ap (λ more. s.rows ++ more) (sym none); limit = limit; log = log }

within_still : (s new : State) → new.rows ≡ s.rows → new.limit ≡ s.limit → length s.rows ≤ s.limit → length new.rows ≤ new.limit
within_still s new rows limit h = rw (rows, limit) h

-- an operation that changes no row and no class
module _ (s new : State) (serial : ℕ) (op : Op) (none : rows_added op ≡ []) (e : new ≡ record s { log = then_op s.log serial op }) where
  pub Follows-logged : Follows s new serial op
  Follows-logged = Follows-same s new serial op none (ap (λ (m : State). m.rows) e) (ap (λ (m : State). m.limit) e) (ap (λ (m : State). m.log) e)

  pub IsGood-logged : IsGood s → Allows s.log op → merges_added op ≡ [] → IsGood new
  IsGood-logged good allowed no_merges =
      let Q : List (ℕ × ℕ) → Type 0 = λ merges. IsClosing merges new [] [] in
      IsGood-after s new serial op good allowed Follows-logged (within_still s new (ap (λ (m : State). m.rows) e) (ap (λ (m : State). m.limit) e) good.within)
      (IsIndexed-others s new s.leaders s.lists (then_op s.log serial op) e good.indexed) (IsListed-log s new (then_op s.log serial op) e good.listed)
      (subst Q (sym (append-nil (merges_of s.log)) ∙ ap (λ more. merges_of s.log ++ more) (sym no_merges)) (IsClosing-others (merges_of s.log) [] [] s new s.leaders s.lists (then_op s.log serial op) e good.closed))

-- an operation that changed no row but maybe classes
pub IsGood-settled : (s new : State) (serial : ℕ) (op : Op) → IsGood s → Allows s.log op → rows_added op ≡ [] → new.rows ≡ s.rows → new.limit ≡ s.limit → new.log ≡ then_op s.log serial op → IsIndexed new → IsListed new → IsClosing (merges_of s.log ++ merges_added op) new [] [] → IsGood new
IsGood-settled s new serial op good allowed none rows limit log indexed listed closing =
    IsGood-after s new serial op good allowed (Follows-same s new serial op none rows limit log) (within_still s new rows limit good.within) indexed listed closing

-- in order after an Ok, and as before after an Err
pub good_either : {X E : Type 0} (result : Result X E) (old new : State) → IsGood old → OnOk result (IsGood new) → OnErr result (new ≡ old) → IsGood new
good_either (Ok x) old new good ok err = ok
good_either (Err e) old new good ok err = let P : State → Type 0 = λ m. IsGood m in subst P (sym err) good

-- ---- a Merge that was settled

module _ {X E : Type 0} (s new : State) (serial left right : ℕ) where
  pub Follows-merged : (result : Result X E) → OnOk result (new.rows ≡ s.rows) → OnOk result (new.limit ≡ s.limit) → OnOk result (new.log ≡ then_op s.log serial (Merge left right)) → OnOk result (Follows s new serial (Merge left right))
  Follows-merged (Ok x) rows limit log = Follows-same s new serial (Merge left right) refl rows limit log
  Follows-merged (Err e) rows limit log = tt

  pub IsGood-merged : (result : Result X E) → IsGood s → Allows s.log (Merge left right) → OnOk result (new.rows ≡ s.rows) → OnOk result (new.limit ≡ s.limit) → OnOk result (new.log ≡ then_op s.log serial (Merge left right)) → OnOk result (IsIndexed new) → OnOk result (IsListed new)
      → OnOk result (IsClosing (merges_of s.log ++ (left, right) ∷ []) new [] []) → OnOk result (IsGood new)
  IsGood-merged (Ok x) good allowed rows limit log indexed listed closing = IsGood-settled s new serial (Merge left right) good allowed refl rows limit log indexed listed closing
  IsGood-merged (Err e) good allowed rows limit log indexed listed closing = tt
