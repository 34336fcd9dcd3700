-- The marks at which operations began.
use Rattle.std.proofs.Common.{◌≡◌, cond, ◌≤◌, ◌<◌, ◌+◌, ◌-◌, ◌⊎◌, inl, inr, ℕ, List, [], ◌∷◌, ◌++◌, length, drop, take, slice_index, refl, sym, ◌∙◌, ap, subst, arith}
use Rattle.std.proofs.lemmas.List.Sums.{sum_by-append}
use Rattle.std.proofs.lemmas.Grind.{common_steps}
use Rattle.std.proofs.lemmas.List.{length-take, take-take}
use Rattle.graph_trail.specs.Undo.{state_before}
use Rattle.graph_meaning.specs.declared.done.Done.{Done}
use Rattle.graph_meaning.specs.declared.op.Op.{Op}
use Rattle.graph_meaning.specs.Standing.{then_op, is_push, levels_of}
use Rattle.graph_classes.specs.declared.classes.Classes.{Classes}
use Rattle.graph_classes.specs.declared.change.Change.{Change}
use Rattle.graph_classes.specs.State.{State, before_change}
use Rattle.graph_classes.specs.History.{now, notes, state_at, KeepsHistory}
use Rattle.graph_classes.specs.Standing.{IsGood, Follows}
use Rattle.graph_congruence.specs.GraphInside.{HasStood, AreStarts}

index_earlier : (xs : List ℕ) (x i : ℕ) → i < length xs → slice_index (xs ++ x ∷ []) i ≡ slice_index xs i
index_earlier xs x i h = grind (arith, common_steps)

index_last : (xs : List ℕ) (x : ℕ) → slice_index (xs ++ x ∷ []) (length xs) ≡ x
index_last xs x = grind (arith, common_steps)

length_push : {A : Type 0} (xs : List A) (x : A) → length (xs ++ x ∷ []) ≡ length xs + 1
length_push xs x = grind (arith, common_steps)

take_push : {A : Type 0} (xs : List A) (x : A) (i : ℕ) → i ≤ length xs → take i (xs ++ x ∷ []) ≡ take i xs
take_push xs x i h = grind (arith, common_steps)

take_whole : {A : Type 0} (xs : List A) → take (length xs) xs ≡ xs
take_whole [] = refl
take_whole (x ∷ xs) = ap (λ ys. x ∷ ys) (take_whole xs)

index_take : (xs : List ℕ) (n i : ℕ) → i < n → slice_index (take n xs) i ≡ slice_index xs i
index_take xs n i h = grind (arith, common_steps)

-- at the last mark stands what stands now
pub state_at_end : (classes : Classes) → state_at classes (length (notes classes)) ≡ now classes
state_at_end classes = ap (λ ns. state_before before_change ns (now classes)) (drop_all (notes classes))
  where
    drop_all : (ns : List Change) → drop (length ns) ns ≡ []
    drop_all ns = grind (arith, common_steps)

HasStood-same : (s t : State) (log log' : List Done) (limit limit' : ℕ) → t ≡ s → log' ≡ log → limit' ≡ limit → HasStood s log limit → HasStood t log' limit'
HasStood-same s t log log' limit limit' e l k h =
    let P : State → Type 0 = λ m. IsGood m in
    record { is_log = ap (λ (m : State). m.log) e ∙ h.is_log ∙ sym l; is_limit = ap (λ (m : State). m.limit) e ∙ h.is_limit ∙ sym k; good = subst P (sym e) h.good }

-- one operation more began at the end of the notes
module _ (old new : Classes) (starts : List ℕ) (done : Done) (start : ℕ) (is : AreStarts old starts) (history : KeepsHistory old new) (is_start : start ≡ length (notes old)) (log : (now new).log ≡ (now old).log ++ done ∷ []) (limit : (now new).limit ≡ (now old).limit) (good : IsGood (now new)) where
  earlier_or_last : (i : ℕ) → i < length (starts ++ start ∷ []) → (i < length starts) ⊎ (i ≡ length starts)
  earlier_or_last i h = grind (arith, length_push starts start)

  pub AreStarts-push : AreStarts new (starts ++ start ∷ [])
  AreStarts-push = record {
    each = length_push starts start ∙ ap (λ n. n + 1) is.each ∙ sym (length_push (now old).log done) ∙ ap length (sym log);
    marks = λ i h. elim (earlier_or_last i h) [
      | inl early ↦ rw (index_earlier starts start i early) (let low = is.marks i early in let more = history.longer in omega arith)
      | inr end ↦ rw (end, index_last starts start) (let more = history.longer in omega (arith, is_start))
    ];
    rise = λ i j low h. elim (earlier_or_last j h) [
      | inl early ↦ rw (index_earlier starts start i (omega arith), index_earlier starts start j early) (is.rise i j low early)
      | inr end ↦ elim (earlier_or_last i (omega arith)) [
        | inl early ↦ rw (end, index_last starts start, index_earlier starts start i early) (let m = is.marks i early in omega (arith, is_start))
        | inr end' ↦ rw (end, end') (omega arith)
      ]
    ];
    stood = λ i h. elim (earlier_or_last i h) [
      | inl early ↦ rw (index_earlier starts start i early) (HasStood-same _ _ _ _ _ _ (history.at (slice_index starts i) (is.marks i early)) (ap (take i) log ∙ take_push (now old).log done i (let e = is.each in omega arith)) limit (is.stood i early))
      | inr end ↦ rw (end, index_last starts start) (HasStood-same (now old) _ (now old).log _ (now old).limit _
          (ap (state_at new) is_start ∙ history.at (length (notes old)) (omega arith) ∙ state_at_end old)
          (ap (λ k. take k (now new).log) is.each ∙ ap (take (length (now old).log)) log ∙ take_push (now old).log done (length (now old).log) (omega arith) ∙ take_whole (now old).log)
          limit (record { is_log = refl; is_limit = refl; good = is.good }))
    ];
    good = good;
  }

-- going back to the mark at which the k-th operation began
module _ (old new : Classes) (starts : List ℕ) (k : ℕ) (is : AreStarts old starts) (low : k < length starts) (gives : now new ≡ state_at old (slice_index starts k)) (kept : notes new ≡ take (slice_index starts k) (notes old)) (at : (m : ℕ) → m ≤ slice_index starts k → state_at new m ≡ state_at old m) where
  pub log_back : (now new).log ≡ take k (now old).log
  log_back = ap (λ (m : State). m.log) gives ∙ (is.stood k low).is_log

  pub limit_back : (now new).limit ≡ (now old).limit
  limit_back = ap (λ (m : State). m.limit) gives ∙ (is.stood k low).is_limit

  within : (i : ℕ) → i < length (take k starts) → i < k
  within i h = let len = length-take k starts in omega arith

  pub AreStarts-back : AreStarts new (take k starts)
  AreStarts-back = record {
    each = length-take k starts ∙ (let e = is.each in let f = length-take k (now old).log in let g = ap length log_back in omega arith);
    marks = λ i h. rw (index_take starts k i (within i h), kept) (let r = is.rise i k (let w = within i h in omega arith) low in let m = is.marks k low in let len = length-take (slice_index starts k) (notes old) in omega arith);
    rise = λ i j below h. rw (index_take starts k i (let w = within j h in omega arith), index_take starts k j (within j h)) (is.rise i j below (let w = within j h in omega arith));
    stood = λ i h. let w = within i h in let mark = is.rise i k (omega arith) low in
        rw (index_take starts k i w) (HasStood-same _ _ _ _ _ _ (at (slice_index starts i) mark) (ap (take i) log_back ∙ take-take i k (now old).log (omega arith)) limit_back (is.stood i (omega arith)));
    good = let P : State → Type 0 = λ m. IsGood m in subst P (sym gives) (is.stood k low).good;
  }

-- the same, where the mark was read
module _ (old new : Classes) (starts left : List ℕ) (k start : ℕ) (is : AreStarts old starts) (low : k < length starts) (read : slice_index starts k ≡ start) (gives : now new ≡ state_at old start) (kept : notes new ≡ take start (notes old)) (at : (m : ℕ) → m ≤ start → state_at new m ≡ state_at old m) (is_left : left ≡ take k starts) where
  gives_read : now new ≡ state_at old (slice_index starts k)
  gives_read = gives ∙ ap (state_at old) (sym read)

  log_read : (now new).log ≡ take k (now old).log
  log_read = log_back old new starts k is low gives_read (kept ∙ ap (λ m. take m (notes old)) (sym read)) (λ m h. at m (omega (arith, h, read)))

  -- all but the last of the operations that stood
  pub rest_read : (log : List Done) → (now old).log ≡ log → k ≡ length log - 1 → (now new).log ≡ take (length log - 1) log
  rest_read log is_log k_is = log_read ∙ ap (take k) is_log ∙ ap (λ n. take n log) k_is

  pub limit_read : (now new).limit ≡ (now old).limit
  limit_read = limit_back old new starts k is low gives_read (kept ∙ ap (λ m. take m (notes old)) (sym read)) (λ m h. at m (omega (arith, h, read)))

  pub AreStarts-read : AreStarts new left
  AreStarts-read =
      let P : List ℕ → Type 0 = λ xs. AreStarts new xs in
      subst P (sym is_left) (AreStarts-back old new starts k is low gives_read (kept ∙ ap (λ m. take m (notes old)) (sym read)) (λ m h. at m (omega (arith, h, read))))

-- the levels once an operation came last
pub levels_of-then : (log : List Done) (serial : ℕ) (op : Op) (opened : ℕ) → levels_of (record { serial = serial; op = op } ∷ []) ≡ opened → levels_of (then_op log serial op) ≡ levels_of log + opened
levels_of-then log serial op opened e = sum_by-append (λ d. cond (is_push d) 1 0) log (record { serial = serial; op = op } ∷ []) ∙ ap (λ n. levels_of log + n) e

-- the fields after an operation
pub AreStarts-after : (old new : Classes) (starts reserved pushed : List ℕ) (serial : ℕ) (op : Op) (start : ℕ) → AreStarts old starts → KeepsHistory old new → start ≡ length (notes old) → Follows (now old) (now new) serial op → IsGood (now new) → reserved ≡ starts → pushed ≡ reserved ++ start ∷ [] → AreStarts new pushed
AreStarts-after old new starts reserved pushed serial op start is history is_start follows good same more =
    let P : List ℕ → Type 0 = λ xs. AreStarts new xs in
    subst P (sym (more ∙ ap (λ xs. xs ++ start ∷ []) same)) (AreStarts-push old new starts (record { serial = serial; op = op }) start is history is_start follows.log follows.limit good)

pub levels_after : (old new : Classes) (serial : ℕ) (op : Op) (levels opened : ℕ) → Follows (now old) (now new) serial op → levels ≡ levels_of (now old).log → levels_of (record { serial = serial; op = op } ∷ []) ≡ opened → levels + opened ≡ levels_of (now new).log
levels_after old new serial op levels opened follows is e = ap (λ n. n + opened) is ∙ sym (levels_of-then (now old).log serial op opened e) ∙ ap levels_of (sym follows.log)
