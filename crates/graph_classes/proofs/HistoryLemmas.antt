use Rattle.std.proofs.Common.{Result, true, nat_lt, if◌then◌else◌, Ok, Err, OnOk, OnErr, zero, suc, ◌≡◌, ◌≤◌, ◌<◌, ℕ, List, [], ◌∷◌, ◌++◌, length, drop, take, slice_set, slice_index_or, refl, sym, ◌∙◌, ap, arith, length-append}
use Rattle.std.proofs.lemmas.Grind.{common_steps}
use Rattle.std.proofs.lemmas.List.{drop-append-le, length-take, take-append-drop}
use Rattle.graph_trail.specs.Undo.{state_before}
use Rattle.graph_classes.specs.declared.classes.Classes.{Classes}
use Rattle.graph_classes.specs.declared.change.Change.{Change}
use Rattle.graph_terms.specs.declared.term_row.TermRow.{TermRow}
use Rattle.graph_classes.specs.declared.change.Change.TheVariants.{Added}
use Rattle.graph_classes.specs.State.{State, before_change, shorter, fewer_rows, list_at, with_row}
use Rattle.graph_classes.specs.History.{now, notes, state_at, KeepsHistory}
use Rattle.graph_classes.proofs.TableLemmas.{take_all_but_last}

-- undoing a list of changes and then those before it
pub state_before-append : (earlier later : List Change) (s : State) → state_before before_change (earlier ++ later) s ≡ state_before before_change earlier (state_before before_change later s)
state_before-append [] later s = refl
state_before-append (change ∷ earlier) later s = ap (λ r. before_change r change) (state_before-append earlier later s)

pub same_history : (old new : Classes) → notes new ≡ notes old → now new ≡ now old → KeepsHistory old new
same_history old new same_notes same_now = record {
  longer = rw same_notes (omega arith);
  at = λ mark h. ap (λ ns. state_before before_change (drop mark ns) (now new)) same_notes ∙ ap (state_before before_change (drop mark (notes old))) same_now;
}

pub one_more : (old new : Classes) (change : Change) → notes new ≡ notes old ++ change ∷ [] → before_change (now new) change ≡ now old → KeepsHistory old new
one_more old new change more undone = record {
  longer = rw more (omega (arith, length-append (notes old) (change ∷ [])));
  at = λ mark h. ap (λ ns. state_before before_change (drop mark ns) (now new)) more
      ∙ ap (λ ns. state_before before_change ns (now new)) (drop-append-le mark (notes old) (change ∷ []) h)
      ∙ state_before-append (drop mark (notes old)) (change ∷ []) (now new)
      ∙ ap (state_before before_change (drop mark (notes old))) undone;
}

pub history_trans : (a b c : Classes) → KeepsHistory a b → KeepsHistory b c → KeepsHistory a c
history_trans a b c first second = record {
  longer = omega (arith, first.longer, second.longer);
  at = λ mark h. second.at mark (omega (arith, first.longer)) ∙ first.at mark h;
}

-- ---- a change was made, and then noted or undone

pub kept_history : {X E : Type 0} (result : Result X E) (old new : Classes) (s : State) (change : Change) → before_change s change ≡ now old
    → OnOk result ((now new ≡ s) × (notes new ≡ notes old ++ change ∷ [])) → OnErr result ((now new ≡ before_change s change) × (notes new ≡ notes old)) → KeepsHistory old new
kept_history (Ok x) old new s change undone ok err = one_more old new change ok.1 (ap (λ r. before_change r change) ok.0 ∙ undone)
kept_history (Err x) old new s change undone ok err = same_history old new err.1 (err.0 ∙ undone)

pub kept_err : {X E : Type 0} (result : Result X E) (old new : Classes) (s : State) (change : Change) → before_change s change ≡ now old
    → OnErr result ((now new ≡ before_change s change) × (notes new ≡ notes old)) → OnErr result (now new ≡ now old)
kept_err (Ok x) old new s change undone err = tt
kept_err (Err x) old new s change undone err = err.0 ∙ undone

-- ---- each change is undone by its note

pub set-back : {A : Type 0} (xs : List A) (i : ℕ) (x d : A) → slice_set (slice_set xs i x) i (slice_index_or xs i d) ≡ xs
set-back [] i x d = refl
set-back (y ∷ ys) zero x d = refl
set-back (y ∷ ys) (suc i) x d = ap (λ zs. y ∷ zs) (set-back ys i x d)

pub list_at-set : (lists : List (List ℕ)) (i : ℕ) (xs : List ℕ) → i < length lists → list_at (slice_set lists i xs) i ≡ xs
list_at-set [] i xs h = absurd (omega arith)
list_at-set (l ∷ lists) zero xs h = refl
list_at-set (l ∷ lists) (suc i) xs h = list_at-set lists i xs (omega arith)

pub member_undone : (lists : List (List ℕ)) (i t : ℕ) → i < length lists
    → slice_set (slice_set lists i (list_at lists i ++ t ∷ [])) i (shorter (list_at (slice_set lists i (list_at lists i ++ t ∷ [])) i)) ≡ lists
member_undone lists i t h =
    ap (λ xs. slice_set (slice_set lists i (list_at lists i ++ t ∷ [])) i (shorter xs)) (list_at-set lists i (list_at lists i ++ t ∷ []) h)
    ∙ ap (slice_set (slice_set lists i (list_at lists i ++ t ∷ [])) i) (take_all_but_last (list_at lists i) t)
    ∙ set-back lists i (list_at lists i ++ t ∷ []) []

pub same_default : {A : Type 0} (xs : List A) (i : ℕ) (d e : A) → i < length xs → slice_index_or xs i d ≡ slice_index_or xs i e
same_default [] i d e h = absurd (omega arith)
same_default (x ∷ xs) zero d e h = refl
same_default (x ∷ xs) (suc i) d e h = same_default xs i d e (omega arith)

-- ---- going back to a mark

drop_split : (ns : List Change) (m mark : ℕ) → m ≤ mark → mark ≤ length ns → drop m (take mark ns) ++ drop mark ns ≡ drop m ns
drop_split ns m mark low high =
    let within : m ≤ length (take mark ns) = omega (arith, length-take mark ns) in
    sym (drop-append-le m (take mark ns) (drop mark ns) within) ∙ ap (drop m) (take-append-drop mark ns)

-- the marks up to the one that was gone back to give what they gave
pub state_at_back : (mid new : Classes) (mark m : ℕ) → m ≤ mark → mark ≤ length (notes mid) → notes new ≡ take mark (notes mid) → now new ≡ state_at mid mark → state_at new m ≡ state_at mid m
state_at_back mid new mark m low high kept gives =
    ap (λ ns. state_before before_change (drop m ns) (now new)) kept
    ∙ ap (state_before before_change (drop m (take mark (notes mid)))) gives
    ∙ sym (state_before-append (drop m (take mark (notes mid))) (drop mark (notes mid)) (now mid))
    ∙ ap (λ ns. state_before before_change ns (now mid)) (drop_split (notes mid) m mark low high)

pub history_back : (old mid new : Classes) (mark : ℕ) → KeepsHistory old mid → mark ≡ length (notes old) → notes new ≡ take mark (notes mid) → now new ≡ state_at mid mark → KeepsHistory old new
history_back old mid new mark history is_mark kept gives = record {
  longer = rw kept (omega (arith, length-take mark (notes mid), history.longer));
  at = λ m h. state_at_back mid new mark m (omega arith) (omega (arith, history.longer)) kept gives ∙ history.at m h;
}

-- the last row is taken away where more than two stand
fewer_rows_undone : (rows : List TermRow) (row : TermRow) → 2 ≤ length rows → fewer_rows (rows ++ row ∷ []) ≡ rows
fewer_rows_undone rows row h =
    ap (λ b. if b then shorter (rows ++ row ∷ []) else (rows ++ row ∷ [])) is_more ∙ take_all_but_last rows row
  where
    is_more : nat_lt 2 (length (rows ++ row ∷ [])) ≡ true
    is_more = grind (arith, common_steps, length-append rows (row ∷ []))

pub row_undone : (s : State) (row : TermRow) (term : ℕ) → 2 ≤ length s.rows → before_change (with_row s row term) Added ≡ s
row_undone s row term h =
    ap (λ rs. record s { rows = rs; labels = shorter (s.labels ++ term ∷ []); members = shorter (s.members ++ (term ∷ []) ∷ []); uses = shorter (s.uses ++ [] ∷ []); leaders = shorter (s.leaders ++ term ∷ []) }) (fewer_rows_undone s.rows row h)
    ∙ ap (λ ls. record s { labels = ls; members = shorter (s.members ++ (term ∷ []) ∷ []); uses = shorter (s.uses ++ [] ∷ []); leaders = shorter (s.leaders ++ term ∷ []) }) (take_all_but_last s.labels term)
    ∙ ap (λ ms. record s { members = ms; uses = shorter (s.uses ++ [] ∷ []); leaders = shorter (s.leaders ++ term ∷ []) }) (take_all_but_last s.members (term ∷ []))
    ∙ ap (λ us. record s { uses = us; leaders = shorter (s.leaders ++ term ∷ []) }) (take_all_but_last s.uses [])
    ∙ ap (λ ls. record s { leaders = ls }) (take_all_but_last s.leaders term)

-- what was pushed on a list that was read at its place
pub list_grown : (lists : List (List ℕ)) (i t : ℕ) (list new : List ℕ) → i < length lists → list ≡ slice_index_or lists i list → new ≡ list ++ t ∷ [] → new ≡ list_at lists i ++ t ∷ []
list_grown lists i t list new h read push = push ∙ ap (λ l. l ++ t ∷ []) (read ∙ same_default lists i list [] h)
