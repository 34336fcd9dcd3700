-- How rows are entered, one after another.
use Rattle.std.proofs.Common.{◌≡◌, ℕ, ◌+◌, ◌<◌, ◌↔◌, List, [], ◌∷◌, ◌++◌, length, slice_get, Some, All, Result, Ok, Err, IfOk, IfErr, refl, sym, ap, subst, ◌∙◌, inl, inr, ⊎_elim, append-nil, append_assoc, arith}
use Rattle.std.specs.Prelude.{slice_index, IsErrAnd}
use Rattle.std.proofs.lemmas.Bool.{cases_lt}
use Rattle.std.proofs.lemmas.List.{length-append}
use Rattle.std.proofs.lemmas.List.Elements.{All-weaker}
use Rattle.std.proofs.lemmas.Option.{same_Some, slice_get_within}
use Rattle.graph_terms.proofs.ListLaws.{push_cases, element_at, slice_get-append_left, All-slice_get}
use Rattle.graph_terms.specs.declared.term_row.TermRow.{TermRow}
use Rattle.graph_terms.specs.Terms.{HasRow, term_row}
use Rattle.graph_terms.specs.TermEntry.{AddGrows}
use Rattle.graph_terms.specs.TermEntry.AddGrows.{new_row, old_row}
use Rattle.formula_draft.specs.declared.draft_row.DraftRow.{DraftRow}
use Rattle.formula_draft.specs.declared.draft_row.DraftRow.TheVariants.{Var, App}
use Rattle.formula_draft.specs.Reach.{ReachesRow}
use Rattle.formula_draft.specs.Draft.{Formula}
use Rattle.formula_draft.proofs.ReachLaws.{back}
use Rattle.formula_table.specs.Body.{IsFormulaOver}
use Rattle.formula_table.specs.Entry.BecomesRow.{variable, application}
use Rattle.formula_table.specs.InOrder.{AreInOrder, IsFullFor, PutsNext}
use Rattle.formula_table.specs.InOrder.PutsNext.{nothing, put_last, stood}
use Rattle.formula_table.specs.Entry.{BecomesRow, EntersRows, entered_row, LacksMemory}
use Rattle.formula_table.specs.declared.enter_fault.EnterFault.{EnterFault}
use Rattle.formula_table.specs.declared.enter_fault.EnterFault.TheVariants.{TermsFull, NodesFull, Memory}
use Rattle.formula_table.specs.EntryInside.{NumbersStand, RowGrows, StopsTerm, StopsRow, StopsRows}
use Rattle.formula_table.proofs.BecomesLaws.{row_becomes}
use Rattle.formula_table.proofs.InOrderLemmas.{none_in_order, next_in_order, map_index-push, index-push, index-last}

-- what follows from the value follows of the result
pub ok_map : {A B : Type 0} (P Q : A → Type 0) (r : Result A B) → ((x : A) → P x → Q x) → IfOk r P → IfOk r Q
ok_map P Q (Ok x) f p = f x p
ok_map P Q (Err e) f p = tt

-- what follows from the error follows of the result
pub err_map : {A B : Type 0} (P Q : B → Type 0) (r : Result A B) → ((e : B) → Q e → P e) → IsErrAnd r Q → IfErr r P
err_map P Q (Ok x) f h = tt
err_map P Q (Err e) f h = f e h

-- what becomes a row is reached
pub row_reached : (formula : Formula) (tuple : List ℕ) (rows : List TermRow) (terms : List ℕ) (n : ℕ) (x : TermRow) → BecomesRow formula tuple rows terms n x → ReachesRow formula.rows formula.nodes formula.root n
row_reached formula tuple rows terms n x (variable reach at place has) = reach
row_reached formula tuple rows terms n x (application reach at) = reach

-- the row over terms that a row of a formula is
abbrev row_over : List ℕ → DraftRow → TermRow
row_over terms (Var index) = entered_row terms 0 []
row_over terms (App symbol args) = entered_row terms symbol args

-- the index of a variable
abbrev index_of : DraftRow → ℕ
index_of (Var index) = index
index_of (App symbol args) = 0

-- a variable is told by its index
index_in : (i j : ℕ) → Var i ≡ Var j → i ≡ j
index_in i j same = ap index_of same

-- the kind of a row
abbrev kind_of : DraftRow → ℕ
kind_of (Var index) = 0
kind_of (App symbol args) = 1

-- no row is of both kinds
not_both : (index symbol : ℕ) (args : List ℕ) → Var index ≡ App symbol args → ⊥
not_both index symbol args same = let kinds : 0 ≡ 1 = ap kind_of same in absurd (omega (arith, kinds))

-- a reached row becomes one row
pub one_row : (formula : Formula) (tuple : List ℕ) (rows : List TermRow) (terms : List ℕ) (n : ℕ) (x y : TermRow) → BecomesRow formula tuple rows terms n x → BecomesRow formula tuple rows terms n y → x ≡ y
one_row formula tuple rows terms n x y (variable {index = i} {term = s} _ at place has) (variable {index = j} {term = t} _ at_too place_too has_too) =
    let index : i ≡ j = index_in i j (same_Some (Var i) (Var j) (sym at ∙ at_too)) in
    let term : s ≡ t = same_Some s t (sym place ∙ ap (slice_get tuple) index ∙ place_too) in
    same_Some x y (sym has ∙ ap (slice_get rows) term ∙ has_too)
one_row formula tuple rows terms n x y (variable {index = i} _ at _ _) (application {symbol = f} {args = args} _ at_too) = absurd (not_both i f args (same_Some (Var i) (App f args) (sym at ∙ at_too)))
one_row formula tuple rows terms n x y (application {symbol = f} {args = args} _ at) (variable {index = i} _ at_too _ _) = absurd (not_both i f args (same_Some (Var i) (App f args) (sym at_too ∙ at)))
one_row formula tuple rows terms n x y (application {symbol = f} {args = xs} _ at) (application {symbol = g} {args = ys} _ at_too) = ap (row_over terms) (same_Some (App f xs) (App g ys) (sym at ∙ at_too))

-- and the same one when later rows become terms
pub same_rows : (formula : Formula) (variables : ℕ) → IsFormulaOver variables formula → (tuple : List ℕ) (rows : List TermRow) (terms : List ℕ) (term n : ℕ) (x : TermRow) → n < length terms + 1 → BecomesRow formula tuple rows terms n x ↔ BecomesRow formula tuple rows (terms ++ term ∷ []) n x
same_rows formula variables is tuple rows terms term n x below = (to x, from x)
  where
    equal : (symbol : ℕ) (args : List ℕ) → slice_get formula.rows n ≡ Some (App symbol args) → entered_row (terms ++ term ∷ []) symbol args ≡ entered_row terms symbol args
    equal symbol args at = ap (term_row symbol) (map_index-push terms term args (All-weaker (λ arg. arg < n) (λ arg. arg < length terms) (λ arg lower. omega arith) args (is.lawful.rows_fit n (App symbol args) at).args))

    to : (x : TermRow) → BecomesRow formula tuple rows terms n x → BecomesRow formula tuple rows (terms ++ term ∷ []) n x
    to x (variable reach at place has) = variable reach at place has
    to x (application {symbol = symbol} {args = args} reach at) = subst (BecomesRow formula tuple rows (terms ++ term ∷ []) n) (equal symbol args at) (application reach at)

    from : (x : TermRow) → BecomesRow formula tuple rows (terms ++ term ∷ []) n x → BecomesRow formula tuple rows terms n x
    from x (variable reach at place has) = variable reach at place has
    from x (application {symbol = symbol} {args = args} reach at) = subst (BecomesRow formula tuple rows terms n) (sym (equal symbol args at)) (application reach at)

-- a row becomes the same over further rows, where the terms of the tuple stood before
pub over_more : (formula : Formula) (tuple : List ℕ) (rows more : List TermRow) → All (λ term. term < length rows) tuple → (terms : List ℕ) (n : ℕ) (x : TermRow) → BecomesRow formula tuple (rows ++ more) terms n x → BecomesRow formula tuple rows terms n x
over_more formula tuple rows more stand terms n x (variable {index = index} {term = term} reach at place has) = variable reach at place (back rows more term x (All-slice_get (λ t. t < length rows) tuple index term stand place) has)
over_more formula tuple rows more stand terms n x (application reach at) = application reach at

over_fewer : (formula : Formula) (tuple : List ℕ) (rows more : List TermRow) (terms : List ℕ) (n : ℕ) (x : TermRow) → BecomesRow formula tuple rows terms n x → BecomesRow formula tuple (rows ++ more) terms n x
over_fewer formula tuple rows more terms n x (variable {term = term} reach at place has) = variable reach at place (slice_get-append_left rows more term x has)
over_fewer formula tuple rows more terms n x (application reach at) = application reach at

-- and so what comes of it is the same
pub puts_over : {X : Type 0} (P Q : X → Type 0) → ((x : X) → P x → Q x) → ((x : X) → Q x → P x) → (items : List X) (limit : ℕ) (more : List X) (number : ℕ) → PutsNext P items limit more number → PutsNext Q items limit more number
puts_over P Q to from items limit more number (nothing not) = nothing (λ x q. not x (from x q))
puts_over P Q to from items limit more number (put_last {x = x} p nowhere room) = put_last (to x p) nowhere room
puts_over P Q to from items limit more number (stood {x = x} p at) = stood (to x p) at

-- what follows from one word on an error follows from the other
pub fault_map : {A B : Type 0} (P Q : B → Type 0) (r : Result A B) → ((e : B) → P e → Q e) → IfErr r P → IfErr r Q
fault_map P Q (Ok x) f h = tt
fault_map P Q (Err e) f h = f e h

-- a row that is not added is not entered
pub stops_row : (formula : Formula) (tuple : List ℕ) (rows : List TermRow) (limit : ℕ) (terms : List ℕ) (unchanged refused : Type 0) (symbol : ℕ) (args : List ℕ)
    → ReachesRow formula.rows formula.nodes formula.root (length terms) → slice_get formula.rows (length terms) ≡ Some (App symbol args)
    → (fault : EnterFault) → StopsTerm rows limit unchanged refused (entered_row terms symbol args) fault → StopsRow unchanged refused formula tuple rows limit terms fault
stops_row formula tuple rows limit terms unchanged refused symbol args reach at TermsFull stops = (stops.0, (entered_row terms symbol args, application reach at, stops.1, stops.2))
stops_row formula tuple rows limit terms unchanged refused symbol args reach at NodesFull stops = stops
stops_row formula tuple rows limit terms unchanged refused symbol args reach at Memory stops = stops

-- a row that is added is entered
pub row_added : (formula : Formula) (tuple : List ℕ) (old new : List TermRow) (limit : ℕ) (grown : List TermRow → Type 0) (terms : List ℕ) (symbol : ℕ) (args : List ℕ)
    → ReachesRow formula.rows formula.nodes formula.root (length terms) → slice_get formula.rows (length terms) ≡ Some (App symbol args)
    → ((more : List TermRow) → grown more → new ≡ old ++ more)
    → (term : ℕ) → AddGrows old limit new grown (entered_row terms symbol args) term → RowGrows grown formula tuple old limit terms term
row_added formula tuple old new limit grown terms symbol args reach at grows term (new_row has absent room grew) =
    let row = entered_row terms symbol args in
    let becomes : BecomesRow formula tuple old terms (length terms) row = application reach at in
    let here : HasRow (old ++ row ∷ []) term row = subst (λ (rows : List TermRow). HasRow rows term row) (grows (row ∷ []) grew) has in
    let last : term ≡ length old = ⊎_elim (λ stood. absurd (absent term stood)) (λ p. p.0) (push_cases old row term row here) in
    (row ∷ [], grew, subst (PutsNext (BecomesRow formula tuple old terms (length terms)) old limit (row ∷ [])) (sym last) (put_last becomes absent room))
row_added formula tuple old new limit grown terms symbol args reach at grows term (old_row has grew) = ([], grew, stood (application reach at) has)

-- a variable is entered as its term in the tuple
pub variable_entered : (formula : Formula) (tuple : List ℕ) (rows : List TermRow) → All (λ term. term < length rows) tuple → (limit : ℕ) (grown : List TermRow → Type 0) → grown [] → (terms : List ℕ) (index term : ℕ)
    → ReachesRow formula.rows formula.nodes formula.root (length terms) → slice_get formula.rows (length terms) ≡ Some (Var index) → slice_get tuple index ≡ Some term → RowGrows grown formula tuple rows limit terms term
variable_entered formula tuple rows stand limit grown none terms index term reach at place =
    let row = element_at rows term (All-slice_get (λ t. t < length rows) tuple index term stand place) in
    ([], none, stood (variable reach at place row.1) row.1)

-- the number of what becomes an item is that of an item
pub item_stands : {X : Type 0} (Becomes : X → Type 0) (items more : List X) (limit number : ℕ) → (x : X) → Becomes x → PutsNext Becomes items limit more number → number < length (items ++ more)
item_stands Becomes items more limit number x becomes (nothing not) = absurd (not x becomes)
item_stands Becomes items more limit number x becomes (put_last {x = y} _ nowhere room) = omega (arith, length-append items (y ∷ []))
item_stands Becomes items more limit number x becomes (stood {x = y} _ at) = let within = slice_get_within items number y at in omega (arith, ap length (append-nil items))

-- the first rows were entered, and the terms are as many as they say
pub record RowsSoFar (grown : List TermRow → Type 0) (formula : Formula) (tuple : List ℕ) (rows : List TermRow) (limit : ℕ) (now : List TermRow) (now_limit : ℕ) (terms : List ℕ) (n : ℕ) : Type 0 where
  pub added : List TermRow
  pub grew : grown added
  pub enters : EntersRows formula tuple rows limit added terms
  pub count : length terms ≡ n
  pub now_is : now ≡ rows ++ added
  pub limit_is : now_limit ≡ limit
  pub stand : NumbersStand formula (length now) terms

module _ (State : Type 0) (rows_in : State → List TermRow) (limit_in : State → ℕ) (grown : State → State → List TermRow → Type 0) (refused : State → State → Type 0)
    (grown_rows : (earlier later : State) (more : List TermRow) → grown earlier later more → (rows_in later ≡ rows_in earlier ++ more) × (limit_in later ≡ limit_in earlier))
    (grown_both : (first second third : State) (more most : List TermRow) → grown first second more → grown second third most → grown first third (more ++ most)) (formula : Formula) (tuple : List ℕ) (is_formula : IsFormulaOver (length tuple) formula) (first : State) (tuple_stands : All (λ term. term < length (rows_in first)) tuple) where
  -- nothing was entered
  pub so_far_none : grown first first [] → RowsSoFar (grown first first) formula tuple (rows_in first) (limit_in first) (rows_in first) (limit_in first) [] 0
  so_far_none none_grew = record {
    added = [];
    grew = none_grew;
    enters = none_in_order (BecomesRow formula tuple (rows_in first) []) (rows_in first) (limit_in first);
    count = refl;
    now_is = sym (append-nil (rows_in first));
    limit_is = refl;
    stand = λ n below. absurd (omega arith);
  }

  -- what the next row becomes over the rows as they are, it becomes over those at the start
  module _ (second : State) (terms : List ℕ) (n : ℕ) (so : RowsSoFar (grown first second) formula tuple (rows_in first) (limit_in first) (rows_in second) (limit_in second) terms n) (x : TermRow) where
    now_first : BecomesRow formula tuple (rows_in second) terms (length terms) x → BecomesRow formula tuple (rows_in first) terms (length terms) x
    now_first becomes = over_more formula tuple (rows_in first) so.added tuple_stands terms (length terms) x (subst (λ (rows : List TermRow). BecomesRow formula tuple rows terms (length terms) x) so.now_is becomes)

    first_now : BecomesRow formula tuple (rows_in first) terms (length terms) x → BecomesRow formula tuple (rows_in second) terms (length terms) x
    first_now becomes = subst (λ (rows : List TermRow). BecomesRow formula tuple rows terms (length terms) x) (sym so.now_is) (over_fewer formula tuple (rows_in first) so.added terms (length terms) x becomes)

  module _ (second : State) (terms : List ℕ) (n : ℕ) (so : RowsSoFar (grown first second) formula tuple (rows_in first) (limit_in first) (rows_in second) (limit_in second) terms n) where
    -- one row more was entered
    pub so_far_next : (third : State) (term : ℕ) → RowGrows (grown second third) formula tuple (rows_in second) (limit_in second) terms term → RowsSoFar (grown first third) formula tuple (rows_in first) (limit_in first) (rows_in third) (limit_in third) (terms ++ term ∷ []) (n + 1)
    so_far_next third term grows =
        let more = grows.0 in
        let law = grown_rows second third more grows.1 in
        let Now = BecomesRow formula tuple (rows_in second) terms (length terms) in
        let Becomes = BecomesRow formula tuple (rows_in first) terms (length terms) in
        let same_puts : PutsNext Becomes (rows_in second) (limit_in second) more term = puts_over Now Becomes (now_first second terms n so) (first_now second terms n so) (rows_in second) (limit_in second) more term grows.2 in
        let step = subst (λ (rows : List TermRow). PutsNext Becomes rows (limit_in first) more term) so.now_is (subst (λ (limit : ℕ). PutsNext Becomes (rows_in second) limit more term) so.limit_is same_puts) in
        let count : length (terms ++ term ∷ []) ≡ length terms + 1 = length-append terms (term ∷ []) in
        let next = next_in_order (BecomesRow formula tuple (rows_in first) terms) (BecomesRow formula tuple (rows_in first) (terms ++ term ∷ [])) (rows_in first) (limit_in first) (length terms) terms refl (one_row formula tuple (rows_in first) terms (length terms)) (same_rows formula (length tuple) is_formula tuple (rows_in first) terms term) so.added more term so.enters step in
        record {
          added = so.added ++ more;
          grew = grown_both first second third so.added more so.grew grows.1;
          enters = subst (λ (before : ℕ). AreInOrder (BecomesRow formula tuple (rows_in first) (terms ++ term ∷ [])) (rows_in first) (limit_in first) before (so.added ++ more) (terms ++ term ∷ [])) (sym count) next;
          count = omega (arith, length-append terms (term ∷ []), so.count);
          now_is = law.0 ∙ ap (λ (rows : List TermRow). rows ++ more) so.now_is ∙ append_assoc (rows_in first) so.added more;
          limit_is = law.1 ∙ so.limit_is;
          stand = λ k below reach. ⊎_elim
              (λ old.
              let same = index-push terms term k old in
              let bound = so.stand k old reach in
              omega (arith, ap length law.0, length-append (rows_in second) more))
              (λ not_old.
              let last : k ≡ length terms = omega (arith, length-append terms (term ∷ [])) in
              let same : slice_index (terms ++ term ∷ []) k ≡ term = ap (slice_index (terms ++ term ∷ [])) last ∙ index-last terms term in
              let becomes = row_becomes formula tuple is_formula (rows_in first) tuple_stands terms (length terms) (subst (ReachesRow formula.rows formula.nodes formula.root) last reach) in
              let bound = item_stands Becomes (rows_in second) more (limit_in second) term becomes.0 becomes.1 same_puts in
              omega (arith, ap length law.0))
              (cases_lt k (length terms));
        }

    -- memory was refused behind the rows so far
    pub so_far_memory : LacksMemory (grown first second) (λ added. (middle : State) × grown first middle added × refused middle second) formula tuple (rows_in first) (limit_in first)
    so_far_memory = record { added = so.added; terms = terms; grew = inl so.grew; enters = so.enters }

    -- the next row was not entered
    pub so_far_stopped : (third : State) (fault : EnterFault) → StopsRow (third ≡ second) (refused second third) formula tuple (rows_in second) (limit_in second) terms fault → StopsRows (grown first third) (λ added. (middle : State) × grown first middle added × refused middle third) formula tuple (rows_in first) (limit_in first) fault
    so_far_stopped third TermsFull stops =
        record {
          added = so.added;
          terms = terms;
          grew = subst (λ (s : State). grown first s so.added) (sym stops.0) so.grew;
          enters = so.enters;
          full = subst (λ (rows : List TermRow). IsFullFor (BecomesRow formula tuple (rows_in first) terms (length terms)) rows (limit_in first)) so.now_is
              (subst (λ (limit : ℕ). IsFullFor (BecomesRow formula tuple (rows_in first) terms (length terms)) (rows_in second) limit) so.limit_is
              (stops.1.0, now_first second terms n so stops.1.0 stops.1.1, stops.1.2, stops.1.3));
        }
    so_far_stopped third NodesFull stops = absurd stops
    so_far_stopped third Memory stops = record {
      added = so.added;
      terms = terms;
      grew = ⊎_elim (λ same. inl (subst (λ (s : State). grown first s so.added) (sym same) so.grew)) (λ lacks. inr (second, so.grew, lacks)) stops;
      enters = so.enters;
    }
