-- How foralls are entered, one after another.
use Rattle.std.proofs.Common.{◌≡◌, ℕ, suc, ◌+◌, ◌<◌, ◌↔◌, Bool, true, false, List, [], ◌∷◌, ◌++◌, length, get_or, slice_get, Some, Contains, refl, sym, ap, subst, ◌∙◌, ⊎_elim, append-nil, append_assoc, arith, true≢false}
use Rattle.std.specs.Prelude.{slice_index}
use Rattle.std.proofs.lemmas.Bool.{cases_lt}
use Rattle.std.proofs.lemmas.List.{length-append}
use Rattle.std.proofs.lemmas.List.Elements.{Contains-push, Contains-push_cases, Contains-append_left}
use Rattle.std.proofs.lemmas.List.Quantifiers.{all_pairs_push}
use Rattle.std.proofs.lemmas.Option.{none-some, same_Some, slice_get_within, slice_get-get_or}
use Rattle.graph_trigger.specs.declared.trigger.Trigger.{Trigger}
use Rattle.graph_terms.proofs.ListLaws.{element_at, push_cases, place_from_Contains, Contains-slice_get}
use Rattle.formula_draft.specs.declared.draft_forall.DraftForall.{DraftForall}
use Rattle.formula_draft.specs.Draft.{Formula}
use Rattle.formula_table.specs.declared.table_forall.TableForall.{TableForall}
use Rattle.formula_table.specs.Formulas.{Formulas, GrowsTable, with_foralls}
use Rattle.formula_table.specs.Entry.{placed, numbered, BecomesForall, ReachesForall, EntersForalls}
use Rattle.formula_table.specs.EntryInside.{ForallGrows, ForallsEntered, ForallNumbersStand}
use Rattle.formula_table.proofs.InOrderLemmas.{index-push, index-last}

-- the triggers with one more
pub numbered-push : (forall place : ℕ) (triggers : List Trigger) (trigger : Trigger) → numbered forall place (triggers ++ trigger ∷ []) ≡ numbered forall place triggers ++ placed forall (place + length triggers) trigger ∷ []
numbered-push forall place [] trigger = let same : place + 0 ≡ place = omega arith in ap (λ (k : ℕ). placed forall k trigger ∷ []) (sym same)
numbered-push forall place (t ∷ triggers) trigger =
    let same : (place + 1) + length triggers ≡ place + suc (length triggers) = omega arith in
    ap (λ (rest : List Trigger). placed forall place t ∷ rest) (numbered-push forall (place + 1) triggers trigger ∙ ap (λ (k : ℕ). numbered forall (place + 1) triggers ++ placed forall k trigger ∷ []) same)

-- no further foralls
pub with_foralls_none : (table : Formulas) → with_foralls [] table ≡ table
with_foralls_none table = ap (λ (foralls : List TableForall). record table { foralls = foralls }) (append-nil table.foralls)

-- the first foralls were entered
pub record ForallsSoFar (formula : Formula) (old now : Formulas) (numbers : List ℕ) (n : ℕ) : Type 0 where
  pub added : List TableForall
  pub enters : EntersForalls formula old.foralls added numbers
  pub now_is : now ≡ with_foralls added old
  pub count : length numbers ≡ n

pub foralls_none : (formula : Formula) (old : Formulas) → ForallsSoFar formula old old [] 0
foralls_none formula old = record {
  added = [];
  enters = record {
    reached = [];
    all = record { rising = λ i j d a b. absurd (omega (arith, b)); exact = λ n. (λ c. absurd (no_element n c), λ p. absurd (omega (arith, p.0))) };
    count = refl;
    each = λ k index drafted forall at. absurd (none-some index at);
  };
  now_is = sym (with_foralls_none old);
  count = refl;
}
  where
    no_element : (n : ℕ) → Contains {X = ℕ} [] n → ⊥
    no_element n c = none-some n (place_from_Contains [] n c).1

module _ (formula : Formula) (old now : Formulas) (numbers : List ℕ) (number n : ℕ) (so : ForallsSoFar formula old now numbers n) where
  -- the number of an earlier forall stays
  old_number : (index : ℕ) → index < length numbers → slice_index (numbers ++ number ∷ []) index ≡ slice_index numbers index
  old_number index within = index-push numbers number index within

  last_number : slice_index (numbers ++ number ∷ []) n ≡ number
  last_number = ap (slice_index (numbers ++ number ∷ [])) (sym so.count) ∙ index-last numbers number

  below_now : length (numbers ++ number ∷ []) ≡ length numbers + 1
  below_now = length-append numbers (number ∷ [])

  -- a forall that isn't reached adds nothing
  pub foralls_unreached : (ReachesForall formula n → ⊥) → ForallsSoFar formula old now (numbers ++ number ∷ []) (n + 1)
  foralls_unreached not = record {
    added = so.added;
    enters = record {
      reached = so.enters.reached;
      all = record {
        rising = so.enters.all.rising;
        exact = λ index. (
          λ c. let was = (so.enters.all.exact index).0 c in (omega (arith, was.0, below_now), was.1),
          λ p. (so.enters.all.exact index).1 (⊎_elim (λ earlier. earlier) (λ not_earlier. let here : index ≡ n = omega (arith, p.0, below_now, so.count) in absurd (not (subst (ReachesForall formula) here p.1))) (cases_lt index (length numbers)), p.1),
        );
      };
      count = so.enters.count;
      each = λ k index drafted forall thing at item.
          let was = so.enters.each k index drafted forall thing at item in
          let within = ((so.enters.all.exact index).0 (Contains-slice_get so.enters.reached k index thing)).0 in
          (old_number index within ∙ was.0, was.1);
    };
    now_is = so.now_is;
    count = omega (arith, below_now, so.count);
  }

  -- a reached forall is put last
  pub foralls_reached : (drafted : DraftForall) (new : TableForall) (after : Formulas) → ReachesForall formula n → slice_get formula.foralls n ≡ Some drafted → BecomesForall formula (length now.foralls) drafted new → after ≡ with_foralls (new ∷ []) now → number ≡ length now.foralls → ForallsSoFar formula old after (numbers ++ number ∷ []) (n + 1)
  foralls_reached drafted new after reach at becomes after_is number_is =
      let now_foralls : now.foralls ≡ old.foralls ++ so.added = ap (λ (table : Formulas). table.foralls) so.now_is in
      let place : length now.foralls ≡ length old.foralls + length so.added = ap length now_foralls ∙ length-append old.foralls so.added in
      record {
        added = so.added ++ new ∷ [];
        enters = record {
          reached = so.enters.reached ++ n ∷ [];
          all = record {
            rising = all_pairs_push (λ a b. a < b) so.enters.reached n so.enters.all.rising
                (λ k d within. let was = (so.enters.all.exact (get_or so.enters.reached k d)).0 (Contains-slice_get so.enters.reached k (get_or so.enters.reached k d) (slice_get-get_or so.enters.reached k d within)) in omega (arith, was.0, so.count));
            exact = λ index. (
              λ c. ⊎_elim
                  (λ old_one. let was = (so.enters.all.exact index).0 old_one in (omega (arith, was.0, below_now), was.1))
                  (λ new_one. (omega (arith, new_one, below_now, so.count), subst (ReachesForall formula) new_one reach))
                  (Contains-push_cases so.enters.reached n index c),
              λ p. ⊎_elim
                  (λ earlier. Contains-append_left so.enters.reached (n ∷ []) index ((so.enters.all.exact index).1 (earlier, p.1)))
                  (λ not_earlier. let here : index ≡ n = omega (arith, p.0, below_now, so.count) in subst (Contains (so.enters.reached ++ n ∷ [])) (sym here) (Contains-push so.enters.reached n))
                  (cases_lt index (length numbers)),
            );
          };
          count = omega (arith, length-append so.enters.reached (n ∷ []), length-append so.added (new ∷ []), so.enters.count);
          each = λ k index found forall thing here item. ⊎_elim
              (λ old_thing. ⊎_elim
              (λ old_item.
              let was = so.enters.each k index found forall old_thing here old_item in
              let within = ((so.enters.all.exact index).0 (Contains-slice_get so.enters.reached k index old_thing)).0 in
              (old_number index within ∙ was.0, was.1))
              (λ new_item. absurd (omega (arith, slice_get_within so.enters.reached k index old_thing, so.enters.count, new_item.0)))
              (push_cases so.added new k forall item))
              (λ new_thing. ⊎_elim
              (λ old_item. absurd (omega (arith, slice_get_within so.added k forall old_item, so.enters.count, new_thing.0)))
              (λ new_item.
              let same : found ≡ drafted = same_Some found drafted (sym here ∙ ap (slice_get formula.foralls) new_thing.1 ∙ at) in
              let count : length now.foralls ≡ length old.foralls + k = omega (arith, place, new_item.0) in (
                ap (slice_index (numbers ++ number ∷ [])) new_thing.1 ∙ last_number ∙ number_is ∙ count,
                subst (λ (m : ℕ). BecomesForall formula m found forall) count
                    (subst (λ (d : DraftForall). BecomesForall formula (length now.foralls) d forall) (sym same)
                    (subst (BecomesForall formula (length now.foralls) drafted) (sym new_item.1) becomes)),
              ))
              (push_cases so.added new k forall item))
              (push_cases so.enters.reached n k index thing);
        };
        now_is = after_is ∙ ap (λ (table : Formulas). with_foralls (new ∷ []) table) so.now_is ∙ ap (λ (foralls : List TableForall). record old { foralls = foralls }) (append_assoc old.foralls so.added (new ∷ []));
        count = omega (arith, below_now, so.count);
      }

-- the next forall was entered or is not reached
pub foralls_next : (formula : Formula) (old now after : Formulas) (numbers : List ℕ) (number n : ℕ) (reached : Bool) → ForallsSoFar formula old now numbers n → (reached ≡ true ↔ ReachesForall formula n) → ForallGrows formula n reached now after number → ForallsSoFar formula old after (numbers ++ number ∷ []) (n + 1)
foralls_next formula old now after numbers number n false so reach grows = subst (λ (table : Formulas). ForallsSoFar formula old table (numbers ++ number ∷ []) (n + 1)) (sym grows) (foralls_unreached formula old now numbers number n so (λ r. absurd (true≢false (sym (reach.1 r)))))
foralls_next formula old now after numbers number n true so reach grows = foralls_reached formula old now numbers number n so grows.0 grows.1 after (reach.0 refl) grows.2 grows.3 grows.4 grows.5

-- further foralls grow a table
pub foralls_grow : (formula : Formula) (old now : Formulas) (numbers : List ℕ) (n : ℕ) → ForallsSoFar formula old now numbers n → GrowsTable old now
foralls_grow formula old now numbers n so = subst (GrowsTable old) (sym so.now_is) (record { more_nodes = []; more_foralls = so.added; nodes_are = sym (append-nil old.nodes); foralls_are = refl; limit_is = refl })

-- the numbers of reached foralls are those of foralls of the table
pub foralls_stand : (formula : Formula) (old new : Formulas) (numbers : List ℕ) → ForallsEntered formula old new numbers → ForallNumbersStand formula new numbers
foralls_stand formula old new numbers entered index within reach =
    let enters = entered.grow.enters in
    let place = place_from_Contains enters.reached index ((enters.all.exact index).1 (omega (arith, within, entered.grow.all), reach)) in
    let forall = element_at formula.foralls index within in
    let below_count = slice_get_within enters.reached place.0 index place.1 in
    let item = element_at entered.added place.0 (omega (arith, below_count, enters.count)) in
    let has = enters.each place.0 index forall.0 item.0 place.1 forall.1 item.1 in
    let count : length new.foralls ≡ length old.foralls + length entered.added = ap (λ (table : Formulas). length table.foralls) entered.new_is ∙ length-append old.foralls entered.added in
    omega (arith, has.0, below_count, enters.count, count)

-- the foralls were entered, and grow the table
pub entered_grows : (formula : Formula) (old new : Formulas) (numbers : List ℕ) → ForallsEntered formula old new numbers → GrowsTable old new
entered_grows formula old new numbers entered = subst (GrowsTable old) (sym entered.new_is) (record { more_nodes = []; more_foralls = entered.added; nodes_are = sym (append-nil old.nodes); foralls_are = refl; limit_is = refl })
