-- What came with the last operation, and what is left without it.
use Rattle.std.proofs.Common.{◌≡◌, ◌≤◌, ◌<◌, ◌+◌, ◌-◌, cond, ℕ, Bool, true, false, List, [], ◌∷◌, ◌++◌, length, take, Option, suc, Some, None, slice_get, refl, sym, ◌∙◌, ap, arith, length-append}
use Rattle.std.specs.List.{before_last, filter_map, cons_option}
use Rattle.std.proofs.lemmas.List.{take_all, take-append-le}
use Rattle.std.proofs.lemmas.List.Sums.{sum_by-append}
use Rattle.graph_meaning.specs.declared.done.Done.{Done}
use Rattle.graph_meaning.specs.declared.op.Op.{Op}
use Rattle.graph_trigger.specs.declared.trigger.Trigger.{Trigger}
use Rattle.graph_meaning.proofs.LawfulLaws.{triggers_of-push, differs_of-push}
use Rattle.graph_meaning.specs.Standing.{then_op, is_push, live_trigger, levels_of, triggers_of, triggers_added, differs_added}
use Rattle.graph_terms.proofs.ListLaws.{take-slice_get, before_last-hit, before_last-miss}
use Rattle.graph_meaning.specs.State.{GraphState}
use Rattle.graph_congruence.specs.Clash.{apart_of}
use Rattle.graph_congruence.specs.Last.{DropsLast, IsLastShare}
use Rattle.graph_congruence.specs.declared.share.Share.{Share}

-- all but the last, and the last
pub last_split : {A : Type 0} (xs : List A) (x : A) → 0 < length xs → slice_get xs (length xs - 1) ≡ Some x → xs ≡ take (length xs - 1) xs ++ x ∷ []
last_split xs x some is =
    let next : length xs - 1 + 1 ≡ length xs = omega (arith, some) in
    sym (take_all (length xs) xs (omega arith)) ∙ ap (λ n. take n xs) (sym next) ∙ take-slice_get xs (length xs - 1) x is

-- the front of a list that was grown
pub take_front : {A : Type 0} (xs more ys : List A) (n : ℕ) → ys ≡ xs ++ more → n ≡ length more → take (length ys - n) ys ≡ xs
take_front xs more ys n e k =
    let len : length ys - n ≡ length xs = omega (arith, ap length e, length-append xs more, k) in
    ap (λ i. take i ys) len ∙ ap (take (length xs)) e ∙ take-append-le (length xs) xs more (omega arith) ∙ take_all (length xs) xs (omega arith)

pub levels_of-last : (xs : List Done) (last : Done) → levels_of (xs ++ last ∷ []) ≡ levels_of xs + levels_of (last ∷ [])
levels_of-last xs last = sum_by-append (λ d. cond (is_push d) 1 0) xs (last ∷ [])

pub triggers_of-last : (xs : List Done) (last : Done) → triggers_of (xs ++ last ∷ []) ≡ triggers_of xs ++ triggers_added last.op
triggers_of-last xs last = triggers_of-push xs last.serial last.op

pub apart_of-last : (xs : List Done) (last : Done) → apart_of (xs ++ last ∷ []) ≡ apart_of xs ++ differs_added last.op
apart_of-last xs last = ap (λ pairs. (0, 1) ∷ pairs) (differs_of-push xs last.serial last.op)

-- what is left of the lists without the last operation
module _ (log : List Done) (share : Share) (some : 0 < length log) (is : IsLastShare log share) where
  rest : List Done
  rest = take (length log - 1) log

  split : log ≡ take (length log - 1) log ++ is.last ∷ []
  split = last_split log is.last some is.is_last

  pub levels_left : levels_of log ≡ levels_of (take (length log - 1) log) + share.levels
  levels_left = ap levels_of split ∙ levels_of-last (take (length log - 1) log) is.last ∙ ap (λ n. levels_of (take (length log - 1) log) + n) (sym is.levels)

  triggers_split : triggers_of log ≡ triggers_of (take (length log - 1) log) ++ triggers_added is.last.op
  triggers_split = ap triggers_of split ∙ triggers_of-last (take (length log - 1) log) is.last

  apart_split : apart_of log ≡ apart_of (take (length log - 1) log) ++ differs_added is.last.op
  apart_split = ap apart_of split ∙ apart_of-last (take (length log - 1) log) is.last

  pub triggers_few : share.triggers ≤ length (triggers_of log)
  triggers_few = omega (arith, is.triggers, ap length triggers_split, length-append (triggers_of (take (length log - 1) log)) (triggers_added is.last.op))

  pub apart_few : share.differs ≤ length (apart_of log)
  apart_few = omega (arith, is.differs, ap length apart_split, length-append (apart_of (take (length log - 1) log)) (differs_added is.last.op))

  pub triggers_left : take (length (triggers_of log) - share.triggers) (triggers_of log) ≡ triggers_of (take (length log - 1) log)
  triggers_left = take_front (triggers_of (take (length log - 1) log)) (triggers_added is.last.op) (triggers_of log) share.triggers triggers_split is.triggers

  pub apart_left : take (length (apart_of log) - share.differs) (apart_of log) ≡ apart_of (take (length log - 1) log)
  apart_left = take_front (apart_of (take (length log - 1) log)) (differs_added is.last.op) (apart_of log) share.differs apart_split is.differs

  pub drops_last : (old new : GraphState) (opened : Bool) → old.standing ≡ log → new.standing ≡ take (length log - 1) log → new.done ≡ old.done → new.limit ≡ old.limit → opened ≡ share.opens → DropsLast old new opened
  drops_last old new opened is_log left done limit opens = record {
    last = is.last;
    standing = is_log ∙ split ∙ ap (λ xs. xs ++ is.last ∷ []) (sym left);
    opens = opens ∙ is.opens;
    done = done;
    limit = limit;
  }

-- a list with levels isn't empty
pub some_of_levels : (log : List Done) → 0 < levels_of log → 0 < length log
some_of_levels [] h = absurd (omega arith)
some_of_levels (done ∷ log) h = omega arith

-- ---- the last level taken off, operation by operation

levels_of-one : (last : Done) (b : Bool) → is_push last ≡ b → levels_of (last ∷ []) ≡ cond b 1 0
levels_of-one last b is = ap (λ c. 0 + cond c 1 0) is ∙ each b
  where
    each : (c : Bool) → 0 + cond c 1 0 ≡ cond c 1 0
    each true = refl
    each false = refl

module _ (old new : GraphState) (opened : Bool) (drops : DropsLast old new opened) where
  pub level_step : cond opened new.standing (before_last is_push new.standing) ≡ before_last is_push old.standing
  level_step = each opened (sym drops.opens) ∙ ap (before_last is_push) (sym drops.standing)
    where
      each : (b : Bool) → is_push drops.last ≡ b → cond b new.standing (before_last is_push new.standing) ≡ before_last is_push (new.standing ++ drops.last ∷ [])
      each true is = sym (before_last-hit is_push new.standing drops.last is)
      each false is = sym (before_last-miss is_push new.standing drops.last is)

  pub levels_step : levels_of new.standing + cond opened 1 0 ≡ levels_of old.standing
  levels_step = ap (λ n. levels_of new.standing + n) (sym (levels_of-one drops.last opened (sym drops.opens))) ∙ sym (levels_of-last new.standing drops.last) ∙ ap levels_of (sym drops.standing)

  pub shorter_step : length new.standing + 1 ≡ length old.standing
  shorter_step = omega (arith, ap length drops.standing, length-append new.standing (drops.last ∷ []))

-- ---- the lists after an operation more

pub triggers_after : (log new : List Done) (serial : ℕ) (op : Op) (live pushed : List Trigger) → new ≡ then_op log serial op → live ≡ triggers_of log → pushed ≡ live ++ triggers_added op → pushed ≡ triggers_of new
triggers_after log new serial op live pushed is e more = more ∙ ap (λ xs. xs ++ triggers_added op) e ∙ sym (triggers_of-push log serial op) ∙ ap triggers_of (sym is)

pub apart_after : (log new : List Done) (serial : ℕ) (op : Op) (apart pushed : List (ℕ × ℕ)) → new ≡ then_op log serial op → apart ≡ apart_of log → pushed ≡ apart ++ differs_added op → pushed ≡ apart_of new
apart_after log new serial op apart pushed is e more = more ∙ ap (λ xs. xs ++ differs_added op) e ∙ ap (λ xs. (0, 1) ∷ xs) (sym (differs_of-push log serial op)) ∙ ap apart_of (sym is)

-- there are no more triggers than operations
at_most : {X Y : Type 0} (h : X → Option Y) (xs : List X) → length (filter_map h xs) ≤ length xs
at_most h [] = omega arith
at_most {Y = Y} h (x ∷ xs) = each (h x) (filter_map h xs) (length xs) (at_most h xs)
  where
    each : (o : Option Y) (ys : List Y) (n : ℕ) → length ys ≤ n → length (cons_option o ys) ≤ suc n
    each None ys n low = omega arith
    each (Some y) ys n low = omega arith

pub triggers_at_most : (log : List Done) → length (triggers_of log) ≤ length log
triggers_at_most log = at_most live_trigger log
