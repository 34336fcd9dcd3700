-- A search that ends open has a cause.
use Rattle.std.proofs.Common.{◌≡◌, ℕ, ◌≤◌, List, [], ◌∷◌, length, All, refl, sym, subst, ◌∙◌, arith}
use Rattle.std.proofs.lemmas.List.Elements.{All-nil, All-push}
use Rattle.match_store.specs.declared.instance.Instance.{Instance}
use Rattle.formula_table.specs.declared.enter_fault.EnterFault.{EnterFault}
use Rattle.search_laws.specs.Branch.{Branch, with_held, with_struck}
use Rattle.search_laws.specs.Path.{Path, with_branch, after_round}
use Rattle.search_laws.specs.Rounds.{EntersAll, AreNewIn}
use Rattle.search_laws.specs.Rounds as entering
use Rattle.search_laws.specs.Verdict.{Ending, unsat, sat, settled, rounds_spent, refused, IsUndecided, Verdict}
use Rattle.search_laws.specs.Verdict as verdict
use Rattle.search_laws.specs.Laws.{IsLeftOpen, OpensForACause}

-- an undecided branch is left open
left_open : (path : Path) (closed : Branch) → IsUndecided path closed → IsLeftOpen (with_branch path closed)
left_open path closed undecided = record {
  no_conflict = undecided.decided.quiet.no_conflict;
  no_open = undecided.decided.no_open;
  some_live = undecided.some_live;
}

-- open, and nothing is new
abbrev IsSettled : Path → Type 0
IsSettled last = IsLeftOpen last × AreNewIn last []

settles : {rounds : ℕ} {path : Path} {ending : Ending} → Verdict rounds path ending → (last : Path) →
    ending ≡ settled last → IsSettled last
settles (verdict.conflict closes c) last e = cc
settles (verdict.first_half quiet split asserts after not) last e = settles after last e
settles (verdict.second_half quiet split asserts lost has after) last e = settles after last e
settles (verdict.satisfied decided no_live) last e = cc
settles (verdict.nothing_new {path} {closed} undecided none) last e =
    let same : with_branch path closed ≡ last = cc in subst IsSettled same (left_open path closed undecided, none)
settles (verdict.no_round undecided new spent) last e = cc
settles (verdict.round undecided new less enters after) last e = settles after last e
settles (verdict.past_limit undecided new less over) last e = cc

-- each round that the path has spent entered an instance or more
record EachEntered (path : Path) : Type 0 where
  entered : All (λ count. 1 ≤ count) path.spent

-- open, an instance is new, and so many rounds are spent, each of which entered one or more
record IsSpent (rounds : ℕ) (last : Path) : Type 0 where
  is_open : IsLeftOpen last
  instance : Instance
  instances : List Instance
  new : AreNewIn last (instance ∷ instances)
  count : length last.spent ≡ rounds
  each : All (λ count. 1 ≤ count) last.spent

-- another branch spends no round
each_branch : (path : Path) (branch : Branch) → EachEntered path → EachEntered (with_branch path branch)
each_branch path branch each = record { entered = each.entered }

-- to enter instances spends none by itself
spent_is : {instances : List Instance} {before after : Path} → EntersAll instances before after →
    after.spent ≡ before.spent
spent_is entering.none = refl
spent_is (entering.more one rest) = spent_is rest ∙ one.spent_is

-- and a round that entered some is one more that did
each_round : (path next : Path) (closed : Branch) (instance : Instance) (instances : List Instance) →
    EntersAll (instance ∷ instances) (with_branch path closed) next → EachEntered path →
    EachEntered (after_round next (length (instance ∷ instances)))
each_round path next closed instance instances enters each = record {
  entered = All-push (λ count. 1 ≤ count) next.spent (length (instance ∷ instances))
      (subst (All (λ count. 1 ≤ count)) (sym (spent_is enters)) each.entered) (omega arith);
}

-- the search ends here
spent_here : (rounds : ℕ) (path : Path) (closed : Branch) (instance : Instance) (instances : List Instance) →
    IsUndecided path closed → AreNewIn (with_branch path closed) (instance ∷ instances) →
    length path.spent ≡ rounds → EachEntered path → IsSpent rounds (with_branch path closed)
spent_here rounds path closed instance instances undecided new spent each = record {
  is_open = left_open path closed undecided;
  instance = instance;
  instances = instances;
  new = new;
  count = spent;
  each = each.entered;
}

-- no other ending is that of spent rounds, and it says where
not_unsat : (last : Path) → unsat ≡ rounds_spent last → ⊥
not_unsat last e = cc

not_sat : (path last : Path) → sat path ≡ rounds_spent last → ⊥
not_sat path last e = cc

not_settled : (path last : Path) → settled path ≡ rounds_spent last → ⊥
not_settled path last e = cc

not_refused : (fault : EnterFault) (last : Path) → refused fault ≡ rounds_spent last → ⊥
not_refused fault last e = cc

same_spent : (path last : Path) → rounds_spent path ≡ rounds_spent last → path ≡ last
same_spent path last e = cc

module _ (rounds : ℕ) where
  -- so what holds of the path where the rounds end holds of the last
  spends : {path : Path} {ending : Ending} → Verdict rounds path ending → (last : Path) →
      ending ≡ rounds_spent last → EachEntered path → IsSpent rounds last
  spends (verdict.conflict closes c) last e each = absurd (not_unsat last e)
  spends (verdict.first_half {path} {closed} {next} quiet split asserts after not) last e each =
      spends after last e (each_branch path (with_held closed next) each)
  spends (verdict.second_half {path} {closed} {n} {place} {node} quiet split asserts lost has after) last e each =
      spends after last e (each_branch path (with_struck closed n place node) each)
  spends (verdict.satisfied {path} {closed} decided no_live) last e each =
      absurd (not_sat (with_branch path closed) last e)
  spends (verdict.nothing_new {path} {closed} undecided none) last e each =
      absurd (not_settled (with_branch path closed) last e)
  spends (verdict.no_round {path} {closed} {instance} {instances} undecided new spent) last e each =
      subst (IsSpent rounds) (same_spent (with_branch path closed) last e)
      (spent_here rounds path closed instance instances undecided new spent each)
  spends (verdict.round {path} {next} {closed} {instance} {instances} undecided new less enters after) last e each =
      spends after last e (each_round path next closed instance instances enters each)
  spends (verdict.past_limit {path} {closed} {instances} {fault} undecided new less over) last e each =
      absurd (not_refused fault last e)

pub opens : OpensForACause
opens = record {
  settles = λ rounds path last ends. settles ends last refl;
  spends = λ rounds formulas now last ends.
      let h = spends rounds ends last refl (record { entered = All-nil (λ count. 1 ≤ count) }) in
      (h.is_open, (h.instance, h.instances, h.new), h.count, h.each);
}
