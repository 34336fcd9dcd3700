-- Lists that are open while a term is elaborated, and what is left to do for them.
use Rattle.std.specs.Prelude.{◌≡◌, ℕ, ◌+◌, ◌≤◌, ◌<◌, List, [], ◌∷◌, ◌++◌, length}
use Rattle.std.specs.Prelude.{reverse, take, true, false, Option, Some, None, Result, Ok, Err}
use Rattle.smt_text.specs.Word.{Word}
use Rattle.smt_text.specs.declared.token.Place.{Place}
use Rattle.graph_terms.specs.declared.memory.Memory.{Memory}
use Rattle.formula_draft.specs.Draft.{Draft}
use Rattle.smt_names.specs.declared.value.Value.{Value}
use Rattle.smt_names.specs.declared.arg.Arg.{Arg}
use Rattle.smt_names.specs.declared.bound.Bound.{Bound}
use Rattle.smt_names.specs.declared.head.Head.{Head}
use Rattle.smt_names.specs.declared.stop.Stop.{Stop}
use Rattle.smt_names.specs.declared.syntax_fault.SyntaxFault.{SyntaxFault}
use Rattle.smt_names.specs.Making.{Making, gives, then_from, ◌>>=◌}
use Rattle.smt_names.specs.Makes.{Refuses}
use Rattle.smt_names.specs.Names.{State, Scope, Unknown, named, named_by, head_of, is_known}
use Rattle.smt_forms.specs.Applied.{applied}
use Rattle.smt_terms.specs.declared.frame.Frame.{Frame}
use Rattle.smt_terms.specs.declared.work.Work.{Work}
use Rattle.smt_terms.specs.declared.work.Work.TheVariants.{Apply, Let, Pass}
use Rattle.smt_terms.specs.declared.inside.Inside.{Inside}
use Rattle.smt_terms.specs.declared.next.Next.{Next}
use Rattle.smt_terms.specs.declared.next.Next.TheVariants as step
use Rattle.smt_terms.specs.declared.given.Given.{Given}
use Rattle.smt_terms.specs.declared.given.Given.TheVariants as given
use Rattle.smt_terms.specs.declared.opened.Opened.{Opened}
use Rattle.smt_terms.specs.declared.opened.Opened.TheVariants as opened
use Rattle.smt_terms.specs.declared.step.Step.{Step}
use Rattle.smt_terms.specs.declared.step.Step.TheVariants as kind
use Rattle.smt_terms.specs.declared.walked.Walked.{Walked}
use Rattle.smt_terms.specs.declared.walked.Walked.TheVariants as walked
use Rattle.smt_terms.specs.Reading.{Reading, Meaning, End, Token, Group}
use Rattle.smt_terms.specs.Terms.{value, values, bind, bound_values, forall_value, list_value}
use Rattle.smt_terms.specs.Cursor.{word_at, trees_from, SeesList}

-- the scope of a term where these names are bound
abbrev pub scope_of : State → Inside → List Bound → Scope
scope_of state inside bound = record {
  state = state;
  bound = bound;
  in_forall = inside.in_forall;
  in_definition = inside.in_definition;
}

-- the scope with more names bound
abbrev pub with_bound : Scope → List Bound → Scope
with_bound scope bound = record scope { bound = scope.bound ++ bound }

-- the names that are bound round a list, by those bound for what is under way in it
abbrev pub bound_round : Work → List Bound → List Bound
bound_round (Apply called head args) bound = bound
bound_round (Let name done next body) bound = bound
bound_round (Pass n) bound = take n bound

abbrev pub outside : Work → Scope → Scope
outside work scope = record scope { bound = bound_round work scope.bound }

-- the names that are bound round all open lists
unfoldable pub base_of : List Frame → List Bound → List Bound
base_of [] bound = bound
base_of (f ∷ fs) bound = base_of fs (bound_round f.work bound)

module _ (words : List Word) where
  -- an application with these arguments gets those that are left
  abbrev pub applies : Scope → Frame → ℕ → Head → List Arg → Reading → Making Value
  applies scope f called head args trees = do
    more ← values scope trees
    applied f.paren f.head (word_at words called).text (named_by scope.state head) (args ++ more)

  -- the bindings from a place on, after those that are done, and then the body
  abbrev pub binds : Scope → Place → List Bound → (next body : ℕ) → Making Value
  binds scope head done next body = do
    bound ← bound_values scope (trees_from words next)
    value head (with_bound scope (done ++ bound)) (trees_from words body)

  -- a list has the value of a tree, and these trees are left in it
  abbrev pub takes_by : Work → Scope → Frame → Reading → Place → Value → Making Value
  takes_by (Apply called head args) scope f trees at v = applies scope f called head (args.items
      ++ record { place = at; value = v } ∷ []) trees
  takes_by (Let name done next body) scope f trees at v = binds scope f.head (done.items
      ++ bind (word_at words name).text v ∷ []) next body
  takes_by (Pass bound) scope f trees at v = gives v

  -- a list goes on with these trees
  abbrev pub goes_by : Work → Scope → Frame → Reading → Making Value
  goes_by (Apply called head args) scope f trees = applies scope f called head args.items trees
  goes_by (Let name done next body) scope f trees = do
    v ← value (word_at words name).place scope trees
    binds scope f.head (done.items ++ bind (word_at words name).text v ∷ []) next body
  goes_by (Pass bound) scope f trees = value f.head scope trees

  -- What is left to do once a tree has its value, by the lists that are open, the innermost first, and the trees left
  -- in that.
  unfoldable pub finish : Scope → List Frame → Reading → Place → Value → Making Value
  finish scope [] trees at v = gives v
  finish scope (f ∷ fs) trees at v = do
    u ← takes_by f.work scope f trees at v
    finish (outside f.work scope) fs (trees_from words f.after) f.paren u

  -- What is left to do where a tree or the end of the innermost list comes next.
  unfoldable pub resume : Place → Scope → List Frame → Reading → Making Value
  resume missing scope [] trees = value missing scope trees
  resume missing scope (f ∷ fs) trees = do
    u ← goes_by f.work scope f trees
    finish (outside f.work scope) fs (trees_from words f.after) f.paren u

  -- how much work some trees are
  unfoldable pub weight : Reading → ℕ
  weight End = 0
  weight (Token word trees) = 1 + weight trees
  weight (Group paren meaning inner trees) = 3 + weight inner + weight trees

  abbrev pub weight_by : Work → ℕ
  weight_by (Apply called head args) = 1
  weight_by (Let name done next body) = 1 + weight (trees_from words next) + weight (trees_from words body)
  weight_by (Pass bound) = 1

  -- and what is left of some open lists
  unfoldable pub load : List Frame → ℕ
  load [] = 0
  load (f ∷ fs) = weight_by f.work + weight (trees_from words f.after) + load fs

-- From a place on, with these lists open, the innermost last, what is left to do.
abbrev pub rest_of : List Word → State → Inside → Place → List Frame → List Bound → ℕ → Making Value
rest_of words state inside missing frames bound i = resume words missing (scope_of state inside bound)
    (reverse frames) (trees_from words i)

-- What is left to do once a tree has its value, and the next stands there.
abbrev pub given_to : List Word → State → Inside → List Frame → List Bound → ℕ → Place → Value → Making Value
given_to words state inside frames bound next at v = finish words (scope_of state inside bound) (reverse frames)
    (trees_from words next) at v

-- how much work is left there
abbrev pub work_of : List Word → List Frame → ℕ → ℕ
work_of words frames i = weight words (trees_from words i) + load words (reverse frames)

-- What a step did, where so much was to do and these names were bound round all: it goes on at a place, with no more
-- work than so much, or the value of the whole is there.
abbrev pub GoesOn : List Word → State → Inside → Place → List Frame → List Bound → Draft → (base : List Bound) →
    (most : ℕ) → Next → Result (Value × Draft) SyntaxFault → Type 0
GoesOn words state inside missing frames bound draft base most (step.At i) was =
    (was ≡ rest_of words state inside missing frames bound i draft) × (work_of words frames i ≤ most) ×
    (base_of (reverse frames) bound ≡ base)
GoesOn words state inside missing frames bound draft base most (step.Whole v) was = (was ≡ Ok (v, draft)) ×
    (bound ≡ base)

-- the same of what takes nothing from the formula and can lack memory alone, in each scope and formula
abbrev pub Continues : List Word → List Frame → List Bound → (base : List Bound) → (most : ℕ) → Result ℕ Memory →
    (State → Inside → Making Value) → Type 0
Continues words frames bound base most (Ok i) was = (state : State) (inside : Inside) (missing : Place)
    (draft : Draft) → GoesOn words state inside missing frames bound draft base most (step.At i)
    (was state inside draft)
Continues words frames bound base most (Err refused) was = Unit {0}

-- a list that is a let gets its further bindings and its body, and gives the body's value on
abbrev pub binds_in : List Word → List Frame → List Bound → (paren head : Place) → (after : ℕ) → List Bound →
    (next body : ℕ) → State → Inside → Making Value
binds_in words frames bound paren head after done next body state inside = do
  v ← binds words (scope_of state inside bound) head done next body
  finish words (scope_of state inside bound) (reverse frames) (trees_from words after) paren v

-- What giving a value to the innermost list did: it is that of the whole, elaboration goes on at a place, or it is
-- the value of that list.
abbrev pub Gives : List Word → List Frame → List Bound → List Frame → List Bound → (after : ℕ) → Place → Value →
    Result Given Memory → Type 0
Gives words frames bound new_frames new_bound after at v
    (Ok given.Whole) = ((state : State) (inside : Inside) (draft : Draft) →
    given_to words state inside frames bound after at v draft ≡ Ok (v, draft)) ×
    (new_bound ≡ base_of (reverse frames) bound)
Gives words frames bound new_frames new_bound after at v (Ok (given.At i)) =
    (state : State) (inside : Inside) (missing : Place) (draft : Draft) →
    GoesOn words state inside missing new_frames new_bound draft (base_of (reverse frames) bound)
    (work_of words frames after) (step.At i) (given_to words state inside frames bound after at v draft)
Gives words frames bound new_frames new_bound after at v (Ok (given.Outer outer_at outer_next)) =
    ((state : State) (inside : Inside) (draft : Draft) →
    given_to words state inside frames bound after at v draft
    ≡ given_to words state inside new_frames new_bound outer_next outer_at v draft)
    × (length new_frames < length frames) × (base_of (reverse new_frames) new_bound
    ≡ base_of (reverse frames) bound) × (work_of words new_frames outer_next ≤ work_of words frames after)
Gives words frames bound new_frames new_bound after at v (Err refused) = Unit {0}

-- what giving it to a list did that was the innermost, of more than these
abbrev pub PutsIn : List Word → List Frame → List Bound → List Frame → List Bound → Frame → (after : ℕ) → Place →
    Value → Result Given Memory → Type 0
PutsIn words frames bound new_frames new_bound f after at v (Ok given.Whole) = ⊥
PutsIn words frames bound new_frames new_bound f after at v (Ok (given.At i)) = Gives words (frames ++ f ∷ []) bound
    new_frames new_bound after at v (Ok (given.At i))
PutsIn words frames bound new_frames new_bound f after at v (Ok (given.Outer outer_at outer_next)) = Gives words
    (frames ++ f ∷ []) bound new_frames new_bound after at v (Ok (given.Outer outer_at outer_next))
PutsIn words frames bound new_frames new_bound f after at v (Err refused) = Unit {0}

-- what giving it on did: elaboration goes on at a place, or it is the value of the whole
abbrev pub GivesOn : List Word → List Frame → List Bound → List Frame → List Bound → (after : ℕ) → Place → Value →
    Result Next Memory → Type 0
GivesOn words frames bound new_frames new_bound after at v (Ok n) =
    (state : State) (inside : Inside) (missing : Place) (draft : Draft) →
    GoesOn words state inside missing new_frames new_bound draft (base_of (reverse frames) bound)
    (work_of words frames after) n (given_to words state inside frames bound after at v draft)
GivesOn words frames bound new_frames new_bound after at v (Err refused) = Unit {0}

-- A list with this meaning is a forall that stands outside foralls and definitions: its place, that of its head, and
-- what stands behind that.
pub record IsUniversal (inside : Inside) (meaning : Meaning) (paren head : Place) (parts : Reading) : Type 0 where
  pub no_forall : inside.in_forall ≡ false
  pub no_definition : inside.in_definition ≡ false
  pub means : meaning ≡ forall_value paren head parts

-- What a list with this meaning does that begins at a place: it is open and elaboration goes on in it, or it is a
-- forall, or it is refused.
abbrev pub Opens : List Word → State → Inside → List Frame → List Bound → List Frame → List Bound →
    (i after most : ℕ) → Meaning → Result Opened Stop → Type 0
Opens words state inside frames bound new_frames new_bound i after most meaning (Ok (opened.At j)) =
    (missing : Place) (draft : Draft) → GoesOn words state inside missing new_frames new_bound draft
    (base_of (reverse frames) bound) most (step.At j)
    (then_from (λ (v : Value). finish words (scope_of state inside bound) (reverse frames) (trees_from words after)
    (word_at words i).place v) (meaning (scope_of state inside bound) draft))
Opens words state inside frames bound new_frames new_bound i after most meaning (Ok opened.Universal) =
    IsUniversal inside meaning (word_at words i).place (word_at words (i + 1)).place (trees_from words (i + 2)) ×
    (new_frames ≡ frames) × (new_bound ≡ bound)
Opens words state inside frames bound new_frames new_bound i after most meaning (Err stop) = (draft : Draft) →
    Refuses stop (meaning (scope_of state inside bound) draft)

-- how much work is left in a list from its parts on, and behind it
abbrev pub work_in : List Word → List Frame → (parts after : ℕ) → ℕ
work_in words frames parts after = weight words (trees_from words parts) + weight words
    (trees_from words after) + load words
    (reverse frames)

-- What a step does: it goes on with less work, or it stands before a forall outside foralls, or it is refused.
pub record Before (words : List Word) (inside : Inside) (frames : List Frame) (bound : List Bound)
    (new_frames : List Frame) (new_bound : List Bound) (i at after : ℕ) : Type 0 where
  pub same_place : at ≡ i
  pub same_frames : new_frames ≡ frames
  pub same_bound : new_bound ≡ bound
  pub sees : SeesList words at after
  pub universal : IsUniversal inside (list_value (word_at words at) (trees_from words (at + 1)))
      (word_at words at).place (word_at words (at + 1)).place (trees_from words (at + 2))

pub record Progress (words : List Word) (state : State) (inside : Inside) (missing : Place) (frames : List Frame)
    (bound : List Bound) (new_frames : List Frame) (new_bound : List Bound) (draft later : Draft) (i : ℕ)
    (n : Next) : Type 0 where
  pub most : ℕ
  pub less : most < work_of words frames i
  pub goes : GoesOn words state inside missing new_frames new_bound later (base_of (reverse frames) bound) most n
      (rest_of words state inside missing frames bound i draft)

abbrev pub Steps : List Word → State → Inside → Place → List Frame → List Bound → List Frame → List Bound → Draft →
    Draft → ℕ → Result Step Stop → Type 0
Steps words state inside missing frames bound new_frames new_bound draft later i (Ok (kind.At j)) = Progress words
    state inside missing frames bound new_frames new_bound draft later i (step.At j)
Steps words state inside missing frames bound new_frames new_bound draft later i (Ok (kind.Whole v)) = Progress words
    state inside missing frames bound new_frames new_bound draft later i (step.Whole v)
Steps words state inside missing frames bound new_frames new_bound draft later i
    (Ok (kind.Universal at after)) = Before words inside frames bound new_frames new_bound i at after ×
    (later ≡ draft)
Steps words state inside missing frames bound new_frames new_bound draft later i (Err stop) = Refuses stop
    (rest_of words state inside missing frames bound i draft)

-- the step that goes on so
abbrev pub step_of : Next → Step
step_of (step.At i) = kind.At i
step_of (step.Whole v) = kind.Whole v

-- the step that opens a list
abbrev pub step_for : Opened → (at after : ℕ) → Step
step_for (opened.At i) at after = kind.At i
step_for opened.Universal at after = kind.Universal at after

-- What going on did: the value of the whole is there, or a forall outside foralls comes next and as much is left to
-- do, or it is refused.
pub record Stands (words : List Word) (state : State) (inside : Inside) (missing : Place) (frames : List Frame)
    (bound : List Bound) (new_frames : List Frame) (new_bound : List Bound) (draft later : Draft)
    (i at after : ℕ) : Type 0 where
  pub same : rest_of words state inside missing frames bound i draft
      ≡ rest_of words state inside missing new_frames new_bound at later
  pub base : base_of (reverse new_frames) new_bound ≡ base_of (reverse frames) bound
  pub no_more : work_of words new_frames at ≤ work_of words frames i
  pub sees : SeesList words at after
  pub universal : IsUniversal inside (list_value (word_at words at) (trees_from words (at + 1)))
      (word_at words at).place (word_at words (at + 1)).place (trees_from words (at + 2))

abbrev pub Walks : List Word → State → Inside → Place → List Frame → List Bound → List Frame → List Bound → Draft →
    Draft → ℕ → Result Walked Stop → Type 0
Walks words state inside missing frames bound new_frames new_bound draft later i
    (Ok (walked.Whole v)) = (rest_of words state inside missing frames bound i draft ≡ Ok (v, later)) ×
    (new_bound ≡ base_of (reverse frames) bound)
Walks words state inside missing frames bound new_frames new_bound draft later i
    (Ok (walked.Universal at after)) = Stands words state inside missing frames bound new_frames new_bound draft later
    i at after
Walks words state inside missing frames bound new_frames new_bound draft later i (Err stop) = Refuses stop
    (rest_of words state inside missing frames bound i draft)

-- what a forall does that begins at a place
abbrev pub OpensForall : List Word → Inside → ℕ → Result Opened Stop → Type 0
OpensForall words inside i (Ok (opened.At j)) = ⊥
OpensForall words inside i (Ok opened.Universal) = (inside.in_forall ≡ false) × (inside.in_definition ≡ false)
OpensForall words inside i (Err stop) = (state : State) (bound : List Bound) (paren : Place) (draft : Draft) →
    Refuses stop (forall_value paren (word_at words (i + 1)).place (trees_from words (i + 2))
    (scope_of state inside bound)
    draft)

-- what a name that is not bound stands for, where it stands for something
abbrev pub IsHeadOf : State → List ℕ → Option Head → Type 0
IsHeadOf state name None = named state name ≡ Unknown
IsHeadOf state name (Some h) = (h ≡ head_of state name) × (is_known (named_by state h) ≡ true)

-- a forall outside foralls and definitions stands at a place
abbrev pub IsUniversalAt : List Word → Inside → ℕ → Type 0
IsUniversalAt words inside i = IsUniversal inside (list_value (word_at words i) (trees_from words (i + 1)))
    (word_at words i).place (word_at words (i + 1)).place (trees_from words (i + 2))

-- What going on behind the next forall did: there is less to do, or the value of the whole is there, or it is
-- refused.
abbrev pub Advances : List Word → State → Inside → Place → List Frame → List Bound → List Frame → List Bound → Draft →
    Draft → ℕ → Result Next Stop → Type 0
Advances words state inside missing frames bound new_frames new_bound draft later i (Ok (step.At j)) =
    (rest_of words state inside missing frames bound i draft
    ≡ rest_of words state inside missing new_frames new_bound j later)
    × (base_of (reverse new_frames) new_bound ≡ base_of (reverse frames) bound) ×
    (work_of words new_frames j < work_of words frames i)
Advances words state inside missing frames bound new_frames new_bound draft later i
    (Ok (step.Whole v)) = (rest_of words state inside missing frames bound i draft ≡ Ok (v, later)) ×
    (new_bound ≡ base_of (reverse frames) bound)
Advances words state inside missing frames bound new_frames new_bound draft later i (Err stop) = Refuses stop
    (rest_of words state inside missing frames bound i draft)
