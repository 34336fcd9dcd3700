-- The steps of the machine leave as much to do as before.
use Rattle.std.proofs.Common.{◌≡◌, ℕ, ◌+◌, ◌-◌, List, [], ◌∷◌, ◌++◌, length, take, reverse, Vec, false, Result, Ok, Err, sym, ap, ◌∙◌, refl, subst, arith, append_assoc, length-append}
use Rattle.std.proofs.lemmas.List.{append-nil, reverse-append}
use Rattle.std.proofs.Math.Seq.{take-append_seam}
use Rattle.std.specs.declared.alloc.Global.{Global}
use Rattle.smt_text.specs.Word.{Word}
use Rattle.smt_text.specs.declared.token.Place.{Place}
use Rattle.graph_terms.specs.declared.memory.Memory.{Memory}
use Rattle.formula_draft.specs.Draft.{Draft}
use Rattle.smt_names.specs.declared.value.Value.{Value}
use Rattle.smt_names.specs.declared.arg.Arg.{Arg}
use Rattle.smt_names.specs.declared.bound.Bound.{Bound}
use Rattle.smt_names.specs.declared.head.Head.{Head}
use Rattle.smt_names.specs.declared.syntax_fault.SyntaxFault.{SyntaxFault}
use Rattle.smt_names.specs.Making.{Making, gives, then_from, ◌>>=◌}
use Rattle.smt_names.specs.Names.{State, Scope, named_by}
use Rattle.smt_forms.specs.Applied.{applied}
use Rattle.smt_terms.specs.declared.frame.Frame.{Frame}
use Rattle.smt_terms.specs.declared.work.Work.{Work}
use Rattle.smt_terms.specs.declared.work.Work.TheVariants.{Apply, Let, Pass}
use Rattle.smt_terms.specs.declared.inside.Inside.{Inside}
use Rattle.smt_terms.specs.declared.given.Given.{Given}
use Rattle.smt_terms.specs.declared.given.Given.TheVariants as given
use Rattle.smt_terms.specs.declared.next.Next.TheVariants as step
use Rattle.smt_terms.specs.Reading.{Reading, Meaning, End, Token, Group}
use Rattle.smt_terms.specs.Terms.{value, values, bind, bound_values, token_value}
use Rattle.smt_terms.specs.Cursor.{word_at, trees_from, is_binding, SeesBinding}
use Rattle.smt_terms.specs.Machine.{outside, with_bound, applies, binds, takes_by, goes_by, finish, resume, weight, load, base_of, scope_of, GoesOn, Gives, PutsIn, binds_in}

abbrev Made : Type 0
Made = Result (Value × Draft) SyntaxFault

then_made : (first : Made) → then_from gives first ≡ first
then_made (Ok done) = refl
then_made (Err fault) = refl

module _ (words : List Word) where
  -- an application gets the value of its next tree
  gets : (scope : Scope) (f : Frame) (called : ℕ) (head : Head) (args : List Arg) (at : Place) (rest : Reading) (first : Made)
      → then_from (λ (more : List Arg). applied f.paren f.head (word_at words called).text (named_by scope.state head) (args ++ more))
      (then_from (λ (v : Value). values scope rest >>= λ (more : List Arg). gives (record { place = at; value = v } ∷ more)) first)
      ≡ then_from (λ (v : Value). applies words scope f called head (args ++ record { place = at; value = v } ∷ []) rest) first
  gets scope f called head args at rest (Err fault) = refl
  gets scope f called head args at rest (Ok done) = by (values scope rest done.1)
    where
      by : (others : Result (List Arg × Draft) SyntaxFault)
          → then_from (λ (more : List Arg). applied f.paren f.head (word_at words called).text (named_by scope.state head) (args ++ more))
          (then_from (λ (more : List Arg). gives (record { place = at; value = done.0 } ∷ more)) others)
          ≡ then_from (λ (more : List Arg). applied f.paren f.head (word_at words called).text (named_by scope.state head) ((args ++ record { place = at; value = done.0 } ∷ []) ++ more)) others
      by (Ok more) = ap (λ (all : List Arg). applied f.paren f.head (word_at words called).text (named_by scope.state head) all more.1) (sym (append_assoc args (record { place = at; value = done.0 } ∷ []) more.0))
      by (Err fault) = refl

  -- a list gets the value of its next tree, a token or a list
  gets_token : (work : Work) (scope : Scope) (f : Frame) (w : Word) (rest : Reading) (draft : Draft)
      → goes_by words work scope f (Token w rest) draft ≡ then_from (λ (v : Value). takes_by words work scope f rest w.place v) (token_value scope w draft)
  gets_token (Apply called head args) scope f w rest draft = gets scope f called head args.items w.place rest (token_value scope w draft)
  gets_token (Let name done next body) scope f w rest draft = refl
  gets_token (Pass bound) scope f w rest draft = sym (then_made (token_value scope w draft))

  gets_list : (work : Work) (scope : Scope) (f : Frame) (p : Word) (meaning : Meaning) (inner rest : Reading) (draft : Draft)
      → goes_by words work scope f (Group p meaning inner rest) draft ≡ then_from (λ (v : Value). takes_by words work scope f rest p.place v) (meaning scope draft)
  gets_list (Apply called head args) scope f p meaning inner rest draft = gets scope f called head args.items p.place rest (meaning scope draft)
  gets_list (Let name done next body) scope f p meaning inner rest draft = refl
  gets_list (Pass bound) scope f p meaning inner rest draft = sym (then_made (meaning scope draft))

  then_twice : {A B C : Type 0} (first : Result (A × Draft) SyntaxFault) (f : A → Making B) (g : B → Making C)
      → then_from g (then_from f first) ≡ then_from (λ (x : A). f x >>= g) first
  then_twice (Ok done) f g = refl
  then_twice (Err fault) f g = refl

  -- What is left to do at a token is to give its value on.
  pub at_token : (missing : Place) (scope : Scope) (fs : List Frame) (w : Word) (rest : Reading) (draft : Draft)
      → resume words missing scope fs (Token w rest) draft ≡ then_from (λ (v : Value). finish words scope fs rest w.place v) (token_value scope w draft)
  unfolding resume finish
  at_token missing scope [] w rest draft = sym (then_made (token_value scope w draft))
  at_token missing scope (f ∷ fs) w rest draft =
      ap (then_from (λ (u : Value). finish words (outside f.work scope) fs (trees_from words f.after) f.paren u)) (gets_token f.work scope f w rest draft)
      ∙ then_twice (token_value scope w draft) (λ (v : Value). takes_by words f.work scope f rest w.place v) (λ (u : Value). finish words (outside f.work scope) fs (trees_from words f.after) f.paren u)

  -- What is left to do at a list is to give its value on.
  pub at_list : (missing : Place) (scope : Scope) (fs : List Frame) (p : Word) (meaning : Meaning) (inner rest : Reading) (draft : Draft)
      → resume words missing scope fs (Group p meaning inner rest) draft ≡ then_from (λ (v : Value). finish words scope fs rest p.place v) (meaning scope draft)
  unfolding resume finish
  at_list missing scope [] p meaning inner rest draft = sym (then_made (meaning scope draft))
  at_list missing scope (f ∷ fs) p meaning inner rest draft =
      ap (then_from (λ (u : Value). finish words (outside f.work scope) fs (trees_from words f.after) f.paren u)) (gets_list f.work scope f p meaning inner rest draft)
      ∙ then_twice (meaning scope draft) (λ (v : Value). takes_by words f.work scope f rest p.place v) (λ (u : Value). finish words (outside f.work scope) fs (trees_from words f.after) f.paren u)

  -- A list that goes on as its frame does is put on the open lists.
  pub list_begins : (missing : Place) (scope inside : Scope) (fs : List Frame) (f : Frame) (trees : Reading) (r : Made) (draft : Draft)
      → outside f.work inside ≡ scope → r ≡ goes_by words f.work inside f trees draft
      → then_from (λ (v : Value). finish words scope fs (trees_from words f.after) f.paren v) r ≡ resume words missing inside (f ∷ fs) trees draft
  unfolding resume
  list_begins missing scope inside fs f trees r draft outer goes = rw (goes, ← outer) refl

  -- a let whose next binding has its value's term under way
  pub next_binding : (scope : Scope) (head : Place) (done : List Bound) (next body name behind : ℕ) (q : Word) (meaning : Meaning) (term : Reading) (draft : Draft)
      → trees_from words next ≡ Group q meaning (Token (word_at words name) term) (trees_from words behind)
      → binds words scope head done next body draft
      ≡ then_from (λ (v : Value). binds words scope head (done ++ bind (word_at words name).text v ∷ []) behind body) (value (word_at words name).place scope term draft)
  next_binding scope head done next body name behind q meaning term draft e =
      ap (λ (trees : Reading). then_from last (bound_values scope trees draft)) e ∙ first (value (word_at words name).place scope term draft)
    where
      last : List Bound → Making Value
      last bound = value head (with_bound scope (done ++ bound)) (trees_from words body)

      others : (v : Value) (r : Result (List Bound × Draft) SyntaxFault)
          → then_from last (then_from (λ (bound : List Bound). gives (bind (word_at words name).text v ∷ bound)) r)
          ≡ then_from (λ (bound : List Bound). value head (with_bound scope ((done ++ bind (word_at words name).text v ∷ []) ++ bound)) (trees_from words body)) r
      others v (Ok r) = ap (λ (bound : List Bound). value head (with_bound scope bound) (trees_from words body) r.1) (sym (append_assoc done (bind (word_at words name).text v ∷ []) r.0))
      others v (Err fault) = refl

      first : (r : Made)
          → then_from last (then_from (λ (v : Value). bound_values scope (trees_from words behind) >>= λ (bound : List Bound). gives (bind (word_at words name).text v ∷ bound)) r)
          ≡ then_from (λ (v : Value). binds words scope head (done ++ bind (word_at words name).text v ∷ []) behind body) r
      first (Ok r) = others r.0 (bound_values scope (trees_from words behind) r.1)
      first (Err fault) = refl

  no_binding : (scope : Scope) (trees : Reading) → is_binding trees ≡ false → bound_values scope trees ≡ gives []
  no_binding scope End none = refl
  no_binding scope (Token w trees) none = refl
  no_binding scope (Group p meaning End trees) none = refl
  no_binding scope (Group p meaning (Token w inner) trees) none = absurd (cc)
  no_binding scope (Group p meaning (Group q reading inner more) trees) none = refl

  -- a let without a further binding has its body under way
  pub body_next : (scope : Scope) (head : Place) (done : List Bound) (next body : ℕ) (draft : Draft) → is_binding (trees_from words next) ≡ false
      → binds words scope head done next body draft ≡ value head (with_bound scope done) (trees_from words body) draft
  body_next scope head done next body draft none =
      ap (λ (m : Making (List Bound)). then_from (λ (bound : List Bound). value head (with_bound scope (done ++ bound)) (trees_from words body)) (m draft)) (no_binding scope (trees_from words next) none)
      ∙ ap (λ (bound : List Bound). value head (with_bound scope bound) (trees_from words body) draft) (append-nil done)

-- the list that was opened last is the innermost
pub pushed : (old new : List Frame) (f : Frame) → new ≡ old ++ f ∷ [] → reverse new ≡ f ∷ reverse old
pushed old new f e = ap reverse e ∙ reverse-append old (f ∷ [])

module _ (words : List Word) (old new : List Frame) (bound : List Bound) (paren head : Place) (after : ℕ) (done : Vec Bound Global) (next body : ℕ) where
  -- a let goes on with its next binding
  pub enters_binding : (name behind : ℕ) → new ≡ old ++ record { paren = paren; head = head; after = after; work = Let name done behind body } ∷ []
      → SeesBinding words next name behind
      → (state : State) (inside : Inside) (missing : Place) (draft : Draft)
      → GoesOn words state inside missing new bound draft (base_of (reverse old) bound) (1 + weight words (trees_from words next) + weight words (trees_from words body) + weight words (trees_from words after) + load words (reverse old)) (step.At (name + 1))
      (binds_in words old bound paren head after done.items next body state inside draft)
  unfolding weight load base_of
  enters_binding name behind is sees state inside missing draft =
      let f : Frame = record { paren = paren; head = head; after = after; work = Let name done behind body } in
      let scope = scope_of state inside bound in
      let top = pushed old new f is in (
        list_begins words missing scope scope (reverse old) f (trees_from words (name + 1)) (binds words scope head done.items next body draft) draft refl
            (next_binding words scope head done.items next body name behind (word_at words next) _ (trees_from words (name + 1)) draft sees.is)
            ∙ sym (ap (λ (fs : List Frame). resume words missing scope fs (trees_from words (name + 1)) draft) top),
        rw (top, sees.is) (omega arith),
        ap (λ (fs : List Frame). base_of fs bound) top,
      )

  back : (later : List Bound) (n : ℕ) → n ≡ length bound → later ≡ bound ++ done.items → take n later ≡ bound
  back later n count names = ap (take n) names ∙ ap (λ (k : ℕ). take k (bound ++ done.items)) count ∙ take-append_seam bound done.items

  -- or with its body
  pub enters_body : (later : List Bound) (n : ℕ) → n ≡ length bound → later ≡ bound ++ done.items → new ≡ old ++ record { paren = paren; head = head; after = after; work = Pass n } ∷ []
      → is_binding (trees_from words next) ≡ false
      → (state : State) (inside : Inside) (missing : Place) (draft : Draft)
      → GoesOn words state inside missing new later draft (base_of (reverse old) bound) (1 + weight words (trees_from words next) + weight words (trees_from words body) + weight words (trees_from words after) + load words (reverse old)) (step.At body)
      (binds_in words old bound paren head after done.items next body state inside draft)
  unfolding weight load base_of
  enters_body later n count names is none state inside missing draft =
      let f : Frame = record { paren = paren; head = head; after = after; work = Pass n } in
      let scope = scope_of state inside bound in
      let top = pushed old new f is in (
        list_begins words missing scope (scope_of state inside later) (reverse old) f (trees_from words body) (binds words scope head done.items next body draft) draft
            (ap (scope_of state inside) (back later n count names))
            (body_next words scope head done.items next body draft none ∙ ap (λ (all : List Bound). value head (scope_of state inside all) (trees_from words body) draft) (sym names))
            ∙ sym (ap (λ (fs : List Frame). resume words missing (scope_of state inside later) fs (trees_from words body) draft) top),
        rw top (omega arith),
        ap (λ (fs : List Frame). base_of fs later) top ∙ ap (base_of (reverse old)) (back later n count names),
      )

-- the innermost of some lists has a value
module _ (words : List Word) (old new : List Frame) (bound : List Bound) (paren head : Place) (after next : ℕ) (at : Place) (v : Value) where
  frame_of : Work → Frame
  frame_of work = record { paren = paren; head = head; after = after; work = work }

  top_of : (work : Work) → reverse (old ++ frame_of work ∷ []) ≡ frame_of work ∷ reverse old
  top_of work = reverse-append old (frame_of work ∷ [])

  pub puts_pass : (n : ℕ) (later : List Bound) → later ≡ take n bound → new ≡ old
      → Gives words (old ++ record { paren = paren; head = head; after = after; work = Pass n } ∷ []) bound new later next at v (Ok (given.Outer paren after))
  unfolding frame_of finish load base_of
  puts_pass n later names same = (
    λ state inside draft.
        ap (λ (fs : List Frame). finish words (scope_of state inside bound) fs (trees_from words next) at v draft) (top_of (Pass n))
        ∙ ap (λ (all : List Bound). finish words (scope_of state inside all) (reverse old) (trees_from words after) paren v draft) (sym names)
        ∙ ap (λ (fs : List Frame). finish words (scope_of state inside later) (reverse fs) (trees_from words after) paren v draft) (sym same),
    rw same (omega (arith, length-append old (frame_of (Pass n) ∷ []))),
    rw (same, top_of (Pass n), names) refl,
    rw (same, top_of (Pass n)) (omega arith),
  )

  pub puts_apply : (called : ℕ) (name : Head) (args more : Vec Arg Global) → more.items ≡ args.items ++ record { place = at; value = v } ∷ []
      → new ≡ old ++ record { paren = paren; head = head; after = after; work = Apply called name more } ∷ []
      → Gives words (old ++ record { paren = paren; head = head; after = after; work = Apply called name args } ∷ []) bound new bound next at v (Ok (given.At next))
  unfolding frame_of finish resume load base_of
  puts_apply called name args more got is state inside missing draft = (
    ap (λ (fs : List Frame). finish words (scope_of state inside bound) fs (trees_from words next) at v draft) (top_of (Apply called name args))
        ∙ ap (λ (all : List Arg). then_from (λ (u : Value). finish words (scope_of state inside bound) (reverse old) (trees_from words after) paren u) (applies words (scope_of state inside bound) (frame_of (Apply called name args)) called name all (trees_from words next) draft)) (sym got)
        ∙ ap (λ (fs : List Frame). resume words missing (scope_of state inside bound) fs (trees_from words next) draft) (sym (pushed old new (frame_of (Apply called name more)) is)),
    rw (pushed old new (frame_of (Apply called name more)) is, top_of (Apply called name args)) (omega arith),
    rw (pushed old new (frame_of (Apply called name more)) is, top_of (Apply called name args)) refl,
  )

  pub puts_let : (later : List Bound) (name further body i : ℕ) (done more : Vec Bound Global) (text : List ℕ) → text ≡ (word_at words name).text → more.items ≡ done.items ++ bind text v ∷ []
      → ((state : State) (inside : Inside) (missing : Place) (draft : Draft)
      → GoesOn words state inside missing new later draft (base_of (reverse old) bound) (1 + weight words (trees_from words further) + weight words (trees_from words body) + weight words (trees_from words after) + load words (reverse old)) (step.At i)
      (binds_in words old bound paren head after more.items further body state inside draft))
      → Gives words (old ++ record { paren = paren; head = head; after = after; work = Let name done further body } ∷ []) bound new later next at v (Ok (given.At i))
  unfolding frame_of finish load base_of
  puts_let later name further body i done more text called got goes state inside missing draft =
      let g = goes state inside missing draft in (
        ap (λ (fs : List Frame). finish words (scope_of state inside bound) fs (trees_from words next) at v draft) (top_of (Let name done further body))
            ∙ ap (λ (all : List Bound). binds_in words old bound paren head after all further body state inside draft) (sym (got ∙ ap (λ (t : List ℕ). done.items ++ bind t v ∷ []) called))
            ∙ g.0,
        rw (top_of (Let name done further body)) (omega (arith, g.1)),
        rw (top_of (Let name done further body)) g.2,
      )

-- the same, of a frame with that work
pub by_work : (words : List Word) (old new : List Frame) (bound later : List Bound) (f : Frame) (work : Work) (next : ℕ) (at : Place) (v : Value) (r : Result Given Memory) → f.work ≡ work
    → Gives words (old ++ record { paren = f.paren; head = f.head; after = f.after; work = work } ∷ []) bound new later next at v r → Gives words (old ++ f ∷ []) bound new later next at v r
by_work words old new bound later f work next at v r is gives = subst (λ (w : Work). Gives words (old ++ record { paren = f.paren; head = f.head; after = f.after; work = w } ∷ []) bound new later next at v r) (sym is) gives

pub gives_whole : (words : List Word) (old new : List Frame) (bound later : List Bound) (next : ℕ) (at : Place) (v : Value) → old ≡ [] → later ≡ bound → Gives words old bound new later next at v (Ok given.Whole)
unfolding finish base_of
gives_whole words old new bound later next at v empty same = ((λ state inside draft. rw empty refl), rw empty same)

pub emptied : (old new : List Frame) (n : ℕ) → n ≡ 0 → new ≡ take (n - 1) old → old ≡ new ++ [] → old ≡ []
emptied old new n none rest was = was ∙ ap (λ (xs : List Frame). xs ++ []) (rest ∙ ap (λ (k : ℕ). take (k - 1) old) none)

-- giving to the innermost of some lists is giving to them
pub gives_in : (words : List Word) (old popped new : List Frame) (bound later : List Bound) (f : Frame) (next : ℕ) (at : Place) (v : Value) (g : Given) → old ≡ popped ++ f ∷ []
    → PutsIn words popped bound new later f next at v (Ok g) → Gives words old bound new later next at v (Ok g)
gives_in words old popped new bound later f next at v given.Whole was puts = absurd puts
gives_in words old popped new bound later f next at v (given.At i) was puts = rw was puts
gives_in words old popped new bound later f next at v (given.Outer a n) was puts = rw was puts

pub gives_at : (words : List Word) (old new : List Frame) (bound later : List Bound) (next i : ℕ) (at : Place) (v : Value) (g : Given) → g ≡ given.At i
    → Gives words old bound new later next at v (Ok g) → Gives words old bound new later next at v (Ok (given.At i))
gives_at words old new bound later next i at v g is gives = subst (λ (h : Given). Gives words old bound new later next at v (Ok h)) is gives
