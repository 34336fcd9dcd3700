-- What lists do that begin.
use Rattle.std.proofs.Common.{◌≡◌, ℕ, ◌+◌, List, [], ◌∷◌, ◌++◌, length, take, reverse, Vec, true, false, Option, Some, None, is_some, Result, Ok, Err, sym, ap, ◌∙◌, refl, subst, arith}
use Rattle.std.proofs.Math.Seq.{take-length}
use Rattle.std.proofs.Math.Path.{fun_ext}
use Rattle.std.specs.declared.alloc.Global.{Global}
use Rattle.smt_text.specs.Word.{Word}
use Rattle.smt_text.specs.declared.token.Place.{Place}
use Rattle.formula_draft.specs.Draft.{Draft}
use Rattle.smt_names.specs.declared.value.Value.{Value}
use Rattle.smt_names.specs.declared.arg.Arg.{Arg}
use Rattle.smt_names.specs.declared.bound.Bound.{Bound}
use Rattle.smt_names.specs.declared.head.Head.{Head}
use Rattle.smt_names.specs.declared.stop.Stop.{Stop}
use Rattle.smt_names.specs.declared.stop.Stop.TheVariants as stop
use Rattle.smt_names.specs.declared.syntax_fault.SyntaxFault.{SyntaxFault}
use Rattle.smt_names.specs.declared.refusal.Refusal.TheVariants as refusal
use Rattle.smt_names.specs.Making.{Making, then_from, ◌>>=◌, fault_of}
use Rattle.smt_names.specs.Makes.{Refuses}
use Rattle.smt_names.specs.Names.{State, Scope, Named, Core, Function, Definition, Unknown, named, named_by, head_of, is_known, is_symbol, bound_as}
use Rattle.smt_terms.specs.declared.form.Form.TheVariants as form
use Rattle.smt_terms.specs.declared.frame.Frame.{Frame}
use Rattle.smt_terms.specs.declared.work.Work.TheVariants.{Apply, Pass}
use Rattle.smt_terms.specs.declared.inside.Inside.{Inside}
use Rattle.smt_terms.specs.declared.opened.Opened.{Opened}
use Rattle.smt_terms.specs.declared.opened.Opened.TheVariants as opened
use Rattle.smt_terms.specs.declared.next.Next.TheVariants as step
use Rattle.smt_terms.specs.Reading.{Reading, Meaning, End, Token, Group, Listed, from, exactly, some_bindings, attributes_of}
use Rattle.smt_terms.specs.Terms.{value, values, bound_values, form_of, form_value, let_value, annotated_value, named_value, list_value, forall_value}
use Rattle.smt_terms.specs.Cursor.{word_at, trees_from, SeesList}
use Rattle.smt_terms.specs.Checks.{HasBindings}
use Rattle.smt_forms.specs.Applied.{applied}
use Rattle.smt_terms.specs.Machine.{with_bound, binds, binds_in, finish, resume, weight, load, base_of, scope_of, work_in, GoesOn, Opens, OpensForall}
use Rattle.smt_terms.proofs.Machines.{pushed, list_begins}

-- a list with an equal meaning opens so too
pub opens_as : (words : List Word) (state : State) (inside : Inside) (frames : List Frame) (bound : List Bound) (new_frames : List Frame) (new_bound : List Bound) (i after most : ℕ) (found meaning : Meaning) (r : Result Opened Stop)
    → meaning ≡ found → Opens words state inside frames bound new_frames new_bound i after most found r → Opens words state inside frames bound new_frames new_bound i after most meaning r
opens_as words state inside frames bound new_frames new_bound i after most found meaning r same opens = subst (λ (m : Meaning). Opens words state inside frames bound new_frames new_bound i after most m r) (sym same) opens

-- what refuses a part refuses the whole
pub refuses_same : {A B : Type 0} (stopped : Stop) (first : Result A SyntaxFault) (whole : Result B SyntaxFault) → ((fault : SyntaxFault) → first ≡ Err fault → whole ≡ Err fault) → Refuses stopped first → Refuses stopped whole
refuses_same stop.Memory first whole goes_on refused = tt {0}
refuses_same (stop.Refused fault) first whole goes_on refused = goes_on fault refused

module _ (words : List Word) (i after : ℕ) (state : State) (inside : Inside) (old new : List Frame) (bound : List Bound) (paren head : Place)
    (at_paren : paren ≡ (word_at words i).place) (at_head : head ≡ (word_at words (i + 1)).place) where
  -- a let whose form is right means its bindings and its body
  let_means : (body : ℕ) (scope : Scope) (draft : Draft) → exactly 2 head (trees_from words (i + 2)) draft ≡ Ok (tt {0}, draft)
      → some_bindings head (trees_from words (i + 2)) draft ≡ Ok (record { paren = word_at words (i + 2); inner = trees_from words (i + 2 + 1) }, draft) → SeesList words (i + 2) body
      → let_value head (trees_from words (i + 2)) scope draft ≡ binds words scope head [] (i + 2 + 1) body draft
  let_means body scope draft two listed sees =
      ap (then_from (λ (_ : Unit {0}). bindings)) two ∙ ap (then_from after_bindings) listed
      ∙ ap (λ (trees : Reading). then_from (λ (names : List Bound). value head (with_bound scope names) trees) (bound_values scope (trees_from words (i + 2 + 1)) draft)) (ap (from 1) sees.is)
    where
      after_bindings : Listed → Making Value
      after_bindings found = bound_values scope found.inner >>= λ (names : List Bound). value head (with_bound scope names) (from 1 (trees_from words (i + 2)))

      bindings : Making Value
      bindings = some_bindings head (trees_from words (i + 2)) >>= after_bindings

  pub opens_let : (body j : ℕ) (later none : List Bound) → none ≡ [] → ((draft : Draft) → exactly 2 head (trees_from words (i + 2)) draft ≡ Ok (tt {0}, draft)) → HasBindings words (i + 2) head (Ok body)
      → ((state : State) (inside : Inside) (missing : Place) (draft : Draft) → GoesOn words state inside missing new later draft (base_of (reverse old) bound)
      (1 + weight words (trees_from words (i + 2 + 1)) + weight words (trees_from words body) + weight words (trees_from words after) + load words (reverse old)) (step.At j) (binds_in words old bound paren head after none (i + 2 + 1) body state inside draft))
      → Opens words state inside old bound new later i after (3 + work_in words old (i + 2) after) (let_value (word_at words (i + 1)).place (trees_from words (i + 2))) (Ok (opened.At j))
  unfolding weight
  opens_let body j later none empty two has goes missing draft =
      let g = subst (λ (ns : List Bound). GoesOn words state inside missing new later draft (base_of (reverse old) bound) (1 + weight words (trees_from words (i + 2 + 1)) + weight words (trees_from words body) + weight words (trees_from words after) + load words (reverse old)) (step.At j) (binds_in words old bound paren head after ns (i + 2 + 1) body state inside draft)) empty (goes state inside missing draft) in
      let w : weight words (trees_from words (i + 2)) ≡ 3 + weight words (trees_from words (i + 2 + 1)) + weight words (trees_from words body) = ap (weight words) has.0.is in
      rw (← at_paren, ← at_head) (
        ap (then_from (λ (v : Value). finish words (scope_of state inside bound) (reverse old) (trees_from words after) paren v)) (let_means body (scope_of state inside bound) draft (two draft) (has.1 draft) has.0) ∙ g.0,
        omega (arith, g.1, w),
        g.2,
      )

  pub opens_annotated : (n : ℕ) → n ≡ length bound → ((draft : Draft) → attributes_of head (trees_from words (i + 2)) draft ≡ Ok (tt {0}, draft))
      → new ≡ old ++ record { paren = paren; head = head; after = after; work = Pass n } ∷ []
      → Opens words state inside old bound new bound i after (3 + work_in words old (i + 2) after) (annotated_value (word_at words (i + 1)).place (trees_from words (i + 2))) (Ok (opened.At (i + 2)))
  unfolding weight load base_of
  opens_annotated n count attributes is missing draft =
      let f : Frame = record { paren = paren; head = head; after = after; work = Pass n } in
      let scope = scope_of state inside bound in
      let top = pushed old new f is in
      let all : take n bound ≡ bound = ap (λ (k : ℕ). take k bound) count ∙ take-length bound in
      rw (← at_paren, ← at_head) (
        list_begins words missing scope scope (reverse old) f (trees_from words (i + 2)) (annotated_value head (trees_from words (i + 2)) scope draft) draft (ap (scope_of state inside) all)
            (ap (then_from (λ (_ : Unit {0}). value head scope (trees_from words (i + 2)))) (attributes draft))
            ∙ sym (ap (λ (fs : List Frame). resume words missing scope fs (trees_from words (i + 2)) draft) top),
        rw top (omega arith),
        rw top (ap (base_of (reverse old)) all),
      )

  known_value : (w : Word) (name : Named) (parts : Reading) (scope : Scope) (draft : Draft) → is_known name ≡ true
      → named_value paren w name parts scope draft ≡ then_from (λ (args : List Arg). applied paren w.place w.text name args) (values scope parts draft)
  known_value w (Core c) parts scope draft known = refl
  known_value w (Function symbol f) parts scope draft known = refl
  known_value w (Definition d) parts scope draft known = refl
  known_value w Unknown parts scope draft known = absurd (cc)

  pub opens_application : (called : Head) (args : Vec Arg Global) → bound_as bound (word_at words (i + 1)).text ≡ None → called ≡ head_of state (word_at words (i + 1)).text
      → is_known (named_by state called) ≡ true → args.items ≡ []
      → new ≡ old ++ record { paren = paren; head = head; after = after; work = Apply (i + 1) called args } ∷ []
      → Opens words state inside old bound new bound i after (3 + work_in words old (i + 2) after) (form_value (word_at words i).place (word_at words (i + 1)) (trees_from words (i + 2)) form.Application) (Ok (opened.At (i + 2)))
  unfolding weight load base_of
  opens_application called args free stands known none is missing draft =
      let f : Frame = record { paren = paren; head = head; after = after; work = Apply (i + 1) called args } in
      let w = word_at words (i + 1) in
      let scope = scope_of state inside bound in
      let top = pushed old new f is in
      rw (← at_paren, free) (
        list_begins words missing scope scope (reverse old) f (trees_from words (i + 2)) (named_value paren w (named state w.text) (trees_from words (i + 2)) scope draft) draft refl
            (ap (λ (h : Head). named_value paren w (named_by state h) (trees_from words (i + 2)) scope draft) (sym stands) ∙ known_value w (named_by state called) (trees_from words (i + 2)) scope draft known
            ∙ ap (λ (at : Place). then_from (λ (more : List Arg). applied paren at w.text (named_by state called) more) (values scope (trees_from words (i + 2)) draft)) (sym at_head)
            ∙ ap (λ (all : List Arg). then_from (λ (more : List Arg). applied paren head w.text (named_by state called) (all ++ more)) (values scope (trees_from words (i + 2)) draft)) (sym none))
            ∙ sym (ap (λ (fs : List Frame). resume words missing scope fs (trees_from words (i + 2)) draft) top),
        rw top (omega arith),
        rw top refl,
      )

-- meanings that make the same are the same
same_meaning : (a b : Meaning) → ((scope : Scope) (draft : Draft) → a scope draft ≡ b scope draft) → a ≡ b
same_meaning a b same = fun_ext (λ scope. fun_ext (λ draft. same scope draft))

-- a list whose head is a symbol is its form
pub opens_symbol : (words : List Word) (state : State) (inside : Inside) (old : List Frame) (bound : List Bound) (new : List Frame) (later : List Bound) (i after : ℕ) (r : Result Opened Stop)
    → trees_from words (i + 1) ≡ Token (word_at words (i + 1)) (trees_from words (i + 2)) → is_symbol (word_at words (i + 1)).kind ≡ true
    → Opens words state inside old bound new later i after (3 + work_in words old (i + 2) after) (form_value (word_at words i).place (word_at words (i + 1)) (trees_from words (i + 2)) (form_of (word_at words (i + 1)).text)) r
    → Opens words state inside old bound new later i after (2 + work_in words old (i + 1) after) (list_value (word_at words i) (trees_from words (i + 1))) r
unfolding weight list_value
opens_symbol words state inside old bound new later i after r is symbol opens =
    opens_as words state inside old bound new later i after (2 + work_in words old (i + 1) after) (form_value (word_at words i).place (word_at words (i + 1)) (trees_from words (i + 2)) (form_of (word_at words (i + 1)).text)) (list_value (word_at words i) (trees_from words (i + 1))) r
    (same_meaning _ _ same)
    (subst (λ (n : ℕ). Opens words state inside old bound new later i after n (form_value (word_at words i).place (word_at words (i + 1)) (trees_from words (i + 2)) (form_of (word_at words (i + 1)).text)) r) less opens)
  where
    same : (scope : Scope) (draft : Draft) → list_value (word_at words i) (trees_from words (i + 1)) scope draft ≡ form_value (word_at words i).place (word_at words (i + 1)) (trees_from words (i + 2)) (form_of (word_at words (i + 1)).text) scope draft
    same scope draft = rw (is, symbol) refl

    less : 3 + work_in words old (i + 2) after ≡ 2 + work_in words old (i + 1) after
    less = omega (arith, ap (weight words) is)

-- a forall
pub opens_forall : (words : List Word) (state : State) (inside : Inside) (frames : List Frame) (bound : List Bound) (i after most : ℕ) (meaning : Meaning) (r : Result Opened Stop)
    → meaning ≡ forall_value (word_at words i).place (word_at words (i + 1)).place (trees_from words (i + 2)) → OpensForall words inside i r → Opens words state inside frames bound frames bound i after most meaning r
opens_forall words state inside frames bound i after most meaning (Ok (opened.At j)) means opens = absurd opens
opens_forall words state inside frames bound i after most meaning (Ok opened.Universal) means opens = (record { no_forall = opens.0; no_definition = opens.1; means = means }, refl, refl)
opens_forall words state inside frames bound i after most meaning (Err stopped) means opens = λ draft.
    refuses_same stopped _ _ (λ fault e. ap (λ (m : Meaning). m (scope_of state inside bound) draft) means ∙ e) (opens state bound (word_at words i).place draft)

-- lists that are refused at once
module _ (w : Word) (trees : Reading) (scope : Scope) (draft : Draft) where
  pub empty_list : trees ≡ End → list_value w trees scope draft ≡ Err (fault_of refusal.BadForm w.place [])
  unfolding list_value
  empty_list is = rw is refl

  pub list_head : (p : Word) (meaning : Meaning) (inner rest : Reading) → trees ≡ Group p meaning inner rest → list_value w trees scope draft ≡ Err (fault_of refusal.NotInProfile p.place [])
  unfolding list_value
  list_head p meaning inner rest is = rw is refl

  pub no_symbol : (h : Word) (rest : Reading) → trees ≡ Token h rest → is_symbol h.kind ≡ false → list_value w trees scope draft ≡ Err (fault_of refusal.BadForm h.place [])
  unfolding list_value
  no_symbol h rest is other = rw (is, other) refl

-- a let whose form is refused
module _ (stopped : Stop) (head : Place) (parts : Reading) (scope : Scope) where
  let_ends : Listed → Making Value
  let_ends found = bound_values scope found.inner >>= λ (names : List Bound). value head (with_bound scope names) (from 1 parts)

  pub let_refused_number : ((draft : Draft) → Refuses stopped (exactly 2 head parts draft)) → (draft : Draft) → Refuses stopped (let_value head parts scope draft)
  unfolding let_ends
  let_refused_number refused draft = refuses_same stopped (exactly 2 head parts draft) (let_value head parts scope draft) (λ fault e. ap (then_from (λ (_ : Unit {0}). some_bindings head parts >>= let_ends)) e) (refused draft)

  pub let_refused_bindings : ((draft : Draft) → exactly 2 head parts draft ≡ Ok (tt {0}, draft)) → ((draft : Draft) → Refuses stopped (some_bindings head parts draft)) → (draft : Draft) → Refuses stopped (let_value head parts scope draft)
  unfolding let_ends
  let_refused_bindings two refused draft = refuses_same stopped (some_bindings head parts draft) (let_value head parts scope draft)
      (λ fault e. ap (then_from (λ (_ : Unit {0}). some_bindings head parts >>= let_ends)) (two draft) ∙ ap (then_from let_ends) e) (refused draft)

-- a name that is not found is not bound
pub not_bound : {A : Type 0} (o : Option A) → is_some o ≡ false → o ≡ None
not_bound None none = refl
not_bound (Some x) none = absurd (cc)
