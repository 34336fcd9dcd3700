-- What checks of the form of lists go on with.
use Rattle.std.proofs.Common.{◌≡◌, ℕ, zero, suc, ◌+◌, ◌-◌, ◌*◌, ◌<◌, ◌≤◌, ◌^◌, Bool, true, false, ◌&&◌, not, List, [], ◌∷◌, ◌++◌, drop, length, get_or, bytes_eq, Result, Ok, Err, refl, sym, ap, ◌∙◌, arith}
use Rattle.std.proofs.lemmas.List.{drop_more}
use Rattle.smt_text.specs.Word.{Word}
use Rattle.smt_text.specs.declared.token.Place.{Place}
use Rattle.formula_draft.specs.Draft.{Draft}
use Rattle.std.specs.List.{list_any}
use Rattle.smt_text.specs.declared.token.Kind.{Kind}
use Rattle.smt_names.specs.declared.stop.Stop.{Stop}
use Rattle.smt_names.specs.declared.stop.Stop.TheVariants as stop
use Rattle.smt_names.specs.declared.syntax_fault.SyntaxFault.{SyntaxFault}
use Rattle.smt_names.specs.declared.refusal.Refusal.{Refusal}
use Rattle.smt_names.specs.declared.refusal.Refusal.TheVariants as refusal
use Rattle.smt_names.specs.Makes.{Makes, Refuses, StopsWith, Checks}
use Rattle.smt_names.specs.Making.{Making, gives, must_hold, fault_of, then_from, ◌>>◌}
use Rattle.smt_names.specs.Names.{is_keyword, is_wide, number_from, word_of, lawful_name}
use Rattle.smt_terms.specs.Reading.{Reading, Meaning, End, Token, Group, from, at_least, attributes_after, attributes_of, binding_name, new_binding, bindings_after}
use Rattle.smt_terms.specs.Checks.{ChecksAs}
use Rattle.smt_terms.specs.Machine.{weight}

pub at_least_token : (n : ℕ) (missing : Place) (w : Word) (trees rest : Reading) → 0 < n → trees ≡ Token w rest → at_least (n - 1) missing rest ≡ at_least n missing trees
at_least_token zero missing w trees rest some is = absurd (omega (arith, some))
at_least_token (suc n) missing w trees rest some is = rw is (ap (λ (k : ℕ). at_least k missing rest) one)
  where
    one : suc n - 1 ≡ n
    one = omega arith

pub at_least_list : (n : ℕ) (missing : Place) (p : Word) (meaning : Meaning) (inner trees rest : Reading) → 0 < n → trees ≡ Group p meaning inner rest → at_least (n - 1) missing rest ≡ at_least n missing trees
at_least_list zero missing p meaning inner trees rest some is = absurd (omega (arith, some))
at_least_list (suc n) missing p meaning inner trees rest some is = rw is (ap (λ (k : ℕ). at_least k missing rest) one)
  where
    one : suc n - 1 ≡ n
    one = omega arith

pub at_least_end : (n : ℕ) (missing : Place) (trees : Reading) → 0 < n → trees ≡ End → at_least n missing trees ≡ at_least 1 missing End
at_least_end zero missing trees some is = absurd (omega (arith, some))
at_least_end (suc n) missing trees some is = rw is refl

pub passes_key : (valued : Bool) (w : Word) (trees rest : Reading) → trees ≡ Token w rest → is_keyword w.kind ≡ true → attributes_after true rest ≡ attributes_after valued trees
passes_key valued w trees rest is key = rw (is, key) refl

pub passes_value : (valued : Bool) (w : Word) (trees rest : Reading) → trees ≡ Token w rest → is_keyword w.kind ≡ false → (valued && not (is_wide w)) ≡ true → attributes_after false rest ≡ attributes_after valued trees
passes_value valued w trees rest is key may = rw (is, key, may) refl

pub passes_list : (valued : Bool) (p : Word) (meaning : Meaning) (inner trees rest : Reading) → trees ≡ Group p meaning inner rest → valued ≡ true → attributes_after false rest ≡ attributes_after valued trees
passes_list valued p meaning inner trees rest is may = rw (is, may) refl

pub passes_binding : (names more : List (List ℕ)) (p name : Word) (text : List ℕ) (meaning : Meaning) (inner trees rest : Reading) (draft : Draft) → trees ≡ Group p meaning inner rest
    → binding_name names p inner draft ≡ Ok (name, draft) → text ≡ name.text → more ≡ names ++ text ∷ []
    → bindings_after more rest draft ≡ bindings_after names trees draft
passes_binding names more p name text meaning inner trees rest draft is found called all =
    rw (is, found) (ap (λ (ns : List (List ℕ)). bindings_after ns rest draft) (all ∙ ap (λ (t : List ℕ). names ++ t ∷ []) called))

-- less work is left behind a tree
pub weighs_token : (words : List Word) (w : Word) (trees rest : Reading) → trees ≡ Token w rest → weight words rest < weight words trees
unfolding weight
weighs_token words w trees rest is = rw is (omega arith)

pub weighs_list : (words : List Word) (p : Word) (meaning : Meaning) (inner trees rest : Reading) → trees ≡ Group p meaning inner rest → weight words rest < weight words trees
unfolding weight
weighs_list words p meaning inner trees rest is = rw is (omega arith)

-- further digits make no number less
pub number_grows : (so_far : ℕ) (digits : List ℕ) → so_far ≤ number_from so_far digits
number_grows so_far [] = omega arith
number_grows so_far (digit ∷ digits) = omega (arith, number_grows (10 * so_far + (digit - 48)) digits)

-- what a refused call leaves refused
pub refuses_all : {A B : Type 0} (stopped : Stop) (first : Result A SyntaxFault) (whole : Result B SyntaxFault) → ((fault : SyntaxFault) → first ≡ Err fault → whole ≡ Err fault) → Refuses stopped first → Refuses stopped whole
refuses_all stop.Memory first whole goes_on refused = tt {0}
refuses_all (stop.Refused fault) first whole goes_on refused = goes_on fault refused

-- what refuses the first refuses the whole
pub refuses_first : {A B : Type 0} (stopped : Stop) (first : Making A) (rest : A → Making B) → ((draft : Draft) → Refuses stopped (first draft)) → (draft : Draft) → Refuses stopped (then_from rest (first draft))
refuses_first stopped first rest refused draft = refuses_all stopped (first draft) (then_from rest (first draft)) (λ fault e. ap (then_from rest) e) (refused draft)

-- what makes the same is refused so too
pub refuses_as : {A : Type 0} (stopped : Stop) (first whole : Making A) → ((draft : Draft) → whole draft ≡ first draft) → ((draft : Draft) → Refuses stopped (first draft)) → (draft : Draft) → Refuses stopped (whole draft)
refuses_as stopped first whole same refused draft = refuses_all stopped (first draft) (whole draft) (λ fault e. same draft ∙ e) (refused draft)

-- what makes the same makes what is asked
pub makes_as : {A : Type 0} (result : Result A Stop) (old new : Draft) (asked other : Making A) → asked old ≡ other old → Makes result old new other → Makes result old new asked
makes_as (Ok v) old new asked other e made_so = e ∙ made_so
makes_as (Err stop.Memory) old new asked other e made_so = tt {0}
makes_as (Err (stop.Refused fault)) old new asked other e made_so = e ∙ made_so

pub checks_as : {A : Type 0} (result : Result (Unit {0}) Stop) (found : A) (asked other : Making A) → ((draft : Draft) → asked draft ≡ other draft) → ChecksAs result found other → ChecksAs result found asked
checks_as (Ok done) found asked other e checks = λ draft. e draft ∙ checks draft
checks_as (Err stopped) found asked other e checks = refuses_as stopped other asked e checks

pub attributes_hold : (result : Result (Unit {0}) Stop) (head : Place) (trees rest : Reading) → rest ≡ from 1 trees → ((draft : Draft) → at_least 2 head trees draft ≡ Ok (tt {0}, draft)) → Checks result (attributes_after false rest) → Checks result (attributes_of head trees)
attributes_hold result head trees rest e least checks draft =
    makes_as result draft draft (attributes_of head trees) (attributes_after false rest)
    (ap (then_from (λ (_ : Unit {0}). attributes_after false (from 1 trees))) (least draft) ∙ ap (λ (t : Reading). attributes_after false t draft) (sym e)) (checks draft)

pub same_word : (w : Word) (k : Kind) (p : Place) (t : List ℕ) → k ≡ w.kind → p ≡ w.place → t ≡ w.text → word_of k p t ≡ w
same_word w k p t ek ep et = rw (ek, ep, et) refl

module _ (names : List (List ℕ)) (missing : Place) (w : Word) (trees rest : Reading) (is : trees ≡ Token w rest) (lawful : (draft : Draft) → lawful_name w draft ≡ Ok (tt {0}, draft)) where
  new_means : (draft : Draft) → new_binding names missing trees draft ≡ then_from (λ (_ : Unit {0}). gives w) (must_hold (not (list_any (bytes_eq w.text) names)) refusal.BadForm w.place draft)
  new_means draft = ap (λ (t : Reading). new_binding names missing t draft) is
      ∙ ap (then_from (λ (_ : Unit {0}). must_hold (not (list_any (bytes_eq w.text) names)) refusal.BadForm w.place >> gives w)) (lawful draft)

  pub name_new : list_any (bytes_eq w.text) names ≡ false → (draft : Draft) → new_binding names missing trees draft ≡ Ok (w, draft)
  name_new fresh draft = new_means draft ∙ ap (λ (b : Bool). then_from (λ (_ : Unit {0}). gives w) (must_hold (not b) refusal.BadForm w.place draft)) fresh

  pub name_old : (stopped : Stop) (place : Place) → place ≡ w.place → list_any (bytes_eq w.text) names ≡ true → StopsWith stopped (fault_of refusal.BadForm place []) → (draft : Draft) → Refuses stopped (new_binding names missing trees draft)
  name_old stop.Memory place at old stops draft = tt {0}
  name_old (stop.Refused fault) place at old stops draft = new_means draft ∙ ap (λ (b : Bool). then_from (λ (_ : Unit {0}). gives w) (must_hold (not b) refusal.BadForm w.place draft)) old
      ∙ ap (λ (p : Place). Err (fault_of refusal.BadForm p [])) (sym at) ∙ ap Err (sym stops)

pub refuses_at : {A : Type 0} (stopped : Stop) (r : Refusal) (a b : Place) (result : Result A SyntaxFault)
    → StopsWith stopped (fault_of r a []) → a ≡ b → result ≡ Err (fault_of r b []) → Refuses stopped result
refuses_at stop.Memory r a b result stops same e = tt {0}
refuses_at (stop.Refused fault) r a b result stops same e = e ∙ ap (λ (at : Place). Err (fault_of r at [])) (sym same) ∙ ap Err (sym stops)

-- a digit more makes a number too large
pub too_large : (digits : List ℕ) (so_far i digit : ℕ) → i < length digits → digit ≡ get_or digits i 0 → 2 ^ 128 ≤ 10 * so_far + (digit - 48) → 2 ^ 128 ≤ number_from so_far (drop i digits)
too_large digits so_far i digit below is large = rw (drop_more digits i 0 below, ← is) (omega (arith, large, number_grows (10 * so_far + (digit - 48)) (drop (i + 1) digits)))

pub binding_refused : (stopped : Stop) (names : List (List ℕ)) (p : Word) (meaning : Meaning) (inner trees rest : Reading) → trees ≡ Group p meaning inner rest → ((draft : Draft) → Refuses stopped (binding_name names p inner draft))
    → (whole : Making (Unit {0})) → ((draft : Draft) → whole draft ≡ bindings_after names trees draft) → (draft : Draft) → Refuses stopped (whole draft)
binding_refused stopped names p meaning inner trees rest is refused whole same draft =
    refuses_all stopped (binding_name names p inner draft) (whole draft)
    (λ fault e. same draft ∙ ap (λ (t : Reading). bindings_after names t draft) is ∙ ap (then_from (λ (name : Word). bindings_after (names ++ name.text ∷ []) rest)) e) (refused draft)
