-- Sorts, one after another.
use Rattle.std.proofs.Common.{◌≡◌, ℕ, ◌<◌, List, [], ◌∷◌, ◌++◌, Result, Ok, Err, refl, sym, ap, ◌∙◌, append_assoc, arith}
use Rattle.std.proofs.lemmas.List.{append-nil}
use Rattle.smt_text.specs.Word.{Word}
use Rattle.smt_text.specs.declared.token.Place.{Place}
use Rattle.formula_draft.specs.Draft.{Draft}
use Rattle.smt_names.specs.declared.stop.Stop.{Stop}
use Rattle.smt_names.specs.declared.stop.Stop.TheVariants as stop
use Rattle.smt_names.specs.declared.syntax_fault.SyntaxFault.{SyntaxFault}
use Rattle.smt_names.specs.Making.{Making, gives, then_from, ◌>>=◌}
use Rattle.smt_names.specs.Makes.{Refuses}
use Rattle.smt_names.specs.Names.{State}
use Rattle.smt_terms.specs.Reading.{Reading, Meaning, End, Token, Group, other_sort}
use Rattle.smt_terms.specs.Machine.{weight}
use Rattle.smt_commands.specs.Commands.{other_sorts}

-- the sorts behind some
abbrev pub behind_sorts : List ℕ → Result (List ℕ × Draft) SyntaxFault → Result (List ℕ × Draft) SyntaxFault
behind_sorts so_far more = then_from (λ (sorts : List ℕ). gives (so_far ++ sorts)) more

pub sorts_begin : (so_far : List ℕ) (more : Result (List ℕ × Draft) SyntaxFault) → so_far ≡ [] → behind_sorts so_far more ≡ more
sorts_begin so_far (Ok found) none = rw none refl
sorts_begin so_far (Err fault) none = refl

pub sorts_end : (state : State) (missing : Place) (trees : Reading) (so_far : List ℕ) (draft : Draft) → trees ≡ End → behind_sorts so_far (other_sorts state missing trees draft) ≡ Ok (so_far, draft)
sorts_end state missing trees so_far draft is = rw is (ap (λ (sorts : List ℕ). Ok (sorts, draft)) (append-nil so_far))

-- one sort, and then those of the trees behind it
module _ (first : Making ℕ) (whole rest : Making (List ℕ)) (means : (draft : Draft) → whole draft ≡ then_from (λ (sort : ℕ). rest >>= λ (sorts : List ℕ). gives (sort ∷ sorts)) (first draft)) where
  pub sorts_next : (so_far more : List ℕ) (sort : ℕ) (draft : Draft) → first draft ≡ Ok (sort, draft) → more ≡ so_far ++ sort ∷ [] → behind_sorts more (rest draft) ≡ behind_sorts so_far (whole draft)
  sorts_next so_far more sort draft makes all = sym (ap (behind_sorts so_far) (means draft ∙ ap (then_from (λ (s : ℕ). rest >>= λ (sorts : List ℕ). gives (s ∷ sorts))) makes) ∙ by (rest draft))
    where
      by : (r : Result (List ℕ × Draft) SyntaxFault) → behind_sorts so_far (then_from (λ (sorts : List ℕ). gives (sort ∷ sorts)) r) ≡ behind_sorts more r
      by (Ok r) = ap (λ (sorts : List ℕ). Ok (sorts, r.1)) (sym (append_assoc so_far (sort ∷ []) r.0) ∙ ap (λ (xs : List ℕ). xs ++ r.0) (sym all))
      by (Err fault) = refl

  pub sorts_refused : (stopped : Stop) (so_far : List ℕ) (all : Making (List ℕ)) (draft : Draft) → behind_sorts so_far (whole draft) ≡ all draft → Refuses stopped (first draft) → Refuses stopped (all draft)
  sorts_refused stop.Memory so_far all draft same refused = tt {0}
  sorts_refused (stop.Refused fault) so_far all draft same refused = sym same ∙ ap (behind_sorts so_far) (means draft ∙ ap (then_from (λ (s : ℕ). rest >>= λ (sorts : List ℕ). gives (s ∷ sorts))) refused)

pub sorts_of_token : (state : State) (missing : Place) (trees rest : Reading) (w : Word) → trees ≡ Token w rest → (draft : Draft) → other_sorts state missing trees draft
    ≡ then_from (λ (sort : ℕ). other_sorts state missing rest >>= λ (sorts : List ℕ). gives (sort ∷ sorts)) (other_sort state missing trees draft)
sorts_of_token state missing trees rest w is draft = rw is refl

pub sorts_of_list : (state : State) (missing : Place) (trees rest inner : Reading) (p : Word) (meaning : Meaning) → trees ≡ Group p meaning inner rest → (draft : Draft) → other_sorts state missing trees draft
    ≡ then_from (λ (sort : ℕ). other_sorts state missing rest >>= λ (sorts : List ℕ). gives (sort ∷ sorts)) (other_sort state missing trees draft)
sorts_of_list state missing trees rest inner p meaning is draft = rw is refl

-- less work is left behind a tree
pub weighs_token : (words : List Word) (w : Word) (trees rest : Reading) → trees ≡ Token w rest → weight words rest < weight words trees
unfolding weight
weighs_token words w trees rest is = rw is (omega arith)

pub weighs_list : (words : List Word) (p : Word) (meaning : Meaning) (inner trees rest : Reading) → trees ≡ Group p meaning inner rest → weight words rest < weight words trees
unfolding weight
weighs_list words p meaning inner trees rest is = rw is (omega arith)
