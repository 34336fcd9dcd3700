-- Checks of the form of lists put nothing, and give trees of the list.
use Rattle.std.proofs.Common.{◌≡◌, ℕ, zero, suc, Bool, true, false, cond, not, ◌&&◌, ◌==◌, List, [], ◌∷◌, ◌++◌, Option, Some, None, bytes_eq}
use Rattle.std.specs.List.{list_any}
use Rattle.smt_text.specs.Word.{Word}
use Rattle.smt_text.specs.declared.token.Place.{Place}
use Rattle.formula_draft.specs.Draft.{Draft}
use Rattle.smt_names.specs.declared.refusal.Refusal.{Refusal}
use Rattle.smt_names.specs.declared.refusal.Refusal.TheVariants as refusal
use Rattle.smt_names.specs.Making.{Making, ◌>>◌, bad_form, must_hold}
use Rattle.smt_names.specs.Names.{State, is_symbol, is_keyword, is_reserved, is_wide, known_sort, sort_number, sort_of_token}
use Rattle.smt_terms.specs.Reading.{Meaning, Reading, End, Token, Group, from, first_place, no_more, at_least, exactly, token_first, Listed, list_first, sort_first, other_sort, new_binding, head_place, binding_name, bindings_after, some_bindings, attributes_after, attributes_of}
use Rattle.smt_laws.proofs.Making.{Setting, Sound, Good, refuses, good_then, good_made, good_want, good_as}

-- each list among the trees has a meaning for which this holds
pub data AllMean (P : Meaning → Type 0) : Reading → Type 0 where
  end : AllMean P End
  token : {word : Word} {trees : Reading} → AllMean P trees → AllMean P (Token word trees)
  group : {paren : Word} {meaning : Meaning} {inner trees : Reading} → P meaning → AllMean P inner → AllMean P trees → AllMean P (Group paren meaning inner trees)

pub from_mean : {P : Meaning → Type 0} (n : ℕ) {trees : Reading} → AllMean P trees → AllMean P (from n trees)
from_mean zero all = all
from_mean (suc n) end = end
from_mean (suc n) (token rest) = from_mean n rest
from_mean (suc n) (group is inner rest) = from_mean n rest

abbrev pub Anything : {A : Type 0} → Draft → A → Type 0
Anything draft value = Unit {0}

module _ (s : Setting) where
  -- nothing is said of what is made
  abbrev pub Passed : {A : Type 0} → Draft → Making A → Type 0
  Passed {A} draft making = Good s draft Anything (making draft)

  pub passes_want : (draft : Draft) (test : Bool) (refusal : Refusal) (place : Place) → Sound s draft → Passed draft (must_hold test refusal place)
  passes_want draft test refusal place sound = good_as s draft (λ _ _ _ _. tt {0}) (good_want s draft test refusal place sound)

  pub passes_no_more : (draft : Draft) (refusal : Refusal) (trees : Reading) → Sound s draft → Passed draft (no_more refusal trees)
  passes_no_more draft refusal End sound = good_made s draft (tt {0}) sound (tt {0})
  passes_no_more draft refusal (Token word trees) sound = refuses
  passes_no_more draft refusal (Group paren meaning inner trees) sound = refuses

  pub passes_at_least : (draft : Draft) (n : ℕ) (missing : Place) (trees : Reading) → Sound s draft → Passed draft (at_least n missing trees)
  passes_at_least draft zero missing trees sound = good_made s draft (tt {0}) sound (tt {0})
  passes_at_least draft (suc n) missing End sound = refuses
  passes_at_least draft (suc n) missing (Token word trees) sound = passes_at_least draft n missing trees sound
  passes_at_least draft (suc n) missing (Group paren meaning inner trees) sound = passes_at_least draft n missing trees sound

  pub passes_exactly : (draft : Draft) (n : ℕ) (missing : Place) (trees : Reading) → Sound s draft → Passed draft (exactly n missing trees)
  passes_exactly draft n missing trees sound = good_then s draft _ (passes_at_least draft n missing trees sound) λ _ new keeps extends _. passes_no_more new refusal.BadForm (from n trees) keeps

  passes_token_first : (draft : Draft) (missing : Place) (trees : Reading) → Sound s draft → Passed draft (token_first missing trees)
  passes_token_first draft missing End sound = refuses
  passes_token_first draft missing (Token word trees) sound = good_made s draft word sound (tt {0})
  passes_token_first draft missing (Group paren meaning inner trees) sound = refuses

  passes_new_binding : (draft : Draft) (names : List (List ℕ)) (missing : Place) (trees : Reading) → Sound s draft → Passed draft (new_binding names missing trees)
  passes_new_binding draft names missing trees sound =
      good_then s draft _ (passes_token_first draft missing trees sound) λ name d1 k1 e1 _.
      good_then s d1 _ (passes_want d1 (is_symbol name.kind && not (is_reserved name.text)) refusal.BadForm name.place k1) λ _ d2 k2 e2 _.
      good_then s d2 _ (passes_want d2 (not (list_any (bytes_eq name.text) names)) refusal.BadForm name.place k2) λ _ d3 k3 e3 _.
      good_made s d3 name k3 (tt {0})

  passes_binding_name : (draft : Draft) (names : List (List ℕ)) (paren : Word) (inner : Reading) → Sound s draft → Passed draft (binding_name names paren inner)
  passes_binding_name draft names paren inner sound =
      good_then s draft _ (passes_exactly draft 2 (head_place paren.place inner) inner sound) λ _ d1 k1 e1 _. passes_new_binding d1 names paren.place inner k1

  pub passes_bindings : (draft : Draft) (names : List (List ℕ)) (trees : Reading) → Sound s draft → Passed draft (bindings_after names trees)
  passes_bindings draft names End sound = good_made s draft (tt {0}) sound (tt {0})
  passes_bindings draft names (Token word trees) sound = refuses
  passes_bindings draft names (Group paren meaning inner trees) sound =
      good_then s draft _ (passes_binding_name draft names paren inner sound) λ name d1 k1 e1 _. passes_bindings d1 (names ++ name.text ∷ []) trees k1

  module _ (P : Meaning → Type 0) where
    pub good_list_first : (draft : Draft) (missing : Place) (trees : Reading) → AllMean P trees → Sound s draft → Good s draft (λ _ (listed : Listed). AllMean P listed.inner) (list_first missing trees draft)
    good_list_first draft missing End all sound = refuses
    good_list_first draft missing (Token word trees) all sound = refuses
    good_list_first draft missing (Group paren meaning inner trees) (group is within rest) sound = good_made s draft (record { paren = paren; inner = inner }) sound within

    pub good_some_bindings : (draft : Draft) (missing : Place) (trees : Reading) → AllMean P trees → Sound s draft → Good s draft (λ _ (listed : Listed). AllMean P listed.inner) (some_bindings missing trees draft)
    good_some_bindings draft missing trees all sound =
        good_then s draft _ (good_list_first draft missing trees all sound) λ listed d1 k1 e1 inner_mean.
        good_then s d1 _ (good_then s d1 {Q = Anything} _ (passes_at_least d1 1 listed.paren.place listed.inner k1) λ _ d2 k2 e2 _. passes_bindings d2 [] listed.inner k2) λ _ d3 k3 e3 _.
        good_made s d3 listed k3 inner_mean

  pub passes_attributes : (draft : Draft) (valued : Bool) (trees : Reading) → Sound s draft → Passed draft (attributes_after valued trees)
  passes_attributes draft valued End sound = good_made s draft (tt {0}) sound (tt {0})
  passes_attributes draft valued (Token word trees) sound = by (passes_attributes draft true trees sound) (λ d keeps. passes_attributes d false trees keeps) (is_keyword word.kind)
    where
      by : Passed draft (attributes_after true trees) → ((d : Draft) → Sound s d → Passed d (attributes_after false trees)) → (b : Bool)
          → Good s draft Anything (cond b (attributes_after true trees) (must_hold (valued && not (is_wide word)) refusal.BadForm word.place >> attributes_after false trees) draft)
      by key other true = key
      by key other false = good_then s draft _ (passes_want draft (valued && not (is_wide word)) refusal.BadForm word.place sound) λ _ d1 k1 e1 _. other d1 k1
  passes_attributes draft valued (Group paren meaning inner trees) sound =
      good_then s draft _ (passes_want draft valued refusal.BadForm paren.place sound) λ _ d1 k1 e1 _. passes_attributes d1 false trees k1

  pub passes_attributes_of : (draft : Draft) (head : Place) (trees : Reading) → Sound s draft → Passed draft (attributes_of head trees)
  passes_attributes_of draft head trees sound = good_then s draft _ (passes_at_least draft 2 head trees sound) λ _ d1 k1 e1 _. passes_attributes d1 false (from 1 trees) k1

  passes_known_sort : (draft : Draft) (word : Word) (o : Option ℕ) → Sound s draft → Passed draft (known_sort word o)
  passes_known_sort draft word None sound = refuses
  passes_known_sort draft word (Some sort) sound = good_made s draft sort sound (tt {0})

  passes_sort_of_token : (draft : Draft) (state : State) (word : Word) → Sound s draft → Passed draft (sort_of_token state word)
  passes_sort_of_token draft state word sound = by (is_symbol word.kind)
    where
      by : (b : Bool) → Good s draft Anything (cond b (known_sort word (sort_number state word.text)) (bad_form word.place) draft)
      by true = passes_known_sort draft word (sort_number state word.text) sound
      by false = refuses

  pub passes_sort_first : (draft : Draft) (state : State) (missing : Place) (trees : Reading) → Sound s draft → Passed draft (sort_first state missing trees)
  passes_sort_first draft state missing End sound = refuses
  passes_sort_first draft state missing (Token word trees) sound = passes_sort_of_token draft state word sound
  passes_sort_first draft state missing (Group paren meaning inner trees) sound = refuses

  -- a sort other than Bool
  pub good_other_sort : (draft : Draft) (state : State) (missing : Place) (trees : Reading) → Sound s draft → Good s draft (λ _ sort. not (sort == 0) ≡ true) (other_sort state missing trees draft)
  good_other_sort draft state missing trees sound =
      good_then s draft _ (passes_sort_first draft state missing trees sound) λ sort d1 k1 e1 _.
      good_then s d1 _ (good_want s d1 (not (sort == 0)) refusal.NotInProfile (first_place missing trees) k1) λ _ d2 k2 e2 other.
      good_made s d2 sort k2 other
