-- The parts of triggers, and the end of a forall.
use Rattle.std.proofs.Common.{◌≡◌, ℕ, zero, suc, ◌+◌, ◌<◌, List, [], ◌∷◌, ◌++◌, drop, take, length, nat_lt, get_or, Result, Ok, Err, refl, sym, ap, ◌∙◌, append_assoc, arith}
use Rattle.std.proofs.lemmas.List.{append-nil}
use Rattle.smt_text.specs.Word.{Word}
use Rattle.smt_text.specs.declared.token.Place.{Place}
use Rattle.graph_trigger.specs.declared.trigger.Trigger.{Trigger}
use Rattle.formula_draft.specs.Draft.{Draft}
use Rattle.smt_names.specs.declared.bound.Bound.{Bound}
use Rattle.smt_names.specs.declared.stop.Stop.{Stop}
use Rattle.smt_names.specs.declared.syntax_fault.SyntaxFault.{SyntaxFault}
use Rattle.smt_names.specs.declared.refusal.Refusal.TheVariants as refusal
use Rattle.smt_names.specs.Making.{Making, gives, then_from, ◌>>◌, ◌>>=◌}
use Rattle.smt_names.specs.Makes.{Refuses, Checks}
use Rattle.smt_names.specs.Names.{Scope}
use Rattle.smt_terms.specs.Reading.{Reading, Meaning, End, Token, Group, from, at_least, no_more}
use Rattle.smt_terms.specs.Terms.{Attribute, value, pattern_root, pattern_roots, add_root, trigger, triggers, some_trigger}
use Rattle.smt_terms.specs.Triggers.{SeesTree, HasNumber, HasPatterns, numbered_trigger, listed_trigger}
use Rattle.smt_terms.specs.Cursor.{word_at, trees_from, SeesToken, SeesList}
use Rattle.smt_terms.specs.Bodies.{attribute_at, attributes_at}
use Rattle.smt_terms.proofs.CheckLemmas.{refuses_all, refuses_first, weighs_token, weighs_list}

-- a list behind some items
abbrev pub behind_items : {A : Type 0} → List A → Result (List A × Draft) SyntaxFault → Result (List A × Draft) SyntaxFault
behind_items so_far more = then_from (λ items. gives (so_far ++ items)) more

pub behind_no_items : {A : Type 0} (more : Result (List A × Draft) SyntaxFault) → behind_items [] more ≡ more
behind_no_items (Ok found) = refl
behind_no_items (Err fault) = refl

pub items_end : {A : Type 0} (so_far : List A) (draft : Draft) (more : Result (List A × Draft) SyntaxFault) → more ≡ Ok ([], draft) → behind_items so_far more ≡ Ok (so_far, draft)
items_end so_far draft more is = ap (behind_items so_far) is ∙ ap (λ items. Ok (items, draft)) (append-nil so_far)

-- an item more is put last
pub items_next : {A : Type 0} (so_far more : List A) (x : A) (rest : Result (List A × Draft) SyntaxFault) → more ≡ so_far ++ x ∷ [] → behind_items more rest ≡ behind_items so_far (then_from (λ items. gives (x ∷ items)) rest)
items_next so_far more x (Ok r) all = ap (λ items. Ok (items ++ r.0, r.1)) all ∙ ap (λ items. Ok (items, r.1)) (append_assoc so_far (x ∷ []) r.0)
items_next so_far more x (Err fault) all = refl

-- a tree among patterns
roots_token : (scope : Scope) (w : Word) (trees rest : Reading) → trees ≡ Token w rest → pattern_roots scope trees ≡ add_root (pattern_root w.place (value w.place scope trees)) (pattern_roots scope rest)
roots_token scope w trees rest is = rw is refl

roots_list : (scope : Scope) (p : Word) (meaning : Meaning) (inner trees rest : Reading) → trees ≡ Group p meaning inner rest → pattern_roots scope trees ≡ add_root (pattern_root p.place (value p.place scope trees)) (pattern_roots scope rest)
roots_list scope p meaning inner trees rest is = rw is refl

pub sees_one : (words : List Word) (i : ℕ) → SeesToken words i → SeesTree words i (i + 1)
sees_one words i sees = record {
  roots = λ scope draft. ap (λ (m : Making (List ℕ)). m draft) (roots_token scope (word_at words i) (trees_from words i) (trees_from words (i + 1)) sees.is);
  less = weighs_token words (word_at words i) (trees_from words i) (trees_from words (i + 1)) sees.is;
}

pub sees_list : (words : List Word) (i after : ℕ) → SeesList words i after → SeesTree words i after
sees_list words i after sees = record {
  roots = λ scope draft. ap (λ (m : Making (List ℕ)). m draft) (roots_list scope (word_at words i) _ (trees_from words (i + 1)) (trees_from words i) (trees_from words after) sees.is);
  less = weighs_list words (word_at words i) _ (trees_from words (i + 1)) (trees_from words i) (trees_from words after) sees.is;
}

module _ (words : List Word) (scope : Scope) (i after : ℕ) (sees : SeesTree words i after) where
  first : Making ℕ
  first = pattern_root (word_at words i).place (value (word_at words i).place scope (trees_from words i))

  -- a root more is put last
  pub root_next : (so_far more : List ℕ) (root : ℕ) (draft later : Draft) → pattern_root (word_at words i).place (value (word_at words i).place scope (trees_from words i)) draft ≡ Ok (root, later) → more ≡ so_far ++ root ∷ []
      → behind_items more (pattern_roots scope (trees_from words after) later) ≡ behind_items so_far (pattern_roots scope (trees_from words i) draft)
  root_next so_far more root draft later is all = items_next so_far more root (pattern_roots scope (trees_from words after) later) all
      ∙ sym (ap (behind_items so_far) (sees.roots scope draft ∙ ap (then_from (λ (r : ℕ). pattern_roots scope (trees_from words after) >>= λ (rs : List ℕ). gives (r ∷ rs))) is))

  pub root_refused : (stopped : Stop) (so_far : List ℕ) (draft : Draft) (whole : Result (List ℕ × Draft) SyntaxFault) → behind_items so_far (pattern_roots scope (trees_from words i) draft) ≡ whole
      → Refuses stopped (pattern_root (word_at words i).place (value (word_at words i).place scope (trees_from words i)) draft) → Refuses stopped whole
  root_refused stopped so_far draft whole same = refuses_all stopped _ whole
      (λ fault e. sym same ∙ ap (behind_items so_far) (sees.roots scope draft ∙ ap (then_from (λ (r : ℕ). pattern_roots scope (trees_from words after) >>= λ (rs : List ℕ). gives (r ∷ rs))) e))

pub roots_end : (words : List Word) (scope : Scope) (i : ℕ) (draft : Draft) → trees_from words i ≡ End → pattern_roots scope (trees_from words i) draft ≡ Ok ([], draft)
roots_end words scope i draft ends = ap (λ (t : Reading). pattern_roots scope t draft) ends

-- the number of patterns
pub number_refused : (words : List Word) (i : ℕ) (paren : Place) (stopped : Stop) → ((draft : Draft) → Refuses stopped (at_least 1 paren (trees_from words i) draft)) → HasNumber words i paren (Err stopped)
number_refused words i paren stopped refused = λ scope variables. refuses_first stopped (at_least 1 paren (trees_from words i)) (λ (_ : Unit {0}). no_more refusal.TooManyPatterns (from 16 (trees_from words i)) >> listed_trigger scope variables paren (trees_from words i)) refused

pub number_checked : (words : List Word) (i : ℕ) (paren : Place) (rest : Reading) (result : Result (Unit {0}) Stop) → rest ≡ from 16 (trees_from words i) → ((draft : Draft) → at_least 1 paren (trees_from words i) draft ≡ Ok (tt {0}, draft))
    → Checks result (no_more refusal.TooManyPatterns rest) → HasNumber words i paren result
number_checked words i paren rest (Ok done) behind least few = λ scope variables draft.
    ap (then_from (λ (_ : Unit {0}). no_more refusal.TooManyPatterns (from 16 (trees_from words i)) >> listed_trigger scope variables paren (trees_from words i))) (least draft)
    ∙ ap (then_from (λ (_ : Unit {0}). listed_trigger scope variables paren (trees_from words i))) (ap (λ (t : Reading). no_more refusal.TooManyPatterns t draft) (sym behind) ∙ few draft)
number_checked words i paren rest (Err stopped) behind least few = λ scope variables draft. refuses_all stopped _ (numbered_trigger scope variables paren (trees_from words i) draft)
    (λ fault e. ap (then_from (λ (_ : Unit {0}). no_more refusal.TooManyPatterns (from 16 (trees_from words i)) >> listed_trigger scope variables paren (trees_from words i))) (least draft)
    ∙ ap (then_from (λ (_ : Unit {0}). listed_trigger scope variables paren (trees_from words i))) (ap (λ (t : Reading). no_more refusal.TooManyPatterns t draft) (sym behind) ∙ e)) (few draft)

-- the list behind a keyword
list_means : (scope : Scope) (variables : List Bound) (key p : Word) (meaning : Meaning) (inner behind trees : Reading) (draft : Draft) → trees ≡ Group p meaning inner behind
    → trigger scope variables (record { key = key; behind = trees }) draft ≡ numbered_trigger scope variables p.place inner draft
list_means scope variables key p meaning inner behind trees draft is = ap (λ (t : Reading). trigger scope variables (record { key = key; behind = t }) draft) is

pub patterns_listed : (words : List Word) (key after : ℕ) (paren : Place) (result : Result (Unit {0}) Stop) → paren ≡ (word_at words (key + 1)).place → SeesList words (key + 1) after
    → HasNumber words (key + 2) paren result → HasPatterns words key result
patterns_listed words key after paren (Ok done) at sees few = λ scope variables draft.
    listed_so scope variables draft ∙ few scope variables draft ∙ ap (λ (p : Place). listed_trigger scope variables p (trees_from words (key + 2)) draft) at
  where
    two : key + 1 + 1 ≡ key + 2
    two = omega arith

    listed_so : (scope : Scope) (variables : List Bound) (draft : Draft) → trigger scope variables (attribute_at words key) draft ≡ numbered_trigger scope variables paren (trees_from words (key + 2)) draft
    listed_so scope variables draft = list_means scope variables (word_at words key) (word_at words (key + 1)) _ (trees_from words (key + 1 + 1)) (trees_from words after) (trees_from words (key + 1)) draft sees.is
        ∙ ap (λ (n : ℕ). numbered_trigger scope variables (word_at words (key + 1)).place (trees_from words n) draft) two ∙ ap (λ (p : Place). numbered_trigger scope variables p (trees_from words (key + 2)) draft) (sym at)
patterns_listed words key after paren (Err stopped) at sees few = λ scope variables draft.
    refuses_all stopped (numbered_trigger scope variables paren (trees_from words (key + 2)) draft) (trigger scope variables (attribute_at words key) draft) (λ fault e. listed_so scope variables draft ∙ e) (few scope variables draft)
  where
    two : key + 1 + 1 ≡ key + 2
    two = omega arith

    listed_so : (scope : Scope) (variables : List Bound) (draft : Draft) → trigger scope variables (attribute_at words key) draft ≡ numbered_trigger scope variables paren (trees_from words (key + 2)) draft
    listed_so scope variables draft = list_means scope variables (word_at words key) (word_at words (key + 1)) _ (trees_from words (key + 1 + 1)) (trees_from words after) (trees_from words (key + 1)) draft sees.is
        ∙ ap (λ (n : ℕ). numbered_trigger scope variables (word_at words (key + 1)).place (trees_from words n) draft) two ∙ ap (λ (p : Place). numbered_trigger scope variables p (trees_from words (key + 2)) draft) (sym at)

-- the keyword that comes next
pub keys_next : (words : List Word) (keys : List ℕ) (i key : ℕ) → i < length keys → get_or keys i 0 ≡ key → attributes_at words (drop i keys) ≡ attribute_at words key ∷ attributes_at words (drop (i + 1) keys)
keys_next words [] i key h is = absurd (omega (arith, h))
keys_next words (k ∷ keys) zero key h is = ap (λ (n : ℕ). attribute_at words n ∷ attributes_at words keys) is
keys_next words (k ∷ keys) (suc i) key h is = keys_next words keys i key (omega (arith, h)) is ∙ ap (λ (n : ℕ). attribute_at words key ∷ attributes_at words (drop n (k ∷ keys))) one
  where
    one : suc (i + 1) ≡ suc i + 1
    one = omega arith

-- a trigger more is put last
module _ (scope : Scope) (variables : List Bound) (a : Attribute) (attributes all_left : List Attribute) (left : all_left ≡ a ∷ attributes) where
  pub trigger_next : (so_far more : List Trigger) (t : Trigger) (draft later : Draft) → trigger scope variables a draft ≡ Ok (t, later) → more ≡ so_far ++ t ∷ []
      → behind_items more (triggers scope variables attributes later) ≡ behind_items so_far (triggers scope variables all_left draft)
  trigger_next so_far more t draft later is all = items_next so_far more t (triggers scope variables attributes later) all
      ∙ sym (ap (behind_items so_far) (ap (λ (xs : List Attribute). triggers scope variables xs draft) left ∙ ap (then_from (λ (x : Trigger). triggers scope variables attributes >>= λ (xs : List Trigger). gives (x ∷ xs))) is))

  pub trigger_refused : (stopped : Stop) (so_far : List Trigger) (draft : Draft) (whole : Result (List Trigger × Draft) SyntaxFault) → behind_items so_far (triggers scope variables all_left draft) ≡ whole
      → Refuses stopped (trigger scope variables a draft) → Refuses stopped whole
  trigger_refused stopped so_far draft whole same = refuses_all stopped _ whole
      (λ fault e. sym same ∙ ap (behind_items so_far) (ap (λ (xs : List Attribute). triggers scope variables xs draft) left ∙ ap (then_from (λ (x : Trigger). triggers scope variables attributes >>= λ (xs : List Trigger). gives (x ∷ xs))) e))

front_of : {X : Type 0} (xs ys : List X) → take (length xs) (xs ++ ys) ≡ xs
front_of [] ys = refl
front_of (x ∷ xs) ys = ap (λ zs. x ∷ zs) (front_of xs ys)

-- what is bound for a while is bound no more
pub unbound : (old more bound kept after : List Bound) (n : ℕ) → n ≡ length old → bound ≡ old ++ more → kept ≡ bound → after ≡ take n kept → after ≡ old
unbound old more bound kept after n is all same done = done ∙ ap (λ (k : ℕ). take k kept) is ∙ ap (take (length old)) (same ∙ all) ∙ front_of old more

pub some_so : (patterns : List Trigger) → nat_lt 0 (length patterns) ≡ some_trigger patterns
some_so [] = refl
some_so (t ∷ patterns) = grind arith
