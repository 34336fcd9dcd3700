-- Texts that are put one behind another.
use Rattle.std.proofs.Common.{◌≡◌, ℕ, ◌+◌, ◌≤◌, List, [], ◌∷◌, ◌++◌, length, drop, Some, sym, ap, subst, ◌∙◌, append_assoc}
use Rattle.std.specs.Prelude.{slice_get}
use Rattle.std.proofs.lemmas.List.{drop_more, drop_all, append-nil}
use Rattle.std.proofs.lemmas.Option.{slice_get_within, get_or_from_slice_get}
use Rattle.ematch_cli.specs.Joined.{AreJoined, joined_none, joined_more}
use Rattle.em_printing.specs.Writing.{Puts}

-- what is left of a list at an index begins with what stands there
pub drop_at : {A : Type 0} (xs : List A) (i : ℕ) (x : A) → slice_get xs i ≡ Some x → drop i xs ≡ x ∷ drop (i + 1) xs
drop_at {A} xs i x at = drop_more xs i x (slice_get_within xs i x at) ∙ ap (λ (y : A). y ∷ drop (i + 1) xs) (get_or_from_slice_get xs i x x at)

-- one text behind another
pub put_two : (old a b mid new : List ℕ) → mid ≡ old ++ a → new ≡ mid ++ b → new ≡ old ++ (a ++ b)
put_two old a b mid new first second = second ∙ ap (λ (z : List ℕ). z ++ b) first ∙ append_assoc old a b

module _ {A : Type 0} (IsTextOf : A → List ℕ → Type 0) (things : List A) where
  -- What is written of joined texts, up to some thing: the texts of the others complete it.
  pub record IsUnderWay (old : List ℕ) (i : ℕ) (new : List ℕ) : Type 0 where
    pub added : List ℕ
    pub is : new ≡ old ++ added
    pub completes : (rest : List ℕ) → AreJoined IsTextOf (drop i things) rest → AreJoined IsTextOf things (added ++ rest)

  pub under_way_none : (old : List ℕ) → IsUnderWay old 0 old
  under_way_none old = record { added = []; is = sym (append-nil old); completes = λ rest texts. texts }

  pub under_way_more : (old : List ℕ) (i : ℕ) (mid new : List ℕ) (thing : A) → slice_get things i ≡ Some thing → Puts (IsTextOf thing) mid new → IsUnderWay old i mid → IsUnderWay old (i + 1) new
  under_way_more old i mid new thing at text way = record {
    added = way.added ++ text.0;
    is = put_two old way.added text.0 mid new way.is text.2;
    completes = λ rest texts.
        subst (AreJoined IsTextOf things) (sym (append_assoc way.added text.0 rest))
        (way.completes (text.0 ++ rest) (subst (λ (ts : List A). AreJoined IsTextOf ts (text.0 ++ rest)) (sym (drop_at things i thing at)) (joined_more text.1 texts)));
  }

  pub under_way_all : (old : List ℕ) (i : ℕ) (new : List ℕ) → length things ≤ i → IsUnderWay old i new → Puts (AreJoined IsTextOf things) old new
  under_way_all old i new past way =
      (way.added, subst (AreJoined IsTextOf things) (append-nil way.added) (way.completes [] (subst (λ (ts : List A). AreJoined IsTextOf ts []) (sym (drop_all i things past)) joined_none)), way.is)
