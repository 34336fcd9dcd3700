-- What follows of partners: which tokens they are, that there is one alone, and where the trees behind a list stand.
use Rattle.std.proofs.lemmas.Bool.{cases_lt}
use Rattle.std.proofs.Common.{inl, inr, Some, slice_get, ◌≡◌, ℕ, zero, suc, ◌+◌, ◌-◌, ◌≤◌, ◌<◌, List, [], ◌∷◌, ◌++◌}
use Rattle.std.proofs.Common.{length, take, drop, get_or, refl, ap, sym, ◌∙◌, arith, subst, add_assoc, length-drop}
use Rattle.std.proofs.Math.Seq.{take-suc, get_or-drop, drop-drop}
use Rattle.std.proofs.lemmas.List.{drop_more}
use Rattle.smt_text.specs.Word.{Word}
use Rattle.smt_text.specs.Partners.{kinds, opens, closes, opened, closed, span, Closes, IsWhole}
use Rattle.smt_text.specs.Trees.{Trees, outer, before, ahead}
use Rattle.smt_text.specs.declared.token.Kind.{Kind}
use Rattle.smt_text.specs.declared.token.Kind.TheVariants.{Left, Right}

pub length-kinds : (words : List Word) → length (kinds words) ≡ length words
length-kinds [] = refl
length-kinds (word ∷ words) = ap suc (length-kinds words)

pub kinds-drop : (n : ℕ) (words : List Word) → kinds (drop n words) ≡ drop n (kinds words)
kinds-drop zero words = refl
kinds-drop (suc n) [] = refl
kinds-drop (suc n) (word ∷ words) = kinds-drop n words

pub opened-append : (xs ys : List Kind) → opened (xs ++ ys) ≡ opened xs + opened ys
opened-append [] ys = omega arith
opened-append (x ∷ xs) ys = ap (λ (n : ℕ). opens x + n) (opened-append xs ys)
    ∙ sym (add_assoc (opens x) (opened xs) (opened ys))

pub closed-append : (xs ys : List Kind) → closed (xs ++ ys) ≡ closed xs + closed ys
closed-append [] ys = omega arith
closed-append (x ∷ xs) ys = ap (λ (n : ℕ). closes x + n) (closed-append xs ys)
    ∙ sym (add_assoc (closes x) (closed xs) (closed ys))

-- one token more of a span
span_more : (ks : List Kind) (p n : ℕ) → p ≤ n → n < length ks →
    span ks p (n + 1) ≡ span ks p n ++ get_or ks n Left ∷ []
span_more ks p n before there =
    ap (λ (k : ℕ). take k (drop p ks)) one ∙ take-suc (drop p ks) (n - p) Left
    (omega (arith, length-drop p ks, there, before))
    ∙ ap (λ (k : Kind). span ks p n ++ k ∷ []) (get_or-drop p ks (n - p) Left ∙ ap (λ (k : ℕ). get_or ks k Left) at)
  where
    one : n + 1 - p ≡ suc (n - p)
    one = omega (arith, before)

    at : p + (n - p) ≡ n
    at = omega (arith, before)

pub opened_more : (ks : List Kind) (p n : ℕ) → p ≤ n → n < length ks →
    opened (span ks p (n + 1)) ≡ opened (span ks p n) + opens (get_or ks n Left)
opened_more ks p n before there = ap opened (span_more ks p n before there)
    ∙ opened-append (span ks p n) (get_or ks n Left ∷ [])
    ∙ ap (λ (k : ℕ). opened (span ks p n) + k) none
  where
    none : opens (get_or ks n Left) + 0 ≡ opens (get_or ks n Left)
    none = omega arith

pub closed_more : (ks : List Kind) (p n : ℕ) → p ≤ n → n < length ks →
    closed (span ks p (n + 1)) ≡ closed (span ks p n) + closes (get_or ks n Left)
closed_more ks p n before there = ap closed (span_more ks p n before there)
    ∙ closed-append (span ks p n) (get_or ks n Left ∷ [])
    ∙ ap (λ (k : ℕ). closed (span ks p n) + k) none
  where
    none : closes (get_or ks n Left) + 0 ≡ closes (get_or ks n Left)
    none = omega arith

-- the first token of a span
pub span_first : (ks : List Kind) (i k : ℕ) → i < k → i < length ks →
    span ks i k ≡ get_or ks i Left ∷ take (k - (i + 1)) (drop (i + 1) ks)
span_first ks i k later there =
    ap (λ (n : ℕ). take n (drop i ks)) one ∙ ap (take (suc (k - (i + 1)))) (drop_more ks i Left there)
  where
    one : k - i ≡ suc (k - (i + 1))
    one = omega (arith, later)

-- so many lists left
outers : ℕ → List Trees → List Trees
outers zero trees = trees
outers (suc n) trees = outers n (outer trees)

first_up : (kind : Kind) (word : Word) (m : ℕ) (trees : List Trees) → closes kind + 0 ≡ opens kind + 0 + suc m →
    trees ≡ outers (suc m) (before kind word trees)
unfolding outers
first_up Left word m trees out = absurd (omega (arith, out))
first_up Right word zero trees out = refl
first_up Right word (suc m) trees out = absurd (omega (arith, out))
first_up kind word m trees out = absurd (omega (arith, out))

-- The trees behind the place where m + 1 lists more are closed than opened.
abbrev Up : List Word → ℕ → ℕ → Type 0
Up words n m = ((k : ℕ) → k ≤ n → closed (take k (kinds words)) ≤ opened (take k (kinds words)) + m)
    → closed (take (suc n) (kinds words)) ≡ opened (take (suc n) (kinds words)) + suc m
    → ahead (drop (suc n) words) ≡ outers (suc m) (ahead words)

next_up : (kind : Kind) (word : Word) (words : List Word) (n m : ℕ) → ((m : ℕ) → Up words n m)
    → ((k : ℕ) → k ≤ n → closes kind + closed (take k (kinds words)) ≤ opens kind + opened (take k (kinds words)) + m)
    → closes kind + closed (take (suc n) (kinds words)) ≡ opens kind + opened (take (suc n) (kinds words)) + suc m
    → ahead (drop (suc n) words) ≡ outers (suc m) (before kind word (ahead words))
unfolding outers
next_up Left word words n m up in_list out = up (suc m) (λ k less. omega (arith, in_list k less)) (omega (arith, out))
next_up Right word words n zero up in_list out = absurd (omega (arith, in_list 0 (omega arith)))
next_up Right word words n (suc m) up in_list out = up m (λ k less. omega (arith, in_list k less))
    (omega (arith, out))
next_up kind word words n m up in_list out = up m (λ k less. omega (arith, in_list k less)) (omega (arith, out))

up : (words : List Word) (n m : ℕ) → n < length words → Up words n m
unfolding ahead
up [] n m there in_list out = absurd (omega (arith, there))
up (word ∷ words) zero m there in_list out = first_up word.kind word m (ahead words) out
up (word ∷ words) (suc n) m there in_list out =
    next_up word.kind word words n m (λ m'. up words n m' (omega (arith, there)))
    (λ k less. in_list (suc k) (omega (arith, less))) out

first_left : (kind : Kind) → closes kind + 0 < opens kind + 0 → kind ≡ Left
first_left Left less = refl
first_left Right less = absurd (omega (arith, less))
first_left kind less = absurd (omega (arith, less))

module _ (ks : List Kind) (i j : ℕ) (c : Closes ks i j) where
  pub there : i < length ks
  there = omega (arith, c.later, c.there)

  -- what is closed is a left parenthesis
  pub begins : get_or ks i Left ≡ Left
  begins = first_left (get_or ks i Left) (subst (λ (xs : List Kind). closed xs < opened xs)
      (span_first ks i (i + 1) (omega arith) there ∙ ap (λ (n : ℕ). get_or ks i Left ∷ take n (drop (i + 1) ks)) none)
      (c.least (i + 1) (omega arith) (omega (arith, c.later))))
    where
      none : i + 1 - (i + 1) ≡ 0
      none = omega arith

  -- the tokens behind the parenthesis, up to a place
  behind : (k : ℕ) → i < k → span ks i k ≡ Left ∷ take (k - (i + 1)) (drop (i + 1) ks)
  behind k later = span_first ks i k later there ∙ ap (λ (x : Kind). x ∷ take (k - (i + 1)) (drop (i + 1) ks)) begins

  pub inside : (k : ℕ) → k ≤ j - (i + 1) → closed (take k (drop (i + 1) ks)) ≤ opened (take k (drop (i + 1) ks)) + 0
  inside k less = omega (
    arith,
    subst (λ (xs : List Kind). closed xs < opened xs) (behind (k + (i + 1)) (omega arith)
        ∙ ap (λ (n : ℕ). Left ∷ take n (drop (i + 1) ks)) back)
        (c.least (k + (i + 1)) (omega arith) (omega (arith, less, c.later))),
  )
    where
      back : k + (i + 1) - (i + 1) ≡ k
      back = omega arith

  pub leaves : closed (take (suc (j - (i + 1))) (drop (i + 1) ks))
      ≡ opened (take (suc (j - (i + 1))) (drop (i + 1) ks)) + 1
  leaves = omega (
    arith,
    subst (λ (xs : List Kind). closed xs ≡ opened xs) (behind (j + 1) (omega (arith, c.later))
        ∙ ap (λ (n : ℕ). Left ∷ take n (drop (i + 1) ks)) back) c.even,
  )
    where
      back : j + 1 - (i + 1) ≡ suc (j - (i + 1))
      back = omega (arith, c.later)

at_kind : (words : List Word) (i : ℕ) (word : Word) → slice_get words i ≡ Some word →
    get_or (kinds words) i Left ≡ word.kind
at_kind [] i word is = cc
at_kind (x ∷ words) zero word is = let same : x ≡ word = cc in ap (λ (w : Word). w.kind) same
at_kind (x ∷ words) (suc i) word is = at_kind words i word is

-- what is closed is a left parenthesis
pub Closes-left : (words : List Word) (i j : ℕ) (word : Word) → Closes (kinds words) i j →
    slice_get words i ≡ Some word → word.kind ≡ Left
Closes-left words i j word c is = sym (at_kind words i word is) ∙ begins (kinds words) i j c

closing : (kind : Kind) (a b : ℕ) → a < b → a + closes kind ≡ b + opens kind → kind ≡ Right
closing Left a b less even = absurd (omega (arith, less, even))
closing Right a b less even = refl
closing kind a b less even = absurd (omega (arith, less, even))

-- what closes it is a right one
pub Closes-right : (words : List Word) (i j : ℕ) (word : Word) → Closes (kinds words) i j →
    slice_get words j ≡ Some word → word.kind ≡ Right
Closes-right words i j word c is = sym (at_kind words j word is)
    ∙ closing (get_or (kinds words) j Left) (closed (span (kinds words) i j)) (opened (span (kinds words) i j))
    (c.least j c.later (omega arith))
    (sym (closed_more (kinds words) i j (omega (arith, c.later)) c.there) ∙ c.even
    ∙ opened_more (kinds words) i j (omega (arith, c.later)) c.there)

not_below : (ks : List Kind) (i j k : ℕ) → Closes ks i j → Closes ks i k → j < k → ⊥
not_below ks i j k first second less = omega (
  arith,
  first.even,
  second.least (j + 1) (omega (arith, first.later)) (omega (arith, less)),
)

-- one parenthesis alone closes it
pub Closes-one : (ks : List Kind) (i j k : ℕ) → Closes ks i j → Closes ks i k → j ≡ k
Closes-one ks i j k first second = elim (cases_lt j k) [
  | inl below ↦ absurd (not_below ks i j k first second below)
  | inr above ↦ elim (cases_lt k j) [
    | inl below ↦ absurd (not_below ks i k j second first below)
    | inr same ↦ omega
        (arith, above, same)
  ]
]

-- a whole command has two tokens or more, the first a left parenthesis and the last a right one
pub IsWhole-length : (words : List Word) → IsWhole words → 2 ≤ length words
IsWhole-length words whole = omega (arith, whole.later, whole.there, length-kinds words)

pub IsWhole-first : (words : List Word) (word : Word) → IsWhole words → slice_get words 0 ≡ Some word →
    word.kind ≡ Left
IsWhole-first words word whole is = Closes-left words 0 (length words - 1) word whole is

pub IsWhole-last : (words : List Word) (word : Word) → IsWhole words →
    slice_get words (length words - 1) ≡ Some word → word.kind ≡ Right
IsWhole-last words word whole is = Closes-right words 0 (length words - 1) word whole is

-- Behind a list the trees go on as they would behind its first parenthesis, one list further out.
pub Closes-ahead : (words : List Word) (i j : ℕ) → Closes (kinds words) i j →
    ahead (drop (j + 1) words) ≡ outer (ahead (drop (i + 1) words))
unfolding outers
Closes-ahead words i j c =
    ap (λ (n : ℕ). ahead (drop n words)) split ∙ ap ahead (sym (drop-drop (suc (j - (i + 1))) (i + 1) words))
    ∙ up (drop (i + 1) words) (j - (i + 1)) 0 (omega (
      arith,
      length-drop (i + 1) words,
      length-kinds words,
      c.there,
      c.later,
    ))
    (λ k less. rw (kinds-drop (i + 1) words) (inside (kinds words) i j c k less))
    (rw (kinds-drop (i + 1) words) (leaves (kinds words) i j c))
  where
    split : j + 1 ≡ i + 1 + suc (j - (i + 1))
    split = omega (arith, c.later)
