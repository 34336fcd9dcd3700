-- Each command of a script is whole.
use Rattle.std.proofs.Common.{◌≡◌, ℕ, zero, suc, pred, ◌+◌, ◌-◌, ◌≤◌, ◌<◌, Bool, true}
use Rattle.std.proofs.Common.{false, cond, not, List, [], ◌∷◌, ◌++◌, length, take, refl, ap}
use Rattle.std.proofs.Common.{sym, ◌∙◌, Option, Some, None, arith, subst, length-append, inl, inr, ◌||◌}
use Rattle.std.specs.Prelude.{nat_lt, ◌==◌, ◌&&◌}
use Rattle.std.proofs.lemmas.Bool.Decides.{nat_tests}
use Rattle.std.proofs.lemmas.Bool.{cases_lt}
use Rattle.std.proofs.lemmas.List.{take-append-le, take_all}
use Rattle.em_outside.specs.declared.limits.Limits.{Limits}
use Rattle.smt_text.specs.Bytes.{is_stray, is_white}
use Rattle.smt_text.specs.Lexicon.{lexeme, comment_from}
use Rattle.smt_text.specs.Word.{Word}
use Rattle.smt_text.specs.Script.{Script, read_from, script_from, past_of, after_token}
use Rattle.smt_text.specs.Script.{after_lexeme, at_end, place_after, text_of}
use Rattle.smt_text.specs.Partners.{kinds, opens, closes, opened, closed, span, IsWhole, AllWhole}
use Rattle.smt_text.specs.declared.token.Kind.{Kind}
use Rattle.smt_text.specs.declared.token.Kind.TheVariants.{Left, Right}
use Rattle.smt_text.specs.declared.token.Place.{Place}
use Rattle.smt_text.specs.declared.lexeme.Lexeme.{Lexeme}
use Rattle.smt_text.specs.declared.lexeme.Lexeme.TheVariants.{Blank, Token, Ill, Cut}
use Rattle.smt_text.proofs.PartnersLaws.{length-kinds, opened-append, closed-append}

-- so many parentheses are open behind these tokens, and one or more behind each front of them
record Nests (depth : ℕ) (ks : List Kind) : Type 0 where
  pub deep : opened ks ≡ closed ks + depth
  pub least : (k : ℕ) → 0 < k → k ≤ length ks → closed (take k ks) < opened (take k ks)

nests_none : Nests 0 []
nests_none = record { deep = refl; least = λ k some few. absurd (omega (arith, some, few)) }

kinds-append : (xs ys : List Word) → kinds (xs ++ ys) ≡ kinds xs ++ kinds ys
kinds-append [] ys = refl
kinds-append (x ∷ xs) ys = ap (λ (ks : List Kind). x.kind ∷ ks) (kinds-append xs ys)

-- one token more
nests_more : (d d' : ℕ) (ks : List Kind) (kind : Kind) → Nests d ks → d + opens kind ≡ d' + closes kind → 1 ≤ d' →
    Nests d' (ks ++ kind ∷ [])
nests_more d d' ks kind nests step some = record {
  deep = deep;
  least = λ k some_k few. elim (cases_lt (length ks) k) [
    | inl past ↦ subst (λ (xs : List Kind). closed xs < opened xs)
        (sym (take_all k (ks ++ kind ∷ []) (omega (arith, past, length-append ks (kind ∷ [])))))
        (omega (arith, deep, some))
    | inr within ↦ subst (λ (xs : List Kind). closed xs < opened xs) (sym (take-append-le k ks (kind ∷ []) within))
        (nests.least k some_k within)
  ];
}
  where
    deep : opened (ks ++ kind ∷ []) ≡ closed (ks ++ kind ∷ []) + d'
    deep = omega (arith, opened-append ks (kind ∷ []), closed-append ks (kind ∷ []), nests.deep, step)

nests_word : (d d' : ℕ) (words : List Word) (word : Word) → Nests d (kinds words) →
    d + opens word.kind ≡ d' + closes word.kind → 1 ≤ d' → Nests d' (kinds (words ++ word ∷ []))
nests_word d d' words word nests step some = subst (λ (ks : List Kind). Nests d' ks)
    (sym (kinds-append words (word ∷ []))) (nests_more d d' (kinds words) word.kind nests step some)

-- a closed command
whole_word : (words : List Word) (word : Word) → Nests 1 (kinds words) → word.kind ≡ Right →
    IsWhole (words ++ word ∷ [])
whole_word words word nests is = record {
  later = omega (arith, all, some);
  there = omega (arith, all, length-kinds (words ++ word ∷ []));
  even = subst (λ (xs : List Kind). closed xs ≡ opened xs)
      (sym (take_all (length (words ++ word ∷ []) - 1 + 1 - 0) (kinds (words ++ word ∷ []))
      (omega (arith, all, length-kinds (words ++ word ∷ []))))) even;
  least = λ k later within. subst (λ (xs : List Kind). closed xs < opened xs) (sym (front k within))
      (nests.least k later (omega (arith, within, all, length-kinds words)));
}
  where
    all : length (words ++ word ∷ []) ≡ length words + 1
    all = length-append words (word ∷ [])

    none : (ks : List Kind) → length ks ≡ 0 → opened ks ≡ 0
    none [] len = refl
    none (k ∷ ks) len = absurd (omega (arith, len))

    some : 1 ≤ length words
    some = elim (cases_lt 0 (length words)) [
      | inl more ↦ more
      | inr zero_long ↦ absurd
          (omega (arith, nests.deep, none (kinds words) (omega (arith, zero_long, length-kinds words))))
    ]

    closes_one : closes word.kind ≡ 1
    closes_one = ap closes is

    opens_none : opens word.kind ≡ 0
    opens_none = ap opens is

    even : closed (kinds (words ++ word ∷ [])) ≡ opened (kinds (words ++ word ∷ []))
    even = rw (kinds-append words (word ∷ [])) (omega (
      arith,
      opened-append (kinds words) (word.kind ∷ []),
      closed-append (kinds words) (word.kind ∷ []),
      nests.deep,
      closes_one,
      opens_none,
    ))

    front : (k : ℕ) → k ≤ length (words ++ word ∷ []) - 1 →
        span (kinds (words ++ word ∷ [])) 0 k ≡ take k (kinds words)
    front k within = ap (λ (n : ℕ). take n (kinds (words ++ word ∷ []))) from
        ∙ ap (take k) (kinds-append words (word ∷ []))
        ∙ take-append-le k (kinds words) (word.kind ∷ []) (omega (arith, within, all, length-kinds words))
      where
        from : k - 0 ≡ k
        from = omega arith

end_whole : (past : Option Place) (words : List Word) → AllWhole (at_end past words)
end_whole (Some place) words = tt
end_whole None [] = tt
end_whole None (word ∷ words) = tt

cond_whole : (b : Bool) (s t : Script) → (b ≡ true → AllWhole s) → (b ≡ false → AllWhole t) → AllWhole (cond b s t)
cond_whole true s t first second = first refl
cond_whole false s t first second = second refl

-- the depth inside a command
some_deep : (d : ℕ) → (d ≡ 0 → ⊥) → 1 ≤ d
some_deep zero some = absurd (some refl)
some_deep (suc d) some = omega arith

token_whole : (deepest : ℕ) (past : Option Place) (rest : ℕ → List Word →
    Script) (depth : ℕ) (words : List Word) (word : Word) (kind : Kind)
    → word.kind ≡ kind → Nests depth (kinds words) → (depth ≡ 0 → kind ≡ Left)
    → ((d : ℕ) (w : List Word) → Nests d (kinds w) → AllWhole (rest d w)) →
    AllWhole (after_token deepest past rest depth words word kind)
unfolding after_token
token_whole deepest past rest depth words word Left is nests begin wholes =
    cond_whole (nat_lt depth deepest) _ _ (λ _. wholes (depth + 1) (words ++ word ∷ [])
    (nests_word depth (depth + 1) words word nests (rw is (omega arith)) (omega arith))) (λ _. tt)
token_whole deepest past rest depth words word Right is nests begin wholes =
    cond_whole (depth == 1) _ _
    (λ one. let P : ℕ → Type 0 = λ d. Nests d (kinds words) in
    (whole_word words word (subst P (grind (arith, nat_tests, one)) nests) is, wholes 0 [] nests_none))
    (λ more. wholes (depth - 1) (words ++ word ∷ []) (nests_word depth (depth - 1) words word nests
    (rw is (omega (arith, some, not_one more))) (omega (arith, some, not_one more))))
  where
    some : 1 ≤ depth
    some = some_deep depth (λ none. cc (begin none))

    not_one : (depth == 1) ≡ false → (depth ≡ 1 → ⊥)
    not_one more one = cc (more, ap (λ (d : ℕ). d == 1) one)
token_whole deepest past rest depth words word kind is nests begin wholes =
    wholes depth (words ++ word ∷ []) (nests_word depth depth words word nests (rw is refl)
    (some_deep depth (λ none. cc (begin none))))

lexeme_whole : (deepest : ℕ) (past : Option Place) (rest : ℕ → List Word → ℕ →
    Script) (depth : ℕ) (words : List Word) (place : Place) (bytes : List ℕ) (l : Lexeme)
    → Nests depth (kinds words) → (depth ≡ 0 → (kind : Kind) (n : ℕ) → l ≡ Token kind n → kind ≡ Left)
    → ((d : ℕ) (w : List Word) (n : ℕ) → Nests d (kinds w) → AllWhole (rest d w n)) →
    AllWhole (after_lexeme deepest past rest depth words place bytes l)
unfolding after_lexeme
lexeme_whole deepest past rest depth words place bytes (Blank n) nests begin wholes = wholes depth words n nests
lexeme_whole deepest past rest depth words place bytes (Token kind n) nests begin wholes =
    token_whole deepest past (λ d w. rest d w n) depth words
    (record { kind = kind; place = place; text = text_of kind (take n bytes) }) kind refl nests
    (λ none. begin none kind n refl) (λ d w. wholes d w n)
lexeme_whole deepest past rest depth words place bytes (Ill n) nests begin wholes = tt
lexeme_whole deepest past rest depth words place bytes Cut nests begin wholes = end_whole past words

-- a comment is no token
no_token : (b : Bool) (m : ℕ) (l : Lexeme) (kind : Kind) (n : ℕ) → (l ≡ Token kind n → ⊥) →
    cond b (Blank m) l ≡ Token kind n → ⊥
no_token true m l kind n none is = cc
no_token false m l kind n none is = none is

comment_no_token : (m : ℕ) (bytes : List ℕ) (kind : Kind) (n : ℕ) → comment_from m bytes ≡ Token kind n → ⊥
comment_no_token m [] kind n is = cc
comment_no_token m (b ∷ bytes) kind n is = no_token (b == 10 || b == 13) m (comment_from (m + 1) bytes) kind n
    (comment_no_token (m + 1) bytes kind n) is

-- what may stand between commands is no token but the parenthesis that opens one
left_alone : (white comment paren : Bool) (c other : Lexeme) (kind : Kind) (n : ℕ) →
    not (white || comment || paren) ≡ false → (c ≡ Token kind n → ⊥)
    → cond white (Blank 1) (cond comment c (cond paren (Token Left 1) other)) ≡ Token kind n → kind ≡ Left
left_alone true comment paren c other kind n may none is = cc
left_alone false true paren c other kind n may none is = absurd (none is)
left_alone false false true c other kind n may none is = cc
left_alone false false false c other kind n may none is = cc

opens_one : (b : ℕ) (bytes : List ℕ) → is_stray b ≡ false → (kind : Kind) (n : ℕ) →
    lexeme (b ∷ bytes) ≡ Token kind n → kind ≡ Left
unfolding lexeme
opens_one b bytes may kind n is = left_alone (is_white b) (b == 59) (b == 40) (comment_from 1 bytes) _ kind n may
    (comment_no_token 1 bytes kind n) is

from_whole : (deepest : ℕ) (past : Option Place) (bytes : List ℕ) (depth : ℕ) (words : List Word) (skip : ℕ)
    (place : Place)
    → Nests depth (kinds words) → AllWhole (read_from deepest past depth words skip place bytes)
unfolding read_from
from_whole deepest past [] depth words skip place nests = end_whole past words
from_whole deepest past (b ∷ bytes) depth words (suc skip) place nests = from_whole deepest past bytes depth words
    skip (place_after place b) nests
from_whole deepest past (b ∷ bytes) depth words zero place nests =
    cond_whole (depth == 0 && is_stray b) _ _ (λ _. tt) (λ may.
    lexeme_whole deepest past (λ d w n. read_from deepest past d w (pred n) (place_after place b) bytes) depth words
    place (b ∷ bytes) (lexeme (b ∷ bytes)) nests
    (λ none. opens_one b bytes (no_stray none may)) (λ d w n. from_whole deepest past bytes d w (pred n)
    (place_after place b)))
  where
    no_stray : depth ≡ 0 → (depth == 0 && is_stray b) ≡ false → is_stray b ≡ false
    no_stray none may = subst (λ (d : ℕ). (d == 0 && is_stray b) ≡ false) none may

-- each command of a script is whole
pub script-whole : (limits : Limits) (place : Place) (before : ℕ) (bytes : List ℕ) →
    AllWhole (script_from limits place before bytes)
unfolding script_from
script-whole limits place before bytes =
    from_whole limits.depth (past_of (limits.bytes - before) place bytes) (take (limits.bytes - before) bytes) 0 [] 0
    place nests_none
