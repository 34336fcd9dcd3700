-- Finding partners token by token.
use Rattle.std.proofs.Common.{◌≡◌, inl, inr, ℕ, zero, suc, ◌+◌, ◌-◌, ◌≤◌, ◌<◌, ◌^◌, List, [], ◌∷◌, ◌++◌, length, take, drop, get_or, set, refl, ap, sym, ◌∙◌, arith, subst, length-append, length-set}
use Rattle.std.proofs.Math.Seq.{get_or-set_same, get_or-set_other, get_or-append_seam}
use Rattle.std.proofs.Math.ListN.{get_or-append}
use Rattle.std.proofs.lemmas.Bool.{cases_lt, cases_eq}
use Rattle.std.specs.Prelude.{◌≢◌}
use Rattle.smt_text.specs.Word.{Word, words_of, AreInPlace}
use Rattle.smt_text.specs.Partners.{kinds, opens, closes, opened, closed, span, Closes, IsPartner, IsWhole}
use Rattle.smt_text.specs.Pairing.{token_kinds, bare, IsOpenAt, IsAmong, HasPartner, AllPaired, Paired, IsTree}
use Rattle.smt_text.specs.declared.token.Kind.{Kind}
use Rattle.smt_text.specs.declared.token.Kind.TheVariants.{Left, Right}
use Rattle.smt_text.specs.declared.token.Token.{Token}
use Rattle.smt_text.proofs.PartnersLaws.{opened_more, closed_more, begins}
use Rattle.smt_text.proofs.Words.{length-words_of}

pub length-token_kinds : (ts : List Token) → length (token_kinds ts) ≡ length ts
length-token_kinds [] = refl
length-token_kinds (t ∷ ts) = ap suc (length-token_kinds ts)

-- the last place, by the number of kinds
pub whole_kinds : (ts : List Token) → Closes (token_kinds ts) 0 (length ts - 1) → Closes (token_kinds ts) 0 (length (token_kinds ts) - 1)
whole_kinds ts = subst (λ (n : ℕ). Closes (token_kinds ts) 0 (n - 1)) (sym (length-token_kinds ts))

pub token_kinds-bare : (ts : List Token) → token_kinds (bare ts) ≡ token_kinds ts
token_kinds-bare [] = refl
token_kinds-bare (t ∷ ts) = ap (λ (ks : List Kind). t.kind ∷ ks) (token_kinds-bare ts)

pub same_kinds : (ts us : List Token) → bare ts ≡ bare us → token_kinds ts ≡ token_kinds us
same_kinds ts us same = sym (token_kinds-bare ts) ∙ ap token_kinds same ∙ token_kinds-bare us

pub kinds-words_of : (ts : List Token) (text : List ℕ) → kinds (words_of ts text) ≡ token_kinds ts
kinds-words_of [] text = refl
kinds-words_of (t ∷ ts) text = ap (λ (ks : List Kind). t.kind ∷ ks) (kinds-words_of ts (drop t.length text))

pub words_of-bare : (ts : List Token) (text : List ℕ) → words_of (bare ts) text ≡ words_of ts text
words_of-bare [] text = refl
words_of-bare (t ∷ ts) text = ap (λ (ws : List Word). record { kind = t.kind; place = t.place; text = take t.length text } ∷ ws) (words_of-bare ts (drop t.length text))

pub length-bare : (ts : List Token) → length (bare ts) ≡ length ts
length-bare [] = refl
length-bare (t ∷ ts) = ap suc (length-bare ts)

pub bare-set : (ts : List Token) (i p : ℕ) (d : Token) → bare (set ts i (record (get_or ts i d) { partner = p })) ≡ bare ts
bare-set [] i p d = refl
bare-set (t ∷ ts) zero p d = refl
bare-set (t ∷ ts) (suc i) p d = ap (λ (us : List Token). record t { partner = 0 } ∷ us) (bare-set ts i p d)

pub kind_at : (ts : List Token) (i : ℕ) (d : Token) → i < length ts → get_or (token_kinds ts) i Left ≡ (get_or ts i d).kind
kind_at [] i d less = absurd (omega (arith, less))
kind_at (t ∷ ts) zero d less = refl
kind_at (t ∷ ts) (suc i) d less = kind_at ts i d (omega (arith, less))

span_none : (ks : List Kind) (p : ℕ) → span ks p p ≡ []
span_none ks p = ap (λ (k : ℕ). take k (drop p ks)) none
  where
    none : p - p ≡ 0
    none = omega arith

-- a token other than a parenthesis
no_counts : (kind : Kind) → kind ≢ Left → kind ≢ Right → (opens kind ≡ 0) × (closes kind ≡ 0)
no_counts Left no_left no_right = absurd (no_left refl)
no_counts Right no_left no_right = absurd (no_right refl)
no_counts kind no_left no_right = (refl, refl)

own_partner : (ks : List Kind) (i j : ℕ) (kind : Kind) → kind ≢ Left → kind ≢ Right → j ≡ i → IsPartner ks i j kind
own_partner ks i j Left no_left no_right is = absurd (no_left refl)
own_partner ks i j Right no_left no_right is = absurd (no_right refl)
own_partner ks i j kind no_left no_right is = is

module _ (ks : List Kind) (n : ℕ) (there : n < length ks) where
  next : Kind
  next = get_or ks n Left

  open_on : (j j' p : ℕ) → IsOpenAt ks n j p → j + opens (get_or ks n Left) ≡ j' + closes (get_or ks n Left) → 1 ≤ j' → IsOpenAt ks (n + 1) j' p
  open_on j j' p o step some = record {
    before = omega (arith, o.before);
    deep = deep;
    least = λ k later within. elim (cases_lt n k) [
      | inl past ↦ subst (λ (m : ℕ). closed (span ks p m) < opened (span ks p m)) (at k past within) (omega (arith, deep, some))
      | inr le ↦ o.least k later le
    ];
  }
    where
      deep : opened (span ks p (n + 1)) ≡ closed (span ks p (n + 1)) + j'
      deep = omega (arith, opened_more ks p n (omega (arith, o.before)) there, closed_more ks p n (omega (arith, o.before)) there, o.deep, step)

      at : (k : ℕ) → n < k → k ≤ n + 1 → n + 1 ≡ k
      at k past within = omega (arith, past, within)

  open_new : get_or ks n Left ≡ Left → IsOpenAt ks (n + 1) 1 n
  open_new left = record {
    before = omega arith;
    deep = deep;
    least = λ k later within. subst (λ (m : ℕ). closed (span ks n m) < opened (span ks n m)) (at k later within) (omega (arith, deep));
  }
    where
      deep : opened (span ks n (n + 1)) ≡ closed (span ks n (n + 1)) + 1
      deep = omega (arith, opened_more ks n n (omega arith) there, closed_more ks n n (omega arith) there, ap opened (span_none ks n), ap closed (span_none ks n), ap opens left, ap closes left)

      at : (k : ℕ) → n < k → k ≤ n + 1 → n + 1 ≡ k
      at k past within = omega (arith, past, within)

  closes_now : (p : ℕ) → IsOpenAt ks n 1 p → get_or ks n Left ≡ Right → Closes ks p n
  closes_now p o right = record {
    later = o.before;
    there = there;
    even = omega (arith, opened_more ks p n (omega (arith, o.before)) there, closed_more ks p n (omega (arith, o.before)) there, o.deep, ap opens right, ap closes right);
    least = o.least;
  }

  all_more : (len len' : ℕ) → opened (span ks 0 n) ≡ closed (span ks 0 n) + len → len + opens (get_or ks n Left) ≡ len' + closes (get_or ks n Left)
      → opened (span ks 0 (n + 1)) ≡ closed (span ks 0 (n + 1)) + len'
  all_more len len' all step = omega (arith, opened_more ks 0 n (omega arith) there, closed_more ks 0 n (omega arith) there, all, step)

among_more : (xs : List ℕ) (y i : ℕ) → IsAmong xs i → IsAmong (xs ++ y ∷ []) i
among_more xs y i among = record { k = among.k; there = omega (arith, among.there, length-append xs (y ∷ [])); is = get_or-append xs (y ∷ []) 0 among.k among.there ∙ among.is }

among_last : (xs : List ℕ) (y : ℕ) → IsAmong (xs ++ y ∷ []) y
among_last xs y = record { k = length xs; there = omega (arith, length-append xs (y ∷ [])); is = get_or-append_seam xs y [] 0 }

among_front : (xs : List ℕ) (y i : ℕ) → IsAmong (xs ++ y ∷ []) i → i ≢ y → IsAmong xs i
among_front xs y i among other = elim (cases_lt among.k (length xs)) [
  | inl less ↦ record { k = among.k; there = less; is = sym (get_or-append xs (y ∷ []) 0 among.k less) ∙ among.is }
  | inr more ↦ absurd (other (sym among.is ∙ ap (λ (k : ℕ). get_or (xs ++ y ∷ []) k 0) (at more) ∙ get_or-append_seam xs y [] 0))
]
  where
    at : length xs ≤ among.k → among.k ≡ length xs
    at more = omega (arith, more, among.there, length-append xs (y ∷ []))

pub paired_none : (ks : List Kind) (ts : List Token) → Paired ks ts [] 0
paired_none ks ts = record {
  stack = λ k less. absurd (omega (arith, less));
  all = refl;
  done = λ i less. absurd (omega (arith, less));
}

module _ (ks : List Kind) (ts : List Token) (n : ℕ) (there : n < length ks) where
  pub paired_left : (lefts : List ℕ) → Paired ks ts lefts n → get_or ks n Left ≡ Left → Paired ks ts (lefts ++ n ∷ []) (n + 1)
  paired_left lefts paired left = record {
    stack = λ k less. elim (cases_lt k (length lefts)) [
      | inl front ↦ rw (get_or-append lefts (n ∷ []) 0 k front)
          (open_on ks n there (length lefts - k) (length (lefts ++ n ∷ []) - k) (get_or lefts k 0) (paired.stack k front) (omega (arith, front, len, ap opens left, ap closes left)) (omega (arith, front, len)))
      | inr last ↦ subst (λ (p : ℕ). IsOpenAt ks (n + 1) (length (lefts ++ n ∷ []) - k) p) (sym (get_or-append_seam lefts n [] 0) ∙ ap (λ (m : ℕ). get_or (lefts ++ n ∷ []) m 0) (at k less last))
          (subst (λ (m : ℕ). IsOpenAt ks (n + 1) m n) (one k less last) (open_new ks n there left))
    ];
    all = all_more ks n there (length lefts) (length (lefts ++ n ∷ [])) paired.all (omega (arith, len, ap opens left, ap closes left));
    done = λ i less. elim (cases_lt i n) [
      | inl before ↦ elim (paired.done i before) [ inl among ↦ inl (among_more lefts n i among) | inr has ↦ inr has ]
      | inr last ↦ inl (subst (IsAmong (lefts ++ n ∷ [])) (is i less last) (among_last lefts n))
    ];
  }
    where
      len : length (lefts ++ n ∷ []) ≡ length lefts + 1
      len = length-append lefts (n ∷ [])

      at : (k : ℕ) → k < length (lefts ++ n ∷ []) → length lefts ≤ k → length lefts ≡ k
      at k less last = omega (arith, less, last, len)

      one : (k : ℕ) → k < length (lefts ++ n ∷ []) → length lefts ≤ k → 1 ≡ length (lefts ++ n ∷ []) - k
      one k less last = omega (arith, less, last, len)

      is : (i : ℕ) → i < n + 1 → n ≤ i → n ≡ i
      is i less last = omega (arith, less, last)

  pub paired_other : (lefts : List ℕ) (t : Token) → Paired ks ts lefts n → n < length ts → t.partner ≡ n → get_or ks n Left ≢ Left → get_or ks n Left ≢ Right
      → Paired ks (set ts n t) lefts (n + 1)
  paired_other lefts t paired short own no_left no_right =
      let none : (opens (get_or ks n Left) ≡ 0) × (closes (get_or ks n Left) ≡ 0) = no_counts (get_or ks n Left) no_left no_right in
      record {
        stack = λ k less. open_on ks n there (length lefts - k) (length lefts - k) (get_or lefts k 0) (paired.stack k less) (omega (arith, none.0, none.1)) (omega (arith, less));
        all = all_more ks n there (length lefts) (length lefts) paired.all (omega (arith, none.0, none.1));
        done = λ i less. elim (cases_lt i n) [
          | inl before ↦ elim (paired.done i before) [
            | inl among ↦ inl among
            | inr has ↦ inr (λ d. subst (λ (u : Token). IsPartner ks i u.partner (get_or ks i Left)) (sym (get_or-set_other ts n i t d (λ same. omega (arith, same, before)))) (has d))
          ]
          | inr last ↦ inr (subst (HasPartner ks (set ts n t)) (is i less last)
              (λ d. own_partner ks n (get_or (set ts n t) n d).partner (get_or ks n Left) no_left no_right (ap (λ (u : Token). u.partner) (get_or-set_same ts n t d short) ∙ own)))
        ];
      }
    where
      is : (i : ℕ) → i < n + 1 → n ≤ i → n ≡ i
      is i less last = omega (arith, less, last)

  module _ (lefts : List ℕ) (p : ℕ) (paired : Paired ks ts (lefts ++ p ∷ []) n) where
    len : length (lefts ++ p ∷ []) ≡ length lefts + 1
    len = length-append lefts (p ∷ [])

    pub innermost : IsOpenAt ks n 1 p
    innermost = subst (λ (m : ℕ). IsOpenAt ks n m p) one
        (subst (λ (q : ℕ). IsOpenAt ks n (length (lefts ++ p ∷ []) - length lefts) q) (get_or-append_seam lefts p [] 0) (paired.stack (length lefts) (omega (arith, len))))
      where
        one : length (lefts ++ p ∷ []) - length lefts ≡ 1
        one = omega (arith, len)

    pub paired_right : (t u : Token) → length ts ≡ length ks → t.partner ≡ n → u.partner ≡ p → get_or ks n Left ≡ Right
        → Paired ks (set (set ts p t) n u) lefts (n + 1)
    paired_right t u same t_is u_is right =
        let closes_it : Closes ks p n = closes_now ks n there p innermost right in
        record {
          stack = λ k less. open_on ks n there (length (lefts ++ p ∷ []) - k) (length lefts - k) (get_or lefts k 0)
              (subst (IsOpenAt ks n (length (lefts ++ p ∷ []) - k)) (get_or-append lefts (p ∷ []) 0 k less) (paired.stack k (omega (arith, less, len))))
              (omega (arith, less, len, ap opens right, ap closes right)) (omega (arith, less));
          all = all_more ks n there (length (lefts ++ p ∷ [])) (length lefts) paired.all (omega (arith, len, ap opens right, ap closes right));
          done = λ i less. elim (cases_lt i n) [
            | inl before ↦ elim (cases_eq i p) [
              | inl same_p ↦ inr (subst (HasPartner ks (set (set ts p t) n u)) (sym same_p) (of_left closes_it))
              | inr other ↦ elim (paired.done i before) [
                | inl among ↦ inl (among_front lefts p i among other)
                | inr has ↦ inr (λ d. subst (λ (v : Token). IsPartner ks i v.partner (get_or ks i Left))
                    (sym (get_or-set_other (set ts p t) n i u d (λ e. omega (arith, e, before)) ∙ get_or-set_other ts p i t d other)) (has d))
              ]
            ]
            | inr last ↦ inr (subst (HasPartner ks (set (set ts p t) n u)) (is i less last) (of_right closes_it))
          ];
        }
      where
        is : (i : ℕ) → i < n + 1 → n ≤ i → n ≡ i
        is i less last = omega (arith, less, last)

        of_left : Closes ks p n → HasPartner ks (set (set ts p t) n u) p
        of_left c d = subst (λ (v : Token). IsPartner ks p v.partner (get_or ks p Left))
            (sym (get_or-set_other (set ts p t) n p u d (λ e. omega (arith, e, c.later)) ∙ get_or-set_same ts p t d (omega (arith, c.later, there, same))))
            (subst (λ (m : ℕ). IsPartner ks p m (get_or ks p Left)) (sym t_is) (subst (IsPartner ks p n) (sym (begins ks p n c)) c))

        of_right : Closes ks p n → HasPartner ks (set (set ts p t) n u) n
        of_right c d = subst (λ (v : Token). IsPartner ks n v.partner (get_or ks n Left))
            (sym (get_or-set_same (set ts p t) n u d (omega (arith, there, same, length-set ts p t))))
            (subst (λ (m : ℕ). IsPartner ks n m (get_or ks n Left)) (sym u_is) (subst (IsPartner ks n p) (sym right) c))

-- a right parenthesis closes one that is open
pub none_open : (ks : List Kind) (ts : List Token) (n : ℕ) → n < length ks → Closes ks 0 (length ks - 1) → Paired ks ts [] n → get_or ks n Left ≡ Right → ⊥
none_open ks ts zero there whole paired right = cc (right, begins ks 0 (length ks - 1) whole)
none_open ks ts (suc n) there whole paired right = omega (arith, whole.least (suc n) (omega arith) (omega (arith, there)), paired.all)

-- at the end none is open
pub all_paired : (ks : List Kind) (ts : List Token) (lefts : List ℕ) (n : ℕ) → n ≡ length ks → Closes ks 0 (length ks - 1) → Paired ks ts lefts n → (i : ℕ) → i < length ks → HasPartner ks ts i
all_paired ks ts lefts n end whole paired i less = elim (paired.done i (omega (arith, less, end))) [
  | inl among ↦ absurd (omega (arith, among.there, paired.all, even))
  | inr has ↦ has
]
  where
    even : closed (span ks 0 n) ≡ opened (span ks 0 n)
    even = subst (λ (m : ℕ). closed (span ks 0 m) ≡ opened (span ks 0 m)) at whole.even
      where
        at : length ks - 1 + 1 ≡ n
        at = omega (arith, end, whole.later)

-- the partner of a token that was read
pub partner_read : (ts : List Token) (i : ℕ) (t : Token) → AllPaired ts → i < length ts → t ≡ get_or ts i t → IsPartner (token_kinds ts) i t.partner t.kind
partner_read ts i t paired less is = subst (λ (u : Token). IsPartner (token_kinds ts) i u.partner u.kind) (sym is)
    (subst (IsPartner (token_kinds ts) i (get_or ts i t).partner) (kind_at ts i t less) (paired i less t))

pub whole_words : (ts : List Token) (text : List ℕ) → Closes (token_kinds ts) 0 (length ts - 1) → IsWhole (words_of ts text)
whole_words ts text whole = subst (λ (ks : List Kind). Closes ks 0 (length (words_of ts text) - 1)) (sym (kinds-words_of ts text))
    (subst (λ (n : ℕ). Closes (token_kinds ts) 0 (n - 1)) (sym (length-words_of ts text)) whole)

pub whole_tokens : (ts : List Token) (text : List ℕ) → IsWhole (words_of ts text) → Closes (token_kinds ts) 0 (length ts - 1)
whole_tokens ts text whole = subst (λ (n : ℕ). Closes (token_kinds ts) 0 (n - 1)) (length-words_of ts text)
    (subst (λ (ks : List Kind). Closes ks 0 (length (words_of ts text) - 1)) (kinds-words_of ts text) whole)

bare_placed : (start : ℕ) (ts : List Token) (text : List ℕ) → AreInPlace start ts text → AreInPlace start (bare ts) text
bare_placed start [] text placed = placed
bare_placed start (t ∷ ts) text placed = (placed.0, placed.1, bare_placed (start + t.length) ts (drop t.length text) placed.2)

placed_bare : (start : ℕ) (ts : List Token) (text : List ℕ) → AreInPlace start (bare ts) text → AreInPlace start ts text
placed_bare start [] text placed = placed
placed_bare start (t ∷ ts) text placed = (placed.0, placed.1, placed_bare (start + t.length) ts (drop t.length text) placed.2)

-- tokens that got their partners
pub is_tree : (old new : List Token) (text : List ℕ) → length old < 2 ^ 32 → AreInPlace 0 old text → Closes (token_kinds old) 0 (length old - 1)
    → bare new ≡ bare old → AllPaired new → IsTree new text
is_tree old new text few placed whole same paired = record {
  few = omega (arith, few, len);
  placed = placed_bare 0 new text (subst (λ (ts : List Token). AreInPlace 0 ts text) (sym same) (bare_placed 0 old text placed));
  whole = subst (λ (n : ℕ). Closes (token_kinds new) 0 (n - 1)) len (subst (λ (ks : List Kind). Closes ks 0 (length old - 1)) (sym (same_kinds new old same)) whole);
  paired = paired;
}
  where
    len : length old ≡ length new
    len = sym (length-bare old) ∙ ap length (sym same) ∙ length-bare new

pub same_words : (old new : List Token) (text : List ℕ) → bare new ≡ bare old → words_of new text ≡ words_of old text
same_words old new text same = sym (words_of-bare new text) ∙ ap (λ (ts : List Token). words_of ts text) same ∙ words_of-bare old text
