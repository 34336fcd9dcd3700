-- Changes of chains that were noted, and what taking them back gives.
use Rattle.std.proofs.Common.{Result, Ok, Err, OnOk, OnErr, ◌≡◌, ℕ, List, [], ◌∷◌, ◌++◌, length, min, take, slice_set, refl, sym, ◌∙◌, ap, append_assoc}
use Rattle.graph_trail.specs.Undo.{state_before}
use Rattle.search_watch.specs.declared.link.Link.{Link}
use Rattle.search_watch.specs.declared.link.Link.TheVariants.{Grown, Led}
use Rattle.search_watch.specs.declared.noted_chains.NotedChains.{NotedChains}
use Rattle.search_watch.specs.declared.watch.Watch.{Watch}
use Rattle.search_watch.specs.Chains.{Chained, HasChain, before_link, slot_at, list_at, chain_at, chained, grown, with_item}
use Rattle.search_watch.specs.Noted.{IsNotedSince}
use Rattle.search_watch.specs.Back.{CanGoBack}
use Rattle.search_watch.proofs.ChainLemmas.{get-set_same, set-back, set-same, take_front, join_undone}

-- undoing a list of changes and then those before it
state_before-append : (earlier later : List Link) (s : Chained) → state_before before_link (earlier ++ later) s ≡ state_before before_link earlier (state_before before_link later s)
state_before-append [] later s = refl
state_before-append (link ∷ earlier) later s = ap (λ r. before_link r link) (state_before-append earlier later s)

append-none : (xs : List Link) → xs ++ [] ≡ xs
append-none [] = refl
append-none (x ∷ xs) = ap (λ ys. x ∷ ys) (append-none xs)

-- ---- what was noted

pub noted_none : (old new : NotedChains) → new.trail ≡ old.trail → new.chains ≡ old.chains → IsNotedSince old new
noted_none old new same_trail same_chains = record {
  more = [];
  trail = same_trail ∙ sym (append-none old.trail);
  undone = same_chains;
}

pub noted_one : (old new : NotedChains) (link : Link) → new.trail ≡ old.trail ++ link ∷ [] → before_link new.chains link ≡ old.chains → IsNotedSince old new
noted_one old new link noted undone = record { more = link ∷ []; trail = noted; undone = undone }

pub noted_two : (old new : NotedChains) (first second : Link) → new.trail ≡ old.trail ++ first ∷ second ∷ [] → before_link (before_link new.chains second) first ≡ old.chains → IsNotedSince old new
noted_two old new first second noted undone = record { more = first ∷ second ∷ []; trail = noted; undone = undone }

pub noted_trans : (a b c : NotedChains) → IsNotedSince a b → IsNotedSince b c → IsNotedSince a c
noted_trans a b c first second = record {
  more = first.more ++ second.more;
  trail = second.trail ∙ ap (λ (ls : List Link). ls ++ second.more) first.trail ∙ assoc a.trail first.more second.more;
  undone = state_before-append first.more second.more c.chains ∙ ap (state_before before_link first.more) second.undone ∙ first.undone;
}
  where
    assoc : (xs ys zs : List Link) → (xs ++ ys) ++ zs ≡ xs ++ (ys ++ zs)
    assoc xs ys zs = simp append_assoc

-- ---- of a watch

pub back_none : (watch : Watch) → CanGoBack watch watch
back_none watch = record {
  literals = noted_none watch.literals watch.literals refl refl;
  differs = noted_none watch.differs watch.differs refl refl;
}

pub back_trans : (a b c : Watch) → CanGoBack a b → CanGoBack b c → CanGoBack a c
back_trans a b c first second = record {
  literals = noted_trans a.literals b.literals c.literals first.literals second.literals;
  differs = noted_trans a.differs b.differs c.differs first.differs second.differs;
}

-- ---- notes of changes that are about to be made

pub length_kept : (s : Chained) (slot : ℕ) → before_link s (Grown slot (length (list_at s slot))) ≡ s
length_kept s slot = ap (λ ls. record s { lists = ls }) (ap (slice_set s.lists slot) (take_whole (list_at s slot)) ∙ set-same s.lists slot [])
  where
    take_whole : (xs : List ℕ) → take (length xs) xs ≡ xs
    take_whole [] = refl
    take_whole (x ∷ xs) = ap (λ ys. x ∷ ys) (take_whole xs)

pub slot_kept : (s : Chained) (leader : ℕ) → before_link s (Led leader (slot_at s leader)) ≡ s
slot_kept s leader = ap (λ ss. record s { slots = ss }) (set-same s.slots leader 0)

-- one note undoes what put an item
pub item_undone : (s : Chained) (leader item : ℕ) → HasChain s leader → before_link (with_item s leader item) (Grown (slot_at s leader) (length (chain_at s leader))) ≡ s
item_undone s leader item has =
    let slot = slot_at s leader in
    let list = chain_at s leader ++ item ∷ [] in
    let here = ap (take (length (chain_at s leader))) (get-set_same s.lists slot list [] has.slot_stands) ∙ take_front (chain_at s leader) (item ∷ []) in
    ap (λ ls. record s { lists = ls }) (ap (slice_set (slice_set s.lists slot list) slot) here ∙ set-back s.lists slot list [])

grown_undone : (s t : Chained) (kept into len : ℕ) → t ≡ s → into ≡ slot_at s kept → len ≡ length (chain_at s kept) → before_link t (Grown into len) ≡ s
grown_undone s t kept into len same into_is len_is =
    ap (λ (r : Chained). before_link r (Grown into len)) same ∙ ap (λ (i : ℕ). before_link s (Grown i len)) into_is ∙ ap (λ (n : ℕ). before_link s (Grown (slot_at s kept) n)) len_is
    ∙ length_kept s (slot_at s kept)

led_undone : (s t : Chained) (leader slot : ℕ) → t ≡ s → slot ≡ slot_at s leader → before_link t (Led leader slot) ≡ s
led_undone s t leader slot same slot_is =
    ap (λ (r : Chained). before_link r (Led leader slot)) same ∙ ap (λ (k : ℕ). before_link s (Led leader k)) slot_is ∙ slot_kept s leader

-- ---- the changes, made or refused

pub join_noted_before : {X E : Type 0} (result : Result X E) (old mid new : NotedChains) (kept least into len slot : ℕ)
    → into ≡ slot_at old.chains kept → len ≡ length (chain_at old.chains kept) → slot ≡ slot_at old.chains least
    → mid.chains ≡ old.chains → mid.trail ≡ old.trail ++ Grown into len ∷ []
    → new.chains ≡ mid.chains → OnOk result (new.trail ≡ mid.trail ++ Led least slot ∷ []) → OnErr result (new.trail ≡ mid.trail) → IsNotedSince old new
join_noted_before result old mid new kept least into len slot into_is len_is slot_is same noted same' ok err =
    noted_trans old mid new (noted_one old mid (Grown into len) noted (grown_undone old.chains mid.chains kept into len same into_is len_is)) (second result ok err)
  where
    second : {X E : Type 0} (r : Result X E) → OnOk r (new.trail ≡ mid.trail ++ Led least slot ∷ []) → OnErr r (new.trail ≡ mid.trail) → IsNotedSince mid new
    second (Ok x) is none = noted_one mid new (Led least slot) is (led_undone mid.chains new.chains least slot same' (slot_is ∙ ap (λ (s : Chained). slot_at s least) (sym same)))
    second (Err x) none is = noted_none mid new is same'

pub join_noted : {X E : Type 0} (result : Result X E) (old mid new : NotedChains) (moved kept : ℕ) → HasChain old.chains kept → mid.chains ≡ old.chains
    → mid.trail ≡ old.trail ++ Grown (slot_at old.chains kept) (length (chain_at old.chains kept)) ∷ Led (min moved kept) (slot_at old.chains (min moved kept)) ∷ [] → IsNotedSince old mid
    → new.trail ≡ mid.trail → OnOk result (new.chains ≡ chained mid.chains moved kept) → OnErr result (new.chains ≡ mid.chains) → IsNotedSince old new
join_noted (Ok x) old mid new moved kept has same noted since same_trail ok err =
    noted_two old new (Grown (slot_at old.chains kept) (length (chain_at old.chains kept))) (Led (min moved kept) (slot_at old.chains (min moved kept))) (same_trail ∙ noted)
    (ap (λ (s : Chained). before_link (before_link s (Led (min moved kept) (slot_at old.chains (min moved kept)))) (Grown (slot_at old.chains kept) (length (chain_at old.chains kept)))) (ok ∙ ap (λ (s : Chained). chained s moved kept) same)
    ∙ join_undone old.chains moved kept has.slot_stands)
join_noted (Err x) old mid new moved kept has same noted since same_trail ok err = noted_trans old mid new since (noted_none mid new same_trail err)

pub item_noted : {X E : Type 0} (result : Result X E) (old mid new : NotedChains) (leader item slot len : ℕ) → HasChain old.chains leader → slot ≡ slot_at old.chains leader → len ≡ length (chain_at old.chains leader)
    → mid.chains ≡ old.chains → mid.trail ≡ old.trail ++ Grown slot len ∷ []
    → new.trail ≡ mid.trail → OnOk result (new.chains ≡ grown mid.chains slot item) → OnErr result (new.chains ≡ mid.chains) → IsNotedSince old new
item_noted (Ok x) old mid new leader item slot len has slot_is len_is same noted same_trail ok err =
    noted_one old new (Grown slot len) (same_trail ∙ noted)
    (ap (λ (s : Chained). before_link s (Grown slot len)) (ok ∙ ap (λ (s : Chained). grown s slot item) same ∙ ap (λ (k : ℕ). grown old.chains k item) slot_is)
    ∙ ap (λ (k : ℕ). before_link (with_item old.chains leader item) (Grown k len)) slot_is
    ∙ ap (λ (n : ℕ). before_link (with_item old.chains leader item) (Grown (slot_at old.chains leader) n)) len_is
    ∙ item_undone old.chains leader item has)
item_noted (Err x) old mid new leader item slot len has slot_is len_is same noted same_trail ok err =
    noted_one old new (Grown slot len) (same_trail ∙ noted) (grown_undone old.chains new.chains leader slot len (err ∙ same) slot_is len_is)
