-- One word of `clap`'s walk over the command line.
use Rattle.std.proofs.Common.{◌≡◌, ℕ, ◌==◌, ◌&&◌, ◌||◌, Bool, true, false, List, [], ◌∷◌, ◌++◌, Option, Some, None, refl, sym, ap, ◌∙◌, ◌⊎◌, inl, inr, cond, codes, if◌then◌else◌, fold, option_map, length}
use Rattle.std.specs.Option.{option_map_or}
use Rattle.std.specs.Str.{bytes_eq}
use Rattle.clap.specs.Kinds.{Kinds, or_else, range_kinds}
use Rattle.clap.specs.Faults.{flags_fault, long_fault, positional_fault, repeat_fault, set_fault, settle_fault, turn_fault, use_fault, values_fault, walk_fault, word_fault}
use Rattle.clap.specs.Walk.{Held, Row, Rule, Waiting, Walk, arg_by_id, arg_by_index, arg_by_long, has_row, settled_rows, subcommand_met, to_positional, used, walked, is_pending, option_word, values_or_missing}
use Rattle.clap.specs.Walk.{idle, option, positional}
use Rattle.clap.specs.declared.error.kind.ErrorKind.TheVariants as kind
use Rattle.em_words.specs.Number.{Text}
use Rattle.em_words.specs.Texts.{Slot, workers, rounds, command, count}
use Rattle.em_words.proofs.Built.{id_of, rule_at, rules, shape}
use Rattle.em_words.proofs.Look.{IsPlain, IsLong, IsShort, IsDashes, Look, long_named}

-- `clap` refuses
abbrev pub IsFault : Kinds → Type 0
IsFault k = k ≡ [] → ⊥

pub first_fails : (a b : Kinds) → IsFault a → IsFault (or_else a b)
first_fails [] b f e = f refl
first_fails (x ∷ xs) b f e = cc

pub second_fails : (a b : Kinds) → IsFault b → IsFault (or_else a b)
second_fails [] b f e = f e
second_fails (x ∷ xs) b f e = cc

pub fails_as : (a b : Kinds) → a ≡ b → IsFault b → IsFault a
fails_as a b e f x = f (sym e ∙ x)

pub or_else_assoc : (a b c : Kinds) → or_else (or_else a b) c ≡ or_else a (or_else b c)
or_else_assoc [] b c = refl
or_else_assoc (x ∷ xs) b c = refl

pub and_false : (b : Bool) → (b && false) ≡ false
and_false true = refl
and_false false = refl

pub or_false : (b : Bool) → (b || false) ≡ b
or_false true = refl
or_false false = refl

-- ---- where the walk stands

abbrev pub held : List Row → Option (Text × List Text) → Held
held rows pending = record { rows = rows; pending = pending; skip = 0 }

abbrev pub stand : List Row → Option (Text × List Text) → Waiting → ℕ → Bool → Walk
stand rows pending waiting position closed = record {
  held = held rows pending;
  waiting = waiting;
  position = position;
  is_trailing = closed;
  stopped = None;
}

abbrev pub end_fault : Walk → Kinds
end_fault w = settle_fault rules false w.held

-- what `clap` says of the words from here on
abbrev pub fault_from : Walk → List Text → Kinds
fault_from w words = or_else (walk_fault shape [] w words) (end_fault (fold (walked rules []) w words))

abbrev pub rows_from : Walk → List Text → List Row
rows_from w words =
    let end = (fold (walked rules []) w words).held in
    settled_rows rules end.pending end.rows

-- the walk goes on at the word
pub record Goes (w : Walk) (word : Text) (v : Walk) : Type 0 where
  pub fault : turn_fault shape [] w word ≡ []
  pub next : walked rules [] w word ≡ v

pub goes_fault : (w v : Walk) (word : Text) (rest : List Text) → Goes w word v → fault_from w (word ∷ rest) ≡ fault_from v rest
unfolding walk_fault
goes_fault w v word rest g =
    ap (λ (k : Kinds). or_else (or_else k (walk_fault shape [] (walked rules [] w word) rest))
    (end_fault (fold (walked rules []) (walked rules [] w word) rest))) g.fault
    ∙ ap (λ (x : Walk). fault_from x rest) g.next

pub goes_rows : (w v : Walk) (word : Text) (rest : List Text) → Goes w word v → rows_from w (word ∷ rest) ≡ rows_from v rest
goes_rows w v word rest g = ap (λ (x : Walk). rows_from x rest) g.next

pub stops : (w : Walk) (word : Text) (rest : List Text) → IsFault (turn_fault shape [] w word) → IsFault (fault_from w (word ∷ rest))
unfolding walk_fault
stops w word rest f = first_fails _ _ (first_fails _ _ f)

-- ---- one use of a slot

pub use_ok : (p : Slot) (v : Text) (rows : List Row) → has_row (id_of p) rows ≡ false → use_fault false (rule_at p) (v ∷ []) rows ≡ []
use_ok workers v rows h = rw h refl
use_ok rounds v rows h = rw h refl
use_ok command v rows h = rw h refl
use_ok count v rows h = rw h refl

repeat_fails : (id : Text) (rows : List Row) → has_row id rows ≡ true → IsFault (repeat_fault false id rows)
repeat_fails id rows h = rw h (λ e. cc)

set_fails : (a : Rule) (vs : List Text) (rows : List Row) → has_row a.id rows ≡ true → IsFault (set_fault false a vs rows)
set_fails a vs rows h = first_fails (repeat_fault false a.id rows) (values_fault a vs) (repeat_fails a.id rows h)

again_fails : (a : Rule) (vs : List Text) (rows : List Row) → has_row a.id rows ≡ true
    → IsFault (or_else (range_kinds 1 1 (length vs)) (set_fault false a (values_or_missing a vs) rows))
again_fails a vs rows h = second_fails (range_kinds 1 1 (length vs)) (set_fault false a (values_or_missing a vs) rows) (set_fails a (values_or_missing a vs) rows h)

pub use_again : (p : Slot) (vs : List Text) (rows : List Row) → has_row (id_of p) rows ≡ true → IsFault (use_fault false (rule_at p) vs rows)
use_again workers vs rows h = again_fails (rule_at workers) vs rows h
use_again rounds vs rows h = again_fails (rule_at rounds) vs rows h
use_again command vs rows h = again_fails (rule_at command) vs rows h
use_again count vs rows h = again_fails (rule_at count) vs rows h

pub use_empty : (p : Slot) (rows : List Row) → IsFault (use_fault false (rule_at p) [] rows)
use_empty workers rows e = cc
use_empty rounds rows e = cc
use_empty command rows e = cc
use_empty count rows e = cc

pub settle_at : (p : Slot) (vs : List Text) (rows : List Row) → settle_fault rules false (held rows (Some (id_of p, vs))) ≡ use_fault false (rule_at p) vs rows
settle_at workers vs rows = refl
settle_at rounds vs rows = refl
settle_at command vs rows = refl
settle_at count vs rows = refl

pub settled_at : (p : Slot) (vs : List Text) (rows : List Row) → settled_rows rules (Some (id_of p, vs)) rows ≡ used (rule_at p) vs rows
settled_at workers vs rows = refl
settled_at rounds vs rows = refl
settled_at command vs rows = refl
settled_at count vs rows = refl

-- ---- what a word is to `clap`

pub by_long : (name : Text) → arg_by_long rules name ≡ option_map rule_at (long_named name)
by_long name = go (bytes_eq (codes "workers") name) (bytes_eq (codes "rounds") name)
  where
    go : (a b : Bool) → cond (a || false) (Some (rule_at workers)) (cond (b || false) (Some (rule_at rounds)) None)
        ≡ option_map rule_at (cond a (Some workers) (cond b (Some rounds) None))
    go true b = refl
    go false true = refl
    go false false = refl

-- what a word that goes to a positional is answered
abbrev pub slot_fault : ℕ → Held → Kinds
slot_fault position h = option_map_or (λ a. positional_fault rules false a h) (arg_by_index rules position) (kind.UnknownArgument ∷ [])

pub positional_settles : (p : Slot) (h : Held) → positional_fault rules false (rule_at p) h ≡ settle_fault rules false h
positional_settles workers h = ap (λ (b : Bool). if b then [] else settle_fault rules false h) (and_false (is_pending (rule_at workers) h.pending))
positional_settles rounds h = ap (λ (b : Bool). if b then [] else settle_fault rules false h) (and_false (is_pending (rule_at rounds) h.pending))
positional_settles command h = ap (λ (b : Bool). if b then [] else settle_fault rules false h) (and_false (is_pending (rule_at command) h.pending))
positional_settles count h = ap (λ (b : Bool). if b then [] else settle_fault rules false h) (and_false (is_pending (rule_at count) h.pending))

slot_fails : (position : ℕ) (h : Held) → IsFault (settle_fault rules false h) → IsFault (slot_fault position h)
slot_fails position h f = go (1 == position) (2 == position)
  where
    go : (a b : Bool) → IsFault (option_map_or (λ r. positional_fault rules false r h)
        (cond a (Some (rule_at command)) (cond b (Some (rule_at count)) None)) (kind.UnknownArgument ∷ []))
    go true b = fails_as _ _ (positional_settles command h) f
    go false true = fails_as _ _ (positional_settles count h) f
    go false false = λ e. cc

pub none_met : (waiting : Waiting) (word : Text) → subcommand_met [] waiting word ≡ None
none_met idle word = refl
none_met (option id) word = refl
none_met positional word = refl

-- a flag that the command line does not have
pub short_fails : (rows : List Row) (pending : Option (Text × List Text)) (waiting : Waiting) (position : ℕ) (word : Text) → IsShort word
    → IsFault (turn_fault shape [] (stand rows pending waiting position false) word)
unfolding flags_fault
short_fails rows pending waiting position word s =
    let f : IsFault (word_fault shape [] false waiting word (held rows pending)) =
    rw (none_met waiting word, s.dashes, s.long, s.short, s.char) (λ e. cc) in
    first_fails _ _ f

-- a long word, by the option that it names
pub long_turn : (rows : List Row) (pending : Option (Text × List Text)) (waiting : Waiting) (position : ℕ) (word : Text) (l : IsLong word)
    → IsFault (long_fault rules false (option_map rule_at (long_named l.name)) l.value (held rows pending))
    → IsFault (turn_fault shape [] (stand rows pending waiting position false) word)
long_turn rows pending waiting position word l f =
    let g : IsFault (word_fault shape [] false waiting word (held rows pending)) =
    rw (none_met waiting word, l.dashes, l.long, by_long l.name) f in
    first_fails _ _ g

pub long_fails : (o : Option Slot) (value : Option Text) (h : Held) → IsFault (settle_fault rules false h) → IsFault (long_fault rules false (option_map rule_at o) value h)
long_fails None value h f = λ e. cc
long_fails (Some workers) None h f = f
long_fails (Some workers) (Some v) h f = first_fails _ _ f
long_fails (Some rounds) None h f = f
long_fails (Some rounds) (Some v) h f = first_fails _ _ f
long_fails (Some command) None h f = f
long_fails (Some command) (Some v) h f = first_fails _ _ f
long_fails (Some count) None h f = f
long_fails (Some count) (Some v) h f = first_fails _ _ f

-- a plain word before `--`, where nothing waits
pub plain_fault : (rows : List Row) (pending : Option (Text × List Text)) (position : ℕ) (word : Text) → IsPlain word
    → turn_fault shape [] (stand rows pending idle position false) word ≡ slot_fault position (held rows pending)
plain_fault rows pending position word s = rw (s.dashes, s.long, s.short) refl

plain_fault_positional : (rows : List Row) (pending : Option (Text × List Text)) (position : ℕ) (word : Text) → IsPlain word
    → turn_fault shape [] (stand rows pending positional position false) word ≡ slot_fault position (held rows pending)
plain_fault_positional rows pending position word s = rw (s.dashes, s.long, s.short) refl

pub plain_next : (rows : List Row) (pending : Option (Text × List Text)) (position : ℕ) (word : Text) → IsPlain word
    → walked rules [] (stand rows pending idle position false) word
    ≡ to_positional rules (arg_by_index rules position) word (stand rows pending idle position false) (held rows pending)
unfolding walked
plain_next rows pending position word s = rw (s.dashes, s.long, s.short) refl

-- ---- a walk that is bound to fail

-- a second use, or an option that `--` left without its value
abbrev pub IsBad : Slot → List Text → List Row → Bool → Type 0
IsBad p vs rows closed = (has_row (id_of p) rows ≡ true) ⊎ ((vs ≡ []) × (closed ≡ true))

bad_settles : (p : Slot) (vs : List Text) (rows : List Row) (closed : Bool) → IsBad p vs rows closed
    → IsFault (settle_fault rules false (held rows (Some (id_of p, vs))))
bad_settles p vs rows closed (inl h) = fails_as _ _ (settle_at p vs rows) (use_again p vs rows h)
bad_settles p vs rows closed (inr h) = fails_as _ _ (settle_at p vs rows) (rw h.0 (use_empty p rows))

-- a walk that fails in the end, whatever words come
pub record IsDoomed (w : Walk) : Type 0 where
  pub slot : Slot
  pub values : List Text
  pub rows : List Row
  pub waiting : Waiting
  pub position : ℕ
  pub closed : Bool
  pub is : w ≡ stand rows (Some (id_of slot, values)) waiting position closed
  pub bad : IsBad slot values rows closed

-- a word at such a walk: it is refused, or the walk stays so
abbrev pub Loses : Walk → Text → Type 0
Loses w word = IsFault (turn_fault shape [] w word) ⊎ ((v : Walk) × Goes w word v × IsDoomed v)

-- before `--` it was a second use
was_second : (p : Slot) (vs : List Text) (rows : List Row) → IsBad p vs rows false → has_row (id_of p) rows ≡ true
was_second p vs rows (inl h) = h
was_second p vs rows (inr h) = cc

module _ (p : Slot) (vs : List Text) (rows : List Row) (position : ℕ) where
  abbrev lost : Waiting → Bool → Walk
  lost waiting closed = stand rows (Some (id_of p, vs)) waiting position closed

  lost_closed : (waiting : Waiting) (word : Text) → IsBad p vs rows true → Loses (lost waiting true) word
  lost_closed waiting word bad =
      inl (slot_fails position (held rows (Some (id_of p, vs))) (bad_settles p vs rows true bad))

  lost_long : (waiting : Waiting) (word : Text) → IsBad p vs rows false → IsLong word → Loses (lost waiting false) word
  lost_long waiting word bad l =
      inl (long_turn rows (Some (id_of p, vs)) waiting position word l
      (long_fails (long_named l.name) l.value (held rows (Some (id_of p, vs))) (bad_settles p vs rows false bad)))

  lost_dashes : (waiting : Waiting) (word : Text) → IsBad p vs rows false → IsDashes word → Loses (lost waiting false) word
  unfolding walked
  lost_dashes waiting word bad d = inr (
    lost waiting true,
    record {
      fault = rw (none_met waiting word, d.dashes) refl;
      next = rw (none_met waiting word, d.dashes) refl;
    },
    record {
      slot = p;
      values = vs;
      rows = rows;
      waiting = waiting;
      position = position;
      closed = true;
      is = refl;
      bad = inl (was_second p vs rows bad);
    },
  )

  lost_value : (id : Text) (word : Text) → IsBad p vs rows false → IsPlain word → Loses (lost (option id) false) word
  unfolding walked
  lost_value id word bad s = go (arg_by_id rules id) refl
    where
      h : Held
      h = held rows (Some (id_of p, vs))

      go : (o : Option Rule) → arg_by_id rules id ≡ o → Loses (lost (option id) false) word
      go None e = inr (
        lost (option id) false,
        record {
          fault = rw (s.dashes, s.long, s.short) refl;
          next = rw (s.dashes, s.long, s.short, e) refl;
        },
        record {
          slot = p;
          values = vs;
          rows = rows;
          waiting = option id;
          position = position;
          closed = false;
          is = refl;
          bad = bad;
        },
      )
      go (Some a) e = inr (
        stand rows (Some (id_of p, vs ++ word ∷ [])) (option_word (Some a) id word (held rows (Some (id_of p, vs)))).1 position false,
        record {
          fault = rw (s.dashes, s.long, s.short) refl;
          next = rw (s.dashes, s.long, s.short, e) refl;
        },
        record {
          slot = p;
          values = vs ++ word ∷ [];
          rows = rows;
          waiting = (option_word (Some a) id word (held rows (Some (id_of p, vs)))).1;
          position = position;
          closed = false;
          is = refl;
          bad = inl (was_second p vs rows bad);
        },
      )

  lost_plain : (waiting : Waiting) (word : Text) → IsBad p vs rows false → IsPlain word → Loses (lost waiting false) word
  lost_plain (option id) word bad s = lost_value id word bad s
  lost_plain idle word bad s =
      inl (fails_as _ _ (plain_fault rows (Some (id_of p, vs)) position word s)
      (slot_fails position (held rows (Some (id_of p, vs))) (bad_settles p vs rows false bad)))
  lost_plain positional word bad s =
      inl (fails_as _ _ (plain_fault_positional rows (Some (id_of p, vs)) position word s)
      (slot_fails position (held rows (Some (id_of p, vs))) (bad_settles p vs rows false bad)))

  lost_turn : (waiting : Waiting) (closed : Bool) (word : Text) → IsBad p vs rows closed → Look word → Loses (lost waiting closed) word
  lost_turn waiting true word bad l = lost_closed waiting word bad
  lost_turn waiting false word bad (inl s) = lost_plain waiting word bad s
  lost_turn waiting false word bad (inr (inl s)) = lost_long waiting word bad s
  lost_turn waiting false word bad (inr (inr (inl s))) = inl (short_fails rows (Some (id_of p, vs)) waiting position word s)
  lost_turn waiting false word bad (inr (inr (inr s))) = lost_dashes waiting word bad s

-- a word at a walk that is bound to fail
pub doomed_turn : (w : Walk) (word : Text) → IsDoomed w → Look word → Loses w word
doomed_turn w word d l =
    let P : Walk → Type 0 = λ x. Loses x word in
    rw d.is (lost_turn d.slot d.values d.rows d.position d.waiting d.closed word d.bad l)

pub doomed_end : (w : Walk) → IsDoomed w → IsFault (fault_from w [])
unfolding walk_fault
doomed_end w d = rw d.is (bad_settles d.slot d.values d.rows d.closed d.bad)
