-- `clap`'s walk over the words is this crate's reading of them.
use Rattle.std.proofs.Common.{◌≡◌, ℕ, ◌||◌, Bool, true, false, List, [], ◌∷◌, Option, Some, None, refl, sym, ap, ap₂, subst, ◌∙◌, ◌⊎◌, inl, inr, cond, codes, is_some, fold, option_map, MatchOption, arith}
use Rattle.std.specs.Prelude.{option_and_then}
use Rattle.std.specs.List.{All}
use Rattle.std.specs.Str.{bytes_eq, IsUtf8}
use Rattle.std.proofs.lemmas.List.Elements.{All-drop, All-get_or}
use Rattle.clap.specs.Kinds.{Kinds, or_else}
use Rattle.clap.specs.Faults.{default_fault, defaults_fault, entered_fault, fault_of, level_fault, long_fault, settle_fault, turn_fault, use_fault, walk_fault}
use Rattle.clap.specs.Walk.{Row, Rule, Walk, arg_by_index, has_row, is_pending, nothing_held, settled_rows, to_positional, used, walk, walked, with_default}
use Rattle.clap.specs.Simple.{entered, matches_of}
use Rattle.em_words.specs.ClapCommand.{command_line}
use Rattle.clap.specs.Walk.{idle, option}
use Rattle.em_words.specs.Number.{Text}
use Rattle.em_words.specs.Texts.{Slot, Texts, Reading, workers, rounds, command, count, text_at, with_text, give_next, read_option, read_word, read_all, ended, nothing, texts_in}
use Rattle.em_words.proofs.Built.{built_line, id_of, rule_at, rules, shape}
use Rattle.em_words.proofs.Look.{IsPlain, IsLong, IsDashes, Look, long_named, look}
use Rattle.em_words.proofs.Rows.{Holds, holds_has, holds_used, values_at, wanted}
use Rattle.em_words.proofs.Turns.{IsFault, Goes, IsDoomed, Loses, and_false, by_long, doomed_end, doomed_turn, end_fault, fails_as, fault_from, goes_fault, goes_rows, held, long_fails, long_turn, or_false, slot_fault, plain_fault, plain_next, positional_settles, rows_from, second_fails, settle_at, settled_at, short_fails, stand, stops, use_again, use_empty, use_ok}

-- ---- how the walk stands where this crate's reading does

abbrev pub is_option : Slot → Bool
is_option workers = true
is_option rounds = true
is_option _ = false

-- the position that the next word of no option goes to
abbrev pub Spot : Texts → ℕ → Type 0
Spot t n = ((n ≡ 1) × (t.command ≡ None) × (t.count ≡ None))
    ⊎ (((n ≡ 2) × (is_some t.command ≡ true) × (t.count ≡ None))
    ⊎ ((n ≡ 3) × (is_some t.command ≡ true) × (is_some t.count ≡ true)))

spot_kept : (p : Slot) (v : Text) (t : Texts) (n : ℕ) → is_option p ≡ true → Spot t n → Spot (with_text p v t) n
spot_kept workers v t n o s = s
spot_kept rounds v t n o s = s
spot_kept command v t n o s = cc
spot_kept count v t n o s = cc

-- no option waits for its value
pub record Idle (t : Texts) (closed : Bool) (w : Walk) : Type 0 where
  pub rows : List Row
  pub pending : Option (Text × List Text)
  pub position : ℕ
  pub is : w ≡ stand rows pending idle position closed
  pub settles : settle_fault rules false (held rows pending) ≡ []
  pub holds : Holds t (settled_rows rules pending rows)
  pub spot : Spot t position

-- an option waits for its value
pub record Waits (t : Texts) (p : Slot) (w : Walk) : Type 0 where
  pub rows : List Row
  pub position : ℕ
  pub is : w ≡ stand rows (Some (id_of p, [])) (option (id_of p)) position false
  pub holds : Holds t rows
  pub free : is_some (text_at p t) ≡ false
  pub option : is_option p ≡ true
  pub spot : Spot t position

abbrev pub StandsAt : Option Slot → Texts → Bool → Walk → Type 0
StandsAt None t closed w = Idle t closed w
StandsAt (Some p) t closed w = Waits t p w × (closed ≡ false)

abbrev pub Stands : Reading → Walk → Type 0
Stands s w = StandsAt s.waits s.texts s.is_closed w

-- both go on, or the walk is lost where the reading ends
abbrev pub Turn : Walk → Text → Option Reading → Type 0
Turn w word o = MatchOption o (Loses w word) (λ s. (v : Walk) × Goes w word v × Stands s v)

abbrev pub reading : Texts → Option Slot → Bool → Reading
reading t waits closed = record { texts = t; waits = waits; is_closed = closed }

absent : (p : Slot) (t : Texts) (rows : List Row) → Holds t rows → is_some (text_at p t) ≡ false → has_row (id_of p) rows ≡ false
absent p t rows h free = holds_has t rows h p ∙ free

-- a slot whose one value is pending
filled : (p : Slot) (v : Text) (t : Texts) (closed : Bool) (rows : List Row) (position : ℕ) → Holds t rows → is_some (text_at p t) ≡ false
    → Spot (with_text p v t) position → Idle (with_text p v t) closed (stand rows (Some (id_of p, v ∷ [])) idle position closed)
filled p v t closed rows position h free spot = record {
  rows = rows;
  pending = Some (id_of p, v ∷ []);
  position = position;
  is = refl;
  settles = settle_at p (v ∷ []) rows ∙ use_ok p v rows (absent p t rows h free);
  holds = subst (Holds (with_text p v t)) (sym (settled_at p (v ∷ []) rows)) (holds_used p v t rows h (absent p t rows h free));
  spot = spot;
}

-- a slot that was used
used_up : (p : Slot) (v : Text) (t : Texts) (rows : List Row) (position : ℕ) → Holds t rows → is_some (text_at p t) ≡ false
    → Spot (with_text p v t) position → Idle (with_text p v t) false (stand (used (rule_at p) (v ∷ []) rows) None idle position false)
used_up p v t rows position h free spot = record {
  rows = used (rule_at p) (v ∷ []) rows;
  pending = None;
  position = position;
  is = refl;
  settles = refl;
  holds = holds_used p v t rows h (absent p t rows h free);
  spot = spot;
}

-- ---- an option waits for its value

module _ (rows : List Row) (position : ℕ) (word : Text) where
  abbrev waiting_at : Slot → Walk
  waiting_at p = stand rows (Some (id_of p, [])) (option (id_of p)) position false

  value_goes : (p : Slot) → IsPlain word → Goes (waiting_at p) word (stand rows (Some (id_of p, word ∷ [])) idle position false)
  unfolding walked
  value_goes workers s = record { fault = rw (s.dashes, s.long, s.short) refl; next = rw (s.dashes, s.long, s.short) refl }
  value_goes rounds s = record { fault = rw (s.dashes, s.long, s.short) refl; next = rw (s.dashes, s.long, s.short) refl }
  value_goes command s = record { fault = rw (s.dashes, s.long, s.short) refl; next = rw (s.dashes, s.long, s.short) refl }
  value_goes count s = record { fault = rw (s.dashes, s.long, s.short) refl; next = rw (s.dashes, s.long, s.short) refl }

  dashes_left : (p : Slot) → IsDashes word → Loses (waiting_at p) word
  unfolding walked
  dashes_left p d = inr (
    stand rows (Some (id_of p, [])) (option (id_of p)) position true,
    record { fault = rw d.dashes refl; next = rw d.dashes refl },
    record {
      slot = p;
      values = [];
      rows = rows;
      waiting = option (id_of p);
      position = position;
      closed = true;
      is = refl;
      bad = inr (refl, refl);
    },
  )

  wait_turn : (p : Slot) (t : Texts) → Holds t rows → is_some (text_at p t) ≡ false → is_option p ≡ true → Spot t position → Look word
      → Turn (waiting_at p) word (read_word (Some p) word (reading t (Some p) false))
  wait_turn p t h free o spot (inl s) = rw (s.flag, free)
      (stand rows (Some (id_of p, word ∷ [])) idle position false, value_goes p s, filled p word t false rows position h free (spot_kept p word t position o spot))
  wait_turn p t h free o spot (inr (inl l)) = rw l.flag
      (inl (long_turn rows (Some (id_of p, [])) (option (id_of p)) position word l
      (long_fails (long_named l.name) l.value (held rows (Some (id_of p, [])))
      (fails_as _ _ (settle_at p [] rows) (use_empty p rows)))))
  wait_turn p t h free o spot (inr (inr (inl s))) = rw s.flag
      (inl (short_fails rows (Some (id_of p, [])) (option (id_of p)) position word s))
  wait_turn p t h free o spot (inr (inr (inr d))) = rw d.flag (dashes_left p d)

-- ---- a word that goes to a positional

module _ (rows : List Row) (pending : Option (Text × List Text)) (word : Text) (closed : Bool) where
  abbrev idle_at : ℕ → Walk
  idle_at position = stand rows pending idle position closed

  to_command : to_positional rules (Some (rule_at command)) word (idle_at 1) (held rows pending)
      ≡ stand (settled_rows rules pending rows) (Some (id_of command, word ∷ [])) idle 2 closed
  to_command = rw (and_false (is_pending (rule_at command) pending), or_false closed) refl

  to_count : to_positional rules (Some (rule_at count)) word (idle_at 2) (held rows pending)
      ≡ stand (settled_rows rules pending rows) (Some (id_of count, word ∷ [])) idle 3 closed
  to_count = rw (and_false (is_pending (rule_at count) pending), or_false closed) refl

  -- the word goes to the position
  abbrev Slots : ℕ → Type 0
  Slots position = (turn_fault shape [] (idle_at position) word ≡ slot_fault position (held rows pending))
      × (walked rules [] (idle_at position) word ≡ to_positional rules (arg_by_index rules position) word (idle_at position) (held rows pending))

  module _ (t : Texts) (settles : settle_fault rules false (held rows pending) ≡ []) (holds : Holds t (settled_rows rules pending rows)) where
    next_first : Slots 1 → t.command ≡ None → t.count ≡ None → Turn (idle_at 1) word (give_next word (reading t None closed))
    next_first g a b =
        let free : is_some (text_at command t) ≡ false = rw a refl in
        rw (a) (
          stand (settled_rows rules pending rows) (Some (id_of command, word ∷ [])) idle 2 closed,
          record { fault = g.0 ∙ (positional_settles command (held rows pending) ∙ settles); next = g.1 ∙ to_command },
          filled command word t closed (settled_rows rules pending rows) 2 holds free (inr (inl (refl, refl, b))),
        )

    next_second : Slots 2 → is_some t.command ≡ true → t.count ≡ None → Turn (idle_at 2) word (give_next word (reading t None closed))
    next_second g a b =
        let free : is_some (text_at count t) ≡ false = rw b refl in
        rw (a, b) (
          stand (settled_rows rules pending rows) (Some (id_of count, word ∷ [])) idle 3 closed,
          record { fault = g.0 ∙ (positional_settles count (held rows pending) ∙ settles); next = g.1 ∙ to_count },
          filled count word t closed (settled_rows rules pending rows) 3 holds free (inr (inr (refl, a, refl))),
        )

    next_third : Slots 3 → is_some t.command ≡ true → is_some t.count ≡ true → Turn (idle_at 3) word (give_next word (reading t None closed))
    next_third g a b = rw (a, b) (inl (fails_as _ _ g.0 (λ e. cc)))

    next_turn : (position : ℕ) → Spot t position → Slots position → Turn (idle_at position) word (give_next word (reading t None closed))
    next_turn position (inl s) g =
        let h : Slots 1 = rw s.0 at g in
        rw s.0 (next_first h s.1 s.2)
    next_turn position (inr (inl s)) g =
        let h : Slots 2 = rw s.0 at g in
        rw s.0 (next_second h s.1 s.2)
    next_turn position (inr (inr s)) g =
        let h : Slots 3 = rw s.0 at g in
        rw s.0 (next_third h s.1 s.2)

-- ---- an option

named_option : (name : Text) (p : Slot) → long_named name ≡ Some p → is_option p ≡ true
named_option name p e = go (bytes_eq (codes "workers") name) (bytes_eq (codes "rounds") name) p e
  where
    go : (a b : Bool) (q : Slot) → cond a (Some workers) (cond b (Some rounds) None) ≡ Some q → is_option q ≡ true
    go a b workers e = refl
    go a b rounds e = refl
    go true b command e = cc
    go false true command e = cc
    go false false command e = cc
    go true b count e = cc
    go false true count e = cc
    go false false count e = cc

module _ (rows : List Row) (pending : Option (Text × List Text)) (position : ℕ) (word : Text) (l : IsLong word) where
  abbrev open_at : Walk
  open_at = stand rows pending idle position false

  abbrev after : List Row
  after = settled_rows rules pending rows

  waits_goes : (p : Slot) → long_named l.name ≡ Some p → l.value ≡ None → settle_fault rules false (held rows pending) ≡ []
      → Goes open_at word (stand after (Some (id_of p, [])) (option (id_of p)) position false)
  unfolding walked
  waits_goes workers e v s = record {
    fault = rw (l.dashes, l.long, by_long l.name, e, v, s) refl;
    next = rw (l.dashes, l.long, by_long l.name, e, v) refl;
  }
  waits_goes rounds e v s = record {
    fault = rw (l.dashes, l.long, by_long l.name, e, v, s) refl;
    next = rw (l.dashes, l.long, by_long l.name, e, v) refl;
  }
  waits_goes command e v s = record {
    fault = rw (l.dashes, l.long, by_long l.name, e, v, s) refl;
    next = rw (l.dashes, l.long, by_long l.name, e, v) refl;
  }
  waits_goes count e v s = record {
    fault = rw (l.dashes, l.long, by_long l.name, e, v, s) refl;
    next = rw (l.dashes, l.long, by_long l.name, e, v) refl;
  }

  used_fault : (p : Slot) (v : Text) → settle_fault rules false (held rows pending) ≡ [] → has_row (id_of p) after ≡ false
      → or_else (settle_fault rules false (held rows pending)) (use_fault false (rule_at p) (v ∷ []) after) ≡ []
  used_fault p v s a = ap₂ or_else s (use_ok p v after a)

  joined_goes : (p : Slot) (v : Text) → long_named l.name ≡ Some p → l.value ≡ Some v → settle_fault rules false (held rows pending) ≡ []
      → has_row (id_of p) after ≡ false → Goes open_at word (stand (used (rule_at p) (v ∷ []) after) None idle position false)
  unfolding walked
  joined_goes workers v e j s a = record {
    fault = rw (l.dashes, l.long, by_long l.name, e, j) (ap (λ (k : Kinds). or_else k []) (used_fault workers v s a));
    next = rw (l.dashes, l.long, by_long l.name, e, j) refl;
  }
  joined_goes rounds v e j s a = record {
    fault = rw (l.dashes, l.long, by_long l.name, e, j) (ap (λ (k : Kinds). or_else k []) (used_fault rounds v s a));
    next = rw (l.dashes, l.long, by_long l.name, e, j) refl;
  }
  joined_goes command v e j s a = record {
    fault = rw (l.dashes, l.long, by_long l.name, e, j) (ap (λ (k : Kinds). or_else k []) (used_fault command v s a));
    next = rw (l.dashes, l.long, by_long l.name, e, j) refl;
  }
  joined_goes count v e j s a = record {
    fault = rw (l.dashes, l.long, by_long l.name, e, j) (ap (λ (k : Kinds). or_else k []) (used_fault count v s a));
    next = rw (l.dashes, l.long, by_long l.name, e, j) refl;
  }

  again_fault : (p : Slot) (v : Text) → has_row (id_of p) after ≡ true
      → IsFault (long_fault rules false (option_map rule_at (Some p)) (Some v) (held rows pending))
  again_fault workers v a = second_fails (settle_fault rules false (held rows pending)) (use_fault false (rule_at workers) (v ∷ []) after) (use_again workers (v ∷ []) after a)
  again_fault rounds v a = second_fails (settle_fault rules false (held rows pending)) (use_fault false (rule_at rounds) (v ∷ []) after) (use_again rounds (v ∷ []) after a)
  again_fault command v a = second_fails (settle_fault rules false (held rows pending)) (use_fault false (rule_at command) (v ∷ []) after) (use_again command (v ∷ []) after a)
  again_fault count v a = second_fails (settle_fault rules false (held rows pending)) (use_fault false (rule_at count) (v ∷ []) after) (use_again count (v ∷ []) after a)

  module _ (t : Texts) (settles : settle_fault rules false (held rows pending) ≡ []) (holds : Holds t after) (spot : Spot t position) where
    wait_for_turn : (p : Slot) → long_named l.name ≡ Some p → l.value ≡ None → (b : Bool) → is_some (text_at p t) ≡ b
        → Turn open_at word (cond b None (Some (reading t (Some p) false)))
    wait_for_turn p e v true g = inr (
      stand after (Some (id_of p, [])) (option (id_of p)) position false,
      waits_goes p e v settles,
      record {
        slot = p;
        values = [];
        rows = after;
        waiting = option (id_of p);
        position = position;
        closed = false;
        is = refl;
        bad = inl (holds_has t after holds p ∙ g);
      },
    )
    wait_for_turn p e v false g = (
      stand after (Some (id_of p, [])) (option (id_of p)) position false,
      waits_goes p e v settles,
      (
        record {
          rows = after;
          position = position;
          is = refl;
          holds = holds;
          free = g;
          option = named_option l.name p e;
          spot = spot;
        },
        refl,
      ),
    )

    give_turn : (p : Slot) (v : Text) → long_named l.name ≡ Some p → l.value ≡ Some v → (b : Bool) → is_some (text_at p t) ≡ b
        → Turn open_at word (cond b None (Some (reading (with_text p v t) None false)))
    give_turn p v e j true g =
        let f : IsFault (long_fault rules false (option_map rule_at (long_named l.name)) l.value (held rows pending)) =
        rw (e, j) (again_fault p v (holds_has t after holds p ∙ g)) in
        inl (long_turn rows pending idle position word l f)
    give_turn p v e j false g = (
      stand (used (rule_at p) (v ∷ []) after) None idle position false,
      joined_goes p v e j settles (absent p t after holds g),
      used_up p v t after position holds g (spot_kept p v t position (named_option l.name p e) spot),
    )

    option_turn : (o : Option Slot) → long_named l.name ≡ o → (x : Option Text) → l.value ≡ x → Turn open_at word (read_option o word (reading t None false))
    option_turn None e x v =
        let f : IsFault (long_fault rules false (option_map rule_at (long_named l.name)) l.value (held rows pending)) =
        rw e (λ k. cc) in
        rw l.flag (inl (long_turn rows pending idle position word l f))
    option_turn (Some p) e None v = rw (l.joined, v) (wait_for_turn p e v (is_some (text_at p t)) refl)
    option_turn (Some p) e (Some x) v = rw (l.joined, v) (give_turn p x e v (is_some (text_at p t)) refl)

-- ---- a word at any slot

turn_as : (w : Walk) (word : Text) (a b : Option Reading) → a ≡ b → Turn w word b → Turn w word a
turn_as w word a b e t = subst (λ (o : Option Reading). Turn w word o) (sym e) t

idle_turn : (t : Texts) (closed : Bool) (rows : List Row) (pending : Option (Text × List Text)) (position : ℕ)
    → settle_fault rules false (held rows pending) ≡ [] → Holds t (settled_rows rules pending rows) → Spot t position
    → (word : Text) → Look word → Turn (stand rows pending idle position closed) word (read_word None word (reading t None closed))
unfolding walked
idle_turn t true rows pending position e h spot word l = next_turn rows pending word true t e h position spot (refl, refl)
idle_turn t false rows pending position e h spot word (inl s) =
    let is : read_word None word (reading t None false) ≡ give_next word (reading t None false) = rw (s.dashes, s.named, s.flag) refl in
    turn_as (stand rows pending idle position false) word _ _ is
    (next_turn rows pending word false t e h position spot (plain_fault rows pending position word s, plain_next rows pending position word s))
idle_turn t false rows pending position e h spot word (inr (inl l)) =
    let is : read_word None word (reading t None false) ≡ read_option (long_named l.name) word (reading t None false) = rw (l.dashes, l.named) refl in
    turn_as (stand rows pending idle position false) word _ _ is
    (option_turn rows pending position word l t e h spot (long_named l.name) refl l.value refl)
idle_turn t false rows pending position e h spot word (inr (inr (inl s))) =
    let is : read_word None word (reading t None false) ≡ None = rw (s.dashes, s.named, s.flag) refl in
    turn_as (stand rows pending idle position false) word _ _ is
    (inl (short_fails rows pending idle position word s))
idle_turn t false rows pending position e h spot word (inr (inr (inr d))) =
    let is : read_word None word (reading t None false) ≡ Some (reading t None true) = rw d.dashes refl in
    turn_as (stand rows pending idle position false) word _ _ is (
      stand rows pending idle position true,
      record { fault = rw d.dashes refl; next = rw d.dashes refl },
      record {
        rows = rows;
        pending = pending;
        position = position;
        is = refl;
        settles = e;
        holds = h;
        spot = spot;
      },
    )

turn_at : (o : Option Slot) (t : Texts) (closed : Bool) (w : Walk) (word : Text) → StandsAt o t closed w → Look word
    → Turn w word (read_word o word (reading t o closed))
turn_at None t closed w word i l = rw i.is (idle_turn t closed i.rows i.pending i.position i.settles i.holds i.spot word l)
turn_at (Some p) t closed w word i l = rw (i.1, i.0.is)
    (wait_turn i.0.rows i.0.position word p t i.0.holds i.0.free i.0.option i.0.spot l)

turn : (s : Reading) (w : Walk) (word : Text) → Stands s w → Look word → Turn w word (read_word s.waits word s)
turn s w word st l = turn_at s.waits s.texts s.is_closed w word st l

-- ---- all the words

first_word : (word : Text) (rest : List Text) → All IsUtf8 (word ∷ rest) → IsUtf8 word
first_word word rest u = All-get_or IsUtf8 (word ∷ rest) 0 word (omega arith) u

other_words : (word : Text) (rest : List Text) → All IsUtf8 (word ∷ rest) → All IsUtf8 rest
other_words word rest u = All-drop IsUtf8 1 (word ∷ rest) u

doomed : (words : List Text) (w : Walk) → All IsUtf8 words → IsDoomed w → IsFault (fault_from w words)
doomed [] w u d = doomed_end w d
doomed (word ∷ rest) w u d =
    go (doomed_turn w word d (look word (first_word word rest u))) (λ v e. doomed rest v (other_words word rest u) e)
  where
    go : Loses w word → ((v : Walk) → IsDoomed v → IsFault (fault_from v rest)) → IsFault (fault_from w (word ∷ rest))
    go (inl f) rec = stops w word rest f
    go (inr g) rec = fails_as _ _ (goes_fault w g.0 word rest g.1) (rec g.0 g.2)

-- no texts where `clap` refuses, and else the texts that the rows hold
abbrev pub Agrees : Option Texts → Kinds → List Row → Type 0
Agrees o fault rows = MatchOption o (IsFault fault) (λ t. (fault ≡ []) × Holds t rows)

ends_at : (o : Option Slot) (t : Texts) (closed : Bool) (w : Walk) → StandsAt o t closed w
    → Agrees (ended (reading t o closed)) (fault_from w []) (rows_from w [])
unfolding walk_fault
ends_at None t closed w i = rw i.is (i.settles, i.holds)
ends_at (Some p) t closed w i = rw i.0.is (fails_as _ _ (settle_at p [] i.0.rows) (use_empty p i.0.rows))

walks : (words : List Text) (s : Reading) (w : Walk) → All IsUtf8 words → Stands s w
    → Agrees (option_and_then ended (read_all s words)) (fault_from w words) (rows_from w words)
walks [] s w u st = ends_at s.waits s.texts s.is_closed w st
walks (word ∷ rest) s w u st =
    go (read_word s.waits word s) (turn s w word st (look word (first_word word rest u)))
    (λ r v e. walks rest r v (other_words word rest u) e)
  where
    go : (o : Option Reading) → Turn w word o
        → ((r : Reading) (v : Walk) → Stands r v → Agrees (option_and_then ended (read_all r rest)) (fault_from v rest) (rows_from v rest))
        → Agrees (option_and_then ended (option_and_then (λ r. read_all r rest) o)) (fault_from w (word ∷ rest)) (rows_from w (word ∷ rest))
    go None (inl f) rec = stops w word rest f
    go None (inr g) rec = fails_as _ _ (goes_fault w g.0 word rest g.1) (doomed rest g.0 (other_words word rest u) g.2)
    go (Some r) g rec = rw (goes_fault w g.0 word rest g.1, goes_rows w g.0 word rest g.1) (rec r g.0 g.2)

-- ---- the whole parse

or_true : (b : Bool) → (b || true) ≡ true
or_true true = refl
or_true false = refl

same_both : (b : Bool) (rows : List Row) → cond b rows rows ≡ rows
same_both true rows = refl
same_both false rows = refl

keeps : (p : Slot) (rows : List Row) → with_default rows (rule_at p) ≡ rows
keeps workers rows = same_both (has_row (id_of workers) rows) rows
keeps rounds rows = same_both (has_row (id_of rounds) rows) rows
keeps command rows = same_both (has_row (id_of command) rows) rows
keeps count rows = same_both (has_row (id_of count) rows) rows

no_default : (p : Slot) (rows : List Row) → default_fault rows (rule_at p) ≡ []
no_default workers rows = rw (or_true (has_row (id_of workers) rows)) refl
no_default rounds rows = rw (or_true (has_row (id_of rounds) rows)) refl
no_default command rows = rw (or_true (has_row (id_of command) rows)) refl
no_default count rows = rw (or_true (has_row (id_of count) rows)) refl

skip : (p : Slot) (rows : List Row) (rest : List Rule) → defaults_fault rows (rule_at p ∷ rest) ≡ defaults_fault rows rest
unfolding defaults_fault
skip p rows rest = ap₂ or_else (no_default p rows) (ap (λ (r : List Row). defaults_fault r rest) (keeps p rows))

no_defaults : (rows : List Row) → defaults_fault rows rules ≡ []
unfolding defaults_fault
no_defaults rows = skip workers rows (rule_at rounds ∷ rule_at command ∷ rule_at count ∷ [])
    ∙ (skip rounds rows (rule_at command ∷ rule_at count ∷ [])
    ∙ (skip command rows (rule_at count ∷ []) ∙ skip count rows []))

all_kept : (rows : List Row) → fold with_default rows rules ≡ rows
all_kept rows =
    ap (λ (r : List Row). with_default (with_default (with_default r (rule_at rounds)) (rule_at command)) (rule_at count)) (keeps workers rows)
    ∙ (ap (λ (r : List Row). with_default (with_default r (rule_at command)) (rule_at count)) (keeps rounds rows)
    ∙ (ap (λ (r : List Row). with_default r (rule_at count)) (keeps command rows) ∙ keeps count rows))

or_nothing : (k : Kinds) → or_else k [] ≡ k
or_nothing [] = refl
or_nothing (x ∷ xs) = refl

abbrev start : Walk
start = stand [] None idle 1 false

starts : Stands nothing start
starts = record {
  rows = [];
  pending = None;
  position = 1;
  is = refl;
  settles = refl;
  holds = record { values = none_yet };
  spot = inl (refl, refl, refl);
}
  where
    none_yet : (p : Slot) → values_at p [] ≡ wanted p nothing.texts
    none_yet workers = refl
    none_yet rounds = refl
    none_yet command = refl
    none_yet count = refl

no_subcommand : (words : List Text) → fault_of command_line words ≡ level_fault shape [] nothing_held words false []
no_subcommand words = go (walk rules [] nothing_held words).stopped
  where
    go : (stop : Option (Text × List Text))
        → level_fault shape [] nothing_held words (is_some (entered built_line stop)) (entered_fault built_line stop)
        ≡ level_fault shape [] nothing_held words false []
    go None = refl
    go (Some p) = refl

fault_is : (words : List Text) → fault_of command_line words ≡ fault_from start words
fault_is words =
    no_subcommand words
    ∙ (ap (λ (k : Kinds). or_else (walk_fault shape [] start words) (or_else (end_fault (fold (walked rules []) start words)) (or_else k [])))
    (no_defaults (rows_from start words))
    ∙ ap (or_else (walk_fault shape [] start words)) (or_nothing (end_fault (fold (walked rules []) start words))))

rows_is : (words : List Text) → matches_of command_line words ≡ rows_from start words
rows_is words = all_kept (rows_from start words)

-- what `clap` makes of the words is what this crate's definition gives
pub line_agrees : (words : List Text) → All IsUtf8 words → Agrees (texts_in words) (fault_of command_line words) (matches_of command_line words)
line_agrees words u = rw (fault_is words, rows_is words) (walks words nothing start u starts)
