-- The rows of a parse, by their ids.
use Rattle.std.proofs.Common.{◌≡◌, ◌||◌, Bool, true, false, List, [], ◌∷◌, ◌++◌, Option, Some, None, refl, sym, ap, ◌∙◌, cond, find, option_map, is_some}
use Rattle.std.specs.Prelude.{slice_get, option_and_then}
use Rattle.std.specs.Option.{option_or}
use Rattle.std.specs.Str.{bytes_eq}
use Rattle.std.proofs.lemmas.List.{append-nil}
use Rattle.std.proofs.lemmas.List.Folds.{find-append}
use Rattle.clap.specs.Walk.{Row, at_row, first_of, has_row, more_values, reading_by, used, with_values, without}
use Rattle.clap.specs.declared.builder.value_parser.Reading.{Reading}
use Rattle.clap.specs.declared.parser.matches.ValueSource.TheVariants.{CommandLine}
use Rattle.em_words.specs.Number.{Text}
use Rattle.em_words.specs.Texts.{Slot, Texts, workers, rounds, command, count, text_at, with_text}
use Rattle.em_words.specs.ClapCommand.{texts_of_rows}
use Rattle.em_words.proofs.Built.{id_of, rule_at}

-- the row of an id
abbrev pub row_at : Text → List Row → Option Row
row_at id = find (λ r. bytes_eq r.id id)

has_found : (id : Text) (rows : List Row) → has_row id rows ≡ is_some (row_at id rows)
has_found id [] = refl
has_found id (r ∷ rs) = go (bytes_eq r.id id) (has_found id rs)
  where
    go : (b : Bool) → has_row id rs ≡ is_some (row_at id rs) → (b || has_row id rs) ≡ is_some (cond b (Some r) (row_at id rs))
    go true e = refl
    go false e = e

at_absent : (id : Text) (change : Row → List Row) (missing rows : List Row) → has_row id rows ≡ false → at_row id change missing rows ≡ rows ++ missing
at_absent id change missing [] h = refl
at_absent id change missing (r ∷ rs) h = go (bytes_eq r.id id) h (at_absent id change missing rs)
  where
    go : (b : Bool) → (b || has_row id rs) ≡ false → (has_row id rs ≡ false → at_row id change missing rs ≡ rs ++ missing)
        → cond b (change r ++ rs) (r ∷ at_row id change missing rs) ≡ r ∷ (rs ++ missing)
    go true e rec = cc
    go false e rec = ap (λ (t : List Row). r ∷ t) (rec e)

abbrev pub new_row : Text → Reading → Text → Row
new_row id how v = record { id = id; values = v ∷ []; count = None; source = Some CommandLine; reading = how }

put_absent : (id : Text) (how : Reading) (v : Text) (rows : List Row) → has_row id rows ≡ false
    → with_values id how CommandLine (v ∷ []) (without id rows) ≡ rows ++ new_row id how v ∷ []
put_absent id how v rows h =
    ap (with_values id how CommandLine (v ∷ [])) (at_absent id (λ _. []) [] rows h ∙ append-nil rows)
    ∙ at_absent id (more_values CommandLine (v ∷ [])) (new_row id how v ∷ []) rows h

-- the row that a use of the slot makes
abbrev pub row_for : Slot → Text → Row
row_for p v = new_row (id_of p) (reading_by (rule_at p)) v

used_absent : (p : Slot) (v : Text) (rows : List Row) → has_row (id_of p) rows ≡ false → used (rule_at p) (v ∷ []) rows ≡ rows ++ row_for p v ∷ []
used_absent workers v rows h = put_absent (id_of workers) (reading_by (rule_at workers)) v rows h
used_absent rounds v rows h = put_absent (id_of rounds) (reading_by (rule_at rounds)) v rows h
used_absent command v rows h = put_absent (id_of command) (reading_by (rule_at command)) v rows h
used_absent count v rows h = put_absent (id_of count) (reading_by (rule_at count)) v rows h

-- the rows hold each text that is given, and no other
abbrev pub values_at : Slot → List Row → Option (List Text)
values_at p rows = option_map (λ (r : Row). r.values) (row_at (id_of p) rows)

abbrev pub wanted : Slot → Texts → Option (List Text)
wanted p t = option_map (λ (v : Text). v ∷ []) (text_at p t)

pub record Holds (t : Texts) (rows : List Row) : Type 0 where
  pub values : (p : Slot) → values_at p rows ≡ wanted p t

some_of_map : {X Y : Type 0} (f : X → Y) (o : Option X) → is_some (option_map f o) ≡ is_some o
some_of_map f None = refl
some_of_map f (Some x) = refl

pub holds_has : (t : Texts) (rows : List Row) → Holds t rows → (p : Slot) → has_row (id_of p) rows ≡ is_some (text_at p t)
holds_has t rows h p =
    has_found (id_of p) rows
    ∙ (sym (some_of_map (λ (r : Row). r.values) (row_at (id_of p) rows))
    ∙ (ap (λ (o : Option (List Text)). is_some o) (h.values p) ∙ some_of_map (λ (v : Text). v ∷ []) (text_at p t)))

first_text : (o : Option Row) (x : Option Text) → option_map (λ (r : Row). r.values) o ≡ option_map (λ (v : Text). v ∷ []) x
    → option_and_then (λ (r : Row). slice_get r.values 0) o ≡ x
first_text None None e = refl
first_text None (Some v) e = cc
first_text (Some r) None e = cc
first_text (Some r) (Some v) e =
    let values : r.values ≡ v ∷ [] = cc in
    ap (λ (l : List Text). slice_get l 0) values

holds_first : (t : Texts) (rows : List Row) → Holds t rows → (p : Slot) → first_of (id_of p) rows ≡ text_at p t
holds_first t rows h p = first_text (row_at (id_of p) rows) (text_at p t) (h.values p)

four : (a b c d e f g h : Option Text) → a ≡ e → b ≡ f → c ≡ g → d ≡ h
    → (let l : Texts = record { workers = a; rounds = b; command = c; count = d } in l)
    ≡ (let r : Texts = record { workers = e; rounds = f; command = g; count = h } in r)
four a b c d e f g h p q r s = cc

pub holds_texts : (t : Texts) (rows : List Row) → Holds t rows → texts_of_rows rows ≡ t
holds_texts t rows h = four _ _ _ _ _ _ _ _ (holds_first t rows h workers) (holds_first t rows h rounds)
    (holds_first t rows h command) (holds_first t rows h count)

or_none : (o : Option Row) → option_or o None ≡ o
or_none None = refl
or_none (Some r) = refl

or_of_none : (o : Option Row) (r : Row) → is_some o ≡ false → option_or o (Some r) ≡ Some r
or_of_none None r e = refl
or_of_none (Some x) r e = cc

added_other : (id : Text) (r : Row) (rows : List Row) → bytes_eq r.id id ≡ false → row_at id (rows ++ r ∷ []) ≡ row_at id rows
added_other id r rows e = find-append (λ (x : Row). bytes_eq x.id id) rows (r ∷ [])
    ∙ (ap (λ (b : Bool). option_or (row_at id rows) (cond b (Some r) None)) e ∙ or_none (row_at id rows))

added_same : (id : Text) (r : Row) (rows : List Row) → bytes_eq r.id id ≡ true → has_row id rows ≡ false → row_at id (rows ++ r ∷ []) ≡ Some r
added_same id r rows e h = find-append (λ (x : Row). bytes_eq x.id id) rows (r ∷ [])
    ∙ (ap (λ (b : Bool). option_or (row_at id rows) (cond b (Some r) None)) e
    ∙ or_of_none (row_at id rows) r (sym (has_found id rows) ∙ h))

values_other : (p q : Slot) (v : Text) (t : Texts) (rows : List Row) → Holds t rows → bytes_eq (id_of p) (id_of q) ≡ false
    → values_at q (rows ++ row_for p v ∷ []) ≡ wanted q t
values_other p q v t rows h e = ap (option_map (λ (r : Row). r.values)) (added_other (id_of q) (row_for p v) rows e) ∙ h.values q

values_same : (p : Slot) (v : Text) (rows : List Row) → bytes_eq (id_of p) (id_of p) ≡ true → has_row (id_of p) rows ≡ false
    → values_at p (rows ++ row_for p v ∷ []) ≡ Some (v ∷ [])
values_same p v rows e h = ap (option_map (λ (r : Row). r.values)) (added_same (id_of p) (row_for p v) rows e h)

values_added : (p q : Slot) (v : Text) (t : Texts) (rows : List Row) → Holds t rows → has_row (id_of p) rows ≡ false
    → values_at q (rows ++ row_for p v ∷ []) ≡ wanted q (with_text p v t)
values_added workers workers v t rows h a = values_same workers v rows refl a
values_added workers rounds v t rows h a = values_other workers rounds v t rows h refl
values_added workers command v t rows h a = values_other workers command v t rows h refl
values_added workers count v t rows h a = values_other workers count v t rows h refl
values_added rounds workers v t rows h a = values_other rounds workers v t rows h refl
values_added rounds rounds v t rows h a = values_same rounds v rows refl a
values_added rounds command v t rows h a = values_other rounds command v t rows h refl
values_added rounds count v t rows h a = values_other rounds count v t rows h refl
values_added command workers v t rows h a = values_other command workers v t rows h refl
values_added command rounds v t rows h a = values_other command rounds v t rows h refl
values_added command command v t rows h a = values_same command v rows refl a
values_added command count v t rows h a = values_other command count v t rows h refl
values_added count workers v t rows h a = values_other count workers v t rows h refl
values_added count rounds v t rows h a = values_other count rounds v t rows h refl
values_added count command v t rows h a = values_other count command v t rows h refl
values_added count count v t rows h a = values_same count v rows refl a

-- a use of a slot that has no text yet
pub holds_used : (p : Slot) (v : Text) (t : Texts) (rows : List Row) → Holds t rows → has_row (id_of p) rows ≡ false
    → Holds (with_text p v t) (used (rule_at p) (v ∷ []) rows)
holds_used p v t rows h a = record {
  values = λ q. ap (values_at q) (used_absent p v rows a) ∙ values_added p q v t rows h a;
}
