-- Which word stands for what, before any is looked at as a number or a command. Behind `--` a word
-- with a hyphen is given to its slot, and is no number and no command there.
use Rattle.std.specs.Prelude.{Bool, true, false, List, [], ◌∷◌, ◌==◌, Option, Some, None}
use Rattle.std.specs.Prelude.{is_some, if◌then◌else◌, codes, option_and_then, option_map}
use Rattle.std.specs.List.{list_any, before_first, after_first}
use Rattle.std.specs.Option.{option_map_or}
use Rattle.std.specs.Str.{bytes_eq}
use Rattle.em_words.specs.Number.{Text}
use Rattle.em_words.specs.declared.given.Given.{Given}

-- the slots of the command line: what a text is given for
pub data Slot : Type 0 where
  workers : Slot
  rounds : Slot
  command : Slot
  count : Slot

-- the text that each slot is given, if it is given one
pub record Texts : Type 0 where
  pub workers : Option Text
  pub rounds : Option Text
  pub command : Option Text
  pub count : Option Text

abbrev pub text_at : Slot → Texts → Option Text
text_at workers t = t.workers
text_at rounds t = t.rounds
text_at command t = t.command
text_at count t = t.count

abbrev pub with_text : Slot → Text → Texts → Texts
with_text workers v t = record t { workers = Some v }
with_text rounds v t = record t { rounds = Some v }
with_text command v t = record t { command = Some v }
with_text count v t = record t { count = Some v }

-- what the words so far came to
pub record Reading : Type 0 where
  pub texts : Texts
  -- the option whose value is the next word
  pub waits : Option Slot
  -- `--` stood, behind which no word is an option
  pub is_closed : Bool

abbrev pub nothing : Reading
nothing = record {
  texts = record { workers = None; rounds = None; command = None; count = None };
  waits = None;
  is_closed = false;
}

-- the slot is given the text, unless it has one
abbrev pub give : Slot → Text → Reading → Option Reading
give p v s = if is_some (text_at p s.texts) then None
    else Some (record s { texts = with_text p v s.texts; waits = None })

-- the next word is the option's value, unless it has one
abbrev pub wait_for : Slot → Reading → Option Reading
wait_for p s = if is_some (text_at p s.texts) then None else Some (record s { waits = Some p })

-- a word that is no option's is the command, or else the count
abbrev pub give_next : Text → Reading → Option Reading
give_next v s = if is_some s.texts.command then give count v s else give command v s

-- the option that the word names by what stands before its first `=` (61)
abbrev pub option_named : Text → Option Slot
option_named word =
    let name = before_first (λ b. b == 61) word in
    if bytes_eq (codes "--workers") name then Some workers
    else (if bytes_eq (codes "--rounds") name then Some rounds else None)

-- what stands after the first `=`, where there is one
abbrev pub joined_value : Text → Option Text
joined_value word = if list_any (λ b. b == 61) word
    then Some (after_first (λ b. b == 61) word) else None

-- the word is a hyphen (45) with more behind it; a hyphen alone is a word like any other, which is
-- no number and no command
abbrev pub is_flag : Text → Bool
is_flag [] = false
is_flag (b ∷ []) = false
is_flag (b ∷ c ∷ cs) = b == 45

-- a word that may name an option
abbrev pub read_option : Option Slot → Text → Reading → Option Reading
read_option (Some p) word s = option_map_or (λ v. give p v s) (joined_value word) (wait_for p s)
read_option None word s = if is_flag word then None else give_next word s

-- a word before `--`, or `--` itself
abbrev pub read_open : Text → Reading → Option Reading
read_open word s = if bytes_eq word (codes "--") then Some (record s { is_closed = true })
    else read_option (option_named word) word s

-- one word more, or none where it may not stand there
abbrev pub read_word : Option Slot → Text → Reading → Option Reading
read_word (Some p) word s = if is_flag word then None else give p word s
read_word None word s = if s.is_closed then give_next word s else read_open word s

-- all the words, from left to right
abbrev pub read_all : Reading → List Text → Option Reading
read_all s [] = Some s
read_all s (word ∷ rest) = option_and_then (λ t. read_all t rest) (read_word s.waits word s)

-- no option is left without its value
abbrev pub ended : Reading → Option Texts
ended s = if is_some s.waits then None else Some s.texts

-- the texts that the words give, or none where they are not of the form
abbrev pub texts_in : List Text → Option Texts
texts_in words = option_and_then ended (read_all nothing words)

-- the texts behind references
abbrev pub texts_of : Given → Texts
texts_of g = record {
  workers = option_map (λ s. s.now) g.workers;
  rounds = option_map (λ s. s.now) g.rounds;
  command = option_map (λ s. s.now) g.command;
  count = option_map (λ s. s.now) g.count;
}
