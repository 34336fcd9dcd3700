use Rattle.std.proofs.Common.{◌≡◌, ◌⊎◌, ◌∙◌, sym, refl, ap, map, string_bytes, List, Option, Some, None, [], ◌∷◌, inl, inr, String, Global, get_or}
use Rattle.std.specs.List.{All}
use Rattle.std.specs.Str.{IsUtf8}
use Rattle.std.proofs.lemmas.List.Elements.{All-map}
use Rattle.std.proofs.lemmas.Str.{IsUtf8-string_bytes}
use Rattle.clap.specs.Kinds.{IsAmong, Kinds}
use Rattle.clap.specs.Faults.{fault_of, is_simple_and_free}
use Rattle.clap.specs.Simple.{matches_of, is_simple}
use Rattle.clap.specs.Values.{kind_of}
use Rattle.clap.specs.Words.{App, Row, app_of, found_of, rows_of}
use Rattle.clap.specs.declared.error.kind.ErrorKind.{ErrorKind}
use Rattle.clap.specs.declared.error.kind.ErrorKind.TheVariants.{OutOfMemory}
use Rattle.em_words.specs.declared.fault.WordsFault.{WordsFault}
use Rattle.em_words.specs.declared.fault.WordsFault.TheVariants.{Memory, Refused}
use Rattle.em_words.specs.Number.{Text}
use Rattle.em_words.specs.Texts.{Texts, texts_in}
use Rattle.em_words.specs.ClapCommand.{command_line, texts_of_rows}
use Rattle.em_words.proofs.Built.{line_simple, line_free}
use Rattle.em_words.proofs.Rows.{holds_texts}
use Rattle.em_words.proofs.Turns.{IsFault}
use Rattle.em_words.proofs.Walks.{Agrees, line_agrees}
use Rattle.em_words.proofs.given.split_words.Goals as goal

texts : (words : List (String Global)) → All IsUtf8 (map string_bytes words)
texts words = All-map IsUtf8 string_bytes words (λ k d lt. IsUtf8-string_bytes (get_or words k d))

taken : (o : Option Texts) (fault : Kinds) (rows found : List Row) → Agrees o fault rows → fault ≡ [] → found ≡ rows → o ≡ Some (texts_of_rows found)
taken None fault rows found f e is = absurd (f e)
taken (Some t) fault rows found h e is = ap Some (sym (ap texts_of_rows is ∙ holds_texts t rows h.1))

refused : (o : Option Texts) (fault : Kinds) (rows : List Row) → Agrees o fault rows → IsFault fault → o ≡ None
refused None fault rows f g = refl
refused (Some t) fault rows h g = absurd (g h.0)

some_kind : (k : ErrorKind) (kinds : Kinds) → IsAmong k kinds → IsFault kinds
some_kind k [] a e = a
some_kind k (x ∷ xs) a e = cc

other_fault : (k : ErrorKind) (kinds : Kinds) (answer : WordsFault) → (k ≡ OutOfMemory → answer ≡ Memory) → answer ≡ Refused
    → (k ≡ OutOfMemory) ⊎ IsAmong k kinds → IsFault kinds
other_fault k kinds answer m r (inl e) =
    let bad : Memory ≡ Refused = sym (m e) ∙ r in
    cc
other_fault k kinds answer m r (inr a) = some_kind k kinds a

pub returns-in-Ok-clause-ok : goal.returns-in-Ok-clause-ok
returns-in-Ok-clause-ok c =
    let words : List Text = map string_bytes c.args.words.now in
    let line : app_of c.in_ok-command.command ≡ command_line = c.in_ok-command.ensures in
    let agrees = line_agrees words (texts c.args.words.now) in
    let none = ap (λ (a : App). fault_of a words) (sym line) ∙ c.in-Ok.ensures.kinds (ap is_simple_and_free line ∙ line_free) in
    let rows = (c.in-Ok.ensures.matches (ap is_simple line ∙ line_simple)).0 ∙ ap (λ (a : App). matches_of a words) line in
    taken (texts_in words) (fault_of command_line words) (matches_of command_line words) (rows_of (found_of c.in-Ok.matches)) agrees none rows
    ∙ ap Some (sym c.given_in.ensures)

pub returns-in-Err-clause-refused : goal.returns-in-Err-clause-refused
returns-in-Err-clause-refused c is =
    let words : List Text = map string_bytes c.args.words.now in
    let line : app_of c.in_ok-command.command ≡ command_line = c.in_ok-command.ensures in
    let agrees = line_agrees words (texts c.args.words.now) in
    let answer : c.fault_of.result ≡ Refused = cc in
    let some = other_fault (kind_of c.in-Err.error) (fault_of (app_of c.in_ok-command.command) words) c.fault_of.result c.fault_of.ensures answer
    (c.in-Err.ensures.kinds (ap is_simple_and_free line ∙ line_free)) in
    refused (texts_in words) (fault_of command_line words) (matches_of command_line words) agrees
    (λ e. some (ap (λ (a : App). fault_of a words) line ∙ e))
