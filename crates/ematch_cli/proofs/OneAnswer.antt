-- Each script has one answer at most.
use Rattle.std.proofs.Common.{◌≡◌, ℕ, zero, suc, inl, inr, Bool, List, [], ◌++◌, length, Ok, Err, refl, sym, ap, ap₂, subst, ◌∙◌, append_assoc}
use Rattle.std.specs.Prelude.{Result, Option}
use Rattle.em_outside.specs.declared.limits.Limits.{Limits}
use Rattle.smt_text.specs.Word.{Word}
use Rattle.smt_text.specs.Script.{Script, End, Fault, Command}
use Rattle.formula_draft.specs.Draft.{Formula, IsFormula}
use Rattle.formula_table.specs.declared.enter_fault.EnterFault.{EnterFault}
use Rattle.formula_assert.specs.Assertions.{Assertions, held_of, pushed, popped}
use Rattle.formula_assert.specs.AssertFormula.{StopsAssert}
use Rattle.formula_assert.specs.Exactly.{AreExact}
use Rattle.formula_assert.specs.Tables.{AreTables}
use Rattle.smt_names.specs.Names.{State}
use Rattle.smt_commands.specs.SessionLaws.{IsSound}
use Rattle.search_laws.specs.Laws.{IsInOrder, HasOneVerdict}
use Rattle.search_laws.specs.Path.{first_path}
use Rattle.search_laws.specs.Verdict.{Ending, Verdict}
use Rattle.search_laws.specs.Verdict as verdicts
use Rattle.search_check.specs.declared.why.Why.{Why}
use Rattle.smt_commands.specs.Commands.{elaborate}
use Rattle.smt_commands.specs.Commands as commands
use Rattle.smt_commands.specs.declared.command.Command as syntax
use Rattle.smt_commands.specs.declared.command.Command.TheVariants as command
use Rattle.ematch_cli.specs.ErrorLine.{refusal_line, room_line}
use Rattle.em_printing.specs.Names.{names_of}
use Rattle.ematch_cli.specs.Response.{HasLine, info_text, why_of, IsSearched, IsCheckResponse, IsResponse, Remembers}
use Rattle.ematch_cli.specs.RunState.{RunState, run_state}
use Rattle.ematch_cli.specs.Run.{repeated, Does, answered, Replies, FindsNoRoom, PassesLimit, IsRefused}
use Rattle.ematch_cli.specs.RunLaws.{StaysTables, StaysExact, AssertsInOneWay, RunLaws}
use Rattle.ematch_cli.specs.Output.{Answer, Finished, IsAnswer, BeginsWith, IsAnswerFront, behind, failure, last, opening}
use Rattle.em_words.specs.declared.task.Task.{Task}
use Rattle.em_words.specs.declared.task.Task.TheVariants.{Matches, Solve}
use Rattle.ematch_cli.proofs.OneText.{listing_once}

-- what holds between two commands of a run
pub record IsRight (now : RunState) : Type 0 where
  pub session : IsSound now.session
  pub tables : AreTables now.assertions
  pub exact : AreExact now.assertions

-- a result is one
ok_once : {A E : Type 0} (result : Result A E) (one other : A) → result ≡ Ok one → result ≡ Ok other → one ≡ other
ok_once result one other is also = cc

err_once : {A E : Type 0} (result : Result A E) (one other : E) → result ≡ Err one → result ≡ Err other → one ≡ other
err_once result one other is also = cc

not_both : {P : Type 0} {A E : Type 0} (result : Result A E) (one : A) (other : E) → result ≡ Ok one → result ≡ Err other → P
not_both result one other is also = absurd (cc)

-- what holds before a change and is kept by it holds after so many
pub repeated_keeps : (P : Assertions → Type 0) (change : Assertions → Assertions) → ((now : Assertions) → P now → P (change now)) → (n : ℕ) (now : Assertions) → P now → P (repeated n change now)
repeated_keeps P change keeps zero now is = is
repeated_keeps P change keeps (suc n) now is = repeated_keeps P change keeps n (change now) (keeps now is)

pub right_opening : RunLaws → (limits : Limits) → IsRight (opening limits)
right_opening law limits = record {
  session = law.starts limits;
  tables = law.tables.starts limits.terms limits.nodes;
  exact = law.exact.starts limits.terms limits.nodes;
}

-- a search ends with one line
line_once : (ending : Ending) (a b : List ℕ) → HasLine ending a → HasLine ending b → a ≡ b
line_once verdicts.Ending.unsat a b one other = one ∙ sym other
line_once (verdicts.Ending.sat path) a b one other = one ∙ sym other
line_once (verdicts.Ending.settled path) a b one other = one ∙ sym other
line_once (verdicts.Ending.rounds_spent path) a b one other = one ∙ sym other
line_once (verdicts.Ending.refused fault) a b one other = absurd one

-- what is right is in order
pub in_order : (now : RunState) → IsRight now → IsInOrder now.assertions.formulas (held_of now.assertions)
in_order now right = record {
  terms = right.tables.terms;
  table = right.tables.formulas.table;
  stand = right.tables.formulas.terms;
  exactly = right.exact.present;
}

-- a search is answered by one text, with one reason
search_once : HasOneVerdict → (rounds : ℕ) (now : Assertions) (a b : List ℕ) (why also : Option Why) → IsInOrder now.formulas (held_of now) → IsSearched rounds now a why → IsSearched rounds now b also → (a ≡ b) × (why ≡ also)
search_once law rounds now a b why also order one other =
    let same : one.ending ≡ other.ending = law rounds now.formulas (held_of now) one.ending other.ending order one.verdict other.verdict in
    (line_once other.ending a b (subst (λ (ending : Ending). HasLine ending a) same one.has_line) other.has_line, one.why_is ∙ ap why_of same ∙ sym other.why_is)

-- and then it is not refused
search_not_refused : HasOneVerdict → (rounds : ℕ) (now : Assertions) (a : List ℕ) (why : Option Why) (fault : EnterFault) → IsInOrder now.formulas (held_of now) → IsSearched rounds now a why → Verdict rounds (first_path now.formulas (held_of now)) (verdicts.Ending.refused fault) → ⊥
search_not_refused law rounds now a why fault order one other =
    subst (λ (ending : Ending). HasLine ending a) (law rounds now.formulas (held_of now) one.ending (verdicts.Ending.refused fault) order one.verdict other) one.has_line

-- it is refused by one limit
fault_once : (fault also : EnterFault) → verdicts.Ending.refused fault ≡ verdicts.Ending.refused also → fault ≡ also
fault_once fault also same = cc

-- a check is answered by one text, with one reason
check_once : HasOneVerdict → (task : Task) (session : State) (now : Assertions) (why also : Option Why) (a b : List ℕ) → IsInOrder now.formulas (held_of now)
    → IsCheckResponse task (run_state session now why) a → IsCheckResponse task (run_state session now also) b → (a ≡ b) × (why ≡ also)
check_once law Matches session now why also a b order one other = (listing_once (names_of session) now.graph.standing a b one.0 other.0, one.1 ∙ sym other.1)
check_once law (Solve rounds) session now why also a b order one other = search_once law rounds now a b why also order one other

-- a command is answered by one text, with one reason
response_once : HasOneVerdict → (task : Task) (what : syntax.Command) (before : RunState) (session : State) (now : Assertions) (why also : Option Why) (a b : List ℕ) → IsInOrder now.formulas (held_of now)
    → Remembers what before.why why → Remembers what before.why also → IsResponse task what before (run_state session now why) a → IsResponse task what before (run_state session now also) b → (a ≡ b) × (why ≡ also)
response_once law task command.CheckSat before session now why also a b order kept kept' one other = check_once law task session now why also a b order one other
response_once law task (command.GetInfo info) before session now why also a b order kept kept' one other =
    let same : why ≡ also = kept ∙ sym kept' in (one ∙ ap (info_text info (length session.levels)) same ∙ sym other, same)
response_once law task command.Unsupported before session now why also a b order kept kept' one other = (one ∙ sym other, kept ∙ sym kept')
response_once law task command.Reset before session now why also a b order kept kept' one other = (one ∙ sym other, kept ∙ sym kept')
response_once law task command.Silent before session now why also a b order kept kept' one other = (one ∙ sym other, kept ∙ sym kept')
response_once law task (command.Assert formula) before session now why also a b order kept kept' one other = (one ∙ sym other, kept ∙ sym kept')
response_once law task (command.Push count) before session now why also a b order kept kept' one other = (one ∙ sym other, kept ∙ sym kept')
response_once law task (command.Pop count) before session now why also a b order kept kept' one other = (one ∙ sym other, kept ∙ sym kept')
response_once law task command.ResetAssertions before session now why also a b order kept kept' one other = (one ∙ sym other, kept ∙ sym kept')
response_once law task command.Exit before session now why also a b order kept kept' one other = (one ∙ sym other, kept ∙ sym kept')

-- what begins with nothing, and what begins with a front and has more behind it
nothing_begins : (front bytes : List ℕ) → front ≡ [] → BeginsWith front bytes
nothing_begins front bytes none = (bytes, ap (λ (f : List ℕ). f ++ bytes) (sym none))

begins_more : (front text more : List ℕ) → BeginsWith front text → BeginsWith front (text ++ more)
begins_more front text more begins = (begins.0 ++ more, ap (λ (t : List ℕ). t ++ more) begins.1 ∙ append_assoc front begins.0 more)

begins_behind : (text front bytes : List ℕ) → BeginsWith front bytes → BeginsWith (text ++ front) (text ++ bytes)
begins_behind text front bytes begins = (begins.0, ap (λ (b : List ℕ). text ++ b) begins.1 ∙ sym (append_assoc text front begins.0))

module _ (limits : Limits) where
  -- a command does one thing
  does_once : AssertsInOneWay → (what : syntax.Command) (before one other : Assertions) → AreTables before → ((formula : Formula) → what ≡ command.Assert formula → IsFormula formula) → Does limits what before one → Does limits what before other → one ≡ other
  does_once law (command.Assert formula) before one other tables is does also = law.once formula before one other (is formula refl) tables does also
  does_once law (command.Push count) before one other tables is does also = does ∙ sym also
  does_once law (command.Pop count) before one other tables is does also = does ∙ sym also
  does_once law command.Reset before one other tables is does also = does ∙ sym also
  does_once law command.ResetAssertions before one other tables is does also = does ∙ sym also
  does_once law command.Silent before one other tables is does also = does ∙ sym also
  does_once law command.Unsupported before one other tables is does also = does ∙ sym also
  does_once law command.CheckSat before one other tables is does also = does ∙ sym also
  does_once law (command.GetInfo info) before one other tables is does also = does ∙ sym also
  does_once law command.Exit before one other tables is does also = does ∙ sym also

  -- and leaves tables
  does_tables : StaysTables → (what : syntax.Command) (before after : Assertions) → AreTables before → ((formula : Formula) → what ≡ command.Assert formula → IsFormula formula) → Does limits what before after → AreTables after
  does_tables law (command.Assert formula) before after tables is does = law.asserted formula before after (is formula refl) tables does
  does_tables law (command.Push count) before after tables is does = subst AreTables (sym does) (repeated_keeps AreTables pushed law.opened count before tables)
  does_tables law (command.Pop count) before after tables is does = subst AreTables (sym does) (repeated_keeps AreTables popped law.ended count before tables)
  does_tables law command.Reset before after tables is does = subst AreTables (sym does) (law.starts limits.terms limits.nodes)
  does_tables law command.ResetAssertions before after tables is does = subst AreTables (sym does) (law.starts limits.terms limits.nodes)
  does_tables law command.Silent before after tables is does = subst AreTables (sym does) tables
  does_tables law command.Unsupported before after tables is does = subst AreTables (sym does) tables
  does_tables law command.CheckSat before after tables is does = subst AreTables (sym does) tables
  does_tables law (command.GetInfo info) before after tables is does = subst AreTables (sym does) tables
  does_tables law command.Exit before after tables is does = subst AreTables (sym does) tables

  -- and what is held exactly
  pub does_exact : StaysExact → (what : syntax.Command) (before after : Assertions) → AreTables before → AreExact before → Does limits what before after → AreExact after
  does_exact law (command.Assert formula) before after tables is does = law.asserted formula before after tables is does
  does_exact law (command.Push count) before after tables is does = subst AreExact (sym does) (repeated_keeps AreExact pushed law.opened count before is)
  does_exact law (command.Pop count) before after tables is does = subst AreExact (sym does) (repeated_keeps AreExact popped law.ended count before is)
  does_exact law command.Reset before after tables is does = subst AreExact (sym does) (law.starts limits.terms limits.nodes)
  does_exact law command.ResetAssertions before after tables is does = subst AreExact (sym does) (law.starts limits.terms limits.nodes)
  does_exact law command.Silent before after tables is does = subst AreExact (sym does) is
  does_exact law command.Unsupported before after tables is does = subst AreExact (sym does) is
  does_exact law command.CheckSat before after tables is does = subst AreExact (sym does) is
  does_exact law (command.GetInfo info) before after tables is does = subst AreExact (sym does) is
  does_exact law command.Exit before after tables is does = subst AreExact (sym does) is

-- the parts of a state are the state
same_state : (a b : State) (c d : Assertions) (w v : Option Why) → a ≡ b → c ≡ d → w ≡ v → run_state a c w ≡ run_state b d v
same_state a b c d w v session assertions why = cc

-- the formula of a command is one, and so are the rounds of a task
formula_is : (f g : Formula) → command.Assert f ≡ command.Assert g → f ≡ g
formula_is f g same = cc

rounds_are : (m n : ℕ) → Solve m ≡ Solve n → m ≡ n
rounds_are m n same = cc

assert_is_no_check : (f : Formula) → command.Assert f ≡ command.CheckSat → ⊥
assert_is_no_check f same = cc

module _ (task : Task) (limits : Limits) (law : RunLaws) where
  -- what is asserted is a formula
  formula_of : (now : RunState) (words : List Word) (what : syntax.Command) (session : State) → IsRight now → elaborate now.session words ≡ Ok (answered what session) → (formula : Formula) → what ≡ command.Assert formula → IsFormula formula
  formula_of now words what session right elaborated formula is = ((law.keeps now.session words (answered what session) right.session elaborated).1 formula is).0

  -- what a command leaves is right
  pub right_after : (now : RunState) (words : List Word) (c : syntax.Command) (s : RunState) (a : List ℕ) → IsRight now → Replies task limits now words c s a → IsRight s
  right_after now words c s a right replies = record {
    session = (law.keeps now.session words (answered c s.session) right.session replies.elaborated).0;
    tables = does_tables limits law.tables c now.assertions s.assertions right.tables (formula_of now words c s.session right replies.elaborated) replies.does;
    exact = does_exact limits law.exact c now.assertions s.assertions right.tables right.exact replies.does;
  }

  -- words have one meaning
  one_meaning : (now : RunState) (words : List Word) (c d : syntax.Command) (s t : State) → elaborate now.session words ≡ Ok (answered c s) → elaborate now.session words ≡ Ok (answered d t) → (c ≡ d) × (s ≡ t)
  one_meaning now words c d s t one other =
      let same : answered c s ≡ answered d t = ok_once (elaborate now.session words) (answered c s) (answered d t) one other in
      (ap (λ (answer : commands.Answer). answer.command) same, ap (λ (answer : commands.Answer). answer.state) same)

  -- a command is answered in one way
  pub replies_once : (now : RunState) (words : List Word) (c d : syntax.Command) (s t : RunState) (a b : List ℕ) → IsRight now → Replies task limits now words c s a → Replies task limits now words d t b → (c ≡ d) × (s ≡ t) × (a ≡ b)
  replies_once now words c d s t a b right one other =
      let meaning = one_meaning now words c d s.session t.session one.elaborated other.elaborated in
      let what : c ≡ d = meaning.0 in
      let session : s.session ≡ t.session = meaning.1 in
      let also : Does limits c now.assertions t.assertions = subst (λ (x : syntax.Command). Does limits x now.assertions t.assertions) (sym what) other.does in
      let assertions : s.assertions ≡ t.assertions = does_once limits law.asserts c now.assertions s.assertions t.assertions right.tables (formula_of now words c s.session right one.elaborated) one.does also in
      let kept : Remembers c now.why t.why = subst (λ (x : syntax.Command). Remembers x now.why t.why) (sym what) other.remembers in
      let responds : IsResponse task c now (run_state s.session s.assertions t.why) b =
      subst (λ (u : Assertions). IsResponse task c now (run_state s.session u t.why) b) (sym assertions)
      (subst (λ (u : State). IsResponse task c now (run_state u t.assertions t.why) b) (sym session)
      (subst (λ (x : syntax.Command). IsResponse task x now t b) (sym what) other.responds)) in
      let both = response_once law.verdict task c now s.session s.assertions s.why t.why a b (in_order s (right_after now words c s a right one)) one.remembers kept one.responds responds in
      (what, same_state s.session t.session s.assertions t.assertions s.why t.why session assertions both.1, both.0)

  -- no command is done that asserts what there is no room for
  asserted_not_stopped : (now : RunState) (words : List Word) (fault : EnterFault) (c : syntax.Command) (s : RunState) (a : List ℕ) → IsRight now → FindsNoRoom now words fault → Replies task limits now words c s a → ⊥
  asserted_not_stopped now words fault c s a right room replies =
      let what = (one_meaning now words c (command.Assert room.formula) s.session room.session replies.elaborated room.elaborated).0 in
      law.asserts.not_both room.formula now.assertions s.assertions room.after fault (formula_of now words (command.Assert room.formula) room.session right room.elaborated room.formula refl) right.tables room.is_room
      (subst (λ (x : syntax.Command). Does limits x now.assertions s.assertions) what replies.does) room.stops

  -- and none that asks for a search that is refused
  checked_not_refused : (now : RunState) (words : List Word) (fault : EnterFault) (c : syntax.Command) (s : RunState) (a : List ℕ) → IsRight now → PassesLimit task now words fault → Replies task limits now words c s a → ⊥
  checked_not_refused now words fault c s a right past replies =
      let what = (one_meaning now words c command.CheckSat s.session past.session replies.elaborated past.elaborated).0 in
      let kept : s.assertions ≡ now.assertions = subst (λ (x : syntax.Command). Does limits x now.assertions s.assertions) what replies.does in
      let searched : IsCheckResponse task s a = subst (λ (x : syntax.Command). IsResponse task x now s a) what replies.responds in
      let found : IsSearched past.rounds s.assertions a s.why = subst (λ (t : Task). IsCheckResponse t s a) past.searches searched in
      search_not_refused law.verdict past.rounds now.assertions a s.why fault (in_order now right) (subst (λ (u : Assertions). IsSearched past.rounds u a s.why) kept found) past.verdict

  -- and then not refused
  pub refused_replies : {P : Type 0} (now : RunState) (words : List Word) (line : List ℕ) (c : syntax.Command) (s : RunState) (a : List ℕ) → IsRight now → IsRefused task now words line → Replies task limits now words c s a → P
  refused_replies now words line c s a right (inl (fault, refused, is)) replies = not_both (elaborate now.session words) (answered c s.session) fault replies.elaborated refused
  refused_replies now words line c s a right (inr (inl (fault, room, is))) replies = absurd (asserted_not_stopped now words fault c s a right room replies)
  refused_replies now words line c s a right (inr (inr (fault, past, is))) replies = absurd (checked_not_refused now words fault c s a right past replies)

  -- there is no room for the formula in one way
  room_once : (now : RunState) (words : List Word) (fault also : EnterFault) → IsRight now → FindsNoRoom now words fault → FindsNoRoom now words also → fault ≡ also
  room_once now words fault also right room other =
      let formulas : room.formula ≡ other.formula = formula_is room.formula other.formula (one_meaning now words (command.Assert room.formula) (command.Assert other.formula) room.session other.session room.elaborated other.elaborated).0 in
      (law.asserts.alike room.formula now.assertions room.after other.after fault also (formula_of now words (command.Assert room.formula) room.session right room.elaborated room.formula refl) right.tables room.is_room other.is_room room.stops
      (subst (λ (f : Formula). StopsAssert f now.assertions other.after also) (sym formulas) other.stops)).0

  -- a search is refused by one limit
  limit_once : (now : RunState) (words : List Word) (fault also : EnterFault) → IsRight now → PassesLimit task now words fault → PassesLimit task now words also → fault ≡ also
  limit_once now words fault also right past other =
      let rounds : past.rounds ≡ other.rounds = rounds_are past.rounds other.rounds (sym past.searches ∙ other.searches) in
      fault_once fault also (law.verdict past.rounds now.assertions.formulas (held_of now.assertions) (verdicts.Ending.refused fault) (verdicts.Ending.refused also) (in_order now right) past.verdict
      (subst (λ (n : ℕ). Verdict n (first_path now.assertions.formulas (held_of now.assertions)) (verdicts.Ending.refused also)) (sym rounds) other.verdict))

  -- what is asserted is not searched
  room_or_limit : (now : RunState) (words : List Word) (fault also : EnterFault) → FindsNoRoom now words fault → PassesLimit task now words also → ⊥
  room_or_limit now words fault also room past = assert_is_no_check room.formula (one_meaning now words (command.Assert room.formula) command.CheckSat room.session past.session room.elaborated past.elaborated).0

  -- a command is refused in one way
  pub refused_once : (now : RunState) (words : List Word) (one other : List ℕ) → IsRight now → IsRefused task now words one → IsRefused task now words other → one ≡ other
  refused_once now words one other right (inl (fault, refused, is)) (inl (fault', refused', is')) = is ∙ ap refusal_line (err_once (elaborate now.session words) fault fault' refused refused') ∙ sym is'
  refused_once now words one other right (inl (fault, refused, is)) (inr (inl (fault', room, is'))) = not_both (elaborate now.session words) (answered (command.Assert room.formula) room.session) fault room.elaborated refused
  refused_once now words one other right (inl (fault, refused, is)) (inr (inr (fault', past, is'))) = not_both (elaborate now.session words) (answered command.CheckSat past.session) fault past.elaborated refused
  refused_once now words one other right (inr (inl (fault, room, is))) (inl (fault', refused', is')) = not_both (elaborate now.session words) (answered (command.Assert room.formula) room.session) fault' room.elaborated refused'
  refused_once now words one other right (inr (inl (fault, room, is))) (inr (inl (fault', room', is'))) = is ∙ ap (room_line words) (room_once now words fault fault' right room room') ∙ sym is'
  refused_once now words one other right (inr (inl (fault, room, is))) (inr (inr (fault', past, is'))) = absurd (room_or_limit now words fault fault' room past)
  refused_once now words one other right (inr (inr (fault, past, is))) (inl (fault', refused', is')) = not_both (elaborate now.session words) (answered command.CheckSat past.session) fault' past.elaborated refused'
  refused_once now words one other right (inr (inr (fault, past, is))) (inr (inl (fault', room, is'))) = absurd (room_or_limit now words fault' fault room past)
  refused_once now words one other right (inr (inr (fault, past, is))) (inr (inr (fault', past', is'))) = is ∙ ap (room_line words) (limit_once now words fault fault' right past past') ∙ sym is'

  -- a script has one answer
  pub answer_once : (known : Bool) (script : Script) (now : RunState) (a b : Answer) → IsRight now → IsAnswer task limits known script now a → IsAnswer task limits known script now b → a ≡ b
  unfolding IsAnswer
  answer_once known End now a b right one other = one ∙ sym other
  answer_once known (Fault fault) now a b right one other = one ∙ sym other
  answer_once known (Command words rest) now a b right (inl (line, refused, is)) (inl (line', refused', is')) = is ∙ ap failure (refused_once now words line line' right refused refused') ∙ sym is'
  answer_once known (Command words rest) now a b right (inl (line, refused, is)) (inr (inl (t, text, replies, is'))) = refused_replies now words line command.Exit t text right refused replies
  answer_once known (Command words rest) now a b right (inl (line, refused, is)) (inr (inr (d, t, text, after, not, replies, goes, is'))) = refused_replies now words line d t text right refused replies
  answer_once known (Command words rest) now a b right (inr (inl (s, text, replies, is))) (inl (line, refused, is')) = refused_replies now words line command.Exit s text right refused replies
  answer_once known (Command words rest) now a b right (inr (inl (s, text, replies, is))) (inr (inl (t, text', replies', is'))) =
      is ∙ ap (λ (x : List ℕ). last x Finished) (replies_once now words command.Exit command.Exit s t text text' right replies replies').2 ∙ sym is'
  answer_once known (Command words rest) now a b right (inr (inl (s, text, replies, is))) (inr (inr (d, t, text', after, not, replies', goes, is'))) =
      absurd (not (sym (replies_once now words command.Exit d s t text text' right replies replies').0))
  answer_once known (Command words rest) now a b right (inr (inr (c, s, text, after, not, replies, goes, is))) (inl (line, refused, is')) = refused_replies now words line c s text right refused replies
  answer_once known (Command words rest) now a b right (inr (inr (c, s, text, after, not, replies, goes, is))) (inr (inl (t, text', replies', is'))) =
      absurd (not (replies_once now words c command.Exit s t text text' right replies replies').0)
  answer_once known (Command words rest) now a b right (inr (inr (c, s, text, after, not, replies, goes, is))) (inr (inr (d, t, text', after', not', replies', goes', is'))) =
      let same = replies_once now words c d s t text text' right replies replies' in
      let later = answer_once known rest s after after' (right_after now words c s text right replies) goes (subst (λ (u : RunState). IsAnswer task limits known rest u after') (sym same.1) goes') in
      is ∙ ap₂ behind same.2 later ∙ sym is'

  -- an answer begins with each front of what is answered
  pub front_once : (known : Bool) (script : Script) (now : RunState) (front : List ℕ) (answer : Answer) → IsRight now
      → IsAnswerFront task limits known script now front → IsAnswer task limits known script now answer → BeginsWith front answer.bytes
  unfolding IsAnswer IsAnswerFront
  front_once known End now front answer right none is = nothing_begins front answer.bytes none
  front_once known (Fault fault) now front answer right begins is = subst (λ (a : Answer). BeginsWith front a.bytes) (sym is) begins
  front_once known (Command words rest) now front answer right (inl none) is = nothing_begins front answer.bytes none
  front_once known (Command words rest) now front answer right (inr (inl (line, refused, begins))) (inl (line', refused', is)) =
      subst (BeginsWith front) (refused_once now words line line' right refused refused' ∙ sym (ap (λ (a : Answer). a.bytes) is)) begins
  front_once known (Command words rest) now front answer right (inr (inl (line, refused, begins))) (inr (inl (t, text, replies, is))) = refused_replies now words line command.Exit t text right refused replies
  front_once known (Command words rest) now front answer right (inr (inl (line, refused, begins))) (inr (inr (d, t, text, after, not, replies, goes, is))) = refused_replies now words line d t text right refused replies
  front_once known (Command words rest) now front answer right (inr (inr (inl (c, s, text, replies, begins)))) (inl (line, refused, is)) = refused_replies now words line c s text right refused replies
  front_once known (Command words rest) now front answer right (inr (inr (inl (c, s, text, replies, begins)))) (inr (inl (t, text', replies', is))) =
      subst (BeginsWith front) ((replies_once now words c command.Exit s t text text' right replies replies').2 ∙ sym (ap (λ (a : Answer). a.bytes) is)) begins
  front_once known (Command words rest) now front answer right (inr (inr (inl (c, s, text, replies, begins)))) (inr (inr (d, t, text', after, not, replies', goes, is))) =
      subst (BeginsWith front) (ap (λ (x : List ℕ). x ++ after.bytes) (replies_once now words c d s t text text' right replies replies').2 ∙ sym (ap (λ (a : Answer). a.bytes) is)) (begins_more front text after.bytes begins)
  front_once known (Command words rest) now front answer right (inr (inr (inr (c, s, text, more, not, replies, fronts, is)))) (inl (line, refused, said)) = refused_replies now words line c s text right refused replies
  front_once known (Command words rest) now front answer right (inr (inr (inr (c, s, text, more, not, replies, fronts, is)))) (inr (inl (t, text', replies', said))) =
      absurd (not (replies_once now words c command.Exit s t text text' right replies replies').0)
  front_once known (Command words rest) now front answer right (inr (inr (inr (c, s, text, more, not, replies, fronts, is)))) (inr (inr (d, t, text', after, not', replies', goes, said))) =
      let same = replies_once now words c d s t text text' right replies replies' in
      let inner = front_once known rest s more after (right_after now words c s text right replies) fronts (subst (λ (u : RunState). IsAnswer task limits known rest u after) (sym same.1) goes) in
      subst (λ (f : List ℕ). BeginsWith f answer.bytes) (sym is)
      (subst (BeginsWith (text ++ more)) (ap (λ (x : List ℕ). x ++ after.bytes) same.2 ∙ sym (ap (λ (a : Answer). a.bytes) said)) (begins_behind text more after.bytes inner))
