-- How far a run has come, and what it leaves where it ends.
use Rattle.std.proofs.Common.{◌≡◌, ◌≢◌, inl, inr, ℕ, Bool, true, false, List, [], ◌∷◌, ◌++◌, refl, ap, sym, ◌∙◌, Option, append_assoc, subst}
use Rattle.std.specs.Io.KnownBytes.{Consumes}
use Rattle.std.proofs.lemmas.List.{append-nil}
use Rattle.em_outside.specs.Bytes.{Appended}
use Rattle.em_outside.proofs.BytesLaws.{Appended-none, Appended-then, Consumes-none, Consumes-then}
use Rattle.em_outside.specs.declared.limits.Limits.{Limits}
use Rattle.smt_text.specs.Word.{Word}
use Rattle.smt_text.specs.Script.{Script, End, Fault, Command, IsOpen, script_of}
use Rattle.smt_text.specs.ByteFault.{IsLasting}
use Rattle.smt_text.specs.Reading.{Reading, script, start}
use Rattle.smt_text.specs.declared.byte_fault.ByteFault.{ByteFault}
use Rattle.smt_text.specs.declared.byte_fault.ByteFault.TheVariants.{BadByte, Unclosed, Stray, TooDeep, TooLong}
use Rattle.smt_text.specs.declared.token.Place.{Place}
use Rattle.smt_commands.specs.declared.command.Command as syntax
use Rattle.smt_commands.specs.declared.command.Command.TheVariants.{Exit}
use Rattle.ematch_cli.specs.RunLaws.{RunLaws}
use Rattle.ematch_cli.specs.RunState.{RunState}
use Rattle.ematch_cli.specs.Run.{Replies, IsRefused}
use Rattle.ematch_cli.specs.Output.{Answer, Open, Finished, Failed, IsAnswer, BeginsWith, IsAnswerFront, behind, failure, last, silence, at_end, opening}
use Rattle.ematch_cli.specs.ErrorLine.{fault_line}
use Rattle.ematch_cli.specs.Headline.{WroteFrontOf, Answers}
use Rattle.ematch_cli.specs.declared.status.Status.TheVariants as status
use Rattle.em_words.specs.declared.task.Task.{Task}
use Rattle.ematch_cli.proofs.OneAnswer.{IsRight, right_opening, right_after, replies_once, refused_replies}

-- a script that begins with these commands
abbrev pub commands_then : List (List Word) → Script → Script
commands_then [] rest = rest
commands_then (words ∷ commands) rest = Command words (commands_then commands rest)

pub commands_then-push : (commands : List (List Word)) (words : List Word) (rest : Script) → commands_then (commands ++ words ∷ []) rest ≡ commands_then commands (Command words rest)
commands_then-push [] words rest = refl
commands_then-push (first ∷ commands) words rest = ap (Command first) (commands_then-push commands words rest)

-- the commands, none of which is `exit`, are answered by the text, one after another
abbrev pub RepliesAll : Task → Limits → RunState → List (List Word) → RunState → List ℕ → Type 0
RepliesAll task limits state [] later text = (later ≡ state) × (text ≡ [])
RepliesAll task limits state (words ∷ commands) later text =
    (command : syntax.Command) × (mid : RunState) × (first : List ℕ) × (rest : List ℕ) × (command ≢ Exit) × Replies task limits state words command mid first × RepliesAll task limits mid commands later rest × (text ≡ first ++ rest)

behind-behind : (first second : List ℕ) (answer : Answer) → behind first (behind second answer) ≡ behind (first ++ second) answer
behind-behind first second answer = ap (λ (bytes : List ℕ). record answer { bytes = bytes }) (sym (append_assoc first second answer.bytes))

module _ (task : Task) (limits : Limits) where
  pub replies_all-push : (commands : List (List Word)) (state mid later : RunState) (text more : List ℕ) (words : List Word) (command : syntax.Command)
      → command ≢ Exit → RepliesAll task limits state commands mid text → Replies task limits mid words command later more → RepliesAll task limits state (commands ++ words ∷ []) later (text ++ more)
  replies_all-push [] state mid later text more words command goes (is, none) replies =
      (command, later, more, [], goes, subst (λ (s : RunState). Replies task limits s words command later more) is replies, (refl, refl), ap (λ (t : List ℕ). t ++ more) none ∙ sym (append-nil more))
  replies_all-push (before ∷ commands) state mid later text more words command goes (first_command, next, first, rest, went, one, others, is) replies =
      (first_command, next, first, rest ++ more, went, one, replies_all-push commands next mid later rest more words command goes others replies, ap (λ (t : List ℕ). t ++ more) is ∙ append_assoc first rest more)

  -- what is answered behind the commands is answered behind their text
  answers_behind : (known : Bool) (commands : List (List Word)) (rest : Script) (state later : RunState) (text : List ℕ) (answer : Answer)
      → RepliesAll task limits state commands later text → IsAnswer task limits known rest later answer → IsAnswer task limits known (commands_then commands rest) state (behind text answer)
  unfolding IsAnswer
  answers_behind known [] rest state later text answer (is, none) answered =
      subst (λ (t : List ℕ). IsAnswer task limits known rest state (behind t answer)) (sym none) (subst (λ (s : RunState). IsAnswer task limits known rest s answer) is answered)
  answers_behind known (words ∷ commands) rest state later text answer (command, mid, first, others, goes, one, all, is) answered =
      inr (inr (command, mid, first, behind others answer, goes, one, answers_behind known commands rest mid later others answer all answered, ap (λ (t : List ℕ). behind t answer) is ∙ sym (behind-behind first others answer)))

  -- nothing is a front of each answer
  pub front_none : (known : Bool) (script : Script) (now : RunState) → IsAnswerFront task limits known script now []
  unfolding IsAnswerFront
  front_none known End now = refl
  front_none known (Fault fault) now = (_, refl)
  front_none known (Command words rest) now = inl refl

  -- a front of what is answered behind the commands, behind their text
  pub front_behind : (known : Bool) (commands : List (List Word)) (rest : Script) (state later : RunState) (text front : List ℕ)
      → RepliesAll task limits state commands later text → IsAnswerFront task limits known rest later front → IsAnswerFront task limits known (commands_then commands rest) state (text ++ front)
  unfolding IsAnswerFront
  front_behind known [] rest state later text front (is, none) begun =
      subst (λ (t : List ℕ). IsAnswerFront task limits known rest state (t ++ front)) (sym none) (subst (λ (s : RunState). IsAnswerFront task limits known rest s front) is begun)
  front_behind known (words ∷ commands) rest state later text front (command, mid, first, others, goes, one, all, is) begun =
      inr (inr (inr (command, mid, first, others ++ front, goes, one, front_behind known commands rest mid later others front all begun, ap (λ (t : List ℕ). t ++ front) is ∙ append_assoc first others front)))

  module _ (law : RunLaws) where
    -- what the commands leave is right
    pub right_after_all : (commands : List (List Word)) (state later : RunState) (text : List ℕ) → IsRight state → RepliesAll task limits state commands later text → IsRight later
    right_after_all [] state later text right (is, none) = subst IsRight (sym is) right
    right_after_all (words ∷ commands) state later text right (command, mid, first, others, goes, one, all, is) = right_after_all commands mid later others (right_after task limits law state words command mid first right one) all

    -- and only that is answered
    behind_only : (known : Bool) (commands : List (List Word)) (rest : Script) (state later : RunState) (text : List ℕ) (answer : Answer)
        → IsRight state → RepliesAll task limits state commands later text → IsAnswer task limits known (commands_then commands rest) state answer → (after : Answer) × IsAnswer task limits known rest later after × (answer ≡ behind text after)
    unfolding IsAnswer
    behind_only known [] rest state later text answer right (is, none) answered =
        (answer, subst (λ (s : RunState). IsAnswer task limits known rest s answer) (sym is) answered, ap (λ (t : List ℕ). behind t answer) (sym none))
    behind_only known (words ∷ commands) rest state later text answer right (command, mid, first, others, goes, one, all, is) (inl (line, refused, said)) = refused_replies task limits law state words line command mid first right refused one
    behind_only known (words ∷ commands) rest state later text answer right (command, mid, first, others, goes, one, all, is) (inr (inl (mid', first', replies, said))) =
        absurd (goes (replies_once task limits law state words command Exit mid mid' first first' right one replies).0)
    behind_only known (words ∷ commands) rest state later text answer right (command, mid, first, others, goes, one, all, is) (inr (inr (command', mid', first', after, went, replies, answered, said))) =
        let same = replies_once task limits law state words command' command mid' mid first' first right replies one in
        let inner = behind_only known commands rest mid later others after (right_after task limits law state words command mid first right one) all (subst (λ (s : RunState). IsAnswer task limits known (commands_then commands rest) s after) same.1 answered) in
        (inner.0, inner.1, said ∙ ap (λ (t : List ℕ). behind t after) same.2 ∙ ap (behind first) inner.2 ∙ behind-behind first others inner.0 ∙ ap (λ (t : List ℕ). behind t inner.0) (sym is))

-- The bytes taken so far are commands, all of which were answered; what comes of more goes on behind them.
pub record Reached (task : Task) (limits : Limits) (in0 in1 out0 out1 : Option (List ℕ)) (now : RunState) (rest : List ℕ → Script) : Type 0 where
  pub law : RunLaws
  pub taken : List ℕ
  pub given : Consumes in0 in1 taken
  pub commands : List (List Word)
  pub script_is : (more : List ℕ) → script_of limits (taken ++ more) ≡ commands_then commands (rest more)
  pub text : List ℕ
  pub wrote : Appended out0 out1 text
  pub replied : RepliesAll task limits (opening limits) commands now text

abbrev pub ahead : Reading → List ℕ → Script
ahead reader more = script reader (reader.held ++ more)

abbrev pub reached_start : RunLaws → (task : Task) (limits : Limits) (input out : Option (List ℕ)) → Reached task limits input input out out (opening limits) (ahead (start limits))
reached_start law task limits input out = record {
  law = law;
  taken = [];
  given = Consumes-none input;
  commands = [];
  script_is = λ more. refl;
  text = [];
  wrote = Appended-none out;
  replied = (refl, refl);
}

-- more bytes were taken
abbrev pub reached_read : (task : Task) (limits : Limits) (in0 in1 in2 out0 out1 : Option (List ℕ)) (now : RunState) (reader : Reading) (taken : List ℕ) → Reached task limits in0 in1 out0 out1 now (ahead reader)
    → Consumes in1 in2 taken → Reached task limits in0 in2 out0 out1 now (λ more. script reader ((reader.held ++ taken) ++ more))
reached_read task limits in0 in1 in2 out0 out1 now reader taken reached given = record {
  law = reached.law;
  taken = reached.taken ++ taken;
  given = Consumes-then in0 in1 in2 reached.taken taken reached.given given;
  commands = reached.commands;
  script_is = λ more. ap (script_of limits) (append_assoc reached.taken taken more) ∙ reached.script_is (taken ++ more)
      ∙ ap (λ (bytes : List ℕ). commands_then reached.commands (script reader bytes)) (sym (append_assoc reader.held taken more));
  text = reached.text;
  wrote = reached.wrote;
  replied = reached.replied;
}

-- a command was answered
abbrev pub reached_reply : (task : Task) (limits : Limits) (in0 in1 out0 out1 out2 : Option (List ℕ)) (now later : RunState) (words : List Word) (command : syntax.Command) (text : List ℕ) (rest next : List ℕ → Script)
    → Reached task limits in0 in1 out0 out1 now rest → ((more : List ℕ) → rest more ≡ Command words (next more)) → command ≢ Exit → Replies task limits now words command later text → Appended out1 out2 text → Reached task limits in0 in1 out0 out2 later next
reached_reply task limits in0 in1 out0 out1 out2 now later words command text rest next reached first goes replies wrote = record {
  law = reached.law;
  taken = reached.taken;
  given = reached.given;
  commands = reached.commands ++ words ∷ [];
  script_is = λ more. reached.script_is more ∙ ap (commands_then reached.commands) (first more) ∙ sym (commands_then-push reached.commands words (next more));
  text = reached.text ++ text;
  wrote = Appended-then out0 out1 out2 reached.text text reached.wrote wrote;
  replied = replies_all-push task limits reached.commands (opening limits) now later reached.text text words command goes reached.replied replies;
}

module _ (task : Task) (limits : Limits) (in0 in1 out0 out1 : Option (List ℕ)) (now : RunState) (rest : List ℕ → Script) (reached : Reached task limits in0 in1 out0 out1 now rest) where
  -- the script of the bytes taken
  pub at_taken : script_of limits reached.taken ≡ commands_then reached.commands (rest [])
  at_taken = ap (script_of limits) (sym (append-nil reached.taken)) ∙ reached.script_is []

  -- an answer to what is left is one to all behind the text
  pub answered : (known : Bool) (more : List ℕ) (answer : Answer) → IsAnswer task limits known (rest more) now answer → IsAnswer task limits known (script_of limits (reached.taken ++ more)) (opening limits) (behind reached.text answer)
  answered known more answer is =
      subst (λ (s : Script). IsAnswer task limits known s (opening limits) (behind reached.text answer)) (sym (reached.script_is more))
      (answers_behind task limits known reached.commands (rest more) (opening limits) now reached.text answer reached.replied is)

  pub answered_taken : (known : Bool) (answer : Answer) → IsAnswer task limits known (rest []) now answer → IsAnswer task limits known (script_of limits reached.taken) (opening limits) (behind reached.text answer)
  answered_taken known answer is =
      subst (λ (bytes : List ℕ). IsAnswer task limits known (script_of limits bytes) (opening limits) (behind reached.text answer)) (append-nil reached.taken) (answered known [] answer is)

  -- and there is no other
  pub answered_only : (known : Bool) (answer : Answer) → IsAnswer task limits known (script_of limits reached.taken) (opening limits) answer → (after : Answer) × IsAnswer task limits known (rest []) now after × (answer ≡ behind reached.text after)
  answered_only known answer is =
      behind_only task limits reached.law known reached.commands (rest []) (opening limits) now reached.text answer (right_opening reached.law limits) reached.replied (subst (λ (s : Script). IsAnswer task limits known s (opening limits) answer) at_taken is)

  -- where what is left is answered by this alone, so is all that was taken
  pub ends_only : (known : Bool) (end answer : Answer) → ((after : Answer) → IsAnswer task limits known (rest []) now after → after ≡ end) → IsAnswer task limits known (script_of limits reached.taken) (opening limits) answer → answer.ending ≡ end.ending
  ends_only known end answer only is = let inner = answered_only known answer is in ap (λ (a : Answer). a.ending) inner.2 ∙ ap (λ (a : Answer). a.ending) (only inner.0 inner.1)

  -- what stands is right
  pub right_now : IsRight now
  right_now = right_after_all task limits reached.law reached.commands (opening limits) now reached.text (right_opening reached.law limits) reached.replied

  -- a front of what answers what is left is one of all behind the text
  pub front_taken : (known : Bool) (front : List ℕ) → IsAnswerFront task limits known (rest []) now front → IsAnswerFront task limits known (script_of limits reached.taken) (opening limits) (reached.text ++ front)
  front_taken known front begun =
      subst (λ (s : Script). IsAnswerFront task limits known s (opening limits) (reached.text ++ front)) (sym at_taken)
      (front_behind task limits known reached.commands (rest []) (opening limits) now reached.text front reached.replied begun)

  -- what was written so far is a front of what is answered
  pub front_so_far : WroteFrontOf task limits false reached.taken out0 out1
  front_so_far = (
    reached.text,
    subst (IsAnswerFront task limits false (script_of limits reached.taken) (opening limits)) (append-nil reached.text) (front_taken false [] (front_none task limits false (rest []) now)),
    reached.wrote,
  )

  -- a run that stops here for want of memory
  pub no_memory : Answers task limits in0 in1 out0 out1 status.NoMemory
  no_memory = record {
    taken = reached.taken;
    given = reached.given;
    stands = inl front_so_far;
    error_so_far = λ answer is failed calm. absurd (calm.1 refl);
    error_at_end = λ answer is failed calm no_read. absurd (calm.1 refl);
  }

-- the endings are different
pub open_failed : {P : Type 0} → Open ≡ Failed → P
open_failed e = absurd (cc)

pub finished_failed : {P : Type 0} → Finished ≡ Failed → P
finished_failed e = absurd (cc)

module _ (task : Task) (limits : Limits) where
  -- where the bytes are open, nothing more is answered
  pub open_answer : (rest : Script) (now : RunState) → IsOpen rest → IsAnswer task limits false rest now (silence Open)
  unfolding IsAnswer
  open_answer End now is = refl
  open_answer (Fault (Unclosed place)) now is = refl
  open_answer (Fault (BadByte place)) now is = absurd is
  open_answer (Fault (Stray place)) now is = absurd is
  open_answer (Fault (TooDeep place)) now is = absurd is
  open_answer (Fault (TooLong place)) now is = absurd is
  open_answer (Command words rest) now is = absurd is

  pub open_only : (rest : Script) (now : RunState) → IsOpen rest → (after : Answer) → IsAnswer task limits false rest now after → after ≡ silence Open
  unfolding IsAnswer
  open_only End now is after answered = answered
  open_only (Fault (Unclosed place)) now is after answered = answered
  open_only (Fault (BadByte place)) now is after answered = absurd is
  open_only (Fault (Stray place)) now is after answered = absurd is
  open_only (Fault (TooDeep place)) now is after answered = absurd is
  open_only (Fault (TooLong place)) now is after answered = absurd is
  open_only (Command words rest) now is after answered = absurd is

  -- a fault that stands whatever comes is told
  pub fault_answer : (known : Bool) (byte : ByteFault) (now : RunState) → IsLasting byte → IsAnswer task limits known (Fault byte) now (failure (fault_line byte))
  unfolding IsAnswer
  fault_answer true byte now lasting = refl
  fault_answer false (BadByte place) now lasting = refl
  fault_answer false (Stray place) now lasting = refl
  fault_answer false (TooDeep place) now lasting = refl
  fault_answer false (TooLong place) now lasting = refl
  fault_answer false (Unclosed place) now lasting = absurd lasting

  -- and so is a command that is open where the input ends
  pub unclosed : (now : RunState) (place : Place) → IsAnswer task limits true (Fault (Unclosed place)) now (failure (fault_line (Unclosed place)))
  unfolding IsAnswer
  unclosed now place = refl

  pub end_answer : (now : RunState) → IsAnswer task limits true End now (silence Finished)
  unfolding IsAnswer
  end_answer now = refl

  pub end_only : (known : Bool) (now : RunState) (after : Answer) → IsAnswer task limits known End now after → after ≡ at_end known
  unfolding IsAnswer
  end_only known now after answered = answered

  pub refused_answer : (known : Bool) (words : List Word) (rest : Script) (now : RunState) (line : List ℕ) → IsRefused task now words line → IsAnswer task limits known (Command words rest) now (failure line)
  unfolding IsAnswer
  refused_answer known words rest now line refused = inl (line, refused, refl)

  -- `exit` ends each answer
  pub exit_answer : (known : Bool) (words : List Word) (rest : Script) (now later : RunState) (text : List ℕ) → Replies task limits now words Exit later text → IsAnswer task limits known (Command words rest) now (last text Finished)
  unfolding IsAnswer
  exit_answer known words rest now later text replies = inr (inl (later, text, replies, refl))

  -- fronts of the line of a fault that stands whatever comes
  pub fault_front : (known : Bool) (byte : ByteFault) (now : RunState) (front : List ℕ) → IsLasting byte → BeginsWith front (fault_line byte) → IsAnswerFront task limits known (Fault byte) now front
  unfolding IsAnswerFront
  fault_front true byte now front lasting begins = begins
  fault_front false (BadByte place) now front lasting begins = begins
  fault_front false (Stray place) now front lasting begins = begins
  fault_front false (TooDeep place) now front lasting begins = begins
  fault_front false (TooLong place) now front lasting begins = begins
  fault_front false (Unclosed place) now front lasting begins = absurd lasting

  -- of that of a command that is open where the input ends
  pub unclosed_front : (now : RunState) (place : Place) (front : List ℕ) → BeginsWith front (fault_line (Unclosed place)) → IsAnswerFront task limits true (Fault (Unclosed place)) now front
  unfolding IsAnswerFront
  unclosed_front now place front begins = begins

  -- of the line of a refusal
  pub refused_front : (known : Bool) (words : List Word) (rest : Script) (now : RunState) (line front : List ℕ) → IsRefused task now words line → BeginsWith front line → IsAnswerFront task limits known (Command words rest) now front
  unfolding IsAnswerFront
  refused_front known words rest now line front refused begins = inr (inl (line, refused, begins))

  -- and of a reply
  pub reply_front : (known : Bool) (words : List Word) (rest : Script) (now later : RunState) (command : syntax.Command) (text front : List ℕ) → Replies task limits now words command later text → BeginsWith front text → IsAnswerFront task limits known (Command words rest) now front
  unfolding IsAnswerFront
  reply_front known words rest now later command text front replies begins = inr (inr (inl (command, later, text, replies, begins)))
