use Rattle.std.proofs.Common.{◌≡◌, ◌≢◌, true, false, List, ℕ, arith, sym, ◌∙◌, ap, subst, refl}
use Rattle.em_outside.specs.Bytes.{Appended}
use Rattle.smt_text.specs.Reading.{Reading}
use Rattle.smt_commands.specs.declared.command.Command.{Command}
use Rattle.smt_commands.specs.declared.command.Command.TheVariants.{Exit}
use Rattle.ematch_cli.specs.RunState.{RunState}
use Rattle.ematch_cli.specs.Run.{Replies}
use Rattle.ematch_cli.specs.Output.{opening}
use Rattle.ematch_cli.specs.Headline.{Answers, WroteFront}
use Rattle.ematch_cli.specs.WritesError.{WritesError}
use Rattle.ematch_cli.proofs.Reached.{Reached, ahead, reached_start, right_now}
use Rattle.ematch_cli.proofs.Exits.{done, outside, reply_memory, write_fault, next, exit, refused_command, refused_bytes}
use Rattle.ematch_cli.proofs.script.answer_all.Goals as goal

pub loop-tree-init : goal.loop-tree-init
loop-tree-init g c =
    let task = c.args.task in
    let limits = c.args.limits.now in
    let left = g.I.Source.left c.args.input.now in
    let written = g.O.Sink.written c.args.out.now in
    record {
      reached = subst (λ (now : RunState). Reached task limits left left written written now (ahead c.args.reader.now)) (sym c.requires.situation)
          (subst (λ (reader : Reading). Reached task limits left left written written (opening limits) (ahead reader)) (sym c.requires.reader)
          (reached_start c.run_law.ensures task limits left written));
      no_fault = ap (λ (r : Reading). r.fault) c.requires.reader;
      limits = ap (λ (r : Reading). r.limits) c.requires.reader;
      input_later = omega (arith);
      out_later = omega (arith);
      input_quiet = refl;
      out_quiet = refl;
    }

pub answer_command-requires-clause-tables : goal.answer_command-requires-clause-tables
answer_command-requires-clause-tables g c =
    (right_now c.args.task c.args.limits.now (g.I.Source.left c.args.input.now) (g.I.Source.left c.loop-tree.input) (g.O.Sink.written c.args.out.now) (g.O.Sink.written c.loop-tree.out)
    c.loop-tree.situation (ahead c.loop-tree.reader) c.loop-tree.invariant.reached).tables

pub answer_command-requires-clause-exact : goal.answer_command-requires-clause-exact
answer_command-requires-clause-exact g c =
    (right_now c.args.task c.args.limits.now (g.I.Source.left c.args.input.now) (g.I.Source.left c.loop-tree.input) (g.O.Sink.written c.args.out.now) (g.O.Sink.written c.loop-tree.out)
    c.loop-tree.situation (ahead c.loop-tree.reader) c.loop-tree.invariant.reached).exact

pub returns-then-not-write_text-clause-answers : goal.returns-then-not-write_text-clause-answers
returns-then-not-write_text-clause-answers g c =
    let read = rw c.in-Ok-Some.field-0-is at c.in-Ok-Some.ensures in
    let reply = c.in-Ok.ensures.ok in
    write_fault c.args.task c.args.limits.now (g.I.Source.left c.args.input.now) (g.I.Source.left c.loop-tree.input) (g.I.Source.left c.next_tree.new.source) (g.O.Sink.written c.args.out.now) (g.O.Sink.written c.loop-tree.out) (g.O.Sink.written c.write_text.new.out)
    c.loop-tree.situation c.loop-tree.reader c.next_tree.new.self c.loop-tree.invariant.reached c.in-Ok-Some.tree reply.command c.answer_command.new.situation c.in-Ok.reply.text.items
    (read.reads c.loop-tree.invariant.no_fault) reply.replies
    (subst (λ (text : List ℕ). WroteFront (g.O.Sink.written c.loop-tree.out) (g.O.Sink.written c.write_text.new.out) text) c.as_slice.ensures.value c.if-not-write_text.ensures.front.1)

pub returns-then-reply-clause-answers : goal.returns-then-reply-clause-answers
returns-then-reply-clause-answers g c =
    let read = rw c.in-Ok-Some.field-0-is at c.in-Ok-Some.ensures in
    let reply = c.in-Ok.ensures.ok in
    let replies = subst (λ (what : Command). Replies c.args.task c.args.limits.now c.loop-tree.situation c.in-Ok-Some.tree what c.answer_command.new.situation c.in-Ok.reply.text.items) (reply.exits.0 c.if-reply.true) reply.replies in
    exit c.args.task c.args.limits.now (g.I.Source.left c.args.input.now) (g.I.Source.left c.loop-tree.input) (g.I.Source.left c.next_tree.new.source) (g.O.Sink.written c.args.out.now) (g.O.Sink.written c.loop-tree.out) (g.O.Sink.written c.write_text.new.out)
    c.loop-tree.situation c.loop-tree.reader c.next_tree.new.self c.loop-tree.invariant.reached c.in-Ok-Some.tree c.answer_command.new.situation c.in-Ok.reply.text.items
    (read.reads c.loop-tree.invariant.no_fault) replies
    (subst (λ (text : List ℕ). Appended (g.O.Sink.written c.loop-tree.out) (g.O.Sink.written c.write_text.new.out) text) c.as_slice.ensures.value c.if-not-write_text.ensures.whole)

pub returns-in-Err-Refused-clause-answers : goal.returns-in-Err-Refused-clause-answers
returns-in-Err-Refused-clause-answers g c =
    let read = rw c.in-Ok-Some.field-0-is at c.in-Ok-Some.ensures in
    let writes = subst (λ (line : List ℕ). WritesError line (g.O.Sink.written c.loop-tree.out) (g.O.Sink.written c.refuse.new.out) c.refuse.result) c.as_slice-in-Err-Refused.ensures.value c.refuse.ensures.writes in
    refused_command c.args.task c.args.limits.now (g.I.Source.left c.args.input.now) (g.I.Source.left c.loop-tree.input) (g.I.Source.left c.next_tree.new.source) (g.O.Sink.written c.args.out.now) (g.O.Sink.written c.loop-tree.out) (g.O.Sink.written c.refuse.new.out)
    c.loop-tree.situation c.loop-tree.reader c.next_tree.new.self c.loop-tree.invariant.reached c.in-Ok-Some.tree c.in-Err-Refused.line.items c.refuse.result
    (read.reads c.loop-tree.invariant.no_fault) (rw c.in-Err-Refused.field-0-is at c.in-Err-Refused.ensures.refused)
    (rw c.in-Err-Refused.field-0-is at writes)

pub returns-in-Err-Memory-clause-answers : goal.returns-in-Err-Memory-clause-answers
returns-in-Err-Memory-clause-answers g c =
    let read = rw c.in-Ok-Some.field-0-is at c.in-Ok-Some.ensures in
    reply_memory c.args.task c.args.limits.now (g.I.Source.left c.args.input.now) (g.I.Source.left c.loop-tree.input) (g.I.Source.left c.next_tree.new.source) (g.O.Sink.written c.args.out.now) (g.O.Sink.written c.loop-tree.out) (g.O.Sink.written c.loop-tree.out)
    c.loop-tree.situation c.loop-tree.reader c.next_tree.new.self c.loop-tree.invariant.reached c.in-Ok-Some.tree (read.reads c.loop-tree.invariant.no_fault)

pub loop-tree-preserved : goal.loop-tree-preserved
loop-tree-preserved g c =
    let read = rw c.in-Ok-Some.field-0-is at c.in-Ok-Some.ensures in
    let given = (read.reads c.loop-tree.invariant.no_fault).answer in
    let reply = c.in-Ok.ensures.ok in
    let goes : reply.command ≢ Exit = λ same. let yes : c.in-Ok.reply.exits ≡ true = reply.exits.1 same in let no : c.in-Ok.reply.exits ≡ false = c.if-reply.false in absurd (cc) in
    record {
      reached =
          next c.args.task c.args.limits.now (g.I.Source.left c.args.input.now) (g.I.Source.left c.loop-tree.input) (g.I.Source.left c.next_tree.new.source) (g.O.Sink.written c.args.out.now) (g.O.Sink.written c.loop-tree.out) (g.O.Sink.written c.write_text.new.out)
          c.loop-tree.situation c.loop-tree.reader c.next_tree.new.self c.loop-tree.invariant.reached c.in-Ok-Some.tree reply.command c.answer_command.new.situation c.in-Ok.reply.text.items
          (read.reads c.loop-tree.invariant.no_fault) goes reply.replies
          (subst (λ (text : List ℕ). Appended (g.O.Sink.written c.loop-tree.out) (g.O.Sink.written c.write_text.new.out) text) c.as_slice.ensures.value c.if-not-write_text.ensures.whole);
      no_fault = ap (λ r. r.fault) given.moved;
      limits = ap (λ r. r.limits) given.moved ∙ c.loop-tree.invariant.limits;
      input_later = omega (arith, c.next_tree.ensures.later, c.loop-tree.invariant.input_later);
      out_later = omega (arith, c.write_text.ensures.later, c.loop-tree.invariant.out_later);
      input_quiet = read.calm c.loop-tree.invariant.no_fault ∙ c.loop-tree.invariant.input_quiet;
      out_quiet = c.if-not-write_text.ensures.quiet ∙ c.loop-tree.invariant.out_quiet;
    }

pub returns-in-Ok-None-clause-answers : goal.returns-in-Ok-None-clause-answers
returns-in-Ok-None-clause-answers g c =
    let read = rw c.in-Ok-None.field-0-is at c.in-Ok-None.ensures in
    done c.args.task c.args.limits.now (g.I.Source.left c.args.input.now) (g.I.Source.left c.loop-tree.input) (g.I.Source.left c.next_tree.new.source) (g.O.Sink.written c.args.out.now) (g.O.Sink.written c.loop-tree.out) (g.O.Sink.written c.loop-tree.out)
    c.loop-tree.situation c.loop-tree.reader c.next_tree.new.self c.loop-tree.invariant.reached (read.reads c.loop-tree.invariant.no_fault)

pub returns-in-Some-clause-answers : goal.returns-in-Some-clause-answers
returns-in-Some-clause-answers g c =
    refused_bytes c.args.task c.args.limits.now (g.I.Source.left c.args.input.now) (g.I.Source.left c.loop-tree.input) (g.I.Source.left c.next_tree.new.source) (g.O.Sink.written c.args.out.now) (g.O.Sink.written c.loop-tree.out) (g.O.Sink.written c.refuse_bytes.new.out)
    c.loop-tree.situation c.loop-tree.reader c.next_tree.new.self c.loop-tree.invariant.reached c.in-Err.fault c.in-Some.byte c.refuse_bytes.result
    (sym c.in_bytes.ensures ∙ c.in-Some.is) (c.in-Err.ensures.reads c.loop-tree.invariant.no_fault) c.refuse_bytes.ensures.writes

pub returns-in-None-clause-answers : goal.returns-in-None-clause-answers
returns-in-None-clause-answers g c =
    subst (λ s. Answers c.args.task c.args.limits.now (g.I.Source.left c.args.input.now) (g.I.Source.left c.next_tree.new.source) (g.O.Sink.written c.args.out.now) (g.O.Sink.written c.loop-tree.out) s) (sym c.outside.ensures.is)
    (outside c.args.task c.args.limits.now (g.I.Source.left c.args.input.now) (g.I.Source.left c.loop-tree.input) (g.I.Source.left c.next_tree.new.source) (g.O.Sink.written c.args.out.now) (g.O.Sink.written c.loop-tree.out) (g.O.Sink.written c.loop-tree.out)
    c.loop-tree.situation c.loop-tree.reader c.next_tree.new.self c.loop-tree.invariant.reached c.in-Err.fault (sym c.in_bytes.ensures ∙ c.in-None.is) (c.in-Err.ensures.reads c.loop-tree.invariant.no_fault))
