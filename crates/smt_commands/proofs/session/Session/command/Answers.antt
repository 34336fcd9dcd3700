use Rattle.std.proofs.Common.{◌≡◌, ◌+◌, List, [], Result, Err, refl, sym, ap, subst, ◌∙◌}
use Rattle.smt_text.specs.Word.{Word}
use Rattle.smt_text.specs.declared.token.Place.{Place}
use Rattle.smt_names.specs.declared.stop.Stop.{Stop}
use Rattle.smt_names.specs.declared.stop.Stop.TheVariants as stop
use Rattle.smt_names.specs.declared.refusal.Refusal.TheVariants.{BadForm}
use Rattle.smt_names.specs.declared.syntax_fault.SyntaxFault.{SyntaxFault}
use Rattle.smt_names.specs.Making.{fault_of}
use Rattle.smt_names.specs.Makes.{Refuses, StopsWith}
use Rattle.smt_names.specs.Names.{State}
use Rattle.smt_terms.specs.Reading.{Reading, Meaning, End, Token, Group}
use Rattle.smt_terms.specs.Terms.{list_value}
use Rattle.smt_terms.specs.Cursor.{word_at, trees_from}
use Rattle.smt_commands.specs.declared.command.Command.{Command}
use Rattle.smt_commands.specs.Answers.{Answers}
use Rattle.smt_commands.specs.Commands.{Answer, begun, command_at, command_of, elaborate, start}
use Rattle.smt_commands.proofs.Sound.{stays_sound}
use Rattle.smt_commands.proofs.SessionLaw.{keeps_sound}
use Rattle.smt_commands.proofs.session.Session.command.Goals as goal

-- what is elaborated is what stands from the first token on
module _ (state : State) (words : List Word) where
  from_first : (trees : Reading) → trees_from words 0 ≡ trees → elaborate state words ≡ begun state (command_at state trees)
  unfolding elaborate trees_from
  from_first trees is = ap (λ (t : Reading). begun state (command_at state t)) is

  first_refused : (stopped : Stop) (trees : Reading) (a b : Place) → trees_from words 0 ≡ trees → StopsWith stopped (fault_of BadForm a []) → a ≡ b → begun state (command_at state trees) ≡ Err (fault_of BadForm b []) → Refuses stopped (elaborate state words)
  first_refused stop.Memory trees a b is stops same refused = tt {0}
  first_refused (stop.Refused fault) trees a b is stops same refused = from_first trees is ∙ refused ∙ ap (λ (p : Place). Err (fault_of BadForm p [])) (sym same) ∙ ap Err (sym stops)

  list_answers : (inside new : State) (result : Result Command Stop) (place : Place) (meaning : Meaning) (inner after : Reading) → inside ≡ state → place ≡ (word_at words 0).place → trees_from words 0 ≡ Group (word_at words 0) meaning inner after
      → Answers result new (begun inside (command_of inside place inner)) → Answers result new (elaborate state words)
  list_answers inside new result place meaning inner after same at is answers = subst (λ (r : Result Answer SyntaxFault). Answers result new r)
      (ap (λ (s : State). begun s (command_of s place inner)) same ∙ ap (λ (p : Place). begun state (command_of state p inner)) at ∙ sym (from_first (Group (word_at words 0) meaning inner after) is)) answers

pub returns-in-End-clause-answer : goal.returns-in-End-clause-answer
returns-in-End-clause-answer c = first_refused c.args.self.now c.args.tree.now c.at.result End start start c.in-End.ensures c.at.ensures refl refl

pub returns-in-Token-clause-answer : goal.returns-in-Token-clause-answer
returns-in-Token-clause-answer c = first_refused c.args.self.now c.args.tree.now c.at-in-Token.result (Token (word_at c.args.tree.now 0) (trees_from c.args.tree.now (0 + 1))) c.place_at.result (word_at c.args.tree.now 0).place c.in-Token.ensures.is c.at-in-Token.ensures c.place_at.ensures refl

pub returns-in-List-clause-answer : goal.returns-in-List-clause-answer
returns-in-List-clause-answer c = list_answers c.args.self.now c.args.tree.now c.self.inside.state c.read_list.new.state c.read_list.result c.place_at-in-List.result (list_value (word_at c.args.tree.now 0) (trees_from c.args.tree.now (0 + 1))) (trees_from c.args.tree.now (0 + 1)) (trees_from c.args.tree.now c.in-List.after)
    c.self.view_is c.place_at-in-List.ensures c.in-List.ensures.is c.read_list.ensures.answer

pub invariant_of-self : goal.invariant_of-self
invariant_of-self c = stays_sound (keeps_sound c.formula_law.ensures c.definition_law.ensures.makes c.definition_law.ensures.keeps) c.self.inside.state c.read_list.new.state c.args.tree.now c.read_list.result c.self.invariant
    (list_answers c.self.inside.state c.args.tree.now c.self.inside.state c.read_list.new.state c.read_list.result c.place_at-in-List.result (list_value (word_at c.args.tree.now 0) (trees_from c.args.tree.now (0 + 1))) (trees_from c.args.tree.now (0 + 1)) (trees_from c.args.tree.now c.in-List.after)
    refl c.place_at-in-List.ensures c.in-List.ensures.is c.read_list.ensures.answer) c.read_list.ensures.err
