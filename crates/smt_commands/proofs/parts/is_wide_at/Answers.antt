use Rattle.std.proofs.Common.{ap, ◌∙◌, List, ℕ}
use Rattle.smt_text.specs.declared.token.Kind.{Kind}
use Rattle.smt_names.specs.Names.{is_wide, word_of}
use Rattle.smt_terms.specs.Cursor.{word_at}
use Rattle.smt_commands.proofs.parts.is_wide_at.Goals as goal

pub returns : goal.returns
returns c = let w = word_at c.args.tree.now c.args.i in
    c.is_wide.ensures w.place ∙ ap (λ (k : Kind). is_wide (word_of k w.place c.text_at.result.now)) c.kind_at.ensures ∙ ap (λ (t : List ℕ). is_wide (word_of w.kind w.place t)) c.text_at.ensures
