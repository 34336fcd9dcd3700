use Rattle.std.proofs.Common.{◌≡◌, ◌<◌, ap, sym, ◌∙◌, subst, List, ℕ, [], ◌∷◌, length, All, Contains, append-nil}
use Rattle.std.proofs.lemmas.List.Elements.{All-contains}
use Rattle.graph_terms.specs.declared.term_row.TermRow.{TermRow}
use Rattle.graph_meaning.specs.declared.done.Done.{Done}
use Rattle.graph_meaning.specs.declared.op.Op.TheVariants.{Add as AddOp}
use Rattle.graph_terms.specs.Terms.{term_row}
use Rattle.graph_meaning.specs.Standing.{terms_of, merges_of, then_op}
use Rattle.graph_classes.specs.State.{State}
use Rattle.graph_classes.specs.History.{now}
use Rattle.graph_classes.specs.Indexed.{IsClosing}
use Rattle.graph_meaning.specs.Lawful.{EndsBelow}
use Rattle.graph_classes.proofs.AddLemmas.{IsIndexed-table}
use Rattle.graph_classes.proofs.AddStateLemmas.{indexed_six, listed_six, closing_six, rows_six, rows_as_two, limit_as_two, limit_six, log_six, IsListed-table, IsSignable-indexed}
use Rattle.graph_classes.proofs.OperationLemmas.{IsGood-after}
use Rattle.graph_classes.proofs.classes.Classes.try_add.Goals as goal

args_are_in : (rows : List TermRow) (log : List Done) (args : List ℕ) → rows ≡ terms_of log → All (λ arg. arg < length (terms_of log)) args → (x : ℕ) → Contains args x → x < length rows
args_are_in rows log args terms all x c = rw (ap length terms) (All-contains (λ arg. arg < length (terms_of log)) args x all c)

pub sign-requires-clause-signable : goal.sign-requires-clause-signable
sign-requires-clause-signable c = IsSignable-indexed (now c.list_parents.new.self) (indexed_six (now c.args.self.now) (now c.enter_done.new.self) (now c.add_row.new.self) (now c.add_uses.new.self) (now c.list_term.new.self) (now c.list_member.new.self) (now c.list_parents.new.self) _ (term_row c.args.symbol c.args.args.now) c.in_ok-term.term
    c.in_ok-enter_done.ensures.ok c.in_ok-term.ensures.term c.in_ok-term.ensures.ok c.in_ok-add_uses.ensures.ok c.in_ok-list_term.ensures.ok c.in_ok-list_member.ensures.more c.in_ok-list_member.ensures.listed c.in_ok-list_parents.ensures.more c.in_ok-list_parents.ensures.listed
    c.requires.good.indexed c.requires.good.listed (args_are_in c.args.self.now.parts.rows.rows c.args.self.now.parts.log c.args.args.now c.requires.good.terms c.requires.allowed.0))

pub settle-requires-clause-indexed : goal.settle-requires-clause-indexed
settle-requires-clause-indexed c = IsIndexed-table (now c.list_parents.new.self) (now c.sign.new.self) _ c.in_ok-sign.ensures.table_alone c.in_ok-sign.ensures.signable (indexed_six (now c.args.self.now) (now c.enter_done.new.self) (now c.add_row.new.self) (now c.add_uses.new.self) (now c.list_term.new.self) (now c.list_member.new.self) (now c.list_parents.new.self) _ (term_row c.args.symbol c.args.args.now) c.in_ok-term.term
    c.in_ok-enter_done.ensures.ok c.in_ok-term.ensures.term c.in_ok-term.ensures.ok c.in_ok-add_uses.ensures.ok c.in_ok-list_term.ensures.ok c.in_ok-list_member.ensures.more c.in_ok-list_member.ensures.listed c.in_ok-list_parents.ensures.more c.in_ok-list_parents.ensures.listed
    c.requires.good.indexed c.requires.good.listed (args_are_in c.args.self.now.parts.rows.rows c.args.self.now.parts.log c.args.args.now c.requires.good.terms c.requires.allowed.0))

pub settle-requires-clause-listed : goal.settle-requires-clause-listed
settle-requires-clause-listed c = IsListed-table (now c.list_parents.new.self) (now c.sign.new.self) _ c.in_ok-sign.ensures.table_alone (listed_six (now c.args.self.now) (now c.enter_done.new.self) (now c.add_row.new.self) (now c.add_uses.new.self) (now c.list_term.new.self) (now c.list_member.new.self) (now c.list_parents.new.self) _ (term_row c.args.symbol c.args.args.now) c.in_ok-term.term
    c.in_ok-enter_done.ensures.ok c.in_ok-term.ensures.term c.in_ok-term.ensures.ok c.in_ok-add_uses.ensures.ok c.in_ok-list_term.ensures.ok c.in_ok-list_member.ensures.more c.in_ok-list_member.ensures.listed c.in_ok-list_parents.ensures.more c.in_ok-list_parents.ensures.listed
    c.requires.good.indexed c.requires.good.listed (args_are_in c.args.self.now.parts.rows.rows c.args.self.now.parts.log c.args.args.now c.requires.good.terms c.requires.allowed.0))

pub settle-requires-clause-pending_in : goal.settle-requires-clause-pending_in
settle-requires-clause-pending_in c =
    let P : ℕ → Type 0 = λ n. EndsBelow c.sign.new.pending.items n in
    subst P (sym (ap (λ (s : State). length s.rows) c.in_ok-sign.ensures.table_alone)) c.in_ok-sign.ensures.pending_in

pub returns-clause-good : goal.returns-clause-good
returns-clause-good c =
    let s = now c.args.self.now in
    let new = now c.settle.new.self in
    let alone = c.in_ok-sign.ensures.table_alone in
    let rows = c.in_ok-unions.ensures.rows ∙ ap (λ (m : State). m.rows) alone in
    let limit = c.in_ok-unions.ensures.limit ∙ ap (λ (m : State). m.limit) alone in
    let log = c.in_ok-unions.ensures.log ∙ ap (λ (m : State). m.log) alone in
    let P : List (ℕ × ℕ) → Type 0 = λ ps. IsClosing (merges_of s.log) (now c.list_parents.new.self) ps (c.in_ok-term.term ∷ []) in
    let signed = c.in_ok-sign.ensures.closing (merges_of s.log) [] (subst P (sym c.new-pending.ensures.items) (closing_six (now c.args.self.now) (now c.enter_done.new.self) (now c.add_row.new.self) (now c.add_uses.new.self) (now c.list_term.new.self) (now c.list_member.new.self) (now c.list_parents.new.self) _ (term_row c.args.symbol c.args.args.now) c.in_ok-term.term
    c.in_ok-enter_done.ensures.ok c.in_ok-term.ensures.term c.in_ok-term.ensures.ok c.in_ok-add_uses.ensures.ok c.in_ok-list_term.ensures.ok c.in_ok-list_member.ensures.more c.in_ok-list_member.ensures.listed c.in_ok-list_parents.ensures.more c.in_ok-list_parents.ensures.listed
    c.requires.good.indexed c.requires.good.listed (args_are_in c.args.self.now.parts.rows.rows c.args.self.now.parts.log c.args.args.now c.requires.good.terms c.requires.allowed.0) (merges_of s.log) c.requires.good.closed)) in
    let Q : List (ℕ × ℕ) → Type 0 = λ merges. IsClosing merges new [] [] in
    IsGood-after s new c.args.serial (AddOp c.args.symbol c.args.args.now) c.requires.good c.requires.allowed
    (record {
      rows = rows ∙ rows_six (now c.args.self.now) (now c.enter_done.new.self) (now c.add_row.new.self) (now c.add_uses.new.self) (now c.list_term.new.self) (now c.list_member.new.self) (now c.list_parents.new.self) _ (term_row c.args.symbol c.args.args.now) c.in_ok-term.term
          c.in_ok-enter_done.ensures.ok c.in_ok-term.ensures.term c.in_ok-term.ensures.ok c.in_ok-add_uses.ensures.ok c.in_ok-list_term.ensures.ok c.in_ok-list_member.ensures.more c.in_ok-list_member.ensures.listed c.in_ok-list_parents.ensures.more c.in_ok-list_parents.ensures.listed
          c.requires.good.indexed c.requires.good.listed (args_are_in c.args.self.now.parts.rows.rows c.args.self.now.parts.log c.args.args.now c.requires.good.terms c.requires.allowed.0);
      limit = limit ∙ limit_six (now c.args.self.now) (now c.enter_done.new.self) (now c.add_row.new.self) (now c.add_uses.new.self) (now c.list_term.new.self) (now c.list_member.new.self) (now c.list_parents.new.self) _ (term_row c.args.symbol c.args.args.now) c.in_ok-term.term
          c.in_ok-enter_done.ensures.ok c.in_ok-term.ensures.term c.in_ok-term.ensures.ok c.in_ok-add_uses.ensures.ok c.in_ok-list_term.ensures.ok c.in_ok-list_member.ensures.more c.in_ok-list_member.ensures.listed c.in_ok-list_parents.ensures.more c.in_ok-list_parents.ensures.listed
          c.requires.good.indexed c.requires.good.listed (args_are_in c.args.self.now.parts.rows.rows c.args.self.now.parts.log c.args.args.now c.requires.good.terms c.requires.allowed.0);
      log = log ∙ log_six (now c.args.self.now) (now c.enter_done.new.self) (now c.add_row.new.self) (now c.add_uses.new.self) (now c.list_term.new.self) (now c.list_member.new.self) (now c.list_parents.new.self) _ (term_row c.args.symbol c.args.args.now) c.in_ok-term.term
          c.in_ok-enter_done.ensures.ok c.in_ok-term.ensures.term c.in_ok-term.ensures.ok c.in_ok-add_uses.ensures.ok c.in_ok-list_term.ensures.ok c.in_ok-list_member.ensures.more c.in_ok-list_member.ensures.listed c.in_ok-list_parents.ensures.more c.in_ok-list_parents.ensures.listed
          c.requires.good.indexed c.requires.good.listed (args_are_in c.args.self.now.parts.rows.rows c.args.self.now.parts.log c.args.args.now c.requires.good.terms c.requires.allowed.0) ∙ ap (λ row_args. then_op s.log c.args.serial (AddOp c.args.symbol row_args)) c.in_ok-row_args.ensures;
    })
    (rw (
      rows ∙ rows_as_two (now c.args.self.now) (now c.enter_done.new.self) (now c.add_row.new.self) (now c.add_uses.new.self) (now c.list_term.new.self) (now c.list_member.new.self) (now c.list_parents.new.self) _ (term_row c.args.symbol c.args.args.now) c.in_ok-term.term
          c.in_ok-enter_done.ensures.ok c.in_ok-term.ensures.term c.in_ok-term.ensures.ok c.in_ok-add_uses.ensures.ok c.in_ok-list_term.ensures.ok c.in_ok-list_member.ensures.more c.in_ok-list_member.ensures.listed c.in_ok-list_parents.ensures.more c.in_ok-list_parents.ensures.listed
          c.requires.good.indexed c.requires.good.listed (args_are_in c.args.self.now.parts.rows.rows c.args.self.now.parts.log c.args.args.now c.requires.good.terms c.requires.allowed.0),
      limit ∙ limit_as_two (now c.args.self.now) (now c.enter_done.new.self) (now c.add_row.new.self) (now c.add_uses.new.self) (now c.list_term.new.self) (now c.list_member.new.self) (now c.list_parents.new.self) _ (term_row c.args.symbol c.args.args.now) c.in_ok-term.term
          c.in_ok-enter_done.ensures.ok c.in_ok-term.ensures.term c.in_ok-term.ensures.ok c.in_ok-add_uses.ensures.ok c.in_ok-list_term.ensures.ok c.in_ok-list_member.ensures.more c.in_ok-list_member.ensures.listed c.in_ok-list_parents.ensures.more c.in_ok-list_parents.ensures.listed
          c.requires.good.indexed c.requires.good.listed (args_are_in c.args.self.now.parts.rows.rows c.args.self.now.parts.log c.args.args.now c.requires.good.terms c.requires.allowed.0),
    ) c.in_ok-term.ensures.within)
    c.in_ok-unions.ensures.indexed c.in_ok-unions.ensures.listed
    (subst Q (sym (append-nil (merges_of s.log))) (c.in_ok-unions.ensures.closed (merges_of s.log) signed))
