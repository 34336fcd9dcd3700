use Rattle.std.proofs.Common.{◌∙◌, ◌+◌, nat_le, sym, ℕ, length}
use Rattle.std.proofs.lemmas.Result.{err_from_is_err_and}
use Rattle.smt_terms.specs.Cursor.{trees_from}
use Rattle.smt_names.specs.Making.{gives, must_hold, ◌>>◌}
use Rattle.smt_names.specs.declared.refusal.Refusal.TheVariants.{LevelsFull}
use Rattle.smt_terms.specs.Reading.{first_place}
use Rattle.smt_commands.specs.Commands.{level_form}
use Rattle.smt_commands.proofs.Steps.{refused_first, refused_after, made_after, unwanted, wanted}
use Rattle.smt_commands.proofs.levels.push_count_at.Goals as goal

pub returns-in_err-count-clause-form : goal.returns-in_err-count-clause-form
returns-in_err-count-clause-form c draft =
    let p = err_from_is_err_and c.from_residual.result c.from_residual.ensures.1 in rw (p.1, p.2)
    (refused_first (λ (n : ℕ). must_hold (nat_le (length c.args.state.now.levels + n) c.args.state.now.limits.levels) LevelsFull (first_place c.args.head (trees_from c.args.tree.now c.args.i)) >> gives n) c.in_err-count.field-0.0 (level_form c.args.head (trees_from c.args.tree.now c.args.i) draft) (c.in_err-count.ensures draft))

pub returns-then-has_room-clause-form : goal.returns-then-has_room-clause-form
returns-then-has_room-clause-form c draft = made_after (λ (n : ℕ). must_hold (nat_le (length c.args.state.now.levels + n) c.args.state.now.limits.levels) LevelsFull (first_place c.args.head (trees_from c.args.tree.now c.args.i)) >> gives n) (level_form c.args.head (trees_from c.args.tree.now c.args.i) draft) c.in_ok-count.count draft (c.in_ok-count.ensures draft)
    ∙ made_after (λ (_ : Unit {0}). gives c.in_ok-count.count) (must_hold (nat_le (length c.args.state.now.levels + c.in_ok-count.count) c.args.state.now.limits.levels) LevelsFull (first_place c.args.head (trees_from c.args.tree.now c.args.i)) draft) tt draft (wanted (nat_le (length c.args.state.now.levels + c.in_ok-count.count) c.args.state.now.limits.levels) LevelsFull (first_place c.args.head (trees_from c.args.tree.now c.args.i)) draft (sym c.has_room.ensures ∙ c.if-has_room.true))

pub returns-else-has_room-clause-form : goal.returns-else-has_room-clause-form
returns-else-has_room-clause-form c draft = refused_after (λ (n : ℕ). must_hold (nat_le (length c.args.state.now.levels + n) c.args.state.now.limits.levels) LevelsFull (first_place c.args.head (trees_from c.args.tree.now c.args.i)) >> gives n) c.at.result (level_form c.args.head (trees_from c.args.tree.now c.args.i) draft) c.in_ok-count.count draft (c.in_ok-count.ensures draft)
    (refused_first (λ (_ : Unit {0}). gives c.in_ok-count.count) c.at.result (must_hold (nat_le (length c.args.state.now.levels + c.in_ok-count.count) c.args.state.now.limits.levels) LevelsFull (first_place c.args.head (trees_from c.args.tree.now c.args.i)) draft)
    (unwanted c.at.result (nat_le (length c.args.state.now.levels + c.in_ok-count.count) c.args.state.now.limits.levels) LevelsFull c.first_place_at-place.result (first_place c.args.head (trees_from c.args.tree.now c.args.i)) draft c.at.ensures c.first_place_at-place.ensures (sym c.has_room.ensures ∙ c.if-has_room.false)))
