use Rattle.std.proofs.Common.{◌≡◌, ◌≤◌, length, reverse}
use Rattle.formula_draft.specs.Draft.{Draft}
use Rattle.smt_names.specs.Names.{State}
use Rattle.smt_terms.specs.declared.inside.Inside.{Inside}
use Rattle.smt_terms.specs.Machine.{given_to, work_of, base_of}
use Rattle.smt_terms.proofs.giving.give.Given as goal

-- giving the value here leaves what giving it at the beginning did
abbrev pub invariant-loop-memory : goal.invariant-loop-memory
invariant-loop-memory l = record {
  same : (state : State) (inside : Inside) (draft : Draft) → given_to l.tree state inside l.fn.frames.items l.fn.bound l.next l.fn.arg.place l.value draft ≡ given_to l.tree state inside l.frames.items l.bound l.i l.at l.value draft;
  base : base_of (reverse l.frames.items) l.bound ≡ base_of (reverse l.fn.frames.items) l.fn.bound;
  less : work_of l.tree l.frames.items l.i ≤ work_of l.tree l.fn.frames.items l.next;
}

abbrev pub decreases-loop-memory : goal.decreases-loop-memory
decreases-loop-memory l = length l.frames.items
