use Rattle.std.proofs.Common.{◌≡◌, ℕ, suc, ◌+◌, ◌*◌, ◌-◌, ◌^◌, ◌<◌, ◌≤◌, subst, sym, arith}
use Rattle.search_set.specs.Tree.{IsLeastFrom}
use Rattle.search_set.proofs.TreeLemmas.{IsDown, inner, down_first, down_more, down_last}
use Rattle.search_set.proofs.tree.first_mark.Goals as goal

pub loop-level-init : goal.loop-level-init
loop-level-init c =
    let e : c.args.height ≡ c.args.height - 0 = omega arith in
    let P : ℕ → Type 0 = λ b. IsDown c.args.marks.now c.args.height b 1 in
    record { counted = omega arith; down = subst P e (down_first c.args.marks.now c.args.height c.requires.some) }

pub first_below-at-requires-clause-within : goal.first_below-at-requires-clause-within
first_below-at-requires-clause-within c =
    let e : c.args.height - c.loop-level._level ≡ suc (c.args.height - (c.loop-level._level + 1)) = omega arith in
    let P : ℕ → Type 0 = λ b. IsDown c.args.marks.now c.args.height b c.loop-level.at in
    let down = subst P e c.loop-level.invariant.down in
    let lt = inner (c.args.height - (c.loop-level._level + 1)) c.loop-level.at (2 ^ c.args.height) down.high in
    omega (arith, lt, c.requires.tree.len)

pub first_below-at-requires-clause-fits : goal.first_below-at-requires-clause-fits
first_below-at-requires-clause-fits c =
    let e : c.args.height - c.loop-level._level ≡ suc (c.args.height - (c.loop-level._level + 1)) = omega arith in
    let P : ℕ → Type 0 = λ b. IsDown c.args.marks.now c.args.height b c.loop-level.at in
    let down = subst P e c.loop-level.invariant.down in
    let lt = inner (c.args.height - (c.loop-level._level + 1)) c.loop-level.at (2 ^ c.args.height) down.high in
    let few : 2 ^ c.args.height < 4294967296 = subst (λ (r : ℕ). r < 4294967296) c.requires.room c.requires.few in
    omega (arith, lt, few)

pub loop-level-preserved : goal.loop-level-preserved
loop-level-preserved c =
    let e : c.args.height - c.loop-level._level ≡ suc (c.args.height - (c.loop-level._level + 1)) = omega arith in
    let P : ℕ → Type 0 = λ b. IsDown c.args.marks.now c.args.height b c.loop-level.at in
    let Q : ℕ → Type 0 = λ at. IsDown c.args.marks.now c.args.height (c.args.height - (c.loop-level._level + 1)) at in
    record {
      counted = omega arith;
      down = subst Q (sym c.first_below-at.ensures) (down_more c.args.marks.now c.args.height (c.args.height - (c.loop-level._level + 1)) c.loop-level.at c.requires.tree (subst P e c.loop-level.invariant.down));
    }

pub overflow_sub-result : goal.overflow_sub-result
overflow_sub-result c =
    let e : c.args.height - c.loop-level._level ≡ 0 = omega arith in
    let P : ℕ → Type 0 = λ b. IsDown c.args.marks.now c.args.height b c.loop-level.at in
    let down = subst P e c.loop-level.invariant.down in
    let low : 2 ^ c.args.height ≤ c.loop-level.at = omega (arith, down.low) in
    omega (arith, low, c.requires.room)

pub returns-clause-within : goal.returns-clause-within
returns-clause-within c =
    let e : c.args.height - c.loop-level._level ≡ 0 = omega arith in
    let P : ℕ → Type 0 = λ b. IsDown c.args.marks.now c.args.height b c.loop-level.at in
    let down = subst P e c.loop-level.invariant.down in
    let low : 2 ^ c.args.height ≤ c.loop-level.at = omega (arith, down.low) in
    let high : c.loop-level.at + 1 ≤ 2 * 2 ^ c.args.height = omega (arith, down.high) in
    omega (arith, low, high, c.requires.room)

pub returns-clause-first : goal.returns-clause-first
returns-clause-first c =
    let e : c.args.height - c.loop-level._level ≡ 0 = omega arith in
    let P : ℕ → Type 0 = λ b. IsDown c.args.marks.now c.args.height b c.loop-level.at in
    let Q : ℕ → Type 0 = λ r. IsLeastFrom c.args.marks.now r (c.loop-level.at - r) in
    subst Q (sym c.requires.room) (down_last c.args.marks.now c.args.height c.loop-level.at (subst P e c.loop-level.invariant.down))
