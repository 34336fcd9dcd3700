use Rattle.std.proofs.Common.{◌≡◌, ℕ, ◌*◌, ◌^◌, ◌≤◌, ◌-◌, ◌%◌, false, List, Bool, replicate, drop, ap, sym, subst, ◌∙◌, arith, lit<}
use Rattle.std.proofs.lemmas.Nat.{one_shl}
use Rattle.std.proofs.lemmas.List.{drop-replicate}
use Rattle.std.proofs.Math.Nat.{pow-le-pow_right}
use Rattle.search_set.specs.Tree.{IsTree}
use Rattle.search_set.proofs.TreeLemmas.{tree_none}
use Rattle.search_set.proofs.least_set.LeastSet.new.Goals as goal

pub invariant_of-result : goal.invariant_of-result
invariant_of-result c =
    let room = one_shl c.args.height 64 (omega arith) in
    let all = c.loop.invariant.0 in
    let count : c.loop.counter ≡ 2 * 2 ^ c.args.height = omega (arith, room) in
    let marks = all ∙ ap (λ (k : ℕ). replicate k false) count in
    let P : List Bool → Type 0 = λ marks. IsTree marks c.args.height in
    record { tree = subst P (sym marks) (tree_none c.args.height); room = room; few = let small : 2 ^ c.args.height ≤ 2 ^ 31 = pow-le-pow_right {n = 2} (lit< tt) {i = c.args.height} {j = 31} (omega arith) in omega (arith, room, small) }

pub returns : goal.returns
returns c =
    let room = one_shl c.args.height 64 (omega arith) in
    let all = c.loop.invariant.0 in
    let count : c.loop.counter ≡ 2 * 2 ^ c.args.height = omega (arith, room) in
    let marks = all ∙ ap (λ (k : ℕ). replicate k false) count in
    let less : 2 * 2 ^ c.args.height - 2 ^ c.args.height ≡ 2 ^ c.args.height = omega arith in
    ap (λ (xs : List Bool). drop ((1 * 2 ^ c.args.height) % 2 ^ 64) xs) marks ∙ ap (λ (r : ℕ). drop r (replicate (2 * 2 ^ c.args.height) false)) room ∙ drop-replicate (2 ^ c.args.height) (2 * 2 ^ c.args.height) false ∙ ap (λ (k : ℕ). replicate k false) less
