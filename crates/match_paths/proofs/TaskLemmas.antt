-- Equal tasks.
use Rattle.std.proofs.Common.{◌≡◌, ℕ, true, arith, ap₂}
use Rattle.std.proofs.lemmas.Grind.{common_steps}
use Rattle.match_paths.specs.declared.task.Task.{Task}
use Rattle.match_paths.specs.declared.claim_key.ClaimKey.{ClaimKey}
use Rattle.match_paths.specs.contracts.task.TaskPartialEq.TheImpl.{eq-value}
use Rattle.match_paths.specs.contracts.claim_key.ClaimKeyPartialEq.TheImpl.{eq-value as key_eq}

-- the derived test tells whether two tasks are one
pub same_task : (x y : Task) → eq-value.it x y ≡ true → x ≡ y
same_task x y h = let node : x.node ≡ y.node = grind (arith, common_steps) in let class : x.class ≡ y.class = grind (arith, common_steps) in ap₂ (λ n k. record { node = n; class = k }) node class

-- and whether two keys are
pub same_key : (x y : ClaimKey) → key_eq.it x y ≡ true → x ≡ y
same_key x y h =
    let trigger : x.trigger ≡ y.trigger = grind (arith, common_steps) in
    let start : x.start ≡ y.start = grind (arith, common_steps) in
    let root : x.root ≡ y.root = grind (arith, common_steps) in
    ap₂ (λ (a : ℕ × ℕ) k. record { trigger = a.0; start = a.1; root = k }) (ap₂ (λ a b. (a, b)) trigger start) root

pub key_itself : (x : ClaimKey) → key_eq.it x x ≡ true
key_itself x = grind (arith, common_steps)
