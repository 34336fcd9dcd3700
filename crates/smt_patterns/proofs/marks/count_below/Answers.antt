use Rattle.std.proofs.Common.{ℕ, List, subst, sym, ltb, ltb-true, ltb-false, arith, rules, get_or}
use Rattle.std.specs.List.Sorted.{IsNonDecreasingBy}
use Rattle.std.proofs.lemmas.List.Sorted.{IsPartitionPoint-from_clause, IsPartitionedBy-ltb}
use Rattle.smt_patterns.proofs.PlaceLemmas.{ascend, count_is}
use Rattle.smt_patterns.proofs.marks.count_below.Goals as goal

pub returns-clause-is : goal.returns-clause-is
returns-clause-is c marks rows within are =
    let ascending = subst (λ (xs : List ℕ). IsNonDecreasingBy (λ (y : ℕ). y) xs) (sym are) (ascend rows marks) in
    let parted = IsPartitionedBy-ltb (λ (y : ℕ). y) c.args.places.now c.args.bound ascending in
    let point = IsPartitionPoint-from_clause (λ (y : ℕ). ltb y c.args.bound) c.args.places.now c.partition_point.result c.partition_point.ensures.partitioned parted (λ a r q k. search rules) in
    count_is rows c.args.bound c.partition_point.result marks c.args.places.now within are c.partition_point.ensures.bound
    (λ k below. ltb-true (get_or c.args.places.now k 0) c.args.bound (point.0 k 0 (omega arith) below))
    (λ k past stands. ltb-false (get_or c.args.places.now k 0) c.args.bound (point.1 k 0 past stands))
