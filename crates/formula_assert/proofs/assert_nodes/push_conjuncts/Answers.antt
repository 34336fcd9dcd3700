use Rattle.std.proofs.Common.{◌≡◌, ℕ, ◌+◌, ◌-◌, ◌<◌, ◌++◌, ◌∷◌, [], List, length, take, reverse, slice_get, get_or, Some, sym, ap, ◌∙◌, append_assoc, arith}
use Rattle.std.proofs.lemmas.List.{length-reverse, get_or-reverse}
use Rattle.std.proofs.lemmas.Option.{slice_get-get_or, get_or_from_slice_get}
use Rattle.graph_terms.proofs.ListLaws.{take-slice_get}
use Rattle.formula_assert.proofs.assert_nodes.push_conjuncts.Goals as goal

-- one more part from the back
next_part : (parts before here after : List ℕ) (count i part : ℕ) → count ≡ length parts → i < count → slice_get parts (count - 1 - i) ≡ Some part → here ≡ before ++ take i (reverse parts) → after ≡ here ++ part ∷ [] → after ≡ before ++ take (i + 1) (reverse parts)
next_part parts before here after count i part all less at so_far put =
    let within : i < length parts = omega arith in
    let place : length parts - 1 - i ≡ count - 1 - i = omega arith in
    let long : i < length (reverse parts) = omega (arith, length-reverse parts) in
    let turned : slice_get (reverse parts) i ≡ Some part =
    slice_get-get_or (reverse parts) i 0 long ∙ ap Some (get_or-reverse parts i 0 within ∙ ap (λ (k : ℕ). get_or parts k 0) place ∙ get_or_from_slice_get parts (count - 1 - i) part 0 at) in
    put ∙ ap (λ (list : List ℕ). list ++ part ∷ []) so_far ∙ append_assoc before (take i (reverse parts)) (part ∷ []) ∙ ap (λ (list : List ℕ). before ++ list) (sym (take-slice_get (reverse parts) i part turned))

pub loop-i-preserved : goal.loop-i-preserved
loop-i-preserved c = next_part c.in-And.parts c.args.work.now.items c.loop-i.work.items c.push_number.new.numbers.items c.len-count.result c.loop-i.i c.get.result c.len-count.ensures c.loop-i-test.true c.get.ensures.value c.loop-i.invariant c.in_ok-push_number.ensures
