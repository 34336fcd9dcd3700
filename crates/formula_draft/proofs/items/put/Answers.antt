use Rattle.std.proofs.Common.{◌≡◌, ◌<◌, ◌≤◌, ℕ, true, false, cond, nat_lt, ◌∷◌, [], ◌++◌, length, Some, None, refl, sym, ap, ◌∙◌, arith}
use Rattle.formula_draft.specs.Items.{item_or_new}
use Rattle.formula_draft.proofs.ItemLaws.{place}
use Rattle.formula_draft.proofs.items.put.Goals as goal

lt_true : (m n : ℕ) → m < n → nat_lt m n ≡ true
lt_true m n h = grind arith

lt_false : (m n : ℕ) → n ≤ m → nat_lt m n ≡ false
lt_false m n h = grind arith

pub returns-in-Some-clause-ok : goal.returns-in-Some-clause-ok
returns-in-Some-clause-ok g c = ap (item_or_new c.args.most (c.args.key, c.args.item) c.args.items.now.entries) (place c.args.key c.args.item c.args.items.now.entries ∙ sym c.in-Some.ensures.index)

pub returns-then-n-most-clause-ok : goal.returns-then-n-most-clause-ok
returns-then-n-most-clause-ok g c = (
  ap (item_or_new c.args.most (c.args.key, c.args.item) c.args.items.now.entries) (place c.args.key c.args.item c.args.items.now.entries ∙ sym c.in_default.ensures.index)
      ∙ ap (λ b. cond b (Some (length c.args.items.now.entries, c.args.items.now.entries ++ (c.args.key, c.args.item) ∷ [])) None) (lt_false _ _ (omega (arith, c.len-n.ensures.len))),
  refl,
)

pub put_last-requires : goal.put_last-requires
put_last-requires g c = place c.args.key c.args.item c.args.items.now.entries ∙ sym c.in_default.ensures.index

pub returns-clause-ok : goal.returns-clause-ok
returns-clause-ok g c =
    ap (item_or_new c.args.most (c.args.key, c.args.item) c.args.items.now.entries) (place c.args.key c.args.item c.args.items.now.entries ∙ sym c.in_default.ensures.index)
    ∙ ap (λ b. cond b (Some (length c.args.items.now.entries, c.args.items.now.entries ++ (c.args.key, c.args.item) ∷ [])) None) (lt_true (length c.args.items.now.entries) c.args.most (omega (arith, c.len-n.ensures.len)))
    ∙ (let len : length c.args.items.now.entries ≡ c.len-n.result = sym c.len-n.ensures.len in let grew = c.in_ok-put_last.ensures.ok in cc)
