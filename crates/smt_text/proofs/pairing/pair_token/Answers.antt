use Rattle.std.proofs.Common.{◌≡◌, ◌<◌, length, refl, sym, ◌∙◌, arith, subst, [], List, ℕ}
use Rattle.std.proofs.lemmas.List.{nil_from_length}
use Rattle.smt_text.specs.Pairing.{token_kinds, Paired}
use Rattle.smt_text.proofs.Pairs.{length-token_kinds, kind_at, whole_kinds, paired_left, paired_right, paired_other, none_open, bare-set}
use Rattle.smt_text.proofs.pairing.pair_token.Goals as goal

pub unreachable-requires : goal.unreachable-requires
unreachable-requires c =
    let there : c.args.i < length (token_kinds c.args.tokens.now) = omega (arith, length-token_kinds c.args.tokens.now, c.requires.within) in
    let none : c.args.lefts.now.items ≡ [] = nil_from_length c.args.lefts.now.items (grind (arith, c.in_default-pop.ensures.variant)) in
    none_open (token_kinds c.args.tokens.now) c.args.tokens.now c.args.i there (whole_kinds c.args.tokens.now c.requires.whole)
    (subst (λ (lefts : List ℕ). Paired (token_kinds c.args.tokens.now) c.args.tokens.now lefts c.args.i) none c.requires.paired)
    (kind_at c.args.tokens.now c.args.i _ c.requires.within ∙ c.in-Right.is)

pub returns-in_ok-push-in-Left-clause-paired : goal.returns-in_ok-push-in-Left-clause-paired
returns-in_ok-push-in-Left-clause-paired c =
    let there : c.args.i < length (token_kinds c.args.tokens.now) = omega (arith, length-token_kinds c.args.tokens.now, c.requires.within) in
    rw c.in_ok-push-in-Left.ensures.items (paired_left (token_kinds c.args.tokens.now) c.args.tokens.now c.args.i there c.args.lefts.now.items c.requires.paired
    (kind_at c.args.tokens.now c.args.i _ c.requires.within ∙ c.in-Left.is))

pub returns-in-Some-clause-paired : goal.returns-in-Some-clause-paired
returns-in-Some-clause-paired c =
    let there : c.args.i < length (token_kinds c.args.tokens.now) = omega (arith, length-token_kinds c.args.tokens.now, c.requires.within) in
    paired_right (token_kinds c.args.tokens.now) c.args.tokens.now c.args.i there c.pop.new.self.items c.in-Some.left
    (subst (λ (lefts : List ℕ). Paired (token_kinds c.args.tokens.now) c.args.tokens.now lefts c.args.i) c.in-Some.ensures.items c.requires.paired) _ _
    (sym (length-token_kinds c.args.tokens.now)) refl refl (kind_at c.args.tokens.now c.args.i _ c.requires.within ∙ c.in-Right.is)

pub returns-in-Some-clause-same : goal.returns-in-Some-clause-same
returns-in-Some-clause-same c = bare-set _ c.args.i c.in-Some.left _ ∙ bare-set c.args.tokens.now c.in-Some.left c.args.i _

pub returns-in_default : goal.returns-in_default
returns-in_default c =
    let there : c.args.i < length (token_kinds c.args.tokens.now) = omega (arith, length-token_kinds c.args.tokens.now, c.requires.within) in
    record {
      paired = paired_other (token_kinds c.args.tokens.now) c.args.tokens.now c.args.i there c.args.lefts.now.items _ c.requires.paired c.requires.within refl
          (λ is. c.in_default.not-Left (sym (kind_at c.args.tokens.now c.args.i _ c.requires.within) ∙ is))
          (λ is. c.in_default.not-Right (sym (kind_at c.args.tokens.now c.args.i _ c.requires.within) ∙ is));
      same = bare-set c.args.tokens.now c.args.i c.args.i _;
    }
