use Rattle.std.proofs.Common.{◌≡◌, ◌+◌, ◌-◌, length, sym, ◌∙◌, arith, subst, List, ℕ}
use Rattle.smt_text.specs.Pairing.{token_kinds, Paired, HasPartner}
use Rattle.smt_text.specs.Partners.{Closes}
use Rattle.smt_text.specs.declared.token.Kind.{Kind}
use Rattle.smt_text.proofs.Pairs.{length-token_kinds, whole_kinds, same_kinds, all_paired}
use Rattle.smt_text.proofs.pairing.pair.Goals as goal

pub pair_token-requires-clause-whole : goal.pair_token-requires-clause-whole
pair_token-requires-clause-whole c =
    let same : token_kinds c.args.tokens.now ≡ token_kinds c.loop-i.tokens = sym (same_kinds c.loop-i.tokens c.args.tokens.now c.loop-i.invariant.same) in
    let few : length c.args.tokens.now ≡ length c.loop-i.tokens = omega (arith, c.loop-i.auto.tokens) in
    subst (λ (ks : List Kind). Closes ks 0 (length c.loop-i.tokens - 1)) same (subst (λ (n : ℕ). Closes (token_kinds c.args.tokens.now) 0 (n - 1)) few c.requires.whole)

pub pair_token-requires-clause-paired : goal.pair_token-requires-clause-paired
pair_token-requires-clause-paired c =
    let same : token_kinds c.args.tokens.now ≡ token_kinds c.loop-i.tokens = sym (same_kinds c.loop-i.tokens c.args.tokens.now c.loop-i.invariant.same) in
    subst (λ (ks : List Kind). Paired ks c.loop-i.tokens c.loop-i.lefts.items c.loop-i.i) same c.loop-i.invariant.paired

pub loop-i-preserved : goal.loop-i-preserved
loop-i-preserved c =
    let same : token_kinds c.loop-i.tokens ≡ token_kinds c.args.tokens.now = same_kinds c.loop-i.tokens c.args.tokens.now c.loop-i.invariant.same in
    record {
      paired = subst (λ (ks : List Kind). Paired ks c.pair_token.new.tokens c.pair_token.new.lefts.items (c.loop-i.i + 1)) same c.in_ok-pair_token.ensures.paired;
      same = c.in_ok-pair_token.ensures.same ∙ c.loop-i.invariant.same;
    }

pub returns-clause-paired : goal.returns-clause-paired
returns-clause-paired c = λ i less.
    let same : token_kinds c.args.tokens.now ≡ token_kinds c.loop-i.tokens = sym (same_kinds c.loop-i.tokens c.args.tokens.now c.loop-i.invariant.same) in
    subst (λ (ks : List Kind). HasPartner ks c.loop-i.tokens i) same
    (all_paired (token_kinds c.args.tokens.now) c.loop-i.tokens c.loop-i.lefts.items c.loop-i.i (omega (arith, length-token_kinds c.args.tokens.now))
    (whole_kinds c.args.tokens.now c.requires.whole) c.loop-i.invariant.paired i (omega (arith, length-token_kinds c.args.tokens.now, less, c.loop-i.auto.tokens)))
