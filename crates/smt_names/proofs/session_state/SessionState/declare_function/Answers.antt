use Rattle.std.proofs.Common.{◌≡◌, ℕ, List, None, sym, subst}
use Rattle.smt_names.specs.declared.head.Head.TheVariants as head
use Rattle.smt_names.specs.Entries.{place_of}
use Rattle.smt_names.specs.Names.{State, head_of}
use Rattle.smt_names.proofs.StateLemmas.{no_function}
use Rattle.smt_names.proofs.session_state.SessionState.declare_function.Goals as goal

pub put-requires : goal.put-requires
put-requires c = subst (λ (name : List ℕ). place_of name c.self.inside.functions.entries ≡ None) (sym c.in_ok-key.ensures.items)
    (no_function c.self.inside c.args.name.now (subst (λ (state : State). head_of state c.args.name.now ≡ head.Unknown) (sym c.self.view_is) c.requires))
