use Rattle.std.proofs.Common.{◌≡◌, ℕ, List, None, sym, subst}
use Rattle.smt_names.specs.Entries.{place_of}
use Rattle.smt_names.specs.Names.{State, sort_number}
use Rattle.smt_names.proofs.StateLemmas.{no_sort}
use Rattle.smt_names.proofs.session_state.SessionState.declare_sort.Goals as goal

pub put-requires : goal.put-requires
put-requires c = subst (λ (name : List ℕ). place_of name c.self.inside.sorts.entries ≡ None) (sym c.in_ok-key.ensures.items)
    (no_sort c.self.inside c.args.name.now (subst (λ (state : State). sort_number state c.args.name.now ≡ None) (sym c.self.view_is) c.requires))
