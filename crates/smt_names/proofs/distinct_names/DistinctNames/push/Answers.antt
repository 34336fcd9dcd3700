use Rattle.std.proofs.Common.{◌≡◌, ℕ, List, None, sym, ap, subst, ◌∙◌, bytes_eq}
use Rattle.std.specs.List.{list_any}
use Rattle.smt_names.specs.Entries.{place_of, name_of}
use Rattle.smt_names.proofs.BoundLemmas.{no_place}
use Rattle.smt_names.proofs.EntryLemmas.{position_mapped}
use Rattle.smt_names.proofs.distinct_names.DistinctNames.push.Goals as goal

pub put-requires : goal.put-requires
put-requires c = subst (λ (name : List ℕ). place_of name c.self.inside.names.entries ≡ None) (sym c.in_ok-key.ensures.items)
    (sym (position_mapped name_of (bytes_eq c.args.name.now) c.self.inside.names.entries 0)
    ∙ no_place (bytes_eq c.args.name.now) _ 0 (ap (list_any (bytes_eq c.args.name.now)) c.self.view_is ∙ c.requires))
