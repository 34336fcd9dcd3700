use Rattle.std.proofs.Common.{◌∙◌, sym, ap, bytes_eq, List, ℕ}
use Rattle.smt_names.specs.Entries.{name_of}
use Rattle.smt_names.specs.DistinctNames.{place_in}
use Rattle.smt_names.proofs.EntryLemmas.{position_mapped}
use Rattle.smt_names.proofs.distinct_names.DistinctNames.find.Goals as goal

pub returns : goal.returns
returns c = c.find.ensures.value ∙ sym (position_mapped name_of (bytes_eq c.args.name.now) c.self.inside.names.entries 0)
    ∙ ap (λ (names : List (List ℕ)). place_in names c.args.name.now) c.self.view_is
