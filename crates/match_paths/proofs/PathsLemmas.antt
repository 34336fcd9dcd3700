-- The claims through a class are those to which the paths lead up.
use Rattle.std.proofs.Common.{◌≡◌, ℕ, List, [], length, arith}
use Rattle.std.proofs.lemmas.Option.{none-some, slice_get_within}
use Rattle.graph_meaning.specs.declared.done.Done.{Done}
use Rattle.graph_trigger.specs.declared.trigger.Trigger.{Trigger}
use Rattle.graph_meaning.specs.declared.claim.Claim.{Claim}
use Rattle.graph_meaning.specs.Justified as why
use Rattle.graph_meaning.specs.Justified.{JoinedSince}
use Rattle.graph_meaning.specs.Standing.{triggers_of}
use Rattle.match_paths.specs.Inverted.{LeadsUp}
use Rattle.match_paths.proofs.InvertedLaws.{leads_up, leads_through}
use Rattle.match_paths.specs.Climbing.{FindsAll}
use Rattle.match_trees.specs.EntryList.{entry_of}
use Rattle.match_paths.specs.Paths.{Paths, Serves, AreThrough, AreJustified}

pub found_through : (standing : List Done) (paths : Paths) (triggers : List Trigger) (class : ℕ) (claims : List Claim) → Serves paths triggers → FindsAll standing paths.trees paths.list class claims → AreThrough standing triggers class claims
found_through standing paths triggers class claims serves finds claim = (
  λ has.
      let led = (finds claim).0 has in
      let of = serves.sound led.number led.end (entry_of claim.trigger claim.start) led.begin led.links led.is led.ends led.way in
      (of.0, of.1, leads_through (record { begin = led.begin; links = led.links; inverted = of.2; holds = led.holds; climbs = led.climbs })),
  λ through.
      let leads : LeadsUp standing through.0 claim.start claim.root class = leads_up through.2 in
      let of = serves.all claim.trigger claim.start through.0 leads.begin leads.links through.1 leads.inverted in
      (finds claim).1 (record { number = of.0; end = of.1; is = of.2; ends = of.3; begin = leads.begin; links = leads.links; way = of.4; holds = leads.holds; climbs = leads.climbs }),
)

-- a claim through a class that was joined since is justified since
pub through_justified : (before now : List Done) (left right : ℕ) (claims : List Claim) → JoinedSince before now left right → AreThrough now (triggers_of now) left claims → AreJustified before now claims
through_justified before now left right claims since through claim has =
    let of = (through claim).0 has in
    why.joined {left = left} {right = right} of.1 since of.2

-- without entries and triggers there is nothing to serve
pub serves_none : (paths : Paths) → length paths.list.entries ≡ 0 → length paths.list.ends ≡ 0 → paths.triggers ≡ 0 → Serves paths []
serves_none paths none no_ends no_triggers = record {
  many = no_triggers;
  led = λ number end has. absurd (let lt = slice_get_within paths.list.ends number end has in omega (arith, lt, no_ends));
  sound = λ number end entry begin links has ends way. absurd (let lt = slice_get_within paths.list.entries number entry has in omega (arith, lt, none));
  all = λ number start trigger begin links has inverted. absurd (none-some trigger has);
}
