use Rattle.std.proofs.Common.{◌≡◌, ◌++◌, length, refl}
use Rattle.ematch_cli.specs.Listing.{heading}
use Rattle.ematch_cli.proofs.Matches.{match_terms}
use Rattle.ematch_cli.proofs.Texts.{put_two}
use Rattle.ematch_cli.proofs.listing.push_trigger.Goals as goal

pub push_tuples-requires : goal.push_tuples-requires
push_tuples-requires c =
    match_terms c.args.graph.now.standing c.trigger.result.now c.args.tuples.now c.len-terms.ensures.lawful (c.requires.matches c.trigger.result.now c.trigger.ensures.trigger)

pub returns : goal.returns
returns c =
    let trigger = c.trigger.result.now in
    let tuples = c.args.tuples.now in
    let first = heading trigger (length tuples) in
    let written = c.in_ok-push_tuples.ensures in
    let lines = written.0 in
    let headed : c.push_heading.new.text.items ≡ c.args.text.now.items ++ first = c.in_ok-push_heading.ensures in (
      first ++ lines,
      (
        trigger,
        c.trigger.ensures.trigger,
        record {
          tuples = tuples;
          lines = lines;
          matches = c.requires.matches trigger c.trigger.ensures.trigger;
          printed = written.1;
          is = refl;
        },
      ),
      put_two c.args.text.now.items first lines c.push_heading.new.text.items c.push_tuples.new.text.items headed written.2,
    )
