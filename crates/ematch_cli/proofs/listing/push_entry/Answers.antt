use Rattle.std.proofs.Common.{◌∷◌, [], refl}
use Rattle.ematch_cli.proofs.Texts.{put_two}
use Rattle.ematch_cli.proofs.listing.push_entry.Goals as goal

pub returns : goal.returns
returns g c =
    let text = c.in_ok-push_printed.ensures in (
      32 ∷ text.0,
      (text.0, text.1, refl),
      put_two c.args.text.now.items (32 ∷ []) text.0 c.push.new.self.items c.push_printed.new.text.items c.in_ok-push.ensures.items text.2,
    )
