use Rattle.std.proofs.Common.{◌++◌}
use Rattle.match_laws.proofs.StepLaws.{continues_front}
use Rattle.match_laws.proofs.GivenLaws.{given, given_justified, join_up}
use Rattle.match_laws.proofs.laws.given_law.Goals as goal

pub returns : goal.returns
returns c before later unions lawful few are claim on =
    let joins = join_up before (before ++ later) unions are in
    let continues = continues_front before later lawful in (
      given continues lawful.whole.table lawful.whole.ends unions joins few claim on,
      given_justified continues lawful.whole.table lawful.whole.ends unions joins claim,
    )
