-- What a result says of its value.
use Rattle.std.proofs.Common.{Result, Ok, Err, IfOk}

-- what follows of the value of an `Ok`
pub ok_then : {X E : Type 0} (r : Result X E) {P Q : X → Type 0} → IfOk r P → ((x : X) → P x → Q x) → IfOk r Q
ok_then (Ok x) given follows = follows x given
ok_then (Err e) given follows = given
