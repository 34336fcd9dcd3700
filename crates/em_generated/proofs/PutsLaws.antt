-- Texts that are put one after another.
use Rattle.std.proofs.Common.{◌≡◌, ℕ, ◌+◌, ◌≤◌, List, [], ◌++◌, length, take, Option, Result, Ok, Err, refl, subst, ◌∙◌, arith}
use Rattle.std.proofs.lemmas.List.{length-append, take-append-le}
use Rattle.std.proofs.Math.Seq.{take-append-add}
use Rattle.std.specs.Result.{IsErrAnd}
use Rattle.em_outside.specs.Bytes.{Appended}
use Rattle.em_outside.specs.Causes.{Rose}
use Rattle.em_outside.proofs.BytesLaws.{Appended-none, Appended-then}
use Rattle.em_outside.specs.declared.writing.WriteStop.{WriteStop}
use Rattle.em_generated.specs.Putting.{Puts}

-- where nothing was written
pub puts_none : (before : ℕ) (old : Option (List ℕ)) (faults : ℕ) → Puts before old old faults faults (Ok before) []
puts_none before old faults = record {
  whole = (omega arith, Appended-none old);
  front = tt;
  cause = record { later = omega arith; quiet = refl; failed = tt };
}

-- a text that was put whole, and then the next one
pub puts_then : {b e : ℕ} {s0 s1 s2 : Option (List ℕ)} {f0 f1 f2 : ℕ} {r : Result ℕ WriteStop} {xs ys : List ℕ} (zs : List ℕ)
    → Puts b s0 s1 f0 f1 (Ok e) xs → Puts e s1 s2 f1 f2 r ys → zs ≡ xs ++ ys → Puts b s0 s2 f0 f2 r zs
puts_then {b = b} {e = e} {s0 = s0} {s1 = s1} {s2 = s2} {f0 = f0} {f1 = f1} {f2 = f2} {r = Ok end} {xs = xs} {ys = ys} zs first second is = rw is (record {
  whole = (omega (arith, length-append xs ys, first.whole.0, second.whole.0), Appended-then s0 s1 s2 xs ys first.whole.1 second.whole.1);
  front = tt;
  cause = record { later = omega (arith, first.cause.later, second.cause.later); quiet = second.cause.quiet ∙ first.cause.quiet; failed = tt };
})
puts_then {b = b} {e = e} {s0 = s0} {s1 = s1} {s2 = s2} {f0 = f0} {f1 = f1} {f2 = f2} {r = Err stop} {xs = xs} {ys = ys} zs first second is = rw is (record {
  whole = tt;
  front = (
    length xs + second.front.0,
    omega (arith, first.whole.0, second.front.1),
    omega (arith, length-append xs ys, second.front.2),
    rw take-append-add (Appended-then s0 s1 s2 xs (take second.front.0 ys) first.whole.1 second.front.3),
  );
  cause = record { later = omega (arith, first.cause.later, second.cause.later); quiet = tt; failed = subst (λ f. Rose f f2) first.cause.quiet second.cause.failed };
})

-- where a write stopped within a text, nothing of the next one was put
pub puts_stop : {b : ℕ} {old new : Option (List ℕ)} {f0 f1 : ℕ} {r : Result ℕ WriteStop} {stop : WriteStop} {xs : List ℕ} (zs ys : List ℕ)
    → Puts b old new f0 f1 (Err stop) xs → IsErrAnd r (λ e. e ≡ stop) → zs ≡ xs ++ ys → Puts b old new f0 f1 r zs
puts_stop {r = Ok end} zs ys put err is = absurd err
puts_stop {b = b} {old = old} {new = new} {f0 = f0} {f1 = f1} {r = Err e} {stop = stop} {xs = xs} zs ys put err is = rw (err, is) (record {
  whole = tt;
  front = (
    put.front.0,
    put.front.1,
    omega (arith, length-append xs ys, put.front.2),
    rw (take-append-le put.front.0 xs ys put.front.2) put.front.3,
  );
  cause = record { later = put.cause.later; quiet = tt; failed = put.cause.failed };
})

-- the bytes that were counted from none on are those that went out
pub puts_front : {old new : Option (List ℕ)} {f0 f1 : ℕ} {stop : WriteStop} {text : List ℕ} → Puts 0 old new f0 f1 (Err stop) text
    → (stop.gone ≤ length text) × Appended old new (take stop.gone text)
puts_front {old = old} {new = new} {stop = stop} {text = text} put =
    let same : put.front.0 ≡ stop.gone = omega (arith, put.front.1) in
    (omega (arith, put.front.1, put.front.2), subst (λ n. Appended old new (take n text)) same put.front.3)
