-- What holds of a list of matchers after they worked.
use Rattle.std.proofs.Common.{◌≡◌, ℕ, ◌+◌, ◌<◌, List, [], ◌∷◌, ◌++◌, Option, Some, None, Ok, Err, OnOk, get_or, set, length, replicate, All, refl, ap, sym, subst, ◌∙◌, arith}
use Rattle.std.specs.declared.result.Result.{Result}
use Rattle.std.specs.List.{AllZip}
use lib.ListN.{length-append, length-replicate}
use Rattle.std.proofs.lemmas.List.Elements.{All-append, All-nil, All-cons, All-head, All-tail, All-replicate}
use Rattle.crossbeam_deque.specs.Handles.{stealer_deque, worker_flavor}
use Rattle.match_machine.specs.Answers.{Answered}
use Rattle.match_pool.specs.declared.thief.Thief.{Thief}
use Rattle.match_pool.specs.declared.matcher.Matcher.{Matcher}
use Rattle.match_pool.specs.declared.findings.Findings.{Findings}
use Rattle.match_pool.specs.Found.{weight}
use Rattle.match_pool.specs.Once.{items_of, IsEachOnce}
use Rattle.match_pool.specs.Stealing.{Owner, Fits, IsSameOwner, known, robbed, stolen}
use Rattle.match_pool.specs.Weights.{weigh, weigh_below}
use Rattle.match_pool.specs.Ring.{HasWorked, Follow, IsAlone, IsFresh, IsOneOf, IsRing, answers_by, pushed_by, starved_by, taken_by, workers_by}
use Rattle.match_pool.proofs.Weighing.{each-once, weigh-append, weigh-set, items-append}

-- who fits a deque still does after work
fits-kept : (r s : Option Thief) (o w : Owner) → IsSameOwner o w → robbed s ≡ robbed r → Fits r o → Fits s w
fits-kept None None o w same is fits = same.parts ∙ fits
fits-kept None (Some s) o w same is fits = absurd cc
fits-kept (Some r) None o w same is fits = absurd cc
fits-kept (Some r) (Some s) o w same is fits = let deque : stealer_deque s.robber ≡ stealer_deque r.robber = cc in (same.parts ∙ fits.0, deque ∙ (fits.1 ∙ sym same.deque))

follow-kept : (P : Answered → Type 0) (o w : Owner) (r s : Option Thief) (ms ws : List Matcher) → IsSameOwner o w → robbed s ≡ robbed r → AllZip (HasWorked P) ms ws → Follow o r ms → Follow w s ws
follow-kept P o w r s [] [] same is h f = fits-kept r s o w same is f
follow-kept P o w r s [] (v ∷ ws) same is h f = absurd h
follow-kept P o w r s (m ∷ ms) [] same is h f = absurd h
follow-kept P o w r s (m ∷ ms) (v ∷ ws) same is h f =
    (fits-kept r s m.own v.own h.0.own is f.0, h.0.own.flavor ∙ f.1, follow-kept P o w m.next v.next ms ws same h.0.next h.1 f.2)

pub ring-kept : (P : Answered → Type 0) (ms ws : List Matcher) → AllZip (HasWorked P) ms ws → IsRing ms → IsRing ws
ring-kept P [] [] h f = tt
ring-kept P [] (v ∷ ws) h f = absurd h
ring-kept P (m ∷ ms) [] h f = absurd h
ring-kept P (m ∷ ms) (v ∷ ws) h f = (h.0.own.flavor ∙ f.0, follow-kept P m.own v.own m.next v.next ms ws h.0.own h.0.next h.1 f.1)

-- what is told of is what was taken
pub told-by : (P : Answered → Type 0) (ms ws : List Matcher) → AllZip (HasWorked P) ms ws → (h : ℕ → ℕ) → weigh h (items_of (answers_by ws)) + starved_by h ws ≡ taken_by h ws
told-by P [] [] z h = omega arith
told-by P [] (v ∷ ws) z h = absurd z
told-by P (m ∷ ms) [] z h = absurd z
told-by P (m ∷ ms) (v ∷ ws) z h =
    let xs = v.found.answers.items in
    let all : weigh h (items_of (xs ++ answers_by ws)) ≡ weigh h (items_of xs) + weigh h (items_of (answers_by ws)) =
    ap (weigh h) (items-append xs (answers_by ws)) ∙ weigh-append h (items_of xs) (items_of (answers_by ws)) in
    omega (arith, z.0.told h, told-by P ms ws z.1 h, all)

pub pushed-by : (P : Answered → Type 0) (ms ws : List Matcher) → AllZip (HasWorked P) ms ws → (h : ℕ → ℕ) → pushed_by h ws ≡ pushed_by h ms
pushed-by P [] [] z h = omega arith
pushed-by P [] (v ∷ ws) z h = absurd z
pushed-by P (m ∷ ms) [] z h = absurd z
pushed-by P (m ∷ ms) (v ∷ ws) z h = let same = ap (weigh h) z.0.own.pushed in omega (arith, same, pushed-by P ms ws z.1 h)

pub answers-by : (P : Answered → Type 0) (ms ws : List Matcher) → AllZip (HasWorked P) ms ws → All P (answers_by ws)
answers-by P [] [] z = All-nil P
answers-by P [] (v ∷ ws) z = absurd z
answers-by P (m ∷ ms) [] z = absurd z
answers-by P (m ∷ ms) (v ∷ ws) z = All-append P v.found.answers.items (answers_by ws) z.0.answers (answers-by P ms ws z.1)

-- what is said of Ok by two clauses
pub on-ok-both : {T E : Type 0} (P Q : Type 0) (r : Result T E) → OnOk r P → OnOk r Q → OnOk r (P × Q)
on-ok-both P Q (Ok x) p q = (p, q)
on-ok-both P Q (Err e) p q = tt

-- the matcher with another deque's owner and another thief
abbrev pub linked : Matcher → Owner → Option Thief → Matcher
linked m own next = record { worker = m.worker; own = own; next = next; found = m.found }

pub linked-fresh : (workers : ℕ) (m : Matcher) (own : Owner) (next : Option Thief) (thief : Thief) (more : List Matcher) → IsAlone workers m → worker_flavor own ≡ worker_flavor m.own → (known own).taken ≡ (known m.own).taken
    → Fits (Some thief) own → stolen next ≡ [] → All IsFresh more × All (IsOneOf workers) more → All IsFresh (linked m own next ∷ more) × All (IsOneOf workers) (linked m own next ∷ more)
linked-fresh workers m own next thief more alone flavor taken fits none rest =
    let fresh : IsFresh (linked m own next) = record {
      fifo = flavor ∙ alone.fresh.fifo;
      part = (let one = fits.0 in omega arith);
      taken = taken ∙ alone.fresh.taken;
      stolen = none;
      answers = alone.fresh.answers;
      starved = alone.fresh.starved;
    } in
    (All-cons IsFresh (linked m own next) more fresh rest.0, All-cons (IsOneOf workers) (linked m own next) more alone.one rest.1)

-- one number was pushed to the matcher at the place, or starved
pub dealt-one : (ms : List Matcher) (at number : ℕ) (d m : Matcher) (starved starved' : List ℕ) (h : ℕ → ℕ) → at < length ms
    → weigh h (known m.own).pushed + weigh h starved' ≡ weigh h (known (get_or ms at d).own).pushed + weigh h starved + h number
    → pushed_by h (set ms at m) + weigh h starved' ≡ pushed_by h ms + weigh h starved + h number
dealt-one ms at number d m starved starved' h below e = omega (arith, e, weigh-set (λ (m : Matcher). weigh h (known m.own).pushed) ms at m d below)

-- the deque of the first matcher was closed, and what it found was put last
pub gathers : (h : ℕ → ℕ) (m : Matcher) (more rest : List Matcher) (o : Owner) (next next' : Option Thief) (s0 s1 s2 s3 : List ℕ) → rest ≡ m ∷ more
    → weigh h (known m.own).pushed + weigh h s0 ≡ weigh h (known m.own).taken + weigh h (stolen next) + weigh h s1
    → s2 ≡ s1 ++ m.found.starved.items → next' ≡ m.next
    → weigh h s2 + weigh h (known o).pushed + pushed_by h more + starved_by h more ≡ weigh h s3 + weigh h (known o).taken + weigh h (stolen next') + taken_by h more
    → weigh h s0 + weigh h (known o).pushed + pushed_by h rest + starved_by h rest ≡ weigh h s3 + weigh h (known o).taken + weigh h (stolen next) + taken_by h rest
gathers h m more rest o next next' s0 s1 s2 s3 whole closed put next-is rest-is =
    let s = ap (weigh h) put in
    let t = ap (λ (r : Option Thief). weigh h (stolen r)) next-is in
    rw whole (omega (arith, closed, s, t, rest-is, weigh-append h s1 m.found.starved.items))

-- what the first matcher found was put last, and the passes of all were taken back
pub gathers-all : (h : ℕ → ℕ) (m : Matcher) (more ms : List Matcher) (next : Option Thief) (s0 s1 s2 : List ℕ) → ms ≡ m ∷ more
    → s1 ≡ s0 ++ m.found.starved.items → next ≡ m.next
    → weigh h s1 + weigh h (known m.own).pushed + pushed_by h more + starved_by h more ≡ weigh h s2 + weigh h (known m.own).taken + weigh h (stolen next) + taken_by h more
    → weigh h s0 + pushed_by h ms + starved_by h ms ≡ weigh h s2 + taken_by h ms
gathers-all h m more ms next s0 s1 s2 whole put next-is rest-is =
    let s = ap (weigh h) put in
    let t = ap (λ (r : Option Thief). weigh h (stolen r)) next-is in
    rw whole (omega (arith, s, t, rest-is, weigh-append h s0 m.found.starved.items))

pub AllZip-join : {A B : Type 0} (R : A → B → Type 0) (xs ys : List A) (us vs : List B) → AllZip R xs us → AllZip R ys vs → AllZip R (xs ++ ys) (us ++ vs)
AllZip-join R [] ys [] vs h k = k
AllZip-join R [] ys (u ∷ us) vs h k = absurd h
AllZip-join R (x ∷ xs) ys [] vs h k = absurd h
AllZip-join R (x ∷ xs) ys (u ∷ us) vs h k = (h.0, AllZip-join R xs ys us vs h.1 k)

pub workers-length : (ms : List Matcher) → length (workers_by ms) ≡ length (answers_by ms)
workers-length [] = refl
workers-length (m ∷ ms) =
    let n = length m.found.answers.items in
    omega (arith, length-append (replicate n m.worker) (workers_by ms), length-append m.found.answers.items (answers_by ms), length-replicate n m.worker, workers-length ms)

pub workers-below : (P : Answered → Type 0) (workers : ℕ) (ms ws : List Matcher) → AllZip (HasWorked P) ms ws → All (IsOneOf workers) ms → All (λ (worker : ℕ). worker < workers) (workers_by ws)
workers-below P workers [] [] z all = All-nil (λ (worker : ℕ). worker < workers)
workers-below P workers [] (v ∷ ws) z all = absurd z
workers-below P workers (m ∷ ms) [] z all = absurd z
workers-below P workers (m ∷ ms) (v ∷ ws) z all =
    let B : ℕ → Type 0 = λ worker. worker < workers in
    let here : v.worker < workers = subst B (sym z.0.worker) (All-head (IsOneOf workers) m ms all) in
    All-append B (replicate (length v.found.answers.items) v.worker) (workers_by ws) (All-replicate B (length v.found.answers.items) v.worker here)
    (workers-below P workers ms ws z.1 (All-tail (IsOneOf workers) m ms all))

-- where all numbers below the bound were pushed or starved, and the matchers worked and all was gathered, each of these
-- numbers stands once
pub once-by : (P : Answered → Type 0) (n : ℕ) (ms ws : List Matcher) (answers : List Answered) (s0 starved shut : List ℕ) → AllZip (HasWorked P) ms ws
    → ((h : ℕ → ℕ) → pushed_by h ms + weigh h s0 ≡ weigh_below h n) → answers ≡ answers_by ws
    → ((h : ℕ → ℕ) → weigh h s0 + pushed_by h ws + starved_by h ws ≡ weigh h starved + taken_by h ws) → shut ≡ []
    → IsEachOnce n (items_of answers ++ (starved ++ shut))
once-by P n ms ws answers s0 starved shut z dealt is gathered none =
    each-once n (items_of answers ++ (starved ++ shut)) λ h.
    let a = ap (λ (l : List Answered). weigh h (items_of l)) is in
    let e = ap (weigh h) none in
    omega (arith, a, e, dealt h, gathered h, told-by P ms ws z h, pushed-by P ms ws z h, weigh-append h (items_of answers) (starved ++ shut), weigh-append h starved shut)

pub once-alone : (n : ℕ) (found : Findings) (answers : List Answered) (starved shut : List ℕ) → ((h : ℕ → ℕ) → weight h found ≡ weigh_below h n) → answers ≡ found.answers.items → starved ≡ found.starved.items → shut ≡ []
    → IsEachOnce n (items_of answers ++ (starved ++ shut))
once-alone n found answers starved shut told a s none =
    each-once n (items_of answers ++ (starved ++ shut)) λ h.
    let a' = ap (λ (l : List Answered). weigh h (items_of l)) a in
    let s' = ap (weigh h) s in
    let e = ap (weigh h) none in
    omega (arith, a', s', e, told h, weigh-append h (items_of answers) (starved ++ shut), weigh-append h starved shut)
