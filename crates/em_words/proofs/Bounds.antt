-- No words ask for more workers than 64, or for a generated script of no size.
use Rattle.std.proofs.Common.{◌≡◌, ℕ, ◌≤◌, Bool, true, false, ◌&&◌, List, Option, Some, None, refl, ap, subst, arith, if◌then◌else◌}
use Rattle.std.specs.Prelude.{nat_le, option_map}
use Rattle.std.specs.Str.Parse.{digits_value}
use Rattle.std.specs.Str.{bytes_eq}
use Rattle.std.specs.Prelude.{codes}
use Rattle.std.proofs.lemmas.Option.{option_and_then_some, same_Some}
use Rattle.std.proofs.lemmas.Bool.{leb-true}
use Rattle.em_words.specs.Number.{Text, is_numeral, number_in, within}
use Rattle.em_words.specs.Texts.{Texts, texts_in}
use Rattle.em_words.specs.Meaning.{alone, job_of, setting, size, words_of, meaning}
use Rattle.em_words.specs.Work.{work_of, HasSize, IsSize}
use Rattle.em_words.specs.declared.words.Words.{Words}
use Rattle.em_words.specs.declared.job.Job.{Job}
use Rattle.em_words.specs.declared.job.Job.TheVariants.{Matches, Solve, Make, Drill}

chosen : (least most n m : ℕ) (a b : Bool) → nat_le least n ≡ a → nat_le n most ≡ b → (if a && b then Some n else None) ≡ Some m → (least ≤ m) × (m ≤ most)
chosen least most n m false b above at is = cc
chosen least most n m true false above at is = cc
chosen least most n m true true above at is =
    let same : n ≡ m = same_Some n m is in
    let over : least ≤ n = leb-true least n above in
    let below : n ≤ most = leb-true n most at in
    (omega arith, omega arith)

written : (b : Bool) (least most n m : ℕ) → (if b then within least most n else None) ≡ Some m → (least ≤ m) × (m ≤ most)
written false least most n m is = cc
written true least most n m is = chosen least most n m (nat_le least n) (nat_le n most) refl refl is

-- a number that a word writes is in its limits
in_limits : (least most m : ℕ) (text : Text) → number_in least most text ≡ Some m → (least ≤ m) × (m ≤ most)
in_limits least most m text is = written (is_numeral text) least most (digits_value 10 text) m is

-- the number of an option is at most the greatest that it may be, if its default is
setting_most : (text : Option Text) (default most n : ℕ) → default ≤ most → setting text default most ≡ Some n → n ≤ most
setting_most None default most n lawful is = subst (λ (m : ℕ). m ≤ most) (same_Some default n is) lawful
setting_most (Some text) default most n lawful is = (in_limits 0 most n text is).1

-- so is a count
size_within : (text : Option Text) (n : ℕ) → size text ≡ Some n → IsSize n
size_within None n is = cc
size_within (Some text) n is = in_limits 2 4000 n text is

module _ (rounds : ℕ) where
  alone_sized : (count : Option Text) (job made : Job) → HasSize (work_of job rounds) → alone count job ≡ Some made → HasSize (work_of made rounds)
  alone_sized None job made has is = subst (λ (j : Job). HasSize (work_of j rounds)) (same_Some job made is) has
  alone_sized (Some text) job made has is = cc

  with_size : (form : ℕ → Job) (count : Option ℕ) (made : Job) → ((n : ℕ) → count ≡ Some n → HasSize (work_of (form n) rounds)) → option_map form count ≡ Some made → HasSize (work_of made rounds)
  with_size form None made has is = cc
  with_size form (Some n) made has is = subst (λ (j : Job). HasSize (work_of j rounds)) (same_Some (form n) made is) (has n refl)

  either_sized : (matches solve make drill : Bool) (count : Option Text) (made : Job)
      → (if matches then alone count Matches else (if solve then alone count Solve else (if make then option_map (λ n. Make n) (size count) else (if drill then option_map (λ n. Drill n) (size count) else None)))) ≡ Some made
      → HasSize (work_of made rounds)
  either_sized true solve make drill count made is = alone_sized count Matches made tt is
  either_sized false true make drill count made is = alone_sized count Solve made tt is
  either_sized false false true drill count made is = with_size (λ n. Make n) (size count) made (size_within count) is
  either_sized false false false true count made is = with_size (λ n. Drill n) (size count) made (size_within count) is
  either_sized false false false false count made is = cc

  job_sized : (command : Text) (count : Option Text) (made : Job) → job_of command count ≡ Some made → HasSize (work_of made rounds)
  job_sized command count made is =
      either_sized (bytes_eq command (codes "matches")) (bytes_eq command (codes "solve")) (bytes_eq command (codes "make")) (bytes_eq command (codes "drill")) count made is

made : (job : Option Job) (workers rounds : ℕ) (read : Words)
    → option_map (λ j. record { workers = workers; rounds = rounds; job = j }) job ≡ Some read → (workers ≡ read.workers) × (job ≡ Some read.job)
made None workers rounds read is = cc
made (Some j) workers rounds read is = (ap (λ (w : Words). w.workers) (same_Some _ read is), ap (λ (w : Words). Some w.job) (same_Some _ read is))

-- what holds of what words ask for
pub record InBounds (read : Words) : Type 0 where
  pub workers : read.workers ≤ 64
  pub size : HasSize (work_of read.job read.rounds)

bounds_of : (t : Texts) (read : Words) → words_of t ≡ Some read → InBounds read
bounds_of t read is =
    option_and_then_some _ (setting t.workers 0 64) read is (λ workers at_workers rest.
    option_and_then_some _ (setting t.rounds 32 1000) read rest (λ rounds at_rounds more.
    option_and_then_some _ t.command read more (λ command at_command last.
    let parts = made (job_of command t.count) workers rounds read last in
    record {
      workers = subst (λ (n : ℕ). n ≤ 64) parts.0 (setting_most t.workers 0 64 workers (omega arith) at_workers);
      size = job_sized read.rounds command t.count read.job parts.1;
    })))

pub in_bounds : (words : List Text) (read : Words) → meaning words ≡ Some read → InBounds read
in_bounds words read is = option_and_then_some words_of (texts_in words) read is (λ t at_texts rest. bounds_of t read rest)
