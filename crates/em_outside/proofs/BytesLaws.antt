-- What follows of bytes that are taken from a source, or added to a sink, one call after another.
use Rattle.std.specs.Prelude.{◌≡◌, ℕ, List, [], ◌++◌, Option, Some, None}
use Rattle.std.specs.Io.KnownBytes.{Consumes}
use Rattle.std.proofs.Common.{refl, ap, sym, ◌∙◌, append_assoc}
use Rattle.std.proofs.lemmas.List.{append-nil}
use Rattle.em_outside.specs.Bytes.{Appended, Exhausts}

-- where nothing was done, the empty list was added
pub Appended-none : (old : Option (List ℕ)) → Appended old old []
Appended-none None = tt
Appended-none (Some xs) = sym (append-nil xs)

-- what was added first, and then what was added next
pub Appended-then : (old mid new : Option (List ℕ)) (xs ys : List ℕ) → Appended old mid xs → Appended mid new ys →
    Appended old new (xs ++ ys)
Appended-then old mid None xs ys first second = tt
Appended-then old None (Some z) xs ys first second = absurd second
Appended-then None (Some y) (Some z) xs ys first second = absurd first
Appended-then (Some x) (Some y) (Some z) xs ys first second = second ∙ ap (λ (l : List ℕ). l ++ ys) first
    ∙ append_assoc x xs ys

-- a sink that tells its bytes at the end told them at the start
pub Appended-told : (old : Option (List ℕ)) (ys bytes : List ℕ) → Appended old (Some ys) bytes → (xs : List ℕ) ×
    (old ≡ Some xs) × (ys ≡ xs ++ bytes)
Appended-told None ys bytes added = absurd added
Appended-told (Some xs) ys bytes added = (xs, refl, added)

-- where nothing was read, the empty list was taken
pub Consumes-none : (old : Option (List ℕ)) → Consumes old old []
Consumes-none None = tt
Consumes-none (Some xs) = refl

-- what was taken first, and then what was taken next
pub Consumes-then : (old mid new : Option (List ℕ)) (xs ys : List ℕ) → Consumes old mid xs → Consumes mid new ys →
    Consumes old new (xs ++ ys)
Consumes-then None mid new xs ys first second = tt
Consumes-then (Some x) None new xs ys first second = absurd first
Consumes-then (Some x) (Some y) None xs ys first second = absurd second
Consumes-then (Some x) (Some y) (Some z) xs ys first second = first ∙ ap (λ (l : List ℕ). xs ++ l) second
    ∙ sym (append_assoc xs ys z)

-- a source that tells its bytes at the start tells them at the end
pub Consumes-told : (xs : List ℕ) (new : Option (List ℕ)) (bytes : List ℕ) → Consumes (Some xs) new bytes →
    (ys : List ℕ) × (new ≡ Some ys) × (xs ≡ bytes ++ ys)
Consumes-told xs None bytes taken = absurd taken
Consumes-told xs (Some ys) bytes taken = (ys, refl, taken)

-- a source that has no more had what was taken
pub Exhausts-all : (old new : Option (List ℕ)) (bytes : List ℕ) → Consumes old new bytes → Exhausts new [] →
    Exhausts old bytes
Exhausts-all None new bytes taken none = tt
Exhausts-all (Some xs) None bytes taken none = absurd taken
Exhausts-all (Some xs) (Some ys) bytes taken none = taken ∙ ap (λ (l : List ℕ). bytes ++ l) none ∙ append-nil bytes

-- what was taken first, and then all the rest
pub Exhausts-then : (old mid : Option (List ℕ)) (xs ys : List ℕ) → Consumes old mid xs → Exhausts mid ys →
    Exhausts old (xs ++ ys)
Exhausts-then None mid xs ys first all = tt
Exhausts-then (Some x) None xs ys first all = absurd first
Exhausts-then (Some x) (Some y) xs ys first all = first ∙ ap (λ (l : List ℕ). xs ++ l) all
