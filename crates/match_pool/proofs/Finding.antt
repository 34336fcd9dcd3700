-- What running one item adds to what was found.
use Rattle.std.proofs.Common.{◌≡◌, ℕ, ◌+◌, ◌<◌, List, [], ◌∷◌, ◌++◌, All, Option, Some, IfSome, slice_get, get_or, subst, sym, ap, ◌∙◌, inl, inr, ⊎_elim, arith}
use Rattle.std.proofs.lemmas.Option.{slice_get_within, get_or_from_slice_get}
use Rattle.std.proofs.lemmas.List.Elements.{All-push}
use Rattle.match_machine.specs.Answers.{Answered}
use Rattle.match_pool.specs.declared.findings.Findings.{Findings}
use Rattle.match_pool.specs.Once.{items_of}
use Rattle.match_pool.specs.Found.{Starves, Gains, Puts, TakesOn, weight}
use Rattle.match_pool.specs.Weights.{weigh}
use Rattle.match_pool.proofs.Weighing.{weigh-snoc, weigh-append, items-append}

pub all-at : {X : Type 0} (P : X → Type 0) (xs : List X) (i : ℕ) (x : X) → All P xs → slice_get xs i ≡ Some x → P x
all-at P xs i x all at = subst P (get_or_from_slice_get xs i x x at) (all i x (slice_get_within xs i x at))

pub takes-on : (P : Answered → Type 0) (number : ℕ) (answer : Option Answered) (old new : Findings) → IfSome answer (λ one. one.item ≡ number) → IfSome answer P → Puts number answer old new → TakesOn P number old new
takes-on P number answer old new item is puts =
    ⊎_elim (λ (s : Starves number old new). inl s)
    (λ (g : (one : Answered) × (answer ≡ Some one) × Gains one old new).
    inr (g.0, subst (λ (a : Option Answered). IfSome a (λ one. one.item ≡ number)) g.1 item, subst (λ (a : Option Answered). IfSome a P) g.1 is, g.2)) puts

starves-told : (h : ℕ → ℕ) (number : ℕ) (old new : Findings) → Starves number old new → weight h new ≡ weight h old + h number
starves-told h number old new s = rw (s.answers, s.starved) (omega (arith, weigh-snoc h old.starved.items number))

gains-told : (h : ℕ → ℕ) (one : Answered) (old new : Findings) → Gains one old new → weight h new ≡ weight h old + h one.item
gains-told h one old new g =
    let items : weigh h (items_of (old.answers.items ++ one ∷ [])) ≡ weigh h (items_of old.answers.items) + h one.item =
    ap (weigh h) (items-append old.answers.items (one ∷ [])) ∙ weigh-snoc h (items_of old.answers.items) one.item in
    rw (g.answers, g.starved) (omega (arith, items))

pub told-on : (h : ℕ → ℕ) (P : Answered → Type 0) (number : ℕ) (old new : Findings) → TakesOn P number old new → weight h new ≡ weight h old + h number
told-on h P number old new t =
    ⊎_elim (λ (s : Starves number old new). starves-told h number old new s)
    (λ (g : (one : Answered) × (one.item ≡ number) × P one × Gains one old new). gains-told h g.0 old new g.3 ∙ ap (λ n. weight h old + h n) g.1) t

pub kept-on : (P : Answered → Type 0) (number : ℕ) (old new : Findings) → TakesOn P number old new → All P old.answers.items → All P new.answers.items
kept-on P number old new t all =
    ⊎_elim (λ (s : Starves number old new). subst (λ (l : List Answered). All P l) (sym s.answers) all)
    (λ (g : (one : Answered) × (one.item ≡ number) × P one × Gains one old new). subst (λ (l : List Answered). All P l) (sym g.3.answers) (All-push P old.answers.items g.0 all g.2)) t
