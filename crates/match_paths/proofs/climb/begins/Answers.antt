use Rattle.std.proofs.Common.{◌↔◌, ℕ, Option, Some, None, IsTrue, refl, sym, subst}
use Rattle.std.specs.Option.{is_some}
use Rattle.graph_meaning.specs.Questions.{IsNth, InClass, IsParent}
use Rattle.graph_meaning.specs.Justified.{ClassHasSymbol, ClassHasParent}
use Rattle.match_paths.specs.declared.link.Link.{Link}
use Rattle.match_paths.specs.Inverted.{Begins}
use Rattle.match_paths.proofs.ClimbLemmas.{first_there, first_missing}
use Rattle.match_paths.proofs.climb.begins.Goals as goal

-- there is a first number exactly where there is any
tells : (P : ℕ → Type 0) (Q : Type 0) (answer : Option ℕ) → IsNth P 0 answer → ((x : ℕ) → P x → Q) → (Q → (x : ℕ) × P x) → IsTrue (is_some answer) ↔ Q
tells P Q (Some x) nth some any = ((λ is. some x (first_there P x nth)), (λ q. refl))
tells P Q None nth some any = ((λ is. absurd cc), (λ q. absurd (first_missing P (any q).0 nth (any q).1)))

pub returns-in-Member : goal.returns-in-Member
returns-in-Member g c =
    let standing = g.G.ClassGraph.standing c.args.graph.now in
    subst (λ (l : Link). IsTrue c.is_some.result ↔ Begins standing l c.args.class) (sym c.in-Member.is)
    (subst (λ b. IsTrue b ↔ ClassHasSymbol standing c.args.class c.in-Member.symbol) (sym c.is_some.ensures)
    (tells (InClass standing c.args.class c.in-Member.symbol) (ClassHasSymbol standing c.args.class c.in-Member.symbol) c.in_class.result c.in_class.ensures (λ x h. (x, h.0.0, h.1, h.0.1)) (λ q. (q.0, ((q.1, q.3), q.2)))))

pub returns-in-Argument : goal.returns-in-Argument
returns-in-Argument g c =
    let standing = g.G.ClassGraph.standing c.args.graph.now in
    subst (λ (l : Link). IsTrue c.is_some-in-Argument.result ↔ Begins standing l c.args.class) (sym c.in-Argument.is)
    (subst (λ b. IsTrue b ↔ ClassHasParent standing c.args.class c.in-Argument.symbol c.in-Argument.place) (sym c.is_some-in-Argument.ensures)
    (tells (IsParent standing c.args.class c.in-Argument.symbol c.in-Argument.place) (ClassHasParent standing c.args.class c.in-Argument.symbol c.in-Argument.place) c.parent.result c.parent.ensures (λ x h. (x, h.1, (h.0, h.2, h.3), h.4)) (λ q. (q.0, (q.2.0, q.1, q.2.1, q.2.2, q.3)))))
