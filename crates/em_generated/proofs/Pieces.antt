-- The pieces of which lines, and the whole script, are written.
use Rattle.std.proofs.Common.{◌≡◌, ℕ, ◌+◌, ◌-◌, List, [], ◌∷◌, ◌++◌, refl, codes, append_assoc}
use Rattle.std.specs.Fmt.{decimal}
use Rattle.std.specs.List.{flat_map}
use Rattle.std.proofs.lemmas.List.Concat.{flat_map-append}
use Rattle.em_generated.specs.GeneratedScript.{line, constant, opening, declaration, foralls, square, link, union, deeper, closing, script_lines, script_text}
use Rattle.em_generated.specs.Putting.{each_line}

-- a number between two texts
abbrev pub piece : List ℕ → ℕ → List ℕ → List ℕ
piece front n back = front ++ decimal n ++ back

-- a number in a line
pub regroup_one : (a b n d k : List ℕ) → ((a ++ (k ++ d)) ++ b) ++ n ≡ (a ++ k) ++ d ++ (b ++ n)
regroup_one a b n d k = simp append_assoc

-- two numbers in a line
pub regroup_two : (a b e n d f k : List ℕ) → ((((a ++ (k ++ d)) ++ b) ++ (k ++ f)) ++ e) ++ n
    ≡ ((a ++ k) ++ d ++ (b ++ k)) ++ (f ++ (e ++ n))
regroup_two a b e n d f k = simp append_assoc

-- a number three times in a line
pub regroup_three : (a b c e n d k : List ℕ) → ((((((a ++ (k ++ d)) ++ b) ++ (k ++ d)) ++ c) ++ (k ++ d)) ++ e) ++ n
    ≡ ((a ++ k) ++ d ++ (b ++ k)) ++ ((d ++ (c ++ k)) ++ (d ++ (e ++ n)))
regroup_three a b c e n d k = simp append_assoc

pub declaration_is : (i : ℕ) → line (declaration i) ≡ piece (codes "(declare-const c") i (codes " U)\n")
unfolding line declaration constant
declaration_is i = regroup_one (codes "(declare-const ") (codes " U)") (10 ∷ []) (decimal i) (99 ∷ [])

pub square_is : (i : ℕ) → line (square i)
    ≡ piece (codes "(assert (= (g c") i (codes " c") ++ (piece [] i (codes ") (f c") ++ piece [] i (codes ")))\n"))
unfolding line square constant
square_is i = regroup_three (codes "(assert (= (g ") (codes " ") (codes ") (f ") (codes ")))") (10 ∷ []) (decimal i) (99 ∷ [])

pub link_is : (i : ℕ) → line (link i) ≡ piece (codes "(assert (= c") i (codes " (f c") ++ piece [] (i + 1) (codes ")))\n")
unfolding line link constant
link_is i = regroup_two (codes "(assert (= ") (codes " (f ") (codes ")))") (10 ∷ []) (decimal i) (decimal (i + 1)) (99 ∷ [])

pub union_is : (i j : ℕ) → line (union i j) ≡ piece (codes "(assert (= c") i (codes " c") ++ piece [] j (codes "))\n")
unfolding line union constant
union_is i j = regroup_two (codes "(assert (= ") (codes " ") (codes "))") (10 ∷ []) (decimal i) (decimal j) (99 ∷ [])

pub opening_is : flat_map line opening
    ≡ codes "(set-logic UF)\n(declare-sort U 0)\n(declare-fun f (U) U)\n(declare-fun g (U U) U)\n"
unfolding line opening
opening_is = refl

pub foralls_is : flat_map line foralls
    ≡ codes "(assert (forall ((x U) (y U)) (! (= (g x (f y)) x) :pattern ((g x (f y))))))\n(assert (forall ((x U)) (! (= (f x) x) :pattern ((f x) (g x x)))))\n"
unfolding line foralls
foralls_is = refl

pub deeper_is : flat_map line deeper ≡ codes "(check-sat)\n(push 1)\n"
unfolding line deeper
deeper_is = refl

pub closing_is : flat_map line closing ≡ codes "(check-sat)\n(pop 1)\n(check-sat)\n(pop 1)\n(check-sat)\n"
unfolding line closing
closing_is = refl

-- what stands before the first check, and the rest
pub script_is : (n : ℕ) → script_text n
    ≡ (flat_map line opening ++ (each_line declaration n ++ (flat_map line foralls ++ each_line square n)))
    ++ (flat_map line deeper ++ (each_line link (n - 1) ++ (flat_map line deeper
    ++ (line (union (n - 1) (n - 2)) ++ flat_map line closing))))
unfolding script_text script_lines each_line
script_is n = simp (flat_map-append, append_assoc)
