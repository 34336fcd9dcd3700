-- The generated script of a size: equations in a chain of constants, under two foralls, with levels and checks.
use Rattle.std.specs.Prelude.{ℕ, ◌+◌, ◌-◌, List, [], ◌∷◌, ◌++◌, map, codes}
use Rattle.std.specs.Fmt.{decimal}
use Rattle.std.specs.List.{range_with_len, flat_map}

-- with a line feed
unfoldable pub line : List ℕ → List ℕ
line text = text ++ 10 ∷ []

-- `c0`, `c1` and so on
unfoldable pub constant : ℕ → List ℕ
constant i = 99 ∷ decimal i

-- the logic, the sort and its functions
unfoldable pub opening : List (List ℕ)
opening = codes "(set-logic UF)" ∷ codes "(declare-sort U 0)" ∷ codes "(declare-fun f (U) U)"
    ∷ codes "(declare-fun g (U U) U)" ∷ []

-- a constant of the sort
unfoldable pub declaration : ℕ → List ℕ
declaration i = codes "(declare-const " ++ constant i ++ codes " U)"

-- the two foralls, each with its trigger
unfoldable pub foralls : List (List ℕ)
foralls = codes "(assert (forall ((x U) (y U)) (! (= (g x (f y)) x) :pattern ((g x (f y))))))"
    ∷ codes "(assert (forall ((x U)) (! (= (f x) x) :pattern ((f x) (g x x)))))" ∷ []

-- g of a constant and itself is f of it
unfoldable pub square : ℕ → List ℕ
square i = codes "(assert (= (g " ++ constant i ++ codes " " ++ constant i
    ++ codes ") (f " ++ constant i ++ codes ")))"

-- a constant is f of the next one
unfoldable pub link : ℕ → List ℕ
link i = codes "(assert (= " ++ constant i ++ codes " (f " ++ constant (i + 1) ++ codes ")))"

-- two constants are equal
unfoldable pub union : ℕ → ℕ → List ℕ
union i j = codes "(assert (= " ++ constant i ++ codes " " ++ constant j ++ codes "))"

-- a check, and a level behind it
unfoldable pub deeper : List (List ℕ)
deeper = codes "(check-sat)" ∷ codes "(push 1)" ∷ []

-- a check, and both levels are left, each with a check behind it
unfoldable pub closing : List (List ℕ)
closing = codes "(check-sat)" ∷ codes "(pop 1)" ∷ codes "(check-sat)" ∷ codes "(pop 1)" ∷ codes "(check-sat)" ∷ []

-- the lines of the script of a size
unfoldable pub script_lines : ℕ → List (List ℕ)
script_lines n = opening ++ map declaration (range_with_len 0 n) ++ foralls ++ map square (range_with_len 0 n)
    ++ deeper ++ map link (range_with_len 0 (n - 1)) ++ deeper ++ union (n - 1) (n - 2) ∷ closing

-- its bytes
unfoldable pub script_text : ℕ → List ℕ
script_text n = flat_map line (script_lines n)
