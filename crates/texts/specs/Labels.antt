-- How operations and kinds of rows are named, and how rows, refusals and counts are printed.
use Rattle.std.specs.Prelude.{ℕ, cond, ◌||◌, List, [], ◌∷◌, ◌++◌, Some, None, codes, decimal, Option, ◌==◌, slice_index_or}
use Rattle.forms.specs.declared.Row.{Row}
use Rattle.numbers.specs.declared.Refusal.{Refusal}

-- What stands at a place in a list of words, or a question mark past its end.
abbrev pub label : List (List ℕ) → ℕ → List ℕ
label words n = slice_index_or words n (codes "?")

-- The operations 0 to 11.
abbrev pub operations : List (List ℕ)
operations =
    codes "add" ∷ codes "subtract" ∷ codes "multiply" ∷ codes "and" ∷ codes "or" ∷ codes "xor" ∷ codes "shl" ∷ codes "shr" ∷ codes "divide" ∷ codes "remainder" ∷ codes "less" ∷ codes "equal" ∷ []

-- The kinds 0 to 10.
abbrev pub kinds : List (List ℕ)
kinds =
    codes "move" ∷ codes "constant" ∷ codes "operate" ∷ codes "fit" ∷ codes "load" ∷ codes "store" ∷ codes "call" ∷ codes "go" ∷ codes "choose" ∷ codes "pause" ∷ codes "give" ∷ []

-- A refusal with its five fields.
abbrev pub refusal_text : Refusal → List ℕ
refusal_text r =
    codes "refused " ++ (decimal r.number ++ (codes " side " ++ (decimal r.side ++ (codes " place " ++ (decimal r.place ++ (codes " rows " ++ (decimal r.before ++ (codes " " ++ decimal r.after))))))))

-- How many blocks, parameters and rows a form has.
abbrev pub counts_text : ℕ → ℕ → ℕ → List ℕ
counts_text blocks parameters rows =
    decimal blocks ++ (codes " blocks, " ++ (decimal parameters ++ (codes " parameters, " ++ (decimal rows ++ codes " rows"))))

-- A word and a number after it.
abbrev pub with1 : List ℕ → ℕ → List ℕ
with1 word a = word ++ (codes " " ++ decimal a)

-- A word and two numbers after it.
abbrev pub with2 : List ℕ → ℕ → ℕ → List ℕ
with2 word a b = word ++ (codes " " ++ (decimal a ++ (codes " " ++ decimal b)))

-- A word and three numbers after it.
abbrev pub with3 : List ℕ → ℕ → ℕ → ℕ → List ℕ
with3 word a b c = word ++ (codes " " ++ (decimal a ++ (codes " " ++ (decimal b ++ (codes " " ++ decimal c)))))

-- What is printed of a row; nothing is said of a constant, whose value is hexadecimal.
abbrev pub row_text : Row → Option (List ℕ)
row_text r =
    let word = label kinds r.kind in
    cond (r.kind == 1) None
    (cond (r.kind == 2) (Some (word ++ (codes " " ++ with3 (label operations r.o) r.d r.a r.b)))
    (cond (r.kind == 0 || (r.kind == 3 || r.kind == 4)) (Some (with2 word r.d r.a))
    (cond (r.kind == 5) (Some (with2 word r.a r.b))
    (cond (r.kind == 6) (Some (with3 word r.k r.d r.a))
    (cond (r.kind == 7 || r.kind == 9) (Some (with1 word r.t))
    (cond (r.kind == 8) (Some (with3 word r.a r.t r.f))
    (Some (with1 word r.a))))))))
