-- Rows: which fields each kind has, and the rules that one row keeps.
use Rattle.std.specs.Prelude.{ℕ, Bool, true, false, cond, ◌&&◌, ◌||◌, List, [], ◌∷◌, Some, None, Option, ◌==◌, nat_le, nat_lt, slice_index_or}
use Rattle.forms.specs.declared.limits.Limits.{Limits}
use Rattle.forms.specs.declared.row.Row.{Row}

-- The highest number of each field of a row, in the order o d a b k c t f; whether there is a constant, which may be any word.
abbrev pub fields : Option ℕ → Option ℕ → Option ℕ → Option ℕ → Option ℕ → Bool → Option ℕ → Option ℕ → Limits
fields o d a b k c t f = record { o = o; d = d; a = a; b = b; k = k; c = c; t = t; f = f }

-- Names go to 63.
abbrev pub name : Option ℕ
name = Some 63

-- The kinds 0 to 10, in a form whose last block is `last`.
abbrev pub kinds : ℕ → List Limits
kinds last =
    -- in the order o d a b k c t f
    fields None name name None None false None None  -- 0 move d s, where s stands in a
    ∷ fields None name None None None true None None  -- 1 constant d c
    ∷ fields (Some 11) name name name None false None None  -- 2 operate o d a b
    ∷ fields None name name None None false None None  -- 3 fit d a
    ∷ fields None name name None None false None None  -- 4 load d a
    ∷ fields None None name name None false None None  -- 5 store a b
    ∷ fields None name name None (Some 255) false None None  -- 6 call k d a
    ∷ fields None None None None None false (Some last) None  -- 7 go t
    ∷ fields None None name None None false (Some last) (Some last)  -- 8 choose a t f
    ∷ fields None None None None None false (Some last) None  -- 9 pause t
    ∷ fields None None name None None false None None  -- 10 give a
    ∷ []

-- The fields of a kind; a number that is no kind has none.
abbrev pub limits_of : ℕ → ℕ → Limits
limits_of kind last = slice_index_or (kinds last) kind (fields None None None None None false None None)

-- A field stays within its limit; one that the kind lacks is 0.
abbrev pub within : Option ℕ → ℕ → Bool
within None value = value == 0
within (Some highest) value = nat_le value highest

-- A constant is any word; where there is none, it is 0.
abbrev pub within_word : Bool → ℕ → Bool
within_word there value = there || value == 0

-- Every field of a row stays within its limit.
abbrev pub fields_ok : Limits → Row → Bool
fields_ok l r =
    ((((((within l.o r.o
    && within l.d r.d)
    && within l.a r.a)
    && within l.b r.b)
    && within l.k r.k)
    && within_word l.c r.c)
    && within l.t r.t)
    && within l.f r.f

-- A row keeps the rules: its kind is one of 0 to 10, and its fields stay within their limits.
abbrev pub row_ok : ℕ → Row → Bool
row_ok last r = nat_le r.kind 10 && fields_ok (limits_of r.kind last) r

-- Kinds 7 to 10 are endings: the last row of a block is one, and no other is.
abbrev pub placed_ok : Bool → Row → Bool
placed_ok at_end r = cond at_end (nat_le 7 r.kind) (nat_lt r.kind 7)
