-- Which rows and forms fit a bank: all names are known, a move has two equal widths, an operation three, and a constant stays within the width of d.
use Rattle.std.specs.Prelude.{ℕ, ◌+◌, ◌*◌, ◌^◌, Bool, true, cond, ◌&&◌, List, [], ◌∷◌, Some, None, Option, ◌==◌, nat_lt}
use Rattle.forms.specs.declared.row.Row.{Row}
use Rattle.forms.specs.Code.{Code}
use Rattle.forms.specs.Rows.{limits_of}
use Rattle.banks.specs.declared.misfit.FitFault.TheVariants.{AtRow, AtParameter}
use Rattle.banks.specs.declared.misfit.FitFault.{FitFault}
use Rattle.banks.specs.declared.misfit.Side.{Side}
use Rattle.banks.specs.Firsts.{◌otherwise◌}
use Rattle.banks.specs.Kind.{Description}

-- A field is a known name, of n; one that the kind lacks is no name.
abbrev pub known_in : ℕ → Option ℕ → ℕ → Bool
known_in n None x = true
known_in n (Some highest) x = nat_lt x n

-- All names of a row are known.
abbrev pub names_known : ℕ → Row → Bool
names_known n r =
    known_in n (limits_of r.kind 0).d r.d
    && (known_in n (limits_of r.kind 0).a r.a
    && known_in n (limits_of r.kind 0).b r.b)

-- The widths are as the kind asks: 0 a move, 1 a constant, 2 an operation.
abbrev pub widths_fit : Description → Row → Bool
widths_fit d r =
    cond (r.kind == 0) (d.width r.d == d.width r.a)
    (cond (r.kind == 1) (nat_lt r.c (2 ^ (8 * d.width r.d)))
    (cond (r.kind == 2) (d.width r.d == d.width r.a && d.width r.d == d.width r.b) true))

-- A row fits a bank.
abbrev pub row_fits : Description → Row → Bool
row_fits d r = names_known d.names r && widths_fit d r

module _ (d : Description) (side : Side) where
  -- The first row of a block that does not fit, from row i on.
  abbrev pub unfit_row : ℕ → ℕ → List Row → Option FitFault
  unfit_row block i [] = None
  unfit_row block i (r ∷ rows) = cond (row_fits d r) (unfit_row block (i + 1) rows) (Some (AtRow side block i))

  -- The first of the blocks' rows, from a block on.
  abbrev pub unfit_block : ℕ → List (List Row) → Option FitFault
  unfit_block block [] = None
  unfit_block block (rows ∷ blocks) = unfit_row block 0 rows otherwise unfit_block (block + 1) blocks

  -- The first parameter that is no known name, from the i-th on.
  abbrev pub unfit_parameter : ℕ → List ℕ → Option FitFault
  unfit_parameter i [] = None
  unfit_parameter i (p ∷ params) = cond (nat_lt p d.names) (unfit_parameter (i + 1) params) (Some (AtParameter side i))

  -- The first thing of a form that does not fit, if anything does not: rows come before parameters.
  abbrev pub unfit : Code → Option FitFault
  unfit code = unfit_block 0 code.blocks otherwise unfit_parameter 0 code.params
