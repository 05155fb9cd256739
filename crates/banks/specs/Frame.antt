-- A frame over a bank of n names: slots with declared widths become names n and up. The other names are the bank's below.
use Rattle.std.specs.Prelude.{ℕ, ◌+◌, ◌-◌, cond, ◌&&◌, List, length, take, Some, None, Option, ◌==◌, nat_lt, slice_index}
use Rattle.banks.specs.Kind.{Description, Kind}
use Rattle.banks.specs.Table.{Table, cell_look, cell_put, with_words}

-- A bank's description with slots of these widths behind its names. A slot touches only itself and is kept over everything.
abbrev pub with_slots : Description → List ℕ → Description
with_slots d widths = record {
  names = d.names + length widths;
  width = λ a. cond (nat_lt a d.names) (d.width a) (slice_index widths (a - d.names));
  touches = λ a b. cond (nat_lt a d.names) (d.touches a b) (a == b && nat_lt a (d.names + length widths));
  kept_over = λ l a. cond (nat_lt a d.names) (d.kept_over l a) (nat_lt a (d.names + length widths));
}

-- The slots that get a name behind n others: there is none from 64 up. A frame is made only where all of its slots get one.
abbrev pub named : ℕ → List ℕ → List ℕ
named n widths = take (64 - n) widths

-- The slot that a name is behind n others, if it is one.
abbrev pub slot_at : ℕ → ℕ → Option ℕ
slot_at n a = cond (nat_lt a n) None (cond (nat_lt a 64) (Some (a - n)) None)

-- A frame means what the bank below means, and its table of slots.
pub record Framed (k : Kind) : Type 0 where
  pub below : k.Meaning
  pub slots : Table

module _ (k : Kind) where
  -- A table of slots over a bank.
  abbrev pub over : k.Meaning → Table → Framed k
  over below slots = record { below = below; slots = slots }

  -- How many names the bank below has.
  abbrev pub names_below : Framed k → ℕ
  names_below m = (k.describe m.below).names

  -- The widths of the slots that have a name.
  abbrev pub slots_of : Framed k → List ℕ
  slots_of m = named (names_below m) m.slots.widths

  -- Another meaning of the bank below.
  abbrev pub with_below : Framed k → k.Meaning → Framed k
  with_below m below = over below m.slots

  -- Other words in the slots.
  abbrev pub with_slot_words : Framed k → (ℕ → ℕ) → Framed k
  with_slot_words m words = over m.below (with_words m.slots words)

  -- The kind. The losses are those of the bank below.
  abbrev pub frame : Kind
  frame = record {
    Meaning = Framed k;
    describe = λ m. with_slots (k.describe m.below) (slots_of m);
    look = λ m a. cond (nat_lt a (names_below m)) (k.look m.below a) (cell_look (slots_of m) m.slots.words (a - names_below m));
    put = λ m a w. cond (nat_lt a (names_below m)) (with_below m (k.put m.below a w)) (with_slot_words m (cell_put (slots_of m) m.slots.words (a - names_below m) w));
    lose = λ m l w. with_below m (k.lose m.below l w);
  }
