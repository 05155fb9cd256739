-- A bank that is one of two: it answers and changes as the one it is.
use Rattle.std.specs.Prelude.{ℕ, ◌⊎◌}
use Rattle.std.proofs.Common.{inl, inr}
use Rattle.banks.specs.declared.loss.Loss.{Loss}
use Rattle.banks.specs.Kind.{Description, Kind}

module _ (j k : Kind) where
  -- It means what the one that it is means.
  abbrev pub OneOf : Type 0
  OneOf = j.Meaning ⊎ k.Meaning

  -- Its description.
  abbrev pub describe_one : OneOf → Description
  describe_one (inl m) = j.describe m
  describe_one (inr m) = k.describe m

  -- What a name holds.
  abbrev pub look_one : OneOf → ℕ → ℕ
  look_one (inl m) a = j.look m a
  look_one (inr m) a = k.look m a

  -- A put of a word under a name.
  abbrev pub put_one : OneOf → ℕ → ℕ → OneOf
  put_one (inl m) a w = inl (j.put m a w)
  put_one (inr m) a w = inr (k.put m a w)

  -- A loss.
  abbrev pub lose_one : OneOf → Loss → ℕ → OneOf
  lose_one (inl m) l w = inl (j.lose m l w)
  lose_one (inr m) l w = inr (k.lose m l w)

  -- The kind.
  abbrev pub one_of : Kind
  one_of = record {
    Meaning = OneOf;
    describe = describe_one;
    look = look_one;
    put = put_one;
    lose = lose_one;
  }
