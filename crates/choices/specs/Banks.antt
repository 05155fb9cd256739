-- The banks that the program makes, what they mean, and what a change makes of them.
use Rattle.std.specs.Prelude.{◌≡◌, ℕ, List, Some, Option}
use Rattle.std.proofs.Common.{inl, inr}
use Rattle.std.specs.Option.{option_map}
use Rattle.banks.specs.declared.either.Either.{Either}
use Rattle.banks.specs.declared.frame.Frame.{Frame}
use Rattle.banks.specs.declared.nested.Nested.{Nested}
use Rattle.banks.specs.declared.paired.Paired.{Paired}
use Rattle.banks.specs.declared.variables.Variables.{Variables}
use Rattle.banks.specs.Either.{one_of}
use Rattle.banks.specs.Frame.{Framed, over, frame}
use Rattle.banks.specs.Kind.{Kind}
use Rattle.banks.specs.Made.{frame_fault, Fresh}
use Rattle.banks.specs.Nested.{nested, nested_from}
use Rattle.banks.specs.Meanings.{table_of, units_of, bytes_of, chosen}
use Rattle.banks.specs.Paired.{paired, paired_from}
use Rattle.banks.specs.Table.{Table}
use Rattle.banks.specs.Variables.{variables}
use Rattle.choices.specs.declared.any_bank.AnyBank.{AnyBank}
use Rattle.choices.specs.declared.any_bank.FramedFault.{FramedFault}
use Rattle.choices.specs.declared.any_bank.FramedFault.TheVariants.{Layers, Slots}
use Rattle.choices.specs.declared.changes.Change.{Change}
use Rattle.choices.specs.declared.changes.Change.TheVariants.{Put, Lose}

-- A bank that is no frame: variables, nested or paired.
abbrev pub PlainBank : Type 0
PlainBank = Either Variables (Either Nested Paired)

-- Its kind.
abbrev pub plain : Kind
plain = one_of variables (one_of nested paired)

-- What it means.
abbrev pub plain_meaning : PlainBank → plain.Meaning
plain_meaning = chosen (λ v. table_of v.cells) (chosen units_of bytes_of)

-- What a frame means, by what the bank below means.
abbrev pub frame_meaning : {B : Type 0} (k : Kind) → (B → k.Meaning) → Frame B → Framed k
frame_meaning k meaning f = over k (meaning f.below) (table_of f.slots)

-- The kind of any bank: no frame, a frame over one that is none, or a frame over such a frame.
abbrev pub any : Kind
any = one_of plain (one_of (frame plain) (frame (frame plain)))

-- What one of these means.
abbrev pub choice_meaning : Either PlainBank (Either (Frame PlainBank) (Frame (Frame PlainBank))) → any.Meaning
choice_meaning = chosen plain_meaning (chosen (frame_meaning plain plain_meaning) (frame_meaning (frame plain) (frame_meaning plain plain_meaning)))

-- What any bank means.
abbrev pub any_meaning : AnyBank → any.Meaning
any_meaning bank = choice_meaning bank.choice

-- New variables of these widths.
abbrev pub NewVariables : List ℕ → any.Meaning → Type 0
NewVariables widths b = (t : Table) × Fresh widths t × (b ≡ inl (inl t))

-- A new nested bank, made from a word.
abbrev pub new_nested : ℕ → any.Meaning
new_nested w = inl (inr (inl (nested_from w)))

-- A new paired bank, made from a word.
abbrev pub new_paired : ℕ → any.Meaning
new_paired w = inl (inr (inr (paired_from w)))

-- Why slots of these widths make no frame over a bank, if they make none. There are at most two layers of frames.
abbrev pub framed_fault : any.Meaning → List ℕ → Option FramedFault
framed_fault (inl m) widths = option_map Slots (frame_fault (plain.describe m).names widths)
framed_fault (inr (inl m)) widths = option_map Slots (frame_fault ((frame plain).describe m).names widths)
framed_fault (inr (inr m)) widths = Some Layers

-- A bank with one layer more than another, of new slots of these widths.
abbrev pub NewFrame : any.Meaning → List ℕ → any.Meaning → Type 0
NewFrame (inl m) widths b = (t : Table) × Fresh widths t × (b ≡ inr (inl (over plain m t)))
NewFrame (inr (inl m)) widths b = (t : Table) × Fresh widths t × (b ≡ inr (inr (over (frame plain) m t)))
NewFrame (inr (inr m)) widths b = ⊥

-- What a bank means after a change.
abbrev pub changed : (k : Kind) → Change → k.Meaning → k.Meaning
changed k (Put a w) m = k.put m a w
changed k (Lose l w) m = k.lose m l w
