-- Any bank keeps the laws, from the laws of what it is made of.
use Rattle.banks.specs.Either.{one_of}
use Rattle.banks.specs.Frame.{frame}
use Rattle.banks.specs.Kind.{Laws}
use Rattle.banks.specs.Nested.{nested}
use Rattle.banks.specs.Paired.{paired}
use Rattle.banks.specs.Variables.{variables}
use Rattle.banks.specs.Eithers.{either_laws}
use Rattle.banks.specs.Frames.{frame_laws}
use Rattle.banks.specs.Nests.{nested_laws}
use Rattle.banks.specs.Pairs.{paired_laws}
use Rattle.banks.specs.Tables.{variables_laws}
use Rattle.choices.specs.Banks.{plain}

-- A bank that is no frame keeps the laws.
pub plain_laws : Laws plain
plain_laws = either_laws variables (one_of nested paired) variables_laws (either_laws nested paired nested_laws paired_laws)

-- So does a frame over one.
pub framed_laws : Laws (frame plain)
framed_laws = frame_laws plain plain_laws
