-- What is read and written when serving succeeds or fails.
use Rattle.std.specs.Prelude.{◌≡◌, ℕ, ◌+◌, ◌≤◌, List, ◌++◌, length, Option, IfSome, Result, Ok, Err}
use Rattle.std.specs.Io.KnownBytes.{Appends, Consumes}
use Rattle.symq_core.specs.Devices.{COUNT_LIMIT}
use Rattle.symq_core.specs.Lines.{terminated_lines, input_lines, answer_lines, output_text_of}
use Rattle.symq_core.specs.declared.fault.EngineFault.{EngineFault}
use Rattle.symq_core.specs.declared.fault.EngineFault.TheVariants.{OutOfMemory, InputFailed, OutputFailed, InputTooLong}

-- a beginning of the text was appended to the output, if the output is known
abbrev pub IsPrefixAppendedToOutput : Option (List ℕ) → Option (List ℕ) → List ℕ → Type 0
IsPrefixAppendedToOutput old new text = (sent : List ℕ) × (unsent : List ℕ) × (text ≡ sent ++ unsent) × Appends old new sent

-- the output has the answers to exactly those lines that were read with their ends
abbrev pub AreAnswersOfReadLinesWritten : (List ℕ → List ℕ) → Option (List ℕ) → Option (List ℕ) → Option (List ℕ) → Option (List ℕ) → Type 0
AreAnswersOfReadLinesWritten answer input left old new = (read : List ℕ) × Consumes input left read × Appends old new
    (answer_lines answer (terminated_lines read))

-- a beginning of the whole output was written
abbrev pub IsPrefixOfOutputWritten : (List ℕ → List ℕ) → Option (List ℕ) → Option (List ℕ) → Option (List ℕ) → Type 0
IsPrefixOfOutputWritten answer input old new = IfSome input (λ bytes. IsPrefixAppendedToOutput old new (output_text_of answer bytes))

-- the answers to some first lines were written, each whole
abbrev pub AreFirstAnswersWritten : (List ℕ → List ℕ) → Option (List ℕ) → Option (List ℕ) → Option (List ℕ) → Type 0
AreFirstAnswersWritten answer input old new = IfSome input (λ bytes. (first : List (List ℕ)) × (later : List (List ℕ)) × (input_lines bytes ≡ first ++ later)
    × Appends old new (answer_lines answer first))

-- what was written when serving failed with a fault
abbrev pub IsServeFault : (List ℕ → List ℕ) → EngineFault → Option (List ℕ) → Option (List ℕ) → Option (List ℕ) → Option (List ℕ) → Type 0
IsServeFault answer OutOfMemory input left old new = AreFirstAnswersWritten answer input old new
IsServeFault answer OutputFailed input left old new = IsPrefixOfOutputWritten answer input old new
IsServeFault answer InputFailed input left old new = AreAnswersOfReadLinesWritten answer input left old new
IsServeFault answer InputTooLong input left old new = AreAnswersOfReadLinesWritten answer input left old new × IfSome input
    (λ bytes. COUNT_LIMIT ≤ length bytes)

-- the failure that a result reports is counted, and no other
abbrev pub CountsFailures : {T : Type 0} → Result T EngineFault → ℕ → ℕ → ℕ → ℕ → Type 0
CountsFailures (Err InputFailed) read_old read_new write_old write_new = (read_new ≡ read_old + 1) × (write_new ≡ write_old)
CountsFailures (Err OutputFailed) read_old read_new write_old write_new = (read_new ≡ read_old) × (write_new ≡ write_old + 1)
CountsFailures (Err OutOfMemory) read_old read_new write_old write_new = (read_new ≡ read_old) × (write_new ≡ write_old)
CountsFailures (Err InputTooLong) read_old read_new write_old write_new = (read_new ≡ read_old) × (write_new ≡ write_old)
CountsFailures (Ok done) read_old read_new write_old write_new = (read_new ≡ read_old) × (write_new ≡ write_old)
