-- What a session has read and written between two lines.
use Rattle.std.specs.Prelude.{◌≡◌, ℕ, ◌+◌, List, [], ◌∷◌, ◌++◌, Option}
use Rattle.std.specs.Io.KnownBytes.{Appends}
use Rattle.symbols_root.specs.Roots.{RootView}
use Rattle.symq_core.specs.AnswerTexts.{answer_text}
use Rattle.symq_core.specs.Lines.{split_at_newlines, answer_lines}
use Rattle.symq_core.specs.Serving.{IsPrefixAppendedToOutput}
use Rattle.symq_core.specs.declared.fault.EngineFault.{EngineFault}
use Rattle.symq_core.specs.declared.fault.EngineFault.TheVariants.{OutOfMemory, InputFailed, OutputFailed, InputTooLong}

-- the answer of a root to a line: by its rules and its graph
abbrev pub line_answer : RootView → List ℕ → List ℕ
line_answer root = answer_text root.rules root.graph

-- the text was appended to the pending answers, of which a beginning was written
abbrev pub SendsText : Option (List ℕ) → Option (List ℕ) → List ℕ → List ℕ → List ℕ → Type 0
SendsText old new waiting_old waiting_new text = (sent : List ℕ) × (waiting_old ++ text ≡ sent ++ waiting_new) × Appends old new sent

-- the line is joined to the first of the parts
abbrev pub prepend_to_first : List ℕ → List (List ℕ) → List (List ℕ)
prepend_to_first line [] = line ∷ []
prepend_to_first line (part ∷ parts) = (line ++ part) ∷ parts

-- the parts of a block that comes after a line without an end
abbrev pub split_with_partial_line : List ℕ → List ℕ → List (List ℕ)
split_with_partial_line line block = prepend_to_first line (split_at_newlines block)

-- the answers to some first lines were appended to the pending answers, of which a beginning was written
abbrev pub SendsFirstAnswers : (List ℕ → List ℕ) → List (List ℕ) → Option (List ℕ) → Option (List ℕ) → List ℕ → List ℕ → Type 0
SendsFirstAnswers answer lines old new waiting_old waiting_new = (first : List (List ℕ)) × (later : List (List ℕ)) × (lines ≡ first ++ later)
    × SendsText old new waiting_old waiting_new (answer_lines answer first)

-- a fault while lines are answered, with the output, the pending answers and the count of failed writes before and after: at a failed
-- allocation the answers to the lines before are written or pending, at a failed write a beginning of all answers is written
abbrev pub IsLinesFault : (List ℕ → List ℕ) → List (List ℕ) → Option (List ℕ) → Option (List ℕ) → List ℕ → List ℕ → ℕ → ℕ → EngineFault → Type 0
IsLinesFault answer lines old new waiting_old waiting_new count_old count_new OutOfMemory =
    SendsFirstAnswers answer lines old new waiting_old waiting_new × (count_new ≡ count_old)
IsLinesFault answer lines old new waiting_old waiting_new count_old count_new OutputFailed =
    IsPrefixAppendedToOutput old new (waiting_old ++ answer_lines answer lines) × (count_new ≡ count_old + 1)
IsLinesFault answer lines old new waiting_old waiting_new count_old count_new InputFailed = ⊥
IsLinesFault answer lines old new waiting_old waiting_new count_old count_new InputTooLong = ⊥

-- the pending answers and those to some first lines were written
abbrev pub WritesPendingAndFirst : (List ℕ → List ℕ) → List (List ℕ) → Option (List ℕ) → Option (List ℕ) → List ℕ → Type 0
WritesPendingAndFirst answer lines old new waiting = (first : List (List ℕ)) × (later : List (List ℕ)) × (lines ≡ first ++ later)
    × Appends old new (waiting ++ answer_lines answer first)

-- such a fault after what was pending is written
abbrev pub IsWrittenLinesFault : (List ℕ → List ℕ) → List (List ℕ) → Option (List ℕ) → Option (List ℕ) → List ℕ → ℕ → ℕ → EngineFault → Type 0
IsWrittenLinesFault answer lines old new waiting count_old count_new OutOfMemory =
    WritesPendingAndFirst answer lines old new waiting × (count_new ≡ count_old)
IsWrittenLinesFault answer lines old new waiting count_old count_new OutputFailed =
    IsPrefixAppendedToOutput old new (waiting ++ answer_lines answer lines) × (count_new ≡ count_old + 1)
IsWrittenLinesFault answer lines old new waiting count_old count_new InputFailed = ⊥
IsWrittenLinesFault answer lines old new waiting count_old count_new InputTooLong = ⊥
