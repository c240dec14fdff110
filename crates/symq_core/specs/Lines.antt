-- The lines of an input, and the text of their answers.
use Rattle.std.specs.Prelude.{ℕ, List, [], ◌∷◌, ◌++◌, ◌==◌}
use Rattle.std.specs.List.{slice_split, flat_map}

-- the byte that ends a line
abbrev pub line_end : ℕ
line_end = 10

-- the bytes, split at the line ends
abbrev pub split_at_newlines : List ℕ → List (List ℕ)
split_at_newlines bytes = slice_split (λ b. b == line_end) bytes

abbrev pub all_but_last : List (List ℕ) → List (List ℕ)
all_but_last [] = []
all_but_last (x ∷ []) = []
all_but_last (x ∷ y ∷ more) = x ∷ all_but_last (y ∷ more)

abbrev pub last_or_empty : List (List ℕ) → List ℕ
last_or_empty [] = []
last_or_empty (x ∷ []) = x
last_or_empty (x ∷ y ∷ more) = last_or_empty (y ∷ more)

-- the bytes as one line, or no line if they are empty
abbrev pub nonempty_line : List ℕ → List (List ℕ)
nonempty_line [] = []
nonempty_line (b ∷ bytes) = (b ∷ bytes) ∷ []

-- the lines that have a line end
abbrev pub terminated_lines : List ℕ → List (List ℕ)
terminated_lines bytes = all_but_last (split_at_newlines bytes)

-- all lines: the last needs no line end, but an empty last part is no line
abbrev pub input_lines : List ℕ → List (List ℕ)
input_lines input = terminated_lines input ++ nonempty_line (last_or_empty (split_at_newlines input))

-- the answer to each line, with a line end after each
abbrev pub answer_lines : (List ℕ → List ℕ) → List (List ℕ) → List ℕ
answer_lines answer lines = flat_map (λ line. answer line ++ line_end ∷ []) lines

-- the whole output for an input
abbrev pub output_text_of : (List ℕ → List ℕ) → List ℕ → List ℕ
output_text_of answer input = answer_lines answer (input_lines input)
