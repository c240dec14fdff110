-- The part of the whole output that was written when serving failed.
use Rattle.std.proofs.Common.{◌≡◌, ◌≤◌, ℕ, arith, length, length-append, IfSome, List, [], ◌++◌, Option, Some}
use Rattle.std.proofs.Common.{None, Result, Ok, Err, IfErr, sym, ap, ◌∙◌, subst, append_assoc, append-nil}
use Rattle.std.specs.Io.KnownBytes.{Appends, Consumes, IsAtEnd}
use Rattle.std.proofs.KnownBytes.{Appends-trans}
use Rattle.symq_core.specs.declared.fault.EngineFault.{EngineFault}
use Rattle.symq_core.specs.declared.fault.EngineFault.TheVariants.{OutOfMemory, InputFailed, OutputFailed, InputTooLong}
use Rattle.symq_core.specs.Lines.{split_at_newlines, all_but_last, last_or_empty, nonempty_line, terminated_lines, input_lines, answer_lines}
use Rattle.symq_core.specs.Lines.{output_text_of}
use Rattle.symq_core.specs.Serving.{IsPrefixAppendedToOutput, IsPrefixOfOutputWritten, AreFirstAnswersWritten, IsServeFault}
use Rattle.symq_core.specs.inner.Sessions.{split_with_partial_line, IsWrittenLinesFault, WritesPendingAndFirst}
use Rattle.symq_core.proofs.Parts.{terminated_lines-append, last_part_of-append, answer_lines-append}
use Rattle.symq_core.proofs.Beginnings.{begins_after, begins_longer}

-- the answers to the ended lines of what was read are a beginning of the output
output_begins : (answer : List ℕ → List ℕ) (read left : List ℕ)
    → (more : List ℕ) × (output_text_of answer (read ++ left) ≡ answer_lines answer (terminated_lines read) ++ more)
output_begins answer read left =
    let other_items = all_but_last (split_with_partial_line (last_or_empty (split_at_newlines read)) left)
    ++ nonempty_line (last_or_empty (split_at_newlines (read ++ left))) in (
      answer_lines answer other_items,
      ap (λ t. answer_lines answer (t ++ nonempty_line (last_or_empty (split_at_newlines (read ++ left))))) (terminated_lines-append read left)
          ∙ ap (answer_lines answer)
          (append_assoc (terminated_lines read) (all_but_last (split_with_partial_line (last_or_empty (split_at_newlines read)) left))
          (nonempty_line (last_or_empty (split_at_newlines (read ++ left)))))
          ∙ answer_lines-append answer (terminated_lines read) other_items,
    )

-- the answers after one more block
pub block_answers : (answer : List ℕ → List ℕ) (read line waiting block : List ℕ) → waiting ≡ [] → line ≡ last_or_empty (split_at_newlines read)
    → answer_lines answer (terminated_lines read) ++ (waiting ++ answer_lines answer (all_but_last (split_with_partial_line line block)))
    ≡ answer_lines answer (terminated_lines (read ++ block))
block_answers answer read line waiting block e f =
    ap (λ t. answer_lines answer (terminated_lines read) ++ (t ++ answer_lines answer (all_but_last (split_with_partial_line line block)))) e
    ∙ ap (λ t. answer_lines answer (terminated_lines read) ++ answer_lines answer (all_but_last (split_with_partial_line t block))) f
    ∙ sym (answer_lines-append answer (terminated_lines read) (all_but_last (split_with_partial_line (last_or_empty (split_at_newlines read)) block)))
    ∙ ap (answer_lines answer) (sym (terminated_lines-append read block))

pub block_line : (read line next block : List ℕ) → line ≡ last_or_empty (split_at_newlines read) → next ≡ last_or_empty (split_with_partial_line line block)
    → next ≡ last_or_empty (split_at_newlines (read ++ block))
block_line read line next block e f = f ∙ ap (λ t. last_or_empty (split_with_partial_line t block)) e ∙ sym (last_part_of-append read block)

pub block_sent : (answer : List ℕ → List ℕ) (a b c : Option (List ℕ)) (read line waiting block : List ℕ) → waiting ≡ []
    → line ≡ last_or_empty (split_at_newlines read)
    → Appends a b (answer_lines answer (terminated_lines read))
    → Appends b c (waiting ++ answer_lines answer (all_but_last (split_with_partial_line line block)))
    → Appends a c (answer_lines answer (terminated_lines (read ++ block)))
block_sent answer a b c read line waiting block e f p q = subst (Appends a c) (block_answers answer read line waiting block e f) (Appends-trans a b c _ _ p q)

pub block_begun : (answer : List ℕ → List ℕ) (a b c : Option (List ℕ)) (read line waiting block : List ℕ) → waiting ≡ []
    → line ≡ last_or_empty (split_at_newlines read)
    → Appends a b (answer_lines answer (terminated_lines read))
    → IsPrefixAppendedToOutput b c (waiting ++ answer_lines answer (all_but_last (split_with_partial_line line block)))
    → IsPrefixAppendedToOutput a c (answer_lines answer (terminated_lines (read ++ block)))
block_begun answer a b c read line waiting block e f p q =
    subst (IsPrefixAppendedToOutput a c) (block_answers answer read line waiting block e f) (begins_after a b c _ _ p q)

-- a beginning of the answers to what was read is a beginning of the output
pub begun_output : (answer : List ℕ → List ℕ) (input left a c : Option (List ℕ)) (read : List ℕ) → Consumes input left read
    → IsPrefixAppendedToOutput a c (answer_lines answer (terminated_lines read))
    → IsPrefixOfOutputWritten answer input a c
begun_output answer None left a c read h p = tt
begun_output answer (Some bytes) None a c read h p = absurd h
begun_output answer (Some bytes) (Some ys) a c read h p =
    let whole = output_begins answer read ys in
    subst (IsPrefixAppendedToOutput a c) (sym (ap (output_text_of answer) h ∙ whole.1))
    (begins_longer a c (answer_lines answer (terminated_lines read)) whole.0 p)

-- at the end of the input the answer to the last line completes the output
output_at_end : (answer : List ℕ → List ℕ) (bytes left read line waiting : List ℕ) → Consumes (Some bytes) (Some left) read → left ≡ [] → waiting ≡ []
    → line ≡ last_or_empty (split_at_newlines read)
    → answer_lines answer (terminated_lines read) ++ (waiting ++ answer_lines answer (nonempty_line line)) ≡ output_text_of answer bytes
output_at_end answer bytes left read line waiting h end e f =
    let all : bytes ≡ read = h ∙ ap (λ t. read ++ t) end ∙ append-nil read in
    ap (λ t. answer_lines answer (terminated_lines read) ++ (t ++ answer_lines answer (nonempty_line line))) e
    ∙ ap (λ t. answer_lines answer (terminated_lines read) ++ answer_lines answer (nonempty_line t)) f
    ∙ sym (answer_lines-append answer (terminated_lines read) (nonempty_line (last_or_empty (split_at_newlines read)))) ∙ ap (output_text_of answer) (sym all)

pub served_at_end : (answer : List ℕ → List ℕ) (input left a b c : Option (List ℕ)) (read line waiting : List ℕ) → Consumes input left read → IsAtEnd left
    → waiting ≡ [] → line ≡ last_or_empty (split_at_newlines read)
    → Appends a b (answer_lines answer (terminated_lines read)) → Appends b c (waiting ++ answer_lines answer (nonempty_line line))
    → IfSome input (λ bytes. Appends a c (output_text_of answer bytes))
served_at_end answer None left a b c read line waiting h end e f p q = tt
served_at_end answer (Some bytes) None a b c read line waiting h end e f p q = absurd h
served_at_end answer (Some bytes) (Some ys) a b c read line waiting h end e f p q =
    subst (Appends a c) (output_at_end answer bytes ys read line waiting h end e f) (Appends-trans a b c _ _ p q)

pub begun_at_end : (answer : List ℕ → List ℕ) (input left a b c : Option (List ℕ)) (read line waiting : List ℕ) → Consumes input left read → IsAtEnd left
    → waiting ≡ [] → line ≡ last_or_empty (split_at_newlines read)
    → Appends a b (answer_lines answer (terminated_lines read)) → IsPrefixAppendedToOutput b c (waiting ++ answer_lines answer (nonempty_line line))
    → IsPrefixOfOutputWritten answer input a c
begun_at_end answer None left a b c read line waiting h end e f p q = tt
begun_at_end answer (Some bytes) None a b c read line waiting h end e f p q = absurd h
begun_at_end answer (Some bytes) (Some ys) a b c read line waiting h end e f p q =
    subst (IsPrefixAppendedToOutput a c) (output_at_end answer bytes ys read line waiting h end e f) (begins_after a b c _ _ p q)

-- an input has at least as many bytes as were read of it
pub read_within : (n : ℕ) (input left : Option (List ℕ)) (read : List ℕ) → Consumes input left read → n ≤ length read → IfSome input (λ bytes. n ≤ length bytes)
read_within n None left read h le = tt
read_within n (Some bytes) None read h le = absurd h
read_within n (Some bytes) (Some ys) read h le = omega (arith, le, ap length h, length-append read ys)

-- a fault while lines are answered is a fault of serving
pub fails_from : (answer : List ℕ → List ℕ) (lines : List (List ℕ)) (fault : EngineFault) (waiting : List ℕ) (old new : ℕ)
    (input left a b c : Option (List ℕ)) → IsWrittenLinesFault answer lines b c waiting old new fault
    → (WritesPendingAndFirst answer lines b c waiting → AreFirstAnswersWritten answer input a c)
    → (IsPrefixAppendedToOutput b c (waiting ++ answer_lines answer lines) → IsPrefixOfOutputWritten answer input a c)
    → IsServeFault answer fault input left a c
fails_from answer lines OutOfMemory waiting old new input left a b c h p q = p h.0
fails_from answer lines OutputFailed waiting old new input left a b c h p q = q h.0
fails_from answer lines InputFailed waiting old new input left a b c h p q = absurd h
fails_from answer lines InputTooLong waiting old new input left a b c h p q = absurd h

pub fails_if : {T : Type 0} (answer : List ℕ → List ℕ) (lines : List (List ℕ)) (r : Result T EngineFault) (waiting : List ℕ) (old new : ℕ)
    (input left a b c : Option (List ℕ)) → IfErr r (IsWrittenLinesFault answer lines b c waiting old new)
    → (WritesPendingAndFirst answer lines b c waiting → AreFirstAnswersWritten answer input a c)
    → (IsPrefixAppendedToOutput b c (waiting ++ answer_lines answer lines) → IsPrefixOfOutputWritten answer input a c)
    → IfErr r (λ fault. IsServeFault answer fault input left a c)
fails_if answer lines (Ok done) waiting old new input left a b c h p q = tt
fails_if answer lines (Err fault) waiting old new input left a b c h p q = fails_from answer lines fault waiting old new input left a b c h p q

-- the ended lines of what was read are the first lines of the input
lines_begin : (read left : List ℕ) → (more : List (List ℕ)) × (input_lines (read ++ left) ≡ terminated_lines read ++ more)
lines_begin read left =
    let last = nonempty_line (last_or_empty (split_at_newlines (read ++ left))) in
    let in_block = all_but_last (split_with_partial_line (last_or_empty (split_at_newlines read)) left) in
    (in_block ++ last, ap (λ t. t ++ last) (terminated_lines-append read left) ∙ append_assoc (terminated_lines read) in_block last)

-- the answers to the lines before, and to some first lines after them, are answers to first lines of the input
first_after : (answer : List ℕ → List ℕ) (bytes : List ℕ) (a b c : Option (List ℕ)) (before lines more : List (List ℕ)) (waiting : List ℕ) → waiting ≡ []
    → input_lines bytes ≡ (before ++ lines) ++ more → Appends a b (answer_lines answer before) → WritesPendingAndFirst answer lines b c waiting
    → AreFirstAnswersWritten answer (Some bytes) a c
first_after answer bytes a b c before lines more waiting none e p q =
    let (first, later, parted, written) = q in (
      before ++ first,
      later ++ more,
      e ∙ ap (λ t. (before ++ t) ++ more) parted ∙ ap (λ t. t ++ more) (sym (append_assoc before first later)) ∙ append_assoc (before ++ first) later more,
      subst (Appends a c) (sym (answer_lines-append answer before first))
          (Appends-trans a b c (answer_lines answer before) (answer_lines answer first) p
          (subst (λ t. Appends b c (t ++ answer_lines answer first)) none written)),
    )

-- if a line of one more block fails, the answers to the lines before it are written
pub block_first : (answer : List ℕ → List ℕ) (input left a b c : Option (List ℕ)) (read line waiting block : List ℕ) → Consumes input left (read ++ block)
    → waiting ≡ [] → line ≡ last_or_empty (split_at_newlines read)
    → Appends a b (answer_lines answer (terminated_lines read))
    → WritesPendingAndFirst answer (all_but_last (split_with_partial_line line block)) b c waiting
    → AreFirstAnswersWritten answer input a c
block_first answer None left a b c read line waiting block h e f p q = tt
block_first answer (Some bytes) None a b c read line waiting block h e f p q = absurd h
block_first answer (Some bytes) (Some ys) a b c read line waiting block h e f p q =
    let whole = lines_begin (read ++ block) ys in
    let ended : terminated_lines (read ++ block) ≡ terminated_lines read ++ all_but_last (split_with_partial_line line block) =
    terminated_lines-append read block ∙ ap (λ t. terminated_lines read ++ all_but_last (split_with_partial_line t block)) (sym f) in
    first_after answer bytes a b c (terminated_lines read) (all_but_last (split_with_partial_line line block)) whole.0 waiting e
    (ap input_lines h ∙ whole.1 ∙ ap (λ t. t ++ whole.0) ended) p q

-- if the last line fails, the answers to the lines before it are written
pub last_first : (answer : List ℕ → List ℕ) (input left a b c : Option (List ℕ)) (read line waiting : List ℕ) → Consumes input left read → IsAtEnd left
    → waiting ≡ [] → line ≡ last_or_empty (split_at_newlines read)
    → Appends a b (answer_lines answer (terminated_lines read)) → WritesPendingAndFirst answer (nonempty_line line) b c waiting
    → AreFirstAnswersWritten answer input a c
last_first answer None left a b c read line waiting h end e f p q = tt
last_first answer (Some bytes) None a b c read line waiting h end e f p q = absurd h
last_first answer (Some bytes) (Some ys) a b c read line waiting h end e f p q =
    let all : bytes ≡ read = h ∙ ap (λ t. read ++ t) end ∙ append-nil read in
    first_after answer bytes a b c (terminated_lines read) (nonempty_line line) [] waiting e
    (ap input_lines all ∙ ap (λ t. terminated_lines read ++ nonempty_line t) (sym f) ∙ sym (append-nil (terminated_lines read ++ nonempty_line line))) p q
