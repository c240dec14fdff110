-- The lines of a block that is read after the front of a line.
use Rattle.std.proofs.Common.{◌≡◌, ◌<◌, ◌+◌, ℕ, List, [], ◌∷◌, ◌++◌, length, Option, Result, Ok}
use Rattle.std.proofs.Common.{Err, IfErr, refl, sym, ap, ◌∙◌, subst, append_assoc, append-nil, arith}
use Rattle.std.specs.Io.KnownBytes.{Appends}
use Rattle.symq_core.specs.declared.fault.EngineFault.{EngineFault}
use Rattle.symq_core.specs.declared.fault.EngineFault.TheVariants.{OutOfMemory, InputFailed, OutputFailed, InputTooLong}
use Rattle.symq_core.specs.Lines.{split_at_newlines, all_but_last, last_or_empty, answer_lines}
use Rattle.symq_core.specs.Serving.{IsPrefixAppendedToOutput}
use Rattle.symq_core.specs.inner.Sessions.{split_with_partial_line, SendsText, IsLinesFault, IsWrittenLinesFault}
use Rattle.symq_core.proofs.Parts.{some_joined, all_but_last-append, last_or_empty-append, answer_lines-append, parts_after_line, parts_after_unended}
use Rattle.symq_core.proofs.Beginnings.{sends_then, sends_all, sends_beginning, sends_beginning_of_waiting, begins_longer}

-- the parts of the block after one more line has ended
pub one_more_line : (line₀ block line rest tail more : List ℕ) (ended : List (List ℕ)) → split_with_partial_line line₀ block ≡ ended
    ++ split_with_partial_line line rest
    → split_at_newlines rest ≡ tail ∷ split_at_newlines more
    → split_with_partial_line line₀ block ≡ (ended ++ (line ++ tail) ∷ []) ++ split_with_partial_line [] more
one_more_line line₀ block line rest tail more ended e f =
    e ∙ ap (λ t. ended ++ t) (parts_after_line line rest tail more f) ∙ sym (append_assoc ended ((line ++ tail) ∷ []) (split_with_partial_line [] more))

-- the lines that end in the block: the first ones, one more, and those after it
lines_of_block : (line : List ℕ) (ended other_items whole : List (List ℕ)) → whole ≡ (ended ++ line ∷ []) ++ other_items → 0 < length other_items
    → all_but_last whole ≡ (ended ++ line ∷ []) ++ all_but_last other_items
lines_of_block line ended other_items whole e h = ap all_but_last e ∙ all_but_last-append (ended ++ line ∷ []) other_items h

-- the answers to the first lines are a beginning of the answers to the block
begin_text : (answer : List ℕ → List ℕ) (u line : List ℕ) (ended other_items whole : List (List ℕ)) → whole ≡ (ended ++ line ∷ []) ++ other_items
    → 0 < length other_items
    → (u ++ (answer_lines answer ended ++ answer_lines answer (line ∷ []))) ++ answer_lines answer (all_but_last other_items)
    ≡ u ++ answer_lines answer (all_but_last whole)
begin_text answer u line ended other_items whole e h =
    let lines = lines_of_block line ended other_items whole e h in
    let texts : answer_lines answer (all_but_last whole)
    ≡ (answer_lines answer ended ++ answer_lines answer (line ∷ [])) ++ answer_lines answer (all_but_last other_items) =
    ap (answer_lines answer) lines ∙ answer_lines-append answer (ended ++ line ∷ []) (all_but_last other_items)
    ∙ ap (λ t. t ++ answer_lines answer (all_but_last other_items)) (answer_lines-append answer ended (line ∷ [])) in
    append_assoc u _ _ ∙ ap (λ t. u ++ t) (sym texts)

-- a beginning of the answer to one more line is a beginning of the answers to the block
one_more_begun : (answer : List ℕ → List ℕ) (a b c : Option (List ℕ)) (u v line₀ block line rest tail more : List ℕ) (ended : List (List ℕ))
    → split_with_partial_line line₀ block ≡ ended ++ split_with_partial_line line rest → split_at_newlines rest ≡ tail ∷ split_at_newlines more
    → SendsText a b u v (answer_lines answer ended)
    → IsPrefixAppendedToOutput b c (v ++ answer_lines answer ((line ++ tail) ∷ []))
    → IsPrefixAppendedToOutput a c (u ++ answer_lines answer (all_but_last (split_with_partial_line line₀ block)))
one_more_begun answer a b c u v line₀ block line rest tail more ended e f p q =
    subst (IsPrefixAppendedToOutput a c) (begin_text answer u (line ++ tail) ended (split_with_partial_line [] more) (split_with_partial_line line₀ block)
    (one_more_line line₀ block line rest tail more ended e f) (some_joined [] (split_at_newlines more)))
    (begins_longer a c _ (answer_lines answer (all_but_last (split_with_partial_line [] more)))
    (sends_beginning a b c u v (answer_lines answer ended) (answer_lines answer ((line ++ tail) ∷ [])) p q))

-- if one more line fails, its block does
pub one_more_fault : (answer : List ℕ → List ℕ) (fault : EngineFault) (a b c : Option (List ℕ)) (u v w line₀ block line rest tail more : List ℕ)
    (ended : List (List ℕ)) (old mid new : ℕ)
    → split_with_partial_line line₀ block ≡ ended ++ split_with_partial_line line rest → split_at_newlines rest ≡ tail ∷ split_at_newlines more
    → SendsText a b u v (answer_lines answer ended) → mid ≡ old
    → IsLinesFault answer ((line ++ tail) ∷ []) b c v w mid new fault
    → IsLinesFault answer (all_but_last (split_with_partial_line line₀ block)) a c u w old new fault
one_more_fault answer OutOfMemory a b c u v w line₀ block line rest tail more ended old mid new e f p m q =
    let after = split_with_partial_line [] more in
    let lines = lines_of_block (line ++ tail) ended after (split_with_partial_line line₀ block)
    (one_more_line line₀ block line rest tail more ended e f) (some_joined [] (split_at_newlines more)) in
    let (first, later, parted, sent) = q.0 in (
      (
        ended ++ first,
        later ++ all_but_last after,
        lines ∙ ap (λ t. (ended ++ t) ++ all_but_last after) parted ∙ ap (λ t. t ++ all_but_last after) (sym (append_assoc ended first later))
            ∙ append_assoc (ended ++ first) later (all_but_last after),
        subst (SendsText a c u w) (sym (answer_lines-append answer ended first))
            (sends_then a b c u v w (answer_lines answer ended) (answer_lines answer first) p sent),
      ),
      q.1 ∙ m,
    )
one_more_fault answer OutputFailed a b c u v w line₀ block line rest tail more ended old mid new e f p m q =
    (one_more_begun answer a b c u v line₀ block line rest tail more ended e f p q.0, q.1 ∙ ap (λ n. n + 1) m)
one_more_fault answer InputFailed a b c u v w line₀ block line rest tail more ended old mid new e f p m q = absurd q
one_more_fault answer InputTooLong a b c u v w line₀ block line rest tail more ended old mid new e f p m q = absurd q

-- if no line end is left, all but the last of the block's parts have ended
pub all_lines : (line₀ block line rest : List ℕ) (ended : List (List ℕ)) → split_with_partial_line line₀ block ≡ ended ++ split_with_partial_line line rest
    → split_at_newlines rest ≡ rest ∷ []
    → (all_but_last (split_with_partial_line line₀ block) ≡ ended) × (last_or_empty (split_with_partial_line line₀ block) ≡ line ++ rest)
all_lines line₀ block line rest ended e f =
    let whole : split_with_partial_line line₀ block ≡ ended ++ (line ++ rest) ∷ [] = e ∙ ap (λ t. ended ++ t) (parts_after_unended line rest f) in (
      ap all_but_last whole ∙ all_but_last-append ended ((line ++ rest) ∷ []) (omega arith) ∙ append-nil ended,
      ap last_or_empty whole ∙ last_or_empty-append ended ((line ++ rest) ∷ []) (omega arith),
    )

-- a flush that fails has written a beginning of the answers to be sent
pub flush_failed : {T : Type 0} (answer : List ℕ → List ℕ) (lines : List (List ℕ)) (r : Result T EngineFault) (a b c : Option (List ℕ))
    (u v w : List ℕ) (old mid new : ℕ)
    → IfErr r (λ fault. (fault ≡ OutputFailed) × IsPrefixAppendedToOutput b c v × (new ≡ mid + 1)) → SendsText a b u v (answer_lines answer lines) → mid ≡ old
    → IfErr r (IsLinesFault answer lines a c u w old new)
flush_failed answer lines (Ok done) a b c u v w old mid new p q e = tt
flush_failed answer lines (Err fault) a b c u v w old mid new p q e =
    subst (IsLinesFault answer lines a c u w old new) (sym p.0)
    (sends_beginning_of_waiting a b c u v (answer_lines answer lines) q p.1, p.2 ∙ ap (λ n. n + 1) e)

-- if the pending answers are then written, all answers before the line that failed are
pub first_written : (answer : List ℕ → List ℕ) (lines : List (List ℕ)) (a b c : Option (List ℕ)) (u v : List ℕ) (old mid new : ℕ)
    → IsLinesFault answer lines a b u v old mid OutOfMemory → Appends b c v → new ≡ mid
    → IsWrittenLinesFault answer lines a c u old new OutOfMemory
first_written answer lines a b c u v old mid new p q e =
    let (first, later, parted, sent) = p.0 in
    ((first, later, parted, sends_all a b c u v (answer_lines answer first) sent q), e ∙ p.1)

-- if writing them fails, a beginning of all answers is written
pub first_begun : (answer : List ℕ → List ℕ) (lines : List (List ℕ)) (a b c : Option (List ℕ)) (u v : List ℕ) (old mid new : ℕ)
    → IsLinesFault answer lines a b u v old mid OutOfMemory → IsPrefixAppendedToOutput b c v → new ≡ mid + 1
    → IsWrittenLinesFault answer lines a c u old new OutputFailed
first_begun answer lines a b c u v old mid new p q e =
    let (first, later, parted, sent) = p.0 in
    let all : (u ++ answer_lines answer first) ++ answer_lines answer later ≡ u ++ answer_lines answer lines =
    append_assoc u (answer_lines answer first) (answer_lines answer later)
    ∙ ap (λ t. u ++ t) (sym (answer_lines-append answer first later) ∙ ap (answer_lines answer) (sym parted)) in (
      subst (IsPrefixAppendedToOutput a c) all (begins_longer a c (u ++ answer_lines answer first) (answer_lines answer later)
          (sends_beginning_of_waiting a b c u v (answer_lines answer first) sent q)),
      e ∙ ap (λ n. n + 1) p.1,
    )

-- another fault stays as it is
pub other_fault : (answer : List ℕ → List ℕ) (lines : List (List ℕ)) (a b : Option (List ℕ)) (u v : List ℕ) (old new : ℕ) (fault : EngineFault)
    → ¬ (fault ≡ OutOfMemory) → IsLinesFault answer lines a b u v old new fault → IsWrittenLinesFault answer lines a b u old new fault
other_fault answer lines a b u v old new OutOfMemory other p = absurd (other refl)
other_fault answer lines a b u v old new OutputFailed other p = p
other_fault answer lines a b u v old new InputFailed other p = absurd p
other_fault answer lines a b u v old new InputTooLong other p = absurd p
