-- Beginnings of a text that were written, and the pending rest.
use Rattle.std.proofs.Common.{◌≡◌, ◌<◌, ℕ, zero, suc, List, [], ◌++◌, Ok, Option, refl, sym, ap, ◌∙◌, subst, append_assoc, append-nil, arith}
use Rattle.std.specs.Io.KnownBytes.{Appends}
use Rattle.std.proofs.KnownBytes.{Appends-nil, Appends-trans}
use Rattle.symq_core.specs.declared.device.DeviceFault.{DeviceFault}
use Rattle.symq_core.specs.Devices.{failures_in_write}
use Rattle.symq_core.specs.Serving.{IsPrefixAppendedToOutput}
use Rattle.symq_core.specs.inner.Sessions.{SendsText}

-- a write that accepts some bytes is no failure
pub write_counts_none : (n : ℕ) → 0 < n → failures_in_write {E = DeviceFault} (Ok n) ≡ 0
write_counts_none zero h = absurd (omega arith)
write_counts_none (suc n) h = refl

-- writing nothing writes a beginning of any text
pub begins_nothing : (a : Option (List ℕ)) (text : List ℕ) → IsPrefixAppendedToOutput a a text
begins_nothing a text = ([], text, refl, Appends-nil a)

pub begins_after : (a b c : Option (List ℕ)) (sent text : List ℕ) → Appends a b sent → IsPrefixAppendedToOutput b c text → IsPrefixAppendedToOutput a c
    (sent ++ text)
begins_after a b c sent text p q =
    (sent ++ q.0, q.1, ap (λ t. sent ++ t) q.2 ∙ sym (append_assoc sent q.0 q.1), Appends-trans a b c sent q.0 p q.3)

pub begins_longer : (a b : Option (List ℕ)) (text more : List ℕ) → IsPrefixAppendedToOutput a b text → IsPrefixAppendedToOutput a b (text ++ more)
begins_longer a b text more p = (p.0, p.1 ++ more, ap (λ t. t ++ more) p.2 ∙ append_assoc p.0 p.1 more, p.3)

pub begins_whole : (a b : Option (List ℕ)) (text : List ℕ) → Appends a b text → IsPrefixAppendedToOutput a b text
begins_whole a b text p = (text, [], sym (append-nil text), p)

-- sending nothing leaves what is pending
pub sends_nothing : (a : Option (List ℕ)) (waiting : List ℕ) → SendsText a a waiting waiting []
sends_nothing a waiting = ([], append-nil waiting, Appends-nil a)

pub sends_then : (a b c : Option (List ℕ)) (u v w s t : List ℕ) → SendsText a b u v s → SendsText b c v w t → SendsText a c u w (s ++ t)
sends_then a b c u v w s t p q = (
  p.0 ++ q.0,
  sym (append_assoc u s t) ∙ ap (λ x. x ++ t) p.1 ∙ append_assoc p.0 v t ∙ ap (λ x. p.0 ++ x) q.1 ∙ sym (append_assoc p.0 q.0 w),
  Appends-trans a b c p.0 q.0 p.2 q.2,
)

-- if what is pending is then written, all of the text is written
pub sends_all : (a b c : Option (List ℕ)) (u v s : List ℕ) → SendsText a b u v s → Appends b c v → Appends a c (u ++ s)
sends_all a b c u v s p q = subst (Appends a c) (sym p.1) (Appends-trans a b c p.0 v p.2 q)

-- if a beginning of the pending text and of a further one is written, it is a beginning of both
pub sends_beginning : (a b c : Option (List ℕ)) (u v s t : List ℕ) → SendsText a b u v s → IsPrefixAppendedToOutput b c (v ++ t) → IsPrefixAppendedToOutput a c
    (u ++ (s ++ t))
sends_beginning a b c u v s t p q =
    subst (IsPrefixAppendedToOutput a c) (sym (append_assoc p.0 v t) ∙ ap (λ x. x ++ t) (sym p.1) ∙ append_assoc u s t) (begins_after a b c p.0 (v ++ t) p.2 q)

pub sends_beginning_of_waiting : (a b c : Option (List ℕ)) (u v s : List ℕ) → SendsText a b u v s → IsPrefixAppendedToOutput b c v
    → IsPrefixAppendedToOutput a c (u ++ s)
sends_beginning_of_waiting a b c u v s p q = subst (IsPrefixAppendedToOutput a c) (sym p.1) (begins_after a b c p.0 v p.2 q)
