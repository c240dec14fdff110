use Rattle.std.proofs.Common.{[], ◌∷◌, ap, ◌∙◌, inl, refl}
use Rattle.symq_reader.proofs.query_list.after_comma.Goals as goal

pub returns-in-Some : goal.returns-in-Some
returns-in-Some c = record { gap = 32 ∷ []; is_gap = (inl refl, tt); text = c.in_ok-rest.ensures ∙ ap (λ r. 44 ∷ r) c.in-Some.ensures }

pub returns-in-None : goal.returns-in-None
returns-in-None c = record { gap = []; is_gap = tt; text = c.in_ok-rest.ensures }
