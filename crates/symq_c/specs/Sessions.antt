-- The state of a session, and the line for a closed one.
use Rattle.std.specs.Prelude.{◌≡◌, ℕ, List, codes}
use Rattle.symbols_root.specs.declared.rules.Rules.{Rules}
use Rattle.symq_c.specs.declared.session_state.SessionState.{SessionState}
use Rattle.symq_c.specs.GraphTexts.{IsCheckedGraphOfText}
use Rattle.symq_c.specs.ModuleTexts.{IsGraphAfterPut}

-- the state has the graph that the text describes, without faults, and these rules
abbrev pub IsSessionStateOfText : List ℕ → Rules → SessionState → Type 0
IsSessionStateOfText text rules state = IsCheckedGraphOfText text state.graph × (state.rules ≡ rules)

-- the new state has the old rules, and the old graph with the module of the text in place
abbrev pub IsSessionStateAfterPut : List ℕ → SessionState → SessionState → Type 0
IsSessionStateAfterPut text old new = IsGraphAfterPut text old.graph new.graph × (new.rules ≡ old.rules)

abbrev pub closed_session_line : List ℕ
closed_session_line = codes "symq: the session is closed"
