-- Why a question on a stored module fails: definitions for inner functions and proofs.
use Rattle.std.specs.Prelude.{◌≡◌, ◌≢◌, ◌⊎◌, ℕ, List, Option, Some, None, Result, IfErr}
use Rattle.symbols_table.specs.declared.info.fault.SymbolsFault.{SymbolsFault}
use Rattle.symbols_table.specs.declared.info.fault.SymbolsFault.TheVariants.{OutOfMemory, UnknownSymbol}
use Rattle.symbols_root.specs.Roots.{RootView, widest_limits, IsStoringFault}
use Rattle.symbols_root.specs.Growing.{HasGrown}
use Rattle.symbols_answers.specs.Questions.{QuestionView}
use Rattle.symbols_answers.specs.Answers.{question_answer}
use Rattle.symbols_queries.specs.Queries.{IsOtherModuleNeededByQuestion}

-- the stored module has no such symbol: nothing changes
pub record IsUnknownSymbolQuestionFault (old new : RootView) (specifier : List ℕ) (question : QuestionView) (fault : SymbolsFault) : Type 0 where
  pub no_answer_in_module : question_answer old.rules old.graph specifier question ≡ None
  pub fault_is : fault ≡ UnknownSymbol
  pub unchanged : new ≡ old

-- there is an answer; another module that it may need is refused, or an allocation failed
pub record IsOtherModuleForQuestionRefused (old new : RootView) (specifier : List ℕ) (question : QuestionView) (fault : SymbolsFault) : Type 0 where
  pub has_answer : question_answer old.rules old.graph specifier question ≢ None
  pub needed : Option (List ℕ)
  pub is_needed : (v : List ℕ) → needed ≡ Some v → IsOtherModuleNeededByQuestion old.rules old.graph specifier question v
  pub refused : IsStoringFault new needed fault

abbrev pub IsQuestionFault : RootView → RootView → List ℕ → QuestionView → SymbolsFault → Type 0
IsQuestionFault old new specifier question fault = IsUnknownSymbolQuestionFault old new specifier question fault
    ⊎ IsOtherModuleForQuestionRefused old new specifier
    question fault

-- after a question on a stored module: stored modules stay, a fault has one of these reasons, and by the widest limits it is `OutOfMemory`
-- or `UnknownSymbol`
pub record HasGrownAndQuestionFailsOnlyFor {A : Type 0} (old new : RootView) (reasons : SymbolsFault → Type 0) (result : Result A SymbolsFault) : Type 0 where
  pub grown : HasGrown old new
  pub refused : IfErr result reasons
  pub enough : old.limits ≡ widest_limits → IfErr result (λ fault. (fault ≡ OutOfMemory) ⊎ (fault ≡ UnknownSymbol))
