-- What holds of an answer that is returned: the answer, its meaning, and what is stored.
use Rattle.std.specs.Prelude.{◌≡◌, ℕ, List, Some}
use Rattle.symbols_root.specs.Roots.{RootView}
use Rattle.symbols_answers.specs.Questions.{QuestionView, QueryView}
use Rattle.symbols_answers.specs.Answers.{AnswerView, question_answer, query_answer, IsAnswerToQuestion, IsAnswerToQuery, AreAnswerModulesStored}
use Rattle.symbols_answers.specs.Answers.{AreQueryModulesStored}

-- an answer to a question on a stored module
pub record IsQuestionAnswerReturned (old new : RootView) (specifier : List ℕ) (question : QuestionView) (answer : AnswerView) : Type 0 where
  pub answers : question_answer old.rules old.graph specifier question ≡ Some answer
  pub is_right_answer : IsAnswerToQuestion old.rules old.graph specifier question answer
  pub stored : AreAnswerModulesStored new specifier question answer

-- an answer to a query
pub record IsQueryAnswerReturned (old new : RootView) (query : QueryView) (answer : AnswerView) : Type 0 where
  pub answers : query_answer old.rules old.graph query ≡ Some answer
  pub is_right_answer : IsAnswerToQuery old.rules old.graph query answer
  pub stored : AreQueryModulesStored new query answer
