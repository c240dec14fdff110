use Rattle.symbols_exports.specs.declared.name_filter.NameFilter.TheVariants.{OneName}
use Rattle.symbols_exports.proofs.VisitedModules.{visited_modules}
use Rattle.symbols_exports.proofs.OneNameEntry.{popped_answer}
use Rattle.symbols_exports.proofs.WalkEndsOrBreaks.{are_listed, grown_by, grown_fault}
use Rattle.symbols_exports.proofs.export_walk.export_of_counted.Goals as goal

pub returns-in_err-answer-clause-grown : goal.returns-in_err-answer-clause-grown
returns-in_err-answer-clause-grown c =
    let broken = c.in_err-answer.ensures.faults in
    grown_fault (OneName c.args.name) c.args.root.now c.walk_exports.new.root c.args.module_id _ broken.0 broken.2

pub returns-in-Some-clause-grown : goal.returns-in-Some-clause-grown
returns-in-Some-clause-grown c =
    let walked = c.in_ok-answer.ensures.answers.2 in
    grown_by c.args.root.now (visited_modules walked.reached) c.walk_exports.new.root walked.stored

pub returns-clause-grown : goal.returns-clause-grown
returns-clause-grown c =
    let walked = c.in_ok-answer.ensures.answers.2 in
    grown_by c.args.root.now (visited_modules walked.reached) c.walk_exports.new.root walked.stored

pub returns-in-Some-clause-answers : goal.returns-in-Some-clause-answers
returns-in-Some-clause-answers c =
    let walked = c.in_ok-answer.ensures.answers in (
      walked.0,
      walked.1,
      popped_answer c.args.name.now c.pop.new.self.entries c.in-Some.field-0-0 c.in-Some.chain c.in_ok-answer.answer.resolved.entries
          c.in-Some.ensures.entries walked.2,
    )

pub returns-in_err-answer-clause-listed : goal.returns-in_err-answer-clause-listed
returns-in_err-answer-clause-listed c = λ start. are_listed c.args.root.now.graph start

pub returns-in-Some-clause-listed : goal.returns-in-Some-clause-listed
returns-in-Some-clause-listed c = λ start. are_listed c.args.root.now.graph start

pub returns-clause-listed : goal.returns-clause-listed
returns-clause-listed c = λ start. are_listed c.args.root.now.graph start
