use Rattle.std.proofs.Common.{◌≡◌, false, ap, ◌∙◌, arith}
use Rattle.std.specs.Str.{bytes_eq}
use Rattle.symbols_answers.specs.Questions.{append_specifier_if_absent}
use Rattle.symbols_queries.proofs.SpecifierKeys.{added_other}
use Rattle.symbols_queries.proofs.specifier_list.SpecifierList.add.Goals as goal

pub returns-in_ok-insert : goal.returns-in_ok-insert
returns-in_ok-insert c =
    let other : bytes_eq c.args.specifier.now c.self.inside.first.now ≡ false = grind (arith, c.ne.ensures, c.if-ne.true) in
    added_other c.self.inside.first.now c.self.inside.added.keys c.insert.new.self.keys c.args.specifier other c.in_ok-insert.ensures.keys
    ∙ ap (λ list. append_specifier_if_absent list c.args.specifier.now) c.self.view_is
