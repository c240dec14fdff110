use Rattle.symbols_paths.proofs.SearchSteps.{is_symbol}
use Rattle.symbols_paths.proofs.Sets.{new_key, old_key}
use Rattle.symbols_paths.proofs.DeclSteps.{step_visited, step_new}
use Rattle.symbols_paths.proofs.follow_decl.begin_search.Goals as goal

pub returns-then-not-is_new : goal.returns-then-not-is_new
returns-then-not-is_new g c =
    let visited = c.args.state.now.visited.keys in
    let old = old_key is_symbol visited c.insert.new.self.keys c.args.symbol c.in_ok-is_new.is_new c.in_ok-is_new.ensures.added
    c.in_ok-is_new.ensures.keys c.if-not-is_new.true in
    rw old.1 (step_visited g.start c.args.root.now c.args.state.now.resolving.keys visited c.args.state.now.frames.items c.args.symbol c.requires
    c.stored_modules_distinct.ensures c.new-paths.result c.new-paths.ensures.items old.0)

pub returns : goal.returns
returns g c =
    let visited = c.args.state.now.visited.keys in
    let new = new_key is_symbol visited c.insert.new.self.keys c.args.symbol c.in_ok-is_new.is_new c.in_ok-is_new.ensures.added
    c.in_ok-is_new.ensures.keys c.if-not-is_new.false in
    let few = c.in_ok-is_new.ensures.few c.if-not-is_new.false in
    step_new g.start c.args.root.now c.args.state.now.resolving.keys visited c.args.state.now.frames.items c.args.symbol c.requires
    c.stored_modules_distinct.ensures c.new-paths.result c.new-paths.ensures.items c.insert.new.self.keys new.1 new.0 few
