use Rattle.std.proofs.Common.{◌≡◌, ◌∷◌, ◌++◌, [], ◌∙◌, true, false, length, refl, sym, subst, arith}
use Rattle.std.proofs.lemmas.List.{nil_from_length}
use Rattle.std.specs.List.{list_any}
use Rattle.symbols_paths.specs.declared.alias_decl.AliasDecl.{AliasDecl}
use Rattle.symbols_paths.specs.inner.StillToCome.{alias_at_current_decl}
use Rattle.symbols_paths.specs.declared.search_step.AliasSearch.{AliasSearch}
use Rattle.symbols_paths.proofs.SearchSteps.{is_alias_decl}
use Rattle.symbols_paths.proofs.Sets.{new_key, old_key, few_before}
use Rattle.symbols_paths.proofs.NamedPathLemmas.{none_at}
use Rattle.symbols_paths.proofs.AliasSteps.{step_running, step_alias, alias_without_parts}
use Rattle.symbols_paths.specs.inner.PathBuilders.{remaining_parts}
use Rattle.symbols_paths.proofs.follow_decl.begin_alias.Goals as goal

pub returns-then-not-is_new : goal.returns-then-not-is_new
returns-then-not-is_new g c =
    let running = c.args.state.now.resolving.keys in
    let here = c.args.here in
    let alias : AliasDecl = record { «module» = here.symbol.module_id; decl = c.decl.result } in
    let same : alias ≡ alias_at_current_decl here = (λ i. record { «module» = here.symbol.module_id; decl = c.decl.ensures i }) in
    let old = old_key is_alias_decl running c.insert_full.new.self.keys alias c.in_ok-is_new.is_new c.in_ok-is_new.ensures.added
    c.in_ok-is_new.ensures.keys c.if-not-is_new.true in
    rw old.1 (step_running g.start c.args.root.now running c.args.state.now.visited.keys c.args.state.now.frames.items here c.requires.0
    c.stored_modules_distinct.ensures c.args.symbol_id c.args.parts c.requires.1.0 c.requires.1.1 c.at_next_decl.result c.at_next_decl.ensures.next
    (rw c.at_next_decl.ensures.same c.requires.0.step_valid.paths.stored)
    (subst (λ (d : AliasDecl). list_any (is_alias_decl d) running ≡ true) same old.0))

pub returns-then-is_empty : goal.returns-then-is_empty
returns-then-is_empty g c =
    let running = c.args.state.now.resolving.keys in
    let here = c.args.here in
    let alias : AliasDecl = record { «module» = here.symbol.module_id; decl = c.decl.result } in
    let same : alias ≡ alias_at_current_decl here = (λ i. record { «module» = here.symbol.module_id; decl = c.decl.ensures i }) in
    let new = new_key is_alias_decl running c.insert_full.new.self.keys alias c.in_ok-is_new.is_new c.in_ok-is_new.ensures.added
    c.in_ok-is_new.ensures.keys c.if-not-is_new.false in
    let few = few_before is_alias_decl running alias c.in_ok-is_new.field-0-0 new.0 c.in_ok-is_new.ensures.index (omega arith) in
    let w : AliasSearch = record { here = here; parts = c.args.parts; visited = c.replace-visited.result } in
    let visited = c.args.state.now.visited.keys in
    let frames = c.args.state.now.frames.items in
    let root = c.args.root.now in
    let none = nil_from_length (remaining_parts c.in_ok-waits.waits) (none_at (length (remaining_parts c.in_ok-waits.waits))
    (sym c.if-is_empty.true ∙ c.is_empty.ensures)) in
    rw c.in_ok-push_front.ensures.items (alias_without_parts g.start root running visited frames here c.requires.0 c.stored_modules_distinct.ensures
    c.args.symbol_id c.args.parts c.requires.1.0 c.requires.1.1 c.in_ok-waits.waits c.new-target.result c.insert_full.new.self.keys
    c.replace-visited.new.dest.keys c.in_ok-outer.outer none (step_alias g.start root running visited frames here c.requires.0
    c.stored_modules_distinct.ensures c.args.symbol_id c.args.parts c.requires.1.0 c.requires.1.1 w c.in_ok-waits.waits c.new-target.result
    c.insert_full.new.self.keys c.replace-visited.new.dest.keys refl refl (λ i. (c.replace-visited.ensures.value i).keys) c.in_ok-waits.ensures
    c.new-target.ensures.module c.new-target.ensures.symbol (new.1 ∙ (λ i. running ++ same i ∷ []))
    ((λ i. (c.replace-visited.ensures.after i).keys) ∙ c.new.ensures.empty)
    (subst (λ (d : AliasDecl). list_any (is_alias_decl d) running ≡ false) same new.0) few c.in_ok-outer.outer c.in_ok-outer.ensures.ok))

pub returns : goal.returns
returns g c =
    let running = c.args.state.now.resolving.keys in
    let here = c.args.here in
    let alias : AliasDecl = record { «module» = here.symbol.module_id; decl = c.decl.result } in
    let same : alias ≡ alias_at_current_decl here = (λ i. record { «module» = here.symbol.module_id; decl = c.decl.ensures i }) in
    let new = new_key is_alias_decl running c.insert_full.new.self.keys alias c.in_ok-is_new.is_new c.in_ok-is_new.ensures.added
    c.in_ok-is_new.ensures.keys c.if-not-is_new.false in
    let few = few_before is_alias_decl running alias c.in_ok-is_new.field-0-0 new.0 c.in_ok-is_new.ensures.index (omega arith) in
    let w : AliasSearch = record { here = here; parts = c.args.parts; visited = c.replace-visited.result } in
    rw (c.in_ok-push_front-2.ensures.items, c.in_ok-push_front.ensures.items) (step_alias g.start c.args.root.now running c.args.state.now.visited.keys
    c.args.state.now.frames.items here c.requires.0 c.stored_modules_distinct.ensures c.args.symbol_id c.args.parts c.requires.1.0 c.requires.1.1 w
    c.in_ok-waits.waits c.new-target.result c.insert_full.new.self.keys c.replace-visited.new.dest.keys refl refl
    (λ i. (c.replace-visited.ensures.value i).keys) c.in_ok-waits.ensures c.new-target.ensures.module c.new-target.ensures.symbol
    (new.1 ∙ (λ i. running ++ same i ∷ [])) ((λ i. (c.replace-visited.ensures.after i).keys) ∙ c.new.ensures.empty)
    (subst (λ (d : AliasDecl). list_any (is_alias_decl d) running ≡ false) same new.0) few c.in_ok-outer.outer c.in_ok-outer.ensures.ok)
