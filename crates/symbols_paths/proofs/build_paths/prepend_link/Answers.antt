use Rattle.std.proofs.Common.{[], ◌∷◌, ◌++◌, ap, sym, subst, ◌∙◌, append-nil}
use Rattle.std.specs.Option.{option_map_or}
use Rattle.symbols_paths.specs.PathTrees.{forest_of_tree}
use Rattle.symbols_paths.specs.Views.{paths_by_specifier, modules_of_path, modules_of_paths, AreModulesStored}
use Rattle.symbols_paths.specs.inner.PathBuilders.{remaining_parts, link_head_of_step}
use Rattle.symbols_paths.proofs.NamedPathLemmas.{step_of, tree_of_step, modules_of_step, link_of_some, stored_more, is_some}
use Rattle.symbols_paths.proofs.build_paths.prepend_link.Goals as goal

pub returns-clause-view : goal.returns-clause-view
returns-clause-view c = λ root.
    let s = c.args.step in
    let path = step_of s.symbol.module_id s.symbol.symbol_id s.symbol_decl c.in_ok-parts.parts c.args.next in
    ap (paths_by_specifier root) (c.in_ok-push.ensures.items ∙ ap (λ paths. paths ++ path ∷ []) c.in_ok-paths.ensures.items)
    ∙ (ap forest_of_tree (tree_of_step root s.symbol.module_id s.symbol.symbol_id s.symbol_decl c.in_ok-parts.parts c.args.next
    (option_map_or remaining_parts s.parts []) c.in_ok-parts.ensures)
    ∙ sym (link_of_some (link_head_of_step root s) root c.args.next.items (is_some c.args.next (sym c.if-is_empty.false ∙ c.is_empty.ensures))))

pub returns-clause-stored : goal.returns-clause-stored
returns-clause-stored c = λ root a b.
    let s = c.args.step in
    let path = step_of s.symbol.module_id s.symbol.symbol_id s.symbol_decl c.in_ok-parts.parts c.args.next in
    let here = subst (AreModulesStored root) (sym (modules_of_step s.symbol.module_id s.symbol.symbol_id s.symbol_decl c.in_ok-parts.parts c.args.next))
    (stored_more root s.symbol.module_id (modules_of_paths c.args.next.items) a b) in
    subst (λ paths. AreModulesStored root (modules_of_paths paths))
    (sym (c.in_ok-push.ensures.items ∙ ap (λ paths. paths ++ path ∷ []) c.in_ok-paths.ensures.items))
    (subst (AreModulesStored root) (sym (append-nil (modules_of_path path))) here)
