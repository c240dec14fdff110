use Rattle.std.proofs.Common.{◌≡◌, ap, sym, subst, ◌∙◌, ◌++◌, ◌∷◌, []}
use Rattle.std.specs.Prelude.{vec_len}
use Rattle.symbols_paths.specs.declared.path_builder.PathBuilder.TheVariants as builder
use Rattle.symbols_paths.specs.PathTrees.{joined_forests}
use Rattle.symbols_paths.specs.Views.{AreModulesStored}
use Rattle.symbols_paths.specs.inner.PathBuilders.{reversed_link_heads_of_segments, forest_below_reversed_links, built_path, built_paths, modules_of_segments}
use Rattle.symbols_paths.specs.inner.PathBuilders.{modules_of_builder, modules_of_builders}
use Rattle.symbols_paths.proofs.NamedPathLemmas.{none_at}
use Rattle.symbols_paths.proofs.BuilderLemmas.{named_fork, modules_fork, named_alone, named_with_builder, modules_with_builder, stored_one}
use Rattle.symbols_paths.proofs.path_builder.join_builders.Goals as goal

pub returns-then-is_empty-clause-view : goal.returns-then-is_empty-clause-view
returns-then-is_empty-clause-view c = λ root.
    let branches = c.pop.new.self in
    named_alone root branches.items c.in-Some.last (sym branches.ok.0 ∙ none_at (vec_len branches) (sym c.if-is_empty.true ∙ c.is_empty.ensures))
    ∙ ap (built_paths root) (sym c.in-Some.ensures.items)

pub returns-clause-view : goal.returns-clause-view
returns-clause-view c = λ root.
    let branches = c.shrink_to_fit.new.self in
    let all : c.args.builders.items ≡ branches.items ++ c.in-Some.last ∷ [] =
    c.in-Some.ensures.items ∙ ap (λ xs. xs ++ c.in-Some.last ∷ []) (sym c.shrink_to_fit.ensures.items) in
    named_fork root c.new-2.result branches c.in_ok-last.last
    ∙ ((λ i. forest_below_reversed_links (reversed_link_heads_of_segments root (c.new-2.ensures.items i))
    (joined_forests (built_paths root branches.items) (built_path root (c.in_ok-last.ensures.ok i))))
    ∙ (sym (named_with_builder root branches.items c.in-Some.last) ∙ ap (built_paths root) (sym all)))

pub returns-clause-stored : goal.returns-clause-stored
returns-clause-stored c = λ root h.
    let branches = c.shrink_to_fit.new.self in
    let all : c.args.builders.items ≡ branches.items ++ c.in-Some.last ∷ [] =
    c.in-Some.ensures.items ∙ ap (λ xs. xs ++ c.in-Some.last ∷ []) (sym c.shrink_to_fit.ensures.items) in
    let split = subst (AreModulesStored root) (ap modules_of_builders all ∙ modules_with_builder branches.items c.in-Some.last) h in
    let whole = subst (AreModulesStored root) (λ i. modules_of_segments (sym c.new-2.ensures.items i)
    ++ (modules_of_builders branches.items ++ modules_of_builder (sym c.in_ok-last.ensures.ok i))) split in
    stored_one root (builder.Fork c.new-2.result branches c.in_ok-last.last)
    (subst (AreModulesStored root) (sym (modules_fork c.new-2.result branches c.in_ok-last.last)) whole)
