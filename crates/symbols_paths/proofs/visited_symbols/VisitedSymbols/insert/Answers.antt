use Rattle.std.proofs.Common.{◌≡◌, true, false, not, [], ◌∷◌, ◌++◌, refl, sym, ap, ◌∙◌}
use Rattle.std.specs.List.{list_any}
use Rattle.std.specs.Option.{option_map_or}
use Rattle.indexmap.specs.IndexSet.{insert_key}
use Rattle.symbols_paths.specs.inner.VisitedSymbols.{is_same_unique_id}
use Rattle.symbols_paths.proofs.Sets.{in_second, among_swapped}
use Rattle.symbols_paths.proofs.visited_symbols.VisitedSymbols.insert.Goals as goal

pub returns-clause-added : goal.returns-clause-added
returns-clause-added c =
    let few = c.self.inside.few.items in
    let s = c.args.symbol in
    let absent : list_any (is_same_unique_id s) few ≡ false = sym (among_swapped few s)
    ∙ (ap (list_any (λ t. is_same_unique_id t s)) (sym c.deref.ensures.value) ∙ (sym c.contains.ensures.value ∙ c.if-contains.false)) in
    let keys : few ++ [] ≡ c.args.self.now.keys = ap (λ m. few ++ option_map_or (λ more. more.value.keys) m []) (sym c.in_default.is)
    ∙ ap (λ v. v.keys) c.self.view_is in
    (in_second is_same_unique_id few [] (s ∷ []) s true absent refl refl).0 ∙ ap (λ ks. not (list_any (is_same_unique_id s) ks)) keys

pub returns-clause-keys : goal.returns-clause-keys
returns-clause-keys c =
    let few = c.self.inside.few.items in
    let s = c.args.symbol in
    let absent : list_any (is_same_unique_id s) few ≡ false = sym (among_swapped few s)
    ∙ (ap (list_any (λ t. is_same_unique_id t s)) (sym c.deref.ensures.value) ∙ (sym c.contains.ensures.value ∙ c.if-contains.false)) in
    let keys : few ++ [] ≡ c.args.self.now.keys = ap (λ m. few ++ option_map_or (λ more. more.value.keys) m []) (sym c.in_default.is)
    ∙ ap (λ v. v.keys) c.self.view_is in
    let new : c.in_ok-new.field-0.value.keys ≡ s ∷ [] = ap (λ set. set.keys) c.in_ok-new.ensures.ok
    ∙ (c.in_ok-insert.ensures.keys ∙ ap (λ ks. insert_key is_same_unique_id ks s) c.new-more.ensures.empty) in
    ap (λ ks. few ++ ks) new ∙ ((in_second is_same_unique_id few [] (s ∷ []) s true absent refl refl).1 ∙ ap (λ ks. insert_key is_same_unique_id ks s) keys)
