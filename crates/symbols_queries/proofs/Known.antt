-- The module numbers in chains and in paths are those of stored modules, for each part of a result.
use Rattle.std.proofs.Common.{◌≡◌, ℕ, ◌<◌, List, [], ◌∷◌, ◌++◌, length, map, get_or, subst, ap, ◌∙◌, arith, rules}
use Rattle.std.specs.Prelude.{All, filter_map}
use Rattle.std.proofs.lemmas.List.{length-map, get_or-map}
use Rattle.std.proofs.lemmas.List.Elements.{All-nil, All-cons, All-head, All-tail, All-get_or}
use Rattle.symbols_ast.specs.declared.ids.ModuleId.{ModuleId}
use Rattle.symbols_root.specs.Roots.{RootView}
use Rattle.symbols_exports.specs.declared.export_chain.ResolvedExportOrReExportAllPath.{ResolvedExportOrReExportAllPath}
use Rattle.symbols_exports.specs.declared.export_chain.ResolvedExportOrReExportAllPath.TheVariants.{Export, ReExportAllPath, ReExportAllPath'}
use Rattle.symbols_exports.specs.declared.export_chain.ResolvedReExportAllPath.{ResolvedReExportAllPath}
use Rattle.symbols_exports.specs.ExportViews.{AreReferrersOfStarsStored}
use Rattle.symbols_paths.specs.declared.definition_path.DefinitionPathLink.{DefinitionPathLink}
use Rattle.symbols_paths.specs.declared.definition_path.DefinitionPathNode.{DefinitionPathNode, the_lemmas}
use Rattle.symbols_paths.specs.declared.definition_path.DefinitionPathNode.TheVariants as node
use Rattle.symbols_paths.specs.declared.definition_path.DefinitionPathNodeResolved.TheVariants as resolved
use Rattle.symbols_paths.specs.declared.definition.Definition.{Definition}
use Rattle.symbols_paths.specs.declared.definition_unresolved.DefinitionUnresolved.{DefinitionUnresolved}
use Rattle.symbols_paths.specs.Views.{modules_of_path, modules_of_paths, concat_module_ids, AreModulesStored}
use Rattle.symbols_queries.proofs.Naming.{first_statement}

-- a property of all elements of a list holds of its parts
pub all_front : {X : Type 0} (P : X → Type 0) (xs ys : List X) → All P (xs ++ ys) → All P xs
all_front P [] ys all = All-nil P
all_front P (x ∷ xs) ys all = All-cons P x xs (All-head P x (xs ++ ys) all) (all_front P xs ys (All-tail P x (xs ++ ys) all))

pub all_back : {X : Type 0} (P : X → Type 0) (xs ys : List X) → All P (xs ++ ys) → All P ys
all_back P [] ys all = all
all_back P (x ∷ xs) ys all = all_back P xs ys (All-tail P x (xs ++ ys) all)

-- a property of all images of a list holds of the image of each element
pub mapped_at : {X Y : Type 0} (P : Y → Type 0) (f : X → Y) (xs : List X) (i : ℕ) (d : X) → i < length xs → All P (map f xs) → P (f (get_or xs i d))
mapped_at P f xs i d within all = subst P (get_or-map f xs i d (f d) within) (All-get_or P (map f xs) i (f d) (omega (arith, within, length-map xs f)) all)

-- and of the image of the first element, and of those after it
pub mapped_first : {X Y : Type 0} (P : Y → Type 0) (f : X → Y) (left : List X) (x : X) (rest : List X) → left ≡ x ∷ rest → All P (map f left) → P (f x)
mapped_first P f left x rest is all = All-head P (f x) (map f rest) (subst (λ xs. All P (map f xs)) is all)

pub mapped_rest : {X Y : Type 0} (P : Y → Type 0) (f : X → Y) (left : List X) (x : X) (rest : List X) → left ≡ x ∷ rest → All P (map f left)
    → All P (map f rest)
mapped_rest P f left x rest is all = All-tail P (f x) (map f rest) (subst (λ xs. All P (map f xs)) is all)

module _ (root : RootView) where
  abbrev pub IsKnown : ModuleId → Type 0
  IsKnown id = id.0 < length root.stored

  abbrev KnownStatement : ModuleId × List ℕ → Type 0
  KnownStatement statement = statement.0.0 < length root.stored

  -- ---- chains

  -- the remaining chain begins with a statement, and has a next part
  pub chain_first : (left : List ResolvedExportOrReExportAllPath) (path : ResolvedExportOrReExportAllPath) (rest : List ResolvedExportOrReExportAllPath)
      (at : ResolvedReExportAllPath) → left ≡ path ∷ rest → path ≡ ReExportAllPath at → AreReferrersOfStarsStored root (filter_map first_statement left)
      → IsKnown at.referrer_module
  chain_first left path rest at is first known =
      let here : left ≡ ReExportAllPath at ∷ rest = is ∙ ap (λ p. p ∷ rest) first in
      All-head KnownStatement (at.referrer_module, at.specifier.now) (filter_map first_statement rest)
      (subst (λ xs. AreReferrersOfStarsStored root (filter_map first_statement xs)) here known)

  -- the remaining statements
  pub chain_left : (left : List ResolvedExportOrReExportAllPath) (path : ResolvedExportOrReExportAllPath) (rest : List ResolvedExportOrReExportAllPath)
      (at : ResolvedReExportAllPath) → left ≡ path ∷ rest → path ≡ ReExportAllPath at
      → filter_map first_statement left ≡ (at.referrer_module, at.specifier.now) ∷ filter_map first_statement rest
  chain_left left path rest at is first = ap (filter_map first_statement) (is ∙ ap (λ p. p ∷ rest) first)

  after_first_part : (path : ResolvedExportOrReExportAllPath) (rest : List ResolvedExportOrReExportAllPath)
      → AreReferrersOfStarsStored root (filter_map first_statement (path ∷ rest)) → AreReferrersOfStarsStored root (filter_map first_statement rest)
  after_first_part (Export export) rest known = known
  after_first_part (ReExportAllPath' referrer text p next) rest known = All-tail KnownStatement (referrer, text.now) (filter_map first_statement rest) known

  pub chain_rest : (left : List ResolvedExportOrReExportAllPath) (path : ResolvedExportOrReExportAllPath) (rest : List ResolvedExportOrReExportAllPath)
      → left ≡ path ∷ rest → AreReferrersOfStarsStored root (filter_map first_statement left) → AreReferrersOfStarsStored root (filter_map first_statement rest)
  chain_rest left path rest is known = after_first_part path rest (subst (λ xs. AreReferrersOfStarsStored root (filter_map first_statement xs)) is known)

  -- ---- lists of values that name several modules

  pub joined_first : {X : Type 0} (f : X → List ModuleId) (left : List X) (x : X) (rest : List X) → left ≡ x ∷ rest
      → AreModulesStored root (concat_module_ids (map f left))
      → AreModulesStored root (f x)
  joined_first f left x rest is known =
      all_front IsKnown (f x) (concat_module_ids (map f rest)) (subst (λ xs. AreModulesStored root (concat_module_ids (map f xs))) is known)

  pub joined_rest : {X : Type 0} (f : X → List ModuleId) (left : List X) (x : X) (rest : List X) → left ≡ x ∷ rest
      → AreModulesStored root (concat_module_ids (map f left))
      → AreModulesStored root (concat_module_ids (map f rest))
  joined_rest f left x rest is known =
      all_back IsKnown (f x) (concat_module_ids (map f rest)) (subst (λ xs. AreModulesStored root (concat_module_ids (map f xs))) is known)

  -- ---- paths

  abbrev OfPath : DefinitionPathNode → Type 0
  OfPath path = AreModulesStored root (modules_of_path path)

  pub end_known : (id : ModuleId) → AreModulesStored root (id ∷ []) → IsKnown id
  end_known id known = All-head IsKnown id [] known

  unresolved_modules : (x : DefinitionUnresolved) → modules_of_path (node.Unresolved x) ≡ x.«module» ∷ []
  unresolved_modules x = search (rules, the_lemmas)

  definition_modules : (x : Definition) → modules_of_path (node.Resolved (resolved.Definition x)) ≡ x.«module» ∷ []
  definition_modules x = search (rules, the_lemmas)

  link_modules : (x : DefinitionPathLink) → modules_of_path (node.Resolved (resolved.Link x)) ≡ x.«module» ∷ modules_of_paths x.next.items
  link_modules x = search (rules, the_lemmas)

  pub unresolved_known : (path : DefinitionPathNode) (x : DefinitionUnresolved) → path ≡ node.Unresolved x → OfPath path → IsKnown x.«module»
  unresolved_known path x is known = end_known x.«module» (subst (AreModulesStored root) (ap modules_of_path is ∙ unresolved_modules x) known)

  pub definition_known : (path : DefinitionPathNode) (x : Definition) → path ≡ node.Resolved (resolved.Definition x) → OfPath path → IsKnown x.«module»
  definition_known path x is known = end_known x.«module» (subst (AreModulesStored root) (ap modules_of_path is ∙ definition_modules x) known)

  link_known : (path : DefinitionPathNode) (x : DefinitionPathLink) → path ≡ node.Resolved (resolved.Link x) → OfPath path
      → AreModulesStored root (x.«module» ∷ modules_of_paths x.next.items)
  link_known path x is known = subst (AreModulesStored root) (ap modules_of_path is ∙ link_modules x) known

  -- of a link its own module, and those of its next paths
  pub link_here : (path : DefinitionPathNode) (x : DefinitionPathLink) → path ≡ node.Resolved (resolved.Link x) → OfPath path → IsKnown x.«module»
  link_here path x is known = All-head IsKnown x.«module» (modules_of_paths x.next.items) (link_known path x is known)

  pub link_next : (path : DefinitionPathNode) (x : DefinitionPathLink) → path ≡ node.Resolved (resolved.Link x) → OfPath path
      → AreModulesStored root (modules_of_paths x.next.items)
  link_next path x is known = All-tail IsKnown x.«module» (modules_of_paths x.next.items) (link_known path x is known)
