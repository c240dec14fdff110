-- The check of the modules' trees, one after another.
use Rattle.std.proofs.Common.{◌≡◌, ℕ, ◌<◌, List, Option, None, Some, Result, Ok, Err, length, get_or, map, slice_get, All, refl, sym, ap, ◌∙◌, subst, arith}
use Rattle.std.specs.Prelude.{IfOk, IfNone, IfSome, MatchOption, string_bytes}
use Rattle.std.specs.Option.{option_map}
use Rattle.std.specs.List.{AllWithin}
use Rattle.std.proofs.lemmas.Option.{slice_get_read, slice_get_within, slice_get-map, get_or_from_slice_get}
use Rattle.symbols_ast.specs.declared.tree.arena.Tree.{Tree}
use Rattle.symbols_ast.specs.declared.graph.raw.RawModule.{RawModule}
use Rattle.symbols_ast.specs.declared.graph.faults.TreeFault.{TreeFault}
use Rattle.symbols_ast.specs.Graph.{ModuleContent, ModuleView, esm, content_text, content_view, module_view, IsCheckedContent}
use Rattle.symbols_graph.specs.GraphFaults.{HasFirstTreeFault, IsTreeFaultAt}
use Rattle.symbols_ast.specs.TreeFaults.{IsFaultlessTree, IsFirstTreeFault}
use Rattle.symbols_ast.specs.WellFormed.{IsWellFormedTree}
use Rattle.symbols_graph.specs.inner.CheckSteps.{IsFirstWhere}
use Rattle.symbols_graph.proofs.RepeatLemmas.{read_entry}

-- The result of the check of a tree, stated of the module's content.
pub content_viewed : (content : ModuleContent) (text : List ℕ) (tree : Tree) (types : Option (List ℕ)) → content ≡ esm text (Some tree) types
    → {E : Type 0} (r : Result (Option TreeFault) E) → IfOk r (IsFirstTreeFault text tree.nodes.items)
    → IfOk r (λ f. IfNone f (IsWellFormedTree tree.nodes.items))
    → IfOk r (λ found. MatchOption found (IsCheckedContent content) (HasFirstTreeFault content))
content_viewed content text tree types is r first whole =
    subst (λ x. IfOk r (λ found. MatchOption found (IsCheckedContent x) (HasFirstTreeFault x))) (sym is) (viewed r first whole)
  where
    viewed : {E : Type 0} (r : Result (Option TreeFault) E) → IfOk r (IsFirstTreeFault text tree.nodes.items)
        → IfOk r (λ f. IfNone f (IsWellFormedTree tree.nodes.items))
        → IfOk r (λ found. MatchOption found (IsCheckedContent (esm text (Some tree) types)) (HasFirstTreeFault (esm text (Some tree) types)))
    viewed (Ok None) first whole = (first, whole)
    viewed (Ok (Some f)) first whole = (tree, refl, first)
    viewed (Err e) first whole = tt

-- A checked content has no fault.
pub good_content : (content : ModuleContent) (found : TreeFault) → IsCheckedContent content → HasFirstTreeFault content found → ⊥
good_content content found checked bad =
    let viewed = subst (λ o. IfSome o (λ tree. IsFaultlessTree (content_text content) tree.nodes.items × IsWellFormedTree tree.nodes.items)) bad.1 checked in
    viewed.0 found bad.2.0

module _ (modules : List RawModule) where
  abbrev views : List ModuleView
  views = map module_view modules

  -- A checked module is not bad.
  pub good_module : (j : ℕ) (y : List ℕ × TreeFault) → ((d : RawModule) → IsCheckedContent (content_view (get_or modules j d).kind)) → IsTreeFaultAt views j y
      → ⊥
  good_module j y checked bad =
      let m = read_entry module_view modules j bad.0 bad.1 in
      let same : (get_or modules j m.0).kind ≡ m.0.kind = ap (λ (r : RawModule). r.kind) (get_or_from_slice_get modules j m.0 m.0 m.1) in
      good_content bad.0.content y.1 (subst IsCheckedContent (ap content_view same ∙ ap (λ (v : ModuleView). v.content) m.2) (checked m.0)) bad.3

  -- If module i is bad and those before it are checked, it is the first bad module.
  pub first_bad : (i : ℕ) (m : RawModule) → i < length modules → m ≡ get_or modules i m → (found : TreeFault) → HasFirstTreeFault (content_view m.kind) found
      → AllWithin (λ r. IsCheckedContent (content_view r.kind)) modules 0 i → (name : List ℕ) → string_bytes m.specifier ≡ name
      → IsFirstWhere (IsTreeFaultAt views) (Some (name, found))
  first_bad i m inside is found bad before name same = (
    i,
    (module_view m, slice_get-map module_view modules i ∙ ap (option_map module_view) (slice_get_read modules (length modules) i m refl inside is), same, bad),
    λ j y below bad. good_module j y (λ d. before j d (omega arith) below) bad,
  )

  -- If all modules are checked, none is bad.
  pub none_bad : All (λ r. IsCheckedContent (content_view r.kind)) modules → (j : ℕ) (y : List ℕ × TreeFault) → IsTreeFaultAt views j y → ⊥
  none_bad checked j y bad = good_module j y (λ d. checked j d (within (read_entry module_view modules j bad.0 bad.1))) bad
    where
      within : (m : RawModule) × (slice_get modules j ≡ Some m) × (module_view m ≡ bad.0) → j < length modules
      within m = slice_get_within modules j m.0 m.1
