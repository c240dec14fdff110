use Rattle.std.proofs.Common.{◌≡◌, ℕ, List, ◌∷◌, ◌++◌, String, suc, map, sym, ap, subst, ◌∙◌, arith, append_assoc}
use Rattle.std.specs.Prelude.{All, flat_map, string_bytes}
use Rattle.std.specs.Global.{Global}
use Rattle.symbols_root.specs.Roots.{RootView, specifier_in}
use Rattle.symbols_exports.specs.declared.export_chain.ResolvedExport.{ResolvedExport}
use Rattle.symbols_exports.specs.declared.export_chain.ResolvedExportOrReExportAllPath.{ResolvedExportOrReExportAllPath}
use Rattle.symbols_exports.specs.ExportChains.{resolved_export}
use Rattle.symbols_exports.specs.PublicNames.{ExportedNameWithMember, public_name_view, exports_of_symbol, public_names_with_members}
use Rattle.symbols_exports.specs.inner.PublicNames.{public_names_of_export, IsExplicitExport}
use Rattle.symbols_exports.specs.CollectedNames.{ResolvedExportView, resolved_export_view, resolved_export_views}
use Rattle.symbols_exports.proofs.public_name.list_names.Goals as goal

abbrev Named : Type 0
Named = String Global × ResolvedExportOrReExportAllPath

abbrev AreExplicit : RootView → List Named → Type 0
AreExplicit root left = All (λ (name : ResolvedExportView). IsExplicitExport root name.export) (resolved_export_views left)

explicit_first : (root : RootView) (first : Named) (rest : List Named) (export : ResolvedExport) → export ≡ resolved_export first.1
    → AreExplicit root (first ∷ rest) → IsExplicitExport root export
explicit_first root first rest export at explicit = subst (IsExplicitExport root) (sym at) (explicit 0 (resolved_export_view first) (omega arith))

explicit_rest : (root : RootView) (first : Named) (rest : List Named) → AreExplicit root (first ∷ rest) → AreExplicit root rest
explicit_rest root first rest explicit k d within = explicit (suc k) d (omega (arith, within))

listed_on : (root : RootView) (was made all : List ExportedNameWithMember) (first : Named) (rest : List Named) (export : ResolvedExport) (name : List ℕ)
    → export ≡ resolved_export first.1 → name ≡ string_bytes first.0 → made ≡ was ++ public_names_with_members name (exports_of_symbol root.graph
    (specifier_in root export.«module») export.symbol_id) → was ++ flat_map (public_names_of_export root) (resolved_export_views (first ∷ rest)) ≡ all
    → made ++ flat_map (public_names_of_export root) (resolved_export_views rest) ≡ all
listed_on root was made all first rest export name at named made_is before =
    let here : made ≡ was ++ public_names_of_export root (resolved_export_view first) =
    made_is ∙ (λ i. was ++ public_names_with_members (named i) (exports_of_symbol root.graph (specifier_in root (at i).«module») (at i).symbol_id)) in
    ap (λ items. items ++ flat_map (public_names_of_export root) (resolved_export_views rest)) here
    ∙ (append_assoc was (public_names_of_export root (resolved_export_view first)) (flat_map (public_names_of_export root) (resolved_export_views rest))
    ∙ before)

pub add_name-requires : goal.add_name-requires
add_name-requires c =
    let first : Named = (c.in-Some.name.now, c.in-Some.chain.now) in
    explicit_first c.args.root.now first c.next.new.self c.as_resolved_export.result.now c.as_resolved_export.ensures
    (subst (AreExplicit c.args.root.now) c.in-Some.ensures.steps c.loop-name.invariant.explicit)

pub loop-name-preserved : goal.loop-name-preserved
loop-name-preserved c =
    let first : Named = (c.in-Some.name.now, c.in-Some.chain.now) in
    let all : List ExportedNameWithMember = flat_map (public_names_of_export c.args.root.now) (resolved_export_views c.args.resolved.now.entries) in
    record {
      explicit = explicit_rest c.args.root.now first c.next.new.self
          (subst (AreExplicit c.args.root.now) c.in-Some.ensures.steps c.loop-name.invariant.explicit);
      listed = listed_on c.args.root.now (map public_name_view c.loop-name.names.items) (map public_name_view c.add_name.new.names.items) all first
          c.next.new.self
          c.as_resolved_export.result.now c.as_str.result.now c.as_resolved_export.ensures c.as_str.ensures.value c.in_ok-add_name.ensures
          (subst (λ left. map public_name_view c.loop-name.names.items ++ flat_map (public_names_of_export c.args.root.now) (resolved_export_views left) ≡ all)
          c.in-Some.ensures.steps
          c.loop-name.invariant.listed);
    }
