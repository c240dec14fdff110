-- A graph without a fault has no repeated entry.
use Rattle.std.proofs.Common.{◌≡◌, ℕ, List, map, sym, ap, subst, ◌∙◌}
use Rattle.std.specs.Prelude.{string_bytes}
use Rattle.symbols_ast.specs.declared.graph.faults.GraphFault.TheVariants as fault
use Rattle.symbols_ast.specs.declared.graph.raw.RawGraph.{RawGraph}
use Rattle.symbols_ast.specs.Graph.{ModuleView, Resolution, graph_view, module_view, redirect_view, resolution_view}
use Rattle.symbols_graph.specs.GraphFaults.{IsFaultlessGraph, module_specifiers, redirect_sources, resolution_keys}
use Rattle.symbols_graph.specs.Repeats.{IsRepeatedEntryAt}
use Rattle.symbols_graph.specs.inner.CheckSteps.{HasNoRepeat}
use Rattle.symbols_graph.proofs.RepeatLemmas.{read_entry}

module _ (raw : RawGraph) (faultless : IsFaultlessGraph (graph_view raw)) where
  pub distinct_specifiers : HasNoRepeat (module_specifiers (map module_view raw.modules.items))
  distinct_specifiers i x repeat =
      let view = read_entry (λ m. m.specifier) (map module_view raw.modules.items) i x repeat.0 in
      let m = read_entry module_view raw.modules.items i view.0 view.1 in
      let is : string_bytes m.0.specifier ≡ x = ap (λ (v : ModuleView). v.specifier) m.2 ∙ view.2 in
      faultless i (fault.DuplicateSpecifier m.0.specifier) (subst (IsRepeatedEntryAt (module_specifiers (map module_view raw.modules.items)) i) (sym is) repeat)

  pub distinct_sources : HasNoRepeat (redirect_sources (map redirect_view raw.redirects.items))
  distinct_sources i x repeat =
      let view = read_entry (λ r. r.0) (map redirect_view raw.redirects.items) i x repeat.0 in
      let r = read_entry redirect_view raw.redirects.items i view.0 view.1 in
      let is : string_bytes r.0.0 ≡ x = ap (λ (v : List ℕ × List ℕ). v.0) r.2 ∙ view.2 in
      faultless i (fault.DuplicateRedirect r.0.0) (subst (IsRepeatedEntryAt (redirect_sources (map redirect_view raw.redirects.items)) i) (sym is) repeat)

  pub distinct_checked : HasNoRepeat (resolution_keys (map resolution_view raw.resolutions.items))
  distinct_checked i x repeat =
      let view = read_entry (λ r. (r.referrer, r.specifier_text)) (map resolution_view raw.resolutions.items) i x repeat.0 in
      let r = read_entry resolution_view raw.resolutions.items i view.0 view.1 in
      let is : ◌≡◌ {A = List ℕ × List ℕ} (string_bytes r.0.referrer, string_bytes r.0.specifier_text) x =
      ap {B = List ℕ × List ℕ} (λ (v : Resolution). (v.referrer, v.specifier_text)) r.2 ∙ view.2 in
      faultless i (fault.DuplicateResolution r.0.referrer r.0.specifier_text)
      (subst (IsRepeatedEntryAt (resolution_keys (map resolution_view raw.resolutions.items)) i) (sym is) repeat)
