-- Maps of modules by their specifiers.
use Rattle.std.proofs.Common.{◌≡◌, ℕ, List, map, sym, ap, subst, ◌∙◌}
use Rattle.std.specs.Prelude.{String, string_bytes}
use Rattle.std.specs.Global.{Global}
use Rattle.std.proofs.lemmas.Simd.{map-map}
use Rattle.symbols_ast.specs.declared.graph.raw.RawModule.{RawModule}
use Rattle.symbols_ast.specs.Graph.{ModuleView, module_view}
use Rattle.symbols_graph.specs.GraphFaults.{module_specifiers}
use Rattle.symbols_graph.specs.inner.Tables.{AreKeyedBySpecifier}
use Rattle.symbols_graph.specs.inner.CheckSteps.{HasNoRepeat}

-- An entry of the map, with its key as bytes.
abbrev pub entry_read : String Global × ModuleView → List ℕ × ModuleView
entry_read e = (string_bytes e.0, e.1)

-- The entry for a raw module.
abbrev pub entry_of : RawModule → List ℕ × ModuleView
entry_of m = (string_bytes m.specifier, module_view m)

-- If the specifiers have no repeat, the keys of the entries have none.
pub distinct_entries : (all : List RawModule) → HasNoRepeat (module_specifiers (map module_view all)) → HasNoRepeat (map (λ p. p.0) (map entry_of all))
distinct_entries all distinct = subst HasNoRepeat (map-map (λ m. m.specifier) module_view all ∙ sym (map-map (λ p. p.0) entry_of all)) distinct

module _ (entries : List (String Global × ModuleView)) (all : List RawModule) (filled : map entry_read entries ≡ map entry_of all) where
  -- The modules of the filled map are the given ones.
  pub modules_filled : map (λ e. e.1) entries ≡ map module_view all
  modules_filled = sym (map-map (λ p. p.1) entry_read entries) ∙ ap (map (λ p. p.1)) filled ∙ map-map (λ p. p.1) entry_of all

  -- Each module of the filled map has its specifier as its key.
  pub keyed_filled : AreKeyedBySpecifier entries
  keyed_filled =
      sym (map-map (λ p. p.0) entry_read entries) ∙ ap (map (λ p. p.0)) filled ∙ map-map (λ p. p.0) entry_of all
      ∙ sym (map-map (λ p. p.1.specifier) entry_of all) ∙ sym (ap (map (λ p. p.1.specifier)) filled) ∙ map-map (λ p. p.1.specifier) entry_read entries
