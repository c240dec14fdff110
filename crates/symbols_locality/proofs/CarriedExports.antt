-- Exports, unresolved statements and shared names are the same if the statements and the local exports are.
use Rattle.std.proofs.Common.{ℕ, ◌<◌, inl, inr, List, length, get_or, Option, sym, subst, ◌∙◌, arith}
use Rattle.std.specs.Prelude.{Contains, AllPairs}
use Rattle.std.proofs.lemmas.List.Elements.{Contains-get_or}
use Rattle.symbols_exports.specs.Chains.{StarTargets, IsSimpleChain}
use Rattle.symbols_exports.specs.Exports.{ExplicitExports, ExportEntry, IsExportCandidate, IsExport, IsListedBefore, IsExportEntryBefore, AreExports}
use Rattle.symbols_exports.specs.Exports.{StarPosition, IsUnresolvedStar, IsStarStatementBefore, AreUnresolvedStars}
use Rattle.symbols_exports.specs.SharedNames.{NameWithExporters, IsExporter, HasTwoExporters, IsSharedName, IsSharedNameEntry, IsSharedNameBefore}
use Rattle.symbols_exports.specs.SharedNames.{AreSharedNames}
use Rattle.symbols_locality.proofs.StarReach.{IsReachedAlongStars, at_start, AreAlikeAlongStars}
use Rattle.symbols_locality.proofs.StarChains.{same_target, chain_along, swapped, simple_there, least_there, reached_there, reached_along}

-- a relation holds of all pairs of a list if it follows from one that does
pairs_there : {A : Type 0} (R S : A → A → Type 0) (xs : List A) → ((x y : A) → Contains xs x → Contains xs y → R x y → S x y) → AllPairs R xs → AllPairs S xs
pairs_there R S xs on pairs i j d less within =
    on (get_or xs i d) (get_or xs j d) (Contains-get_or xs i d (omega (arith, less, within))) (Contains-get_or xs j d within) (pairs i j d less within)

-- ---- what one graph has, the other has

module _ (s : StarTargets) (o : ExplicitExports) (t : StarTargets) (p : ExplicitExports) (start : List ℕ) (alike : AreAlikeAlongStars s o t p start) where
  end_along : (chain end : List ℕ) → IsSimpleChain s start chain end → IsReachedAlongStars s start end
  end_along chain end simple = chain_along s start start at_start chain end simple.ends_at

  candidate_there : (e : ExportEntry) → IsExportCandidate s o start e → IsExportCandidate t p start e
  candidate_there e candidate = record {
    ends_at = simple_there s t start alike.same_statements e.chain e.exporter candidate.ends_at;
    exporter_exports_name_explicitly =
        subst (λ names. Contains names (e.name, e.symbol))
        (alike.same_explicit e.exporter (end_along e.chain e.exporter candidate.ends_at)) candidate.exporter_exports_name_explicitly;
    default_has_empty_chain = candidate.default_has_empty_chain;
  }

  exporter_there : (name : List ℕ) (e : ExportEntry) → IsExporter s o start name e → IsExporter t p start name e
  exporter_there name e exporter = record {
    named = exporter.named;
    ends_at = least_there s o t p start alike e.chain e.exporter exporter.ends_at;
    exporter_exports_name_explicitly =
        subst (λ names. Contains names (name, e.symbol))
        (alike.same_explicit e.exporter (end_along e.chain e.exporter exporter.ends_at.is_chain)) exporter.exporter_exports_name_explicitly;
  }

  in_order_there : (x y : ExportEntry) → IsReachedAlongStars s start x.exporter → IsExportEntryBefore o x y → IsExportEntryBefore p x y
  in_order_there x y along (inl before) = inl before
  in_order_there x y along (inr same) =
      inr (same.0, subst (λ names. IsListedBefore names (x.name, x.symbol) (y.name, y.symbol)) (alike.same_explicit x.exporter along) same.1)

  unresolved_there : (at : StarPosition) → IsUnresolvedStar s start at → IsUnresolvedStar t start at
  unresolved_there at is =
      let along = reached_along s start at.0 is.0 in (
        reached_there s o t p start alike at.0 is.0,
        subst (λ (list : List (Option (List ℕ))). at.1 < length list) (alike.same_statements at.0 along) is.1,
        sym (same_target s t start alike.same_statements at.0 along at.1) ∙ is.2,
      )

-- ---- in both directions

module _ (s : StarTargets) (o : ExplicitExports) (t : StarTargets) (p : ExplicitExports) (start : List ℕ) (alike : AreAlikeAlongStars s o t p start) where
  abbrev other1 : AreAlikeAlongStars t p s o start
  other1 = swapped s o t p start alike

  export_there : (e : ExportEntry) → IsExport s o start e → IsExport t p start e
  export_there e export = record {
    candidate = candidate_there s o t p start alike e export.candidate;
    least = λ f candidate named. export.least f (candidate_there t p s o start other1 f candidate) named;
  }

  two_exporters_there : (name : List ℕ) → HasTwoExporters s o start name → HasTwoExporters t p start name
  two_exporters_there name two = record {
    one = two.one;
    other = two.other;
    one_is_exporter = exporter_there s o t p start alike name two.one two.one_is_exporter;
    other_is_exporter = exporter_there s o t p start alike name two.other two.other_is_exporter;
    exporters_are_different = two.exporters_are_different;
  }

  shared_name_there : (name : List ℕ) → IsSharedName s o start name → IsSharedName t p start name
  shared_name_there name shared = record {
    is_not_default = shared.is_not_default;
    is_not_exported_by_start = λ symbol has. shared.is_not_exported_by_start symbol (subst (λ names. Contains names (name, symbol))
        (sym (alike.same_explicit start at_start)) has);
    two = two_exporters_there name shared.two;
  }

module _ (s : StarTargets) (o : ExplicitExports) (t : StarTargets) (p : ExplicitExports) (start : List ℕ) (alike : AreAlikeAlongStars s o t p start) where
  abbrev other2 : AreAlikeAlongStars t p s o start
  other2 = swapped s o t p start alike

  -- the exports of a module
  pub exports_there : (entries : List ExportEntry) → AreExports s o start entries → AreExports t p start entries
  exports_there entries are = record {
    all = λ e. (λ has. export_there s o t p start alike e ((are.all e).0 has), λ is. (are.all e).1 (export_there t p s o start other2 e is));
    ordered =
        pairs_there (IsExportEntryBefore o) (IsExportEntryBefore p) entries
        (λ x y x_in y_in before. in_order_there s o t p start alike x y
        (end_along s o t p start alike x.chain x.exporter ((are.all x).0 x_in).candidate.ends_at) before) are.ordered;
  }

  -- the unresolved statements
  pub unresolved_all_there : (found : List StarPosition) → AreUnresolvedStars s start found → AreUnresolvedStars t start found
  unresolved_all_there found are = record {
    all = λ at. (λ has. unresolved_there s o t p start alike at ((are.all at).0 has), λ is. (are.all at).1 (unresolved_there t p s o start other2 at is));
    ordered =
        pairs_there (IsStarStatementBefore s start) (IsStarStatementBefore t start) found
        (λ x y x_in y_in before c d c_least d_least. before c d (least_there t p s o start other2 c x.0 c_least)
        (least_there t p s o start other2 d y.0 d_least)) are.ordered;
  }

  one_shared_there : (shared : NameWithExporters ExportEntry) → IsSharedNameEntry s o start shared → IsSharedNameEntry t p start shared
  one_shared_there shared is = record {
    is_shared = shared_name_there s o t p start alike shared.name is.is_shared;
    exporters =
        λ e. (
          λ has. exporter_there s o t p start alike shared.name e ((is.exporters e).0 has),
          λ exporter. (is.exporters e).1 (exporter_there t p s o start other2 shared.name e exporter),
        );
    ordered = is.ordered;
  }

module _ (s : StarTargets) (o : ExplicitExports) (t : StarTargets) (p : ExplicitExports) (start : List ℕ) (alike : AreAlikeAlongStars s o t p start) where
  abbrev other3 : AreAlikeAlongStars t p s o start
  other3 = swapped s o t p start alike

  -- the order of shared names
  names_in_order : (x y : NameWithExporters ExportEntry) → IsSharedNameBefore s o start x y → IsSharedNameBefore t p start x y
  names_in_order x y before e f e_is f_is e_named f_named =
      let e_here = export_there t p s o start other3 e e_is in
      let f_here = export_there t p s o start other3 f f_is in
      in_order_there s o t p start alike e f (end_along s o t p start alike e.chain e.exporter e_here.candidate.ends_at)
      (before e f e_here f_here e_named f_named)

  -- the shared names
  pub shared_there : (names : List (NameWithExporters ExportEntry)) → AreSharedNames s o start names → AreSharedNames t p start names
  shared_there names are = record {
    all =
        λ shared. (
          λ has. one_shared_there s o t p start alike shared ((are.all shared).0 has),
          λ is. (are.all shared).1 (one_shared_there t p s o start other3 shared is),
        );
    ordered = pairs_there (IsSharedNameBefore s o start) (IsSharedNameBefore t p start) names (λ x y x_in y_in before. names_in_order x y before) are.ordered;
  }
