-- The chain by which a module exports a name: its statements, its export, and its suffixes.
use Rattle.std.specs.Prelude.{ℕ, List, [], ◌∷◌}
use Rattle.std.specs.Option.{option_map_or}
use Rattle.symbols_ast.specs.declared.ids.ModuleId.{ModuleId}
use Rattle.symbols_exports.specs.declared.export_chain.ChainIter.{ChainIter}
use Rattle.symbols_exports.specs.declared.export_chain.ResolvedExport.{ResolvedExport}
use Rattle.symbols_exports.specs.declared.export_chain.ResolvedExportOrReExportAllPath.{ResolvedExportOrReExportAllPath}
use Rattle.symbols_exports.specs.declared.export_chain.ResolvedExportOrReExportAllPath.TheVariants.{Export, ReExportAllPath'}

-- the export at the end of a chain
abbrev pub resolved_export : ResolvedExportOrReExportAllPath → ResolvedExport
resolved_export (Export export) = export
resolved_export (ReExportAllPath' referrer specifier_text p rest) = resolved_export rest

-- the statements of a chain, each by its module and its specifier
abbrev pub statements_of_chain : ResolvedExportOrReExportAllPath → List (ModuleId × List ℕ)
statements_of_chain (Export export) = []
statements_of_chain (ReExportAllPath' referrer specifier_text p rest) = (referrer, specifier_text.now) ∷ statements_of_chain rest

-- the chain itself, then what remains of it after each statement
abbrev pub chain_suffixes : ResolvedExportOrReExportAllPath → List ResolvedExportOrReExportAllPath
chain_suffixes (Export export) = Export export ∷ []
chain_suffixes (ReExportAllPath' referrer specifier_text p rest) = ReExportAllPath' referrer specifier_text p rest ∷ chain_suffixes rest

-- the module at which the chain begins
abbrev pub chain_first_module : ResolvedExportOrReExportAllPath → ModuleId
chain_first_module (Export export) = export.«module»
chain_first_module (ReExportAllPath' referrer specifier_text p rest) = referrer

-- the suffixes of a chain that an iterator has yet to return
abbrev pub remaining_chain_suffixes : ChainIter → List ResolvedExportOrReExportAllPath
remaining_chain_suffixes paths = option_map_or (λ path. chain_suffixes path.now) paths.rest []
