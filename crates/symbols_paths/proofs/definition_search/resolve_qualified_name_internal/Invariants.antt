use Rattle.std.proofs.Common.{[]}
use Rattle.symbols_paths.specs.inner.SearchInvariants.{search_start_at_symbol}
use Rattle.symbols_paths.proofs.definition_search.resolve_qualified_name_internal.Given as goal

abbrev pub ghost-search_from : goal.ghost-search_from
ghost-search_from a = search_start_at_symbol a.root.now [] [] a.frames.items a.symbol
