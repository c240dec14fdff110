-- A definition about references that only inner functions and proofs use.
use Rattle.symbols_nodes.specs.declared.deps.dep.ReferenceNamespace.{ReferenceNamespace}
use Rattle.symbols_nodes.specs.References.{SymbolReference, NamespacedReference}

abbrev pub dependency_in_namespace : ReferenceNamespace → SymbolReference → NamespacedReference
dependency_in_namespace namespace reference = record { reference = reference; namespace = namespace }
