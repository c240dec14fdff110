-- The keys under which children and members are stored.
use Rattle.std.proofs.Common.{◌≡◌, ℕ, ◌<◌, ◌⊎◌, inl, inr, Bool, true, false, ◌&&◌, cond, List}
use Rattle.std.proofs.Common.{[], ◌∷◌, length, get_or, Option, None, Some, refl, sym, ◌∙◌, arith}
use Rattle.std.specs.Prelude.{◌≢◌, slice_get, IfSome}
use Rattle.std.specs.List.{find}
use Rattle.std.specs.Option.{option_or}
use Rattle.std.specs.Cow.{cow_str_bytes}
use Rattle.std.specs.Prelude.{All}
use Rattle.std.proofs.lemmas.Bool.{cases_eq}
use Rattle.std.proofs.lemmas.Bool.Decides.{nat_tests}
use Rattle.std.proofs.lemmas.Option.{slice_get-get_or}
use Rattle.symbols_ast.specs.declared.ids.SymbolId.{SymbolId}
use Rattle.symbols_table.specs.declared.decl.symbol.Symbol.{Symbol}
use Rattle.symbols_table.specs.declared.builder.names.LocalName.{LocalName}
use Rattle.symbols_table.specs.declared.builder.table.ModuleBuilder.{ModuleBuilder}
use Rattle.symbols_table.specs.Changes.{Change, is_same_symbol_id, some_if, local_name_after_changes, is_symbol_named, first_child_named, first_member_named}
use Rattle.symbols_table.specs.Changes.{children_after_changes, members_after_changes}
use Rattle.symbols_table.specs.inner.Tables.{NamesSymbolsBelow, HasAppliedChanges, local_name_in_symbols}
use Rattle.symbols_table.specs.inner.LocalNames.{is_local_name_of_symbol}
use Rattle.symbols_table.proofs.Inside.{Below, All-head, All-tail, children_inside, members_inside}
use Rattle.symbols_table.proofs.Named.{if_named}

-- The local name of a symbol in the builder is the one that the changes give.
pub name_is : (b : ModuleBuilder) (changes : List Change) (s : SymbolId) (d : Symbol) → s.0 < length b.symbols.items → HasAppliedChanges b changes
    → local_name_in_symbols b.symbols.items s ≡ local_name_after_changes changes s
name_is b changes s d lt is =
    let at : slice_get b.symbols.items s.0 ≡ Some (get_or b.symbols.items s.0 d) = slice_get-get_or b.symbols.items s.0 d lt in
    rw (at, (is.symbols s d lt).decls) refl

none_else : (o : Option SymbolId) → o ≡ option_or o None
none_else None = refl
none_else (Some y) = refl

and_none : (b : Bool) (x : SymbolId) → None ≡ some_if (b && false) x
and_none true x = refl
and_none false x = refl

-- A symbol without a name has no entry.
pub no_entry : (holder x : SymbolId) (q : LocalName) (o : Option SymbolId) → o ≡ option_or o (some_if (is_local_name_of_symbol holder None q) x)
no_entry holder x q o = rw (← and_none (is_same_symbol_id holder q.holder) x) (none_else o)

-- The entry of a symbol is the one of its local name.
pub in_tree_entry : (changes : List Change) (holder x : SymbolId) (local_name_bytes : Option (List ℕ)) (q : LocalName) → local_name_bytes
    ≡ local_name_after_changes changes x
    → some_if (is_local_name_of_symbol holder local_name_bytes q) x ≡ if_named changes (cow_str_bytes q.name) (is_same_symbol_id holder q.holder) x
in_tree_entry changes holder x local_name_bytes q e = rw e refl

and_false : (b c : Bool) (x : SymbolId) → b ≡ false → some_if (b && c) x ≡ None
and_false b c x e = rw e refl

-- The entry of a symbol in a holder other than the module is the one of its local name.
pub inner_entry : (changes : List Change) (holder x : SymbolId) (local_name_bytes : Option (List ℕ)) (q : LocalName) → 0 < q.holder.0
    → (0 < holder.0 → local_name_bytes ≡ local_name_after_changes changes x)
    → some_if (is_local_name_of_symbol holder local_name_bytes q) x ≡ if_named changes (cow_str_bytes q.name) (is_same_symbol_id holder q.holder) x
inner_entry changes holder x local_name_bytes q below known = by (cases_eq holder.0 q.holder.0)
  where
    by : (holder.0 ≡ q.holder.0) ⊎ (holder.0 ≢ q.holder.0)
        → some_if (is_local_name_of_symbol holder local_name_bytes q) x ≡ if_named changes (cow_str_bytes q.name) (is_same_symbol_id holder q.holder) x
    by (inl same) = in_tree_entry changes holder x local_name_bytes q (known (omega (arith, same, below)))
    by (inr other) =
        let apart : is_same_symbol_id holder q.holder ≡ false = grind (arith, nat_tests) in
        and_false _ _ x apart ∙ sym (and_false _ _ x apart)

-- A symbol that is found by name is below the count.
found_inside : (count : ℕ) (p : SymbolId → Bool) (xs : List SymbolId) → All (Below count) xs → IfSome (find p xs) (Below count)
found_inside count p [] all = tt
found_inside count p (x ∷ xs) all = by (found_inside count p xs (All-tail (Below count) x xs all)) (All-head (Below count) x xs all) (p x)
  where
    by : IfSome (find p xs) (Below count) → Below count x → (holds : Bool) → IfSome (cond holds (Some x) (find p xs)) (Below count)
    by rest here true = here
    by rest here false = rest

pub child_inside : (count : ℕ) (changes : List Change) (s : SymbolId) (name : List ℕ) → All (NamesSymbolsBelow count) changes
    → IfSome (first_child_named changes s name) (Below count)
child_inside count changes s name all = found_inside count (is_symbol_named changes name) (children_after_changes changes s)
    (children_inside count changes s all)

pub member_inside : (count : ℕ) (changes : List Change) (s : SymbolId) (name : List ℕ) → All (NamesSymbolsBelow count) changes
    → IfSome (first_member_named changes s name) (Below count)
member_inside count changes s name all = found_inside count (is_symbol_named changes name) (members_after_changes changes s)
    (members_inside count changes s all)
