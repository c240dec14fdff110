-- All symbols named in a table are symbols of the table.
use Rattle.std.proofs.Common.{ℕ, ◌<◌, Bool, true, false, cond, List, [], ◌∷◌, ◌++◌, suc, zero, length, get_or, Option, None, Some, arith}
use Rattle.std.specs.Prelude.{All, IfSome}
use Rattle.std.specs.List.{filter_map, last_or, cons_option, list_any, fold}
use Rattle.std.proofs.lemmas.List.Elements.{All-push}
use Rattle.std.specs.Str.{bytes_eq}
use Rattle.std.proofs.lemmas.Map.Entries.{All-lookup}
use Rattle.indexmap.specs.IndexMap.{insert_entry, insert_all}
use Rattle.symbols_ast.specs.declared.ids.SymbolId.{SymbolId}
use Rattle.symbols_ast.specs.Ids.{IdView, is_same_id}
use Rattle.symbols_table.specs.Changes.{Change, adds_symbol, adds_decl, exports, adds_child, adds_member, maps, re_exports_all, some_if, is_same_symbol_id}
use Rattle.symbols_table.specs.Changes.{append_if_absent, child_added_by, member_added_by, export_inserted_by, symbol_bound_to_ident_by, exports_after_changes}
use Rattle.symbols_table.specs.Changes.{exported_symbol_after_changes, children_after_changes, members_after_changes, symbol_of_ident_after_changes}
use Rattle.symbols_table.specs.inner.Tables.{NamesSymbolsBelow, DoesNotBindOrExportModuleSymbol}

pub All-head : {X : Type 0} (P : X → Type 0) (x : X) (xs : List X) → All P (x ∷ xs) → P x
All-head P x xs all = all 0 x (omega arith)

All-cons : {X : Type 0} (P : X → Type 0) (x : X) (xs : List X) → P x → All P xs → All P (x ∷ xs)
All-cons {X} P x xs p all = λ k. by k
  where
    by : (k : ℕ) (d : X) → k < length (x ∷ xs) → P (get_or (x ∷ xs) k d)
    by zero d lt = p
    by (suc k) d lt = all k d (omega (arith, lt))

pub All-tail : {X : Type 0} (P : X → Type 0) (x : X) (xs : List X) → All P (x ∷ xs) → All P xs
All-tail P x xs all = λ k d lt. all (suc k) d (omega arith)

-- The symbol's number is below the count.
abbrev pub Below : ℕ → SymbolId → Type 0
Below count s = s.0 < count

mapping_inside : (count : ℕ) (id : IdView) (change : Change) → NamesSymbolsBelow count change → IfSome (symbol_bound_to_ident_by id change) (Below count)
mapping_inside count id (adds_symbol _) h = tt
mapping_inside count id (adds_decl _ _) h = tt
mapping_inside count id (exports _ _ _) h = tt
mapping_inside count id (adds_child _ _) h = tt
mapping_inside count id (adds_member _ _) h = tt
mapping_inside count id (re_exports_all _) h = tt
mapping_inside count id (maps other x) h = by (is_same_id other id)
  where
    by : (test : Bool) → IfSome (some_if test x) (Below count)
    by true = h
    by false = tt

-- If the symbol of every binding has a property, the symbol of the last one has it.
module _ (F : Change → Type 0) (P : SymbolId → Type 0) (id : IdView) (each : (change : Change) → F change → IfSome (symbol_bound_to_ident_by id change) P) where
  last_so : (o : Option SymbolId) (changes : List Change) → IfSome o P → All F changes → IfSome (last_or o (filter_map (symbol_bound_to_ident_by id) changes)) P
  last_so o [] h all = h
  last_so o (change ∷ changes) h all =
      by (λ p q. last_so p changes q (All-tail F change changes all)) (symbol_bound_to_ident_by id change) (each change (All-head F change changes all))
    where
      by : ((p : Option SymbolId) → IfSome p P → IfSome (last_or p (filter_map (symbol_bound_to_ident_by id) changes)) P)
          → (found : Option SymbolId) → IfSome found P → IfSome (last_or o (cons_option found (filter_map (symbol_bound_to_ident_by id) changes))) P
      by rest None q = rest o h
      by rest (Some x) q = rest (Some x) q

  mapped_so : (changes : List Change) → All F changes → IfSome (symbol_of_ident_after_changes changes id) P
  unfolding symbol_of_ident_after_changes
  mapped_so changes all = last_so None changes tt all

pub mapped_inside : (count : ℕ) (changes : List Change) (id : IdView) → All (NamesSymbolsBelow count) changes
    → IfSome (symbol_of_ident_after_changes changes id) (Below count)
mapped_inside count changes id all = mapped_so (NamesSymbolsBelow count) (Below count) id (mapping_inside count id) changes all

-- If every symbol that a filter takes from a change is below the count, all that it takes are.
filtered_inside : (count : ℕ) (h : Change → Option SymbolId) → ((change : Change) → NamesSymbolsBelow count change → IfSome (h change) (Below count))
    → (changes : List Change) → All (NamesSymbolsBelow count) changes → All (Below count) (filter_map h changes)
filtered_inside count h each [] all = λ k d lt. absurd (omega (arith, lt))
filtered_inside count h each (change ∷ changes) all =
    by (h change) (each change (All-head (NamesSymbolsBelow count) change changes all))
    (filtered_inside count h each changes (All-tail (NamesSymbolsBelow count) change changes all))
  where
    by : (found : Option SymbolId) → IfSome found (Below count) → All (Below count) (filter_map h changes)
        → All (Below count) (cons_option found (filter_map h changes))
    by None p rest = rest
    by (Some x) p rest = All-cons (Below count) x (filter_map h changes) p rest

firsts_inside : (count : ℕ) (done xs : List SymbolId) → All (Below count) done → All (Below count) xs → All (Below count) (fold append_if_absent done xs)
firsts_inside count done [] before all = before
firsts_inside count done (x ∷ xs) before all =
    firsts_inside count (append_if_absent done x) xs (by (list_any (is_same_symbol_id x) done)) (All-tail (Below count) x xs all)
  where
    by : (there : Bool) → All (Below count) (cond there done (done ++ x ∷ []))
    by true = before
    by false = All-push (Below count) done x before (All-head (Below count) x xs all)

child_fits : (count : ℕ) (s : SymbolId) (change : Change) → NamesSymbolsBelow count change → IfSome (child_added_by s change) (Below count)
child_fits count s (adds_symbol _) h = tt
child_fits count s (adds_decl _ _) h = tt
child_fits count s (exports _ _ _) h = tt
child_fits count s (adds_child t x) h = by (is_same_symbol_id t s)
  where
    by : (test : Bool) → IfSome (some_if test x) (Below count)
    by true = h.1
    by false = tt
child_fits count s (adds_member _ _) h = tt
child_fits count s (maps _ _) h = tt
child_fits count s (re_exports_all _) h = tt

member_fits : (count : ℕ) (s : SymbolId) (change : Change) → NamesSymbolsBelow count change → IfSome (member_added_by s change) (Below count)
member_fits count s (adds_symbol _) h = tt
member_fits count s (adds_decl _ _) h = tt
member_fits count s (exports _ _ _) h = tt
member_fits count s (adds_child _ _) h = tt
member_fits count s (adds_member t x) h = by (is_same_symbol_id t s)
  where
    by : (test : Bool) → IfSome (some_if test x) (Below count)
    by true = h.1
    by false = tt
member_fits count s (maps _ _) h = tt
member_fits count s (re_exports_all _) h = tt

pub children_inside : (count : ℕ) (changes : List Change) (s : SymbolId) → All (NamesSymbolsBelow count) changes
    → All (Below count) (children_after_changes changes s)
unfolding children_after_changes
children_inside count changes s all = firsts_inside count [] (filter_map (child_added_by s) changes) (λ k d lt. absurd (omega (arith, lt)))
    (filtered_inside count (child_added_by s) (child_fits count s) changes all)

pub members_inside : (count : ℕ) (changes : List Change) (s : SymbolId) → All (NamesSymbolsBelow count) changes
    → All (Below count) (members_after_changes changes s)
unfolding members_after_changes
members_inside count changes s all = firsts_inside count [] (filter_map (member_added_by s) changes) (λ k d lt. absurd (omega (arith, lt)))
    (filtered_inside count (member_added_by s) (member_fits count s) changes all)

-- The symbol of an export has the property.
abbrev pub ExportsSo : (SymbolId → Type 0) → List ℕ × SymbolId → Type 0
ExportsSo P entry = P entry.1

abbrev pub ExportsBelow : ℕ → List ℕ × SymbolId → Type 0
ExportsBelow count entry = entry.1.0 < count

setting_fits : (count : ℕ) (s : SymbolId) (change : Change) → NamesSymbolsBelow count change → IfSome (export_inserted_by s change) (ExportsBelow count)
setting_fits count s (adds_symbol _) h = tt
setting_fits count s (adds_decl _ _) h = tt
setting_fits count s (exports t name x) h = by (is_same_symbol_id t s)
  where
    by : (test : Bool) → IfSome (some_if test (name, x)) (ExportsBelow count)
    by true = h.1
    by false = tt
setting_fits count s (adds_child _ _) h = tt
setting_fits count s (adds_member _ _) h = tt
setting_fits count s (maps _ _) h = tt
setting_fits count s (re_exports_all _) h = tt

-- If the symbol of every export setting has a property, the symbol of every export has it.
module _ (F : Change → Type 0) (P : SymbolId → Type 0) (s : SymbolId) (each : (change : Change) → F change
    → IfSome (export_inserted_by s change) (ExportsSo P)) where
  settings_so : (changes : List Change) → All F changes → All (ExportsSo P) (filter_map (export_inserted_by s) changes)
  settings_so [] all = λ k d lt. absurd (omega (arith, lt))
  settings_so (change ∷ changes) all =
      by (export_inserted_by s change) (each change (All-head F change changes all)) (settings_so changes (All-tail F change changes all))
    where
      by : (found : Option (List ℕ × SymbolId)) → IfSome found (ExportsSo P) → All (ExportsSo P) (filter_map (export_inserted_by s) changes)
          → All (ExportsSo P) (cons_option found (filter_map (export_inserted_by s) changes))
      by None p rest = rest
      by (Some x) p rest = All-cons (ExportsSo P) x (filter_map (export_inserted_by s) changes) p rest

  entry_so : (es : List (List ℕ × SymbolId)) (name : List ℕ) (x : SymbolId) → All (ExportsSo P) es → P x → All (ExportsSo P) (insert_entry bytes_eq es name x)
  entry_so [] name x all so = All-cons (ExportsSo P) (name, x) [] so all
  entry_so (e ∷ es) name x all so =
      by (All-head (ExportsSo P) e es all) (All-tail (ExportsSo P) e es all) (entry_so es name x (All-tail (ExportsSo P) e es all) so) (bytes_eq name e.0)
    where
      by : ExportsSo P e → All (ExportsSo P) es → All (ExportsSo P) (insert_entry bytes_eq es name x) → (same : Bool)
          → All (ExportsSo P) (cond same ((e.0, x) ∷ es) (e ∷ insert_entry bytes_eq es name x))
      by here rest more true = All-cons (ExportsSo P) (e.0, x) es so rest
      by here rest more false = All-cons (ExportsSo P) e (insert_entry bytes_eq es name x) here more

  entries_so : (done xs : List (List ℕ × SymbolId)) → All (ExportsSo P) done → All (ExportsSo P) xs → All (ExportsSo P) (insert_all bytes_eq done xs)
  entries_so done [] before all = before
  entries_so done (x ∷ xs) before all =
      entries_so (insert_entry bytes_eq done x.0 x.1) xs (entry_so done x.0 x.1 before (All-head (ExportsSo P) x xs all)) (All-tail (ExportsSo P) x xs all)

  exports_so : (changes : List Change) → All F changes → All (ExportsSo P) (exports_after_changes changes s)
  unfolding exports_after_changes
  exports_so changes all = entries_so [] (filter_map (export_inserted_by s) changes) (λ k d lt. absurd (omega (arith, lt))) (settings_so changes all)

  exported_so : (changes : List Change) (name : List ℕ) → All F changes → IfSome (exported_symbol_after_changes changes s name) P
  exported_so changes name all = All-lookup P (λ key. bytes_eq name key) (exports_after_changes changes s) (exports_so changes all)

pub exports_inside : (count : ℕ) (changes : List Change) (s : SymbolId) → All (NamesSymbolsBelow count) changes
    → All (ExportsBelow count) (exports_after_changes changes s)
exports_inside count changes s all = exports_so (NamesSymbolsBelow count) (Below count) s (setting_fits count s) changes all

pub exported_inside : (count : ℕ) (changes : List Change) (s : SymbolId) (name : List ℕ) → All (NamesSymbolsBelow count) changes
    → IfSome (exported_symbol_after_changes changes s name) (Below count)
exported_inside count changes s name all = exported_so (NamesSymbolsBelow count) (Below count) s (setting_fits count s) changes name all

-- The symbol is not the module's own.
abbrev pub Inner : SymbolId → Type 0
Inner s = 0 < s.0

mapping_apart : (id : IdView) (change : Change) → DoesNotBindOrExportModuleSymbol change → IfSome (symbol_bound_to_ident_by id change) Inner
mapping_apart id (adds_symbol _) h = tt
mapping_apart id (adds_decl _ _) h = tt
mapping_apart id (exports _ _ _) h = tt
mapping_apart id (adds_child _ _) h = tt
mapping_apart id (adds_member _ _) h = tt
mapping_apart id (re_exports_all _) h = tt
mapping_apart id (maps other x) h = by (is_same_id other id)
  where
    by : (test : Bool) → IfSome (some_if test x) Inner
    by true = h
    by false = tt

setting_apart : (s : SymbolId) (change : Change) → DoesNotBindOrExportModuleSymbol change → IfSome (export_inserted_by s change) (ExportsSo Inner)
setting_apart s (adds_symbol _) h = tt
setting_apart s (adds_decl _ _) h = tt
setting_apart s (exports t name x) h = by (is_same_symbol_id t s)
  where
    by : (test : Bool) → IfSome (some_if test (name, x)) (ExportsSo Inner)
    by true = h
    by false = tt
setting_apart s (adds_child _ _) h = tt
setting_apart s (adds_member _ _) h = tt
setting_apart s (maps _ _) h = tt
setting_apart s (re_exports_all _) h = tt

pub mapped_apart : (changes : List Change) (id : IdView) → All DoesNotBindOrExportModuleSymbol changes → IfSome (symbol_of_ident_after_changes changes id) Inner
mapped_apart changes id all = mapped_so DoesNotBindOrExportModuleSymbol Inner id (mapping_apart id) changes all

pub exported_apart : (changes : List Change) (s : SymbolId) (name : List ℕ) → All DoesNotBindOrExportModuleSymbol changes
    → IfSome (exported_symbol_after_changes changes s name) Inner
exported_apart changes s name all = exported_so DoesNotBindOrExportModuleSymbol Inner s (setting_apart s) changes name all
