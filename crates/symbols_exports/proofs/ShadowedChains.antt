-- The later chains of names, in lists by the index of the name in a map.
use Rattle.std.proofs.Common.{append-nil, append_assoc, slice_index_or, slice_set, ◌≡◌, ℕ, zero, suc, ◌+◌, ◌<◌, ◌≤◌, Bool, true, false, not, cond}
use Rattle.std.proofs.Common.{List, [], ◌∷◌, ◌++◌, length, map, None, Some, is_some, string_bytes, String, refl, sym, ap, ◌∙◌, arith, true≢false}
use Rattle.std.specs.Prelude.{if◌then◌else◌, nat_lt, Vec}
use Rattle.std.specs.Global.{Global}
use Rattle.std.specs.List.{position, position_or_len}
use Rattle.std.specs.Map.{keys_of, lookup}
use Rattle.std.specs.Str.{bytes_eq}
use Rattle.indexmap.specs.IndexMap.{insert_entry}
use Rattle.std.proofs.lemmas.Bool.{ltb-true}
use Rattle.std.proofs.lemmas.List.{map-append, length-map}
use Rattle.std.proofs.lemmas.Option.{none-some, same_Some}
use Rattle.std.proofs.lemmas.Slice.Eq.{bytes_eq-Decides}
use Rattle.symbols_ast.specs.declared.ids.ModuleId.{ModuleId}
use Rattle.symbols_exports.specs.declared.export_chain.ResolvedExport.{ResolvedExport}
use Rattle.symbols_exports.specs.SharedNames.{NameWithExporters}
use Rattle.symbols_exports.specs.SharedNameLists.{has_several_exporters_first_along_star, groups_of_several_first_along_star}
use Rattle.symbols_exports.specs.inner.Collecting.{is_along_stars}
use Rattle.symbols_exports.specs.declared.shared_name.SharedName.{SharedName}
use Rattle.symbols_exports.specs.CollectedNames.{resolved_shared_name_view, resolved_shared_name_views, ResolvedExportView, resolved_chain_view}
use Rattle.symbols_exports.specs.CollectedNames.{resolved_export_view}
use Rattle.symbols_exports.specs.inner.Collecting.{ExportChain, name_of_resolved_export, group_of_first_and_later_chains, groups_of_first_and_later_chains}
use Rattle.symbols_exports.specs.inner.Collecting.{chain_lists_view, chain_lists_with_later_chain, groups_with_exporter, exporters_with_later_exporter}

abbrev pub NameEntry : Type 0
NameEntry = String Global × ExportChain

abbrev pub Traces : Type 0
Traces = Vec ExportChain Global

-- whether a key is the name
abbrev pub is_key : List ℕ → String Global → Bool
is_key q key = bytes_eq q (string_bytes key)

-- ---- one more chain of a known name

-- one more chain of a name goes after its other chains, if the first is along an `export *`
after_one : (q : List ℕ) (chain : ExportChain) (entry : NameEntry) (shadowed : List ExportChain) → bytes_eq q (string_bytes entry.0) ≡ true
    → is_along_stars (resolved_export_view entry) ≡ true → group_of_first_and_later_chains entry (shadowed ++ chain ∷ []) ≡ record {
      name = string_bytes entry.0;
      exporters = exporters_with_later_exporter is_along_stars (group_of_first_and_later_chains entry shadowed).exporters (resolved_chain_view q chain);
    }
after_one q chain entry shadowed is along =
    let same : q ≡ string_bytes entry.0 = (bytes_eq-Decides q (string_bytes entry.0)).0 is in
    let viewed : map (resolved_chain_view (string_bytes entry.0)) (shadowed ++ chain ∷ []) ≡ map (resolved_chain_view (string_bytes entry.0)) shadowed
    ++ resolved_chain_view q chain
    ∷ [] = map-append (resolved_chain_view (string_bytes entry.0)) shadowed (chain ∷ [])
    ∙ (λ k. map (resolved_chain_view (string_bytes entry.0)) shadowed ++ resolved_chain_view (sym same k) chain ∷ []) in
    let exporters = ap (λ views. resolved_export_view entry ∷ views) viewed ∙ appended in
    λ k. record { name = string_bytes entry.0; exporters = exporters k }
  where
    appended : (group_of_first_and_later_chains entry shadowed).exporters ++ resolved_chain_view q chain ∷ []
        ≡ exporters_with_later_exporter is_along_stars (group_of_first_and_later_chains entry shadowed).exporters (resolved_chain_view q chain)
    appended = rw along refl

module _ (q : List ℕ) (chain first : ExportChain) where
  -- a chain at the index of the name, by the first list and those after it
  put_at : is_along_stars (resolved_chain_view q first) ≡ true → (entries : List NameEntry) (lists : List (List ExportChain)) (i : ℕ)
      → position_or_len (is_key q) (keys_of entries) ≡ i → i < length (keys_of entries) → lookup (is_key q) entries ≡ Some first
      → groups_of_first_and_later_chains entries (chain_lists_with_later_chain i chain lists)
      ≡ groups_with_exporter name_of_resolved_export is_along_stars (groups_of_first_and_later_chains entries lists) (resolved_chain_view q chain)
  put_at along [] lists i at within had = absurd (omega (arith, within))
  put_at along (entry ∷ entries) [] i at within had =
      by (is_key q entry.0) refl had i at within (λ j index short have. put_at along entries [] j index short have)
    where
      by : (b : Bool) → is_key q entry.0 ≡ b → cond b (Some entry.1) (lookup (is_key q) entries) ≡ Some first → (j : ℕ)
          → cond (not b) (1 + position_or_len (is_key q) (keys_of entries)) 0 ≡ j → j < suc (length (keys_of entries))
          → ((k : ℕ) → position_or_len (is_key q) (keys_of entries) ≡ k → k < length (keys_of entries) → lookup (is_key q) entries ≡ Some first
          → groups_of_first_and_later_chains entries (chain_lists_with_later_chain k chain [])
          ≡ groups_with_exporter name_of_resolved_export is_along_stars (groups_of_first_and_later_chains entries []) (resolved_chain_view q chain))
          → groups_of_first_and_later_chains (entry ∷ entries) (chain_lists_with_later_chain j chain []) ≡ (if b then record {
            name = string_bytes entry.0;
            exporters = exporters_with_later_exporter is_along_stars (group_of_first_and_later_chains entry []).exporters (resolved_chain_view q chain);
          } ∷ groups_of_first_and_later_chains entries []
          else group_of_first_and_later_chains entry [] ∷ groups_with_exporter name_of_resolved_export is_along_stars
          (groups_of_first_and_later_chains entries []) (resolved_chain_view q chain))
      by true is have zero here short rest = ap (λ group. group ∷ groups_of_first_and_later_chains entries []) (after_one q chain entry [] is
          (ap (λ c. is_along_stars (resolved_chain_view q c)) (same_Some entry.1 first have) ∙ along))
      by true is have (suc j) here short rest = absurd (omega (arith, here))
      by false is have zero here short rest = absurd (omega (arith, here))
      by false is have (suc j) here short rest =
          ap (λ groups. group_of_first_and_later_chains entry [] ∷ groups) (rest j (omega (arith, here)) (omega (arith, short)) have)
  put_at along (entry ∷ entries) (shadowed ∷ lists) i at within had =
      by (is_key q entry.0) refl had i at within (λ j index short have. put_at along entries lists j index short have)
    where
      by : (b : Bool) → is_key q entry.0 ≡ b → cond b (Some entry.1) (lookup (is_key q) entries) ≡ Some first → (j : ℕ)
          → cond (not b) (1 + position_or_len (is_key q) (keys_of entries)) 0 ≡ j → j < suc (length (keys_of entries))
          → ((k : ℕ) → position_or_len (is_key q) (keys_of entries) ≡ k → k < length (keys_of entries) → lookup (is_key q) entries ≡ Some first
          → groups_of_first_and_later_chains entries (chain_lists_with_later_chain k chain lists)
          ≡ groups_with_exporter name_of_resolved_export is_along_stars (groups_of_first_and_later_chains entries lists) (resolved_chain_view q chain))
          → groups_of_first_and_later_chains (entry ∷ entries) (chain_lists_with_later_chain j chain (shadowed ∷ lists)) ≡ (if b then record {
            name = string_bytes entry.0;
            exporters = exporters_with_later_exporter is_along_stars (group_of_first_and_later_chains entry shadowed).exporters (resolved_chain_view q chain);
          } ∷ groups_of_first_and_later_chains entries lists
          else group_of_first_and_later_chains entry shadowed ∷ groups_with_exporter name_of_resolved_export is_along_stars
          (groups_of_first_and_later_chains entries lists) (resolved_chain_view q chain))
      by true is have zero here short rest = ap (λ group. group ∷ groups_of_first_and_later_chains entries lists) (after_one q chain entry shadowed is
          (ap (λ c. is_along_stars (resolved_chain_view q c)) (same_Some entry.1 first have) ∙ along))
      by true is have (suc j) here short rest = absurd (omega (arith, here))
      by false is have zero here short rest = absurd (omega (arith, here))
      by false is have (suc j) here short rest =
          ap (λ groups. group_of_first_and_later_chains entry shadowed ∷ groups) (rest j (omega (arith, here)) (omega (arith, short)) have)

module _ (q : List ℕ) (re_exports : List (ModuleId × List ℕ)) (export : ResolvedExport) (first : ExportChain) where
  abbrev view : ResolvedExportView
  view = record { name = q; statements = re_exports; export = export }

  -- a chain of a name whose first chain isn't along an `export *` changes no group
  one_explicit : (entry : NameEntry) (shadowed : List ExportChain) → is_along_stars (resolved_export_view entry) ≡ false
      → group_of_first_and_later_chains entry shadowed ≡ record {
        name = string_bytes entry.0;
        exporters = exporters_with_later_exporter is_along_stars (group_of_first_and_later_chains entry shadowed).exporters view;
      }
  one_explicit entry shadowed explicit = rw explicit refl

  pub explicit_stays : is_along_stars (resolved_chain_view q first) ≡ false → (entries : List NameEntry) (lists : List (List ExportChain))
      → lookup (is_key q) entries ≡ Some first
      → groups_of_first_and_later_chains entries lists ≡ groups_with_exporter name_of_resolved_export is_along_stars
      (groups_of_first_and_later_chains entries lists) view
  explicit_stays explicit [] lists had = absurd (none-some first had)
  explicit_stays explicit (entry ∷ entries) [] had = by (is_key q entry.0) had (λ have. explicit_stays explicit entries [] have)
    where
      by : (b : Bool) → cond b (Some entry.1) (lookup (is_key q) entries) ≡ Some first
          → (lookup (is_key q) entries ≡ Some first → groups_of_first_and_later_chains entries []
          ≡ groups_with_exporter name_of_resolved_export is_along_stars (groups_of_first_and_later_chains entries []) view)
          → group_of_first_and_later_chains entry [] ∷ groups_of_first_and_later_chains entries [] ≡ (if b then record {
            name = string_bytes entry.0;
            exporters = exporters_with_later_exporter is_along_stars (group_of_first_and_later_chains entry []).exporters view;
          } ∷ groups_of_first_and_later_chains entries []
          else group_of_first_and_later_chains entry [] ∷ groups_with_exporter name_of_resolved_export is_along_stars
          (groups_of_first_and_later_chains entries []) view)
      by true have rest = ap (λ group. group ∷ groups_of_first_and_later_chains entries []) (one_explicit entry []
          (ap (λ c. is_along_stars (resolved_chain_view q c)) (same_Some entry.1 first have) ∙ explicit))
      by false have rest = ap (λ groups. group_of_first_and_later_chains entry [] ∷ groups) (rest have)
  explicit_stays explicit (entry ∷ entries) (shadowed ∷ lists) had = by (is_key q entry.0) had (λ have. explicit_stays explicit entries lists have)
    where
      by : (b : Bool) → cond b (Some entry.1) (lookup (is_key q) entries) ≡ Some first
          → (lookup (is_key q) entries ≡ Some first → groups_of_first_and_later_chains entries lists
          ≡ groups_with_exporter name_of_resolved_export is_along_stars (groups_of_first_and_later_chains entries lists) view)
          → group_of_first_and_later_chains entry shadowed ∷ groups_of_first_and_later_chains entries lists ≡ (if b then record {
            name = string_bytes entry.0;
            exporters = exporters_with_later_exporter is_along_stars (group_of_first_and_later_chains entry shadowed).exporters view;
          } ∷ groups_of_first_and_later_chains entries lists
          else group_of_first_and_later_chains entry shadowed ∷ groups_with_exporter name_of_resolved_export is_along_stars
          (groups_of_first_and_later_chains entries lists) view)
      by true have rest = ap (λ group. group ∷ groups_of_first_and_later_chains entries lists) (one_explicit entry shadowed
          (ap (λ c. is_along_stars (resolved_chain_view q c)) (same_Some entry.1 first have) ∙ explicit))
      by false have rest = ap (λ groups. group_of_first_and_later_chains entry shadowed ∷ groups) (rest have)

-- the index of a name in the map
placed : (q : List ℕ) (entries : List NameEntry) (i : ℕ) → Some i ≡ position (is_key q) (keys_of entries)
    → (position_or_len (is_key q) (keys_of entries) ≡ i) × (i < length (keys_of entries))
placed q entries i found = by (nat_lt (position_or_len (is_key q) (keys_of entries)) (length (keys_of entries))) refl found
  where
    by : (b : Bool) → nat_lt (position_or_len (is_key q) (keys_of entries)) (length (keys_of entries)) ≡ b
        → Some i ≡ cond b (Some (position_or_len (is_key q) (keys_of entries))) None
        → (position_or_len (is_key q) (keys_of entries) ≡ i) × (i < length (keys_of entries))
    by true is some =
        let index : position_or_len (is_key q) (keys_of entries) ≡ i = same_Some (position_or_len (is_key q) (keys_of entries)) i (sym some) in
        let short : position_or_len (is_key q) (keys_of entries) < length (keys_of entries) =
        ltb-true (position_or_len (is_key q) (keys_of entries)) (length (keys_of entries)) is in
        (index, omega (arith, index, short))
    by false is some = absurd (none-some i (sym some))

pub push_under : (q : List ℕ) (chain first : ExportChain) (entries : List NameEntry) (lists : List (List ExportChain)) (i : ℕ)
    → Some i ≡ position (is_key q) (keys_of entries) → lookup (is_key q) entries ≡ Some first → is_along_stars (resolved_chain_view q first) ≡ true
    → groups_of_first_and_later_chains entries (chain_lists_with_later_chain i chain lists)
    ≡ groups_with_exporter name_of_resolved_export is_along_stars (groups_of_first_and_later_chains entries lists) (resolved_chain_view q chain)
push_under q chain first entries lists i found had along =
    put_at q chain first along entries lists i (placed q entries i found).0 (placed q entries i found).1 had

-- ---- and of an unknown name

pub put_new : (q : List ℕ) (chain : ExportChain) (entries : List NameEntry) (lists : List (List ExportChain)) (key : String Global) → length lists
    ≤ length entries → is_some (lookup (is_key q) entries) ≡ false → string_bytes key ≡ q → groups_of_first_and_later_chains (insert_entry
    (λ a b. bytes_eq (string_bytes a) (string_bytes b)) entries key chain) lists ≡ groups_with_exporter name_of_resolved_export is_along_stars
    (groups_of_first_and_later_chains entries lists) (resolved_chain_view q chain)
put_new q chain [] [] key few new called = λ k. record { name = called k; exporters = resolved_chain_view (called k) chain ∷ [] } ∷ []
put_new q chain [] (shadowed ∷ lists) key few new called = absurd (omega (arith, few))
put_new q chain (entry ∷ entries) [] key few new called = by (bytes_eq q (string_bytes entry.0)) (bytes_eq (string_bytes key) (string_bytes entry.0))
    (ap (λ n. bytes_eq n (string_bytes entry.0)) called) new (λ none. put_new q chain entries [] key (omega arith) none called)
  where
    by : (b c : Bool) → c ≡ b → is_some (cond b (Some entry.1) (lookup (is_key q) entries)) ≡ false → (is_some (lookup (is_key q) entries) ≡ false
        → groups_of_first_and_later_chains (insert_entry (λ a d. bytes_eq (string_bytes a) (string_bytes d)) entries key chain) []
        ≡ groups_with_exporter name_of_resolved_export is_along_stars (groups_of_first_and_later_chains entries []) (resolved_chain_view q chain))
        → groups_of_first_and_later_chains (if c then (entry.0, chain) ∷ entries else entry
        ∷ insert_entry (λ a d. bytes_eq (string_bytes a) (string_bytes d)) entries key chain) []
        ≡ (if b then record {
          name = string_bytes entry.0;
          exporters = exporters_with_later_exporter is_along_stars (group_of_first_and_later_chains entry []).exporters (resolved_chain_view q chain);
        }
        ∷ groups_of_first_and_later_chains entries []
        else group_of_first_and_later_chains entry [] ∷ groups_with_exporter name_of_resolved_export is_along_stars
        (groups_of_first_and_later_chains entries []) (resolved_chain_view q chain))
    by true c same is rest = absurd (true≢false is)
    by false true same is rest = absurd (true≢false same)
    by false false same is rest = ap (λ groups. group_of_first_and_later_chains entry [] ∷ groups) (rest is)
put_new q chain (entry ∷ entries) (shadowed ∷ lists) key few new called = by (bytes_eq q (string_bytes entry.0)) (bytes_eq (string_bytes key)
    (string_bytes entry.0)) (ap (λ n. bytes_eq n (string_bytes entry.0)) called) new
    (λ none. put_new q chain entries lists key (omega (arith, few)) none called)
  where
    by : (b c : Bool) → c ≡ b → is_some (cond b (Some entry.1) (lookup (is_key q) entries)) ≡ false → (is_some (lookup (is_key q) entries) ≡ false
        → groups_of_first_and_later_chains (insert_entry (λ a d. bytes_eq (string_bytes a) (string_bytes d)) entries key chain) lists
        ≡ groups_with_exporter name_of_resolved_export is_along_stars (groups_of_first_and_later_chains entries lists) (resolved_chain_view q chain))
        → groups_of_first_and_later_chains (if c then (entry.0, chain) ∷ entries else entry
        ∷ insert_entry (λ a d. bytes_eq (string_bytes a) (string_bytes d)) entries key chain)
        (shadowed ∷ lists) ≡
        (if b then record {
          name = string_bytes entry.0;
          exporters = exporters_with_later_exporter is_along_stars (group_of_first_and_later_chains entry shadowed).exporters (resolved_chain_view q chain);
        }
        ∷ groups_of_first_and_later_chains entries lists else group_of_first_and_later_chains entry shadowed
        ∷ groups_with_exporter name_of_resolved_export is_along_stars (groups_of_first_and_later_chains entries lists) (resolved_chain_view q chain))
    by true c same is rest = absurd (true≢false is)
    by false true same is rest = absurd (true≢false same)
    by false false same is rest = ap (λ groups. group_of_first_and_later_chains entry shadowed ∷ groups) (rest is)

-- ---- lists up to an index

-- one more empty list changes nothing if there are no lists past the index
pub none_after : (index : ℕ) (chain : ExportChain) (lists : List (List ExportChain)) → length lists ≤ index
    → chain_lists_with_later_chain index chain (lists ++ [] ∷ []) ≡ chain_lists_with_later_chain index chain lists
none_after zero chain [] few = refl
none_after zero chain (traces ∷ lists) few = absurd (omega (arith, few))
none_after (suc index) chain [] few = by index
  where
    by : (k : ℕ) → [] ∷ chain_lists_with_later_chain k chain [] ≡ [] ∷ chain_lists_with_later_chain k chain []
    by k = refl
none_after (suc index) chain (traces ∷ lists) few = ap (λ rest. traces ∷ rest) (none_after index chain lists (omega (arith, few)))

pub room_made : (index : ℕ) (lists after : List Traces) (none : Traces) (before : List (List ExportChain)) → after ≡ lists ++ none ∷ [] → none.items ≡ []
    → length lists ≤ index → ((chain : ExportChain) → chain_lists_with_later_chain index chain (chain_lists_view lists)
    ≡ chain_lists_with_later_chain index chain before)
    → (chain : ExportChain)
    → chain_lists_with_later_chain index chain (chain_lists_view after) ≡ chain_lists_with_later_chain index chain before
room_made index lists after none before pushed empty few same chain =
    ap (λ items. chain_lists_with_later_chain index chain (chain_lists_view items)) pushed
    ∙ (ap (chain_lists_with_later_chain index chain) (map-append (λ (traces : Traces). traces.items) lists (none ∷ [])
    ∙ ap (λ items. chain_lists_view lists ++ items ∷ []) empty)
    ∙ (none_after index chain (chain_lists_view lists) (omega (arith, few, length-map lists (λ (traces : Traces). traces.items))) ∙ same chain))

-- the list at the index gets one more chain
pub other_put : (index : ℕ) (chain : ExportChain) (lists : List Traces) (traces after : Traces) → index < length lists
    → traces ≡ slice_index_or lists index traces → after.items ≡ traces.items ++ chain ∷ []
    → chain_lists_view (slice_set lists index after) ≡ chain_lists_with_later_chain index chain (chain_lists_view lists)
other_put index chain [] traces after within at more = absurd (omega (arith, within))
other_put zero chain (first ∷ lists) traces after within at more =
    ap (λ items. items ∷ chain_lists_view lists) (more ∙ ap (λ (w : Traces). w.items ++ chain ∷ []) at)
other_put (suc index) chain (first ∷ lists) traces after within at more =
    ap (λ rest. first.items ∷ rest) (other_put index chain lists traces after (omega (arith, within)) at more)

-- ---- how many lists there are

pub lists_few : (index : ℕ) (chain : ExportChain) (lists : List (List ExportChain)) (n : ℕ) → length lists ≤ n → index < n
    → length (chain_lists_with_later_chain index chain lists) ≤ n
lists_few zero chain [] n few within = within
lists_few zero chain (traces ∷ lists) n few within = few
lists_few (suc index) chain [] zero few within = absurd (omega (arith, within))
lists_few (suc index) chain [] (suc n) few within = let rest = lists_few index chain [] n (omega arith) (omega (arith, within)) in omega (arith, rest)
lists_few (suc index) chain (traces ∷ lists) zero few within = absurd (omega (arith, within))
lists_few (suc index) chain (traces ∷ lists) (suc n) few within = let rest = lists_few index chain lists n (omega (arith, few)) (omega (arith, within)) in
    omega (arith, rest)

-- ---- which names are shared

-- names with one chain each aren't shared
pub one_trace_each : (entries : List NameEntry) → groups_of_several_first_along_star is_along_stars (groups_of_first_and_later_chains entries []) ≡ []
one_trace_each [] = refl
one_trace_each (entry ∷ entries) = one_trace_each entries

-- a name that isn't shared is left out
pub passed_over : (entry : NameEntry) (entries : List NameEntry) (traces : List ExportChain) (lists : List (List ExportChain))
    → has_several_exporters_first_along_star is_along_stars (resolved_chain_view (string_bytes entry.0) entry.1
    ∷ map (resolved_chain_view (string_bytes entry.0)) traces) ≡ false
    → groups_of_several_first_along_star is_along_stars (groups_of_first_and_later_chains entries lists) ≡ groups_of_several_first_along_star is_along_stars
    (groups_of_first_and_later_chains (entry ∷ entries) (traces ∷ lists))
passed_over entry entries traces lists is = rw is refl

-- a shared name is added after the others
pub shared_after : (entry : NameEntry) (entries : List NameEntry) (traces : List ExportChain) (lists : List (List ExportChain)) (shared after : List SharedName)
    (more : SharedName)
    → has_several_exporters_first_along_star is_along_stars (resolved_chain_view (string_bytes entry.0) entry.1
    ∷ map (resolved_chain_view (string_bytes entry.0)) traces) ≡ true
    → after ≡ shared ++ more ∷ [] → string_bytes more.name ≡ string_bytes entry.0
    → map (resolved_chain_view (string_bytes entry.0)) more.exporters.items ≡ resolved_chain_view (string_bytes entry.0) entry.1
    ∷ map (resolved_chain_view (string_bytes entry.0)) traces
    → resolved_shared_name_views after ++ groups_of_several_first_along_star is_along_stars (groups_of_first_and_later_chains entries lists)
    ≡ resolved_shared_name_views shared ++ groups_of_several_first_along_star is_along_stars
    (groups_of_first_and_later_chains (entry ∷ entries) (traces ∷ lists))
shared_after entry entries traces lists shared after more is pushed named exporters =
    let view : resolved_shared_name_view more ≡ group_of_first_and_later_chains entry traces =
    (λ i. record { name = named i; exporters = map (resolved_chain_view (named i)) more.exporters.items })
    ∙ (λ i. record { name = string_bytes entry.0; exporters = exporters i }) in
    ap (λ names. resolved_shared_name_views names ++ groups_of_several_first_along_star is_along_stars (groups_of_first_and_later_chains entries lists)) pushed
    ∙ (ap (λ views. views ++ groups_of_several_first_along_star is_along_stars (groups_of_first_and_later_chains entries lists))
    (map-append resolved_shared_name_view shared (more ∷ []))
    ∙ (append_assoc (resolved_shared_name_views shared) (resolved_shared_name_view more ∷ []) (groups_of_several_first_along_star is_along_stars
    (groups_of_first_and_later_chains entries lists))
    ∙ (ap (λ v. resolved_shared_name_views shared ++ v ∷ groups_of_several_first_along_star is_along_stars (groups_of_first_and_later_chains entries lists))
    view ∙ rw is refl)))

-- a name after the others, whether it is shared or not
pub ruleset next_shared_name = (one_trace_each, passed_over, shared_after)

-- if no lists are left, no later name is shared
pub none_left : (entries : List NameEntry) (lists : List (List ExportChain)) (shared all : List (NameWithExporters ResolvedExportView))
    → shared ++ groups_of_several_first_along_star is_along_stars (groups_of_first_and_later_chains entries lists) ≡ all → lists ≡ [] → shared ≡ all
none_left entries lists shared all are none = sym (append-nil shared)
    ∙ (ap (λ more. shared ++ more) (sym (one_trace_each entries)
    ∙ ap (λ ls. groups_of_several_first_along_star is_along_stars (groups_of_first_and_later_chains entries ls)) (sym none)) ∙ are)
