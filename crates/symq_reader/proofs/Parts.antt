-- A tree, a module and a graph of which one part was read apart.
use Rattle.std.proofs.Common.{◌≡◌, ℕ, List, Bool, true, false, cond, Option, Some, None, option_map}
use Rattle.std.proofs.Common.{option_and_then, codes, bytes_eq, refl, sym, ap, ◌∙◌, true≢false}
use Rattle.std.proofs.lemmas.Slice.Eq.{bytes_eq-Decides}
use Rattle.json.specs.Token.{Token}
use Rattle.json.specs.Json as json
use Rattle.serde_json.specs.Data.{Data}
use Rattle.serde_json.specs.Find.{get, as_str}
use Rattle.symq_reader.specs.GraphText.{RawNodeView, RawTreeView, RawModuleKindView, esm, json as json_module, external, RawModuleView}
use Rattle.symq_reader.specs.GraphText.{RawGraphView, as_node, as_tree, as_module, as_redirect, as_resolution, require_object, graph_of_json_fields}
use Rattle.symq_reader.specs.JsonData.{json_data}
use Rattle.symq_reader.specs.inner.Streams.{ReadsMemberApart, list_in_optional_data, value_in_optional_data, module_kind_shape_with_tree}
use Rattle.symq_reader.specs.inner.Streams.{module_shape_with_tree}
use Rattle.symq_reader.specs.UnderKeys.{none_if_null, read_if_present, bool_or_false, required_value_under_key, optional_value_under_key, list_under_key}
use Rattle.symq_reader.specs.UnderKeys.{bool_under_key}
use Rattle.symq_reader.proofs.Gets.{get_of_unescaped}

differ : (q k : List ℕ) → bytes_eq q k ≡ false → q ≡ k → ⊥
differ q k e h = true≢false (sym ((bytes_eq-Decides q k).1 h) ∙ e)

module _ (depth : ℕ) (old new : List Token) (key : List ℕ) (there : Option json.Json) (retained : json.Members)
    (around : ReadsMemberApart depth old new key there
    retained) where
  pub at_key : get key (json_data (json.object around.all)) ≡ option_map json_data there
  at_key = get_of_unescaped key (json.object around.all) ∙ ap (option_map json_data) around.under

  pub at_other : (q : List ℕ) → (q ≡ key → ⊥) → get q (json_data (json.object retained)) ≡ get q (json_data (json.object around.all))
  at_other q other = get_of_unescaped q (json.object retained) ∙ ap (option_map json_data) (around.other_items q other)
      ∙ sym (get_of_unescaped q (json.object around.all))

-- ---- a tree

abbrev tree_from : Option Bool → Option (List RawNodeView) → Option RawTreeView
tree_from flag list = option_and_then (λ declaration. option_map (λ nodes. record { declaration = declaration; nodes = nodes }) list) flag

tree_with : (flag : Option Bool) (list : Option (List RawNodeView)) (t : RawTreeView) (nodes : List RawNodeView) → tree_from flag list ≡ Some t
    → tree_from flag (Some nodes) ≡ Some (record { declaration = t.declaration; nodes = nodes })
tree_with None list t nodes e = absurd (cc)
tree_with (Some d) None t nodes e = absurd (cc)
tree_with (Some d) (Some old) t nodes e =
    let start : RawTreeView = record { declaration = d; nodes = old } in
    let is : start ≡ t = cc in ap (λ x. Some (record { declaration = x.declaration; nodes = nodes })) is

pub tree_whole : (depth : ℕ) (old new : List Token) (there : Option json.Json) (retained : json.Members)
    (around : ReadsMemberApart depth old new (codes "nodes") there retained) (t : RawTreeView) (nodes : List RawNodeView)
    → as_tree (json_data (json.object retained)) ≡ Some t → list_in_optional_data as_node (option_map json_data there) ≡ Some nodes
    → as_tree (json_data (json.object around.all)) ≡ Some (record { declaration = t.declaration; nodes = nodes })
tree_whole depth old new there retained around t nodes e found =
    let all = json_data (json.object around.all) in
    let apart = differ (codes "declaration") (codes "nodes") refl in
    let flag : bool_under_key (codes "declaration") (json_data (json.object retained)) ≡ bool_under_key (codes "declaration") all =
    ap (λ o. bool_or_false (option_and_then none_if_null o)) (at_other depth old new (codes "nodes") there retained around (codes "declaration") apart) in
    let list : list_under_key as_node (codes "nodes") all ≡ Some nodes =
    ap (list_in_optional_data as_node) (at_key depth old new (codes "nodes") there retained around) ∙ found in
    ap (λ o. tree_from (bool_under_key (codes "declaration") all) o) list
    ∙ ap (λ o. tree_from o (Some nodes)) (sym flag)
    ∙ tree_with (bool_under_key (codes "declaration") (json_data (json.object retained))) (list_under_key as_node (codes "nodes")
    (json_data (json.object retained))) t nodes e

-- ---- a module

abbrev esm_from : Option (List ℕ) → Option (Option RawTreeView) → Option (Option (List ℕ)) → Option RawModuleKindView
esm_from text tree types = option_and_then (λ text. option_and_then (λ tree. option_map (λ types. esm text tree types) types) tree) text

abbrev kind_from : Bool → Bool → Bool → Option (List ℕ) → Option (Option RawTreeView) → Option (Option (List ℕ)) → Option RawModuleKindView
kind_from is_esm is_json is_external text tree types =
    cond is_esm (esm_from text tree types) (cond is_json (option_map json_module text) (cond is_external (Some external) None))

abbrev kind_by_tag : List ℕ → Option (List ℕ) → Option (Option RawTreeView) → Option (Option (List ℕ)) → Option RawModuleKindView
kind_by_tag kind text tree types = kind_from (bytes_eq kind (codes "esm")) (bytes_eq kind (codes "json")) (bytes_eq kind (codes "external")) text tree types

abbrev module_from : Option (List ℕ) → Option (List ℕ) → Option (List ℕ) → Option (Option RawTreeView) → Option (Option (List ℕ)) → Option RawModuleView
module_from specifier kind text tree types = option_and_then
    (λ specifier. option_map (λ kind. record { specifier = specifier; kind = kind }) (option_and_then (λ kind. kind_by_tag kind text tree types) kind))
    specifier

esm_with : (text : Option (List ℕ)) (tree : Option (Option RawTreeView)) (types : Option (Option (List ℕ))) (found : Option RawTreeView) (k : RawModuleKindView)
    → esm_from text tree types ≡ Some k → esm_from text (Some found) types ≡ Some (module_kind_shape_with_tree found k)
esm_with None tree types found k e = absurd (cc)
esm_with (Some text) None types found k e = absurd (cc)
esm_with (Some text) (Some tree) None found k e = absurd (cc)
esm_with (Some text) (Some tree) (Some types) found k e = let is : esm text tree types ≡ k = cc in ap (λ x. Some (module_kind_shape_with_tree found x)) is

json_with : (text : Option (List ℕ)) (found : Option RawTreeView) (k : RawModuleKindView) → option_map json_module text ≡ Some k
    → option_map json_module text ≡ Some (module_kind_shape_with_tree found k)
json_with None found k e = absurd (cc)
json_with (Some text) found k e = let is : json_module text ≡ k = cc in ap (λ x. Some (module_kind_shape_with_tree found x)) is

kind_with : (a b c : Bool) (text : Option (List ℕ)) (tree : Option (Option RawTreeView)) (types : Option (Option (List ℕ))) (found : Option RawTreeView)
    (k : RawModuleKindView)
    → kind_from a b c text tree types ≡ Some k → kind_from a b c text (Some found) types ≡ Some (module_kind_shape_with_tree found k)
kind_with true b c text tree types found k e = esm_with text tree types found k e
kind_with false true c text tree types found k e = json_with text found k e
kind_with false false true text tree types found k e = let is : external ≡ k = cc in ap (λ x. Some (module_kind_shape_with_tree found x)) is
kind_with false false false text tree types found k e = absurd (cc)

specifier_with : (kind new : Option RawModuleKindView) (specifier : List ℕ) (found : Option RawTreeView) (m : RawModuleView)
    → ((k : RawModuleKindView) → kind ≡ Some k → new ≡ Some (module_kind_shape_with_tree found k))
    → option_map (λ kind. let m : RawModuleView = record { specifier = specifier; kind = kind } in m) kind ≡ Some m
    → option_map (λ kind. let m : RawModuleView = record { specifier = specifier; kind = kind } in m) new ≡ Some (module_shape_with_tree found m)
specifier_with None new specifier found m same e = absurd (cc)
specifier_with (Some k) new specifier found m same e =
    let start : RawModuleView = record { specifier = specifier; kind = k } in
    let is : start ≡ m = cc in
    ap (option_map (λ kind. let m : RawModuleView = record { specifier = specifier; kind = kind } in m)) (same k refl)
    ∙ ap (λ x. Some (module_shape_with_tree found x)) is

module_with : (specifier kind text : Option (List ℕ)) (tree : Option (Option RawTreeView)) (types : Option (Option (List ℕ))) (found : Option RawTreeView)
    (m : RawModuleView)
    → module_from specifier kind text tree types ≡ Some m → module_from specifier kind text (Some found) types ≡ Some (module_shape_with_tree found m)
module_with None kind text tree types found m e = absurd (cc)
module_with (Some specifier) None text tree types found m e = absurd (cc)
module_with (Some specifier) (Some kind) text tree types found m e =
    specifier_with (kind_by_tag kind text tree types) (kind_by_tag kind text (Some found) types) specifier found m
    (λ k h. kind_with (bytes_eq kind (codes "esm")) (bytes_eq kind (codes "json")) (bytes_eq kind (codes "external")) text tree types found k h) e

module_same : (s s' k k' x x' : Option (List ℕ)) (tree tree' : Option (Option RawTreeView)) (y y' : Option (Option (List ℕ))) → s ≡ s' → k ≡ k' → x ≡ x'
    → tree ≡ tree' → y ≡ y' → module_from s k x tree y ≡ module_from s' k' x' tree' y'
module_same s s' k k' x x' tree tree' y y' es ek ex et ey =
    ap (λ o. module_from o k x tree y) es
    ∙ ap (λ o. module_from s' o x tree y) ek
    ∙ ap (λ o. module_from s' k' o tree y) ex
    ∙ ap (λ o. module_from s' k' x' o y) et
    ∙ ap (λ o. module_from s' k' x' tree' o) ey

pub module_whole : (depth : ℕ) (old new : List Token) (there : Option json.Json) (retained : json.Members)
    (around : ReadsMemberApart depth old new (codes "tree") there retained) (m : RawModuleView) (found : Option RawTreeView)
    → as_module (json_data (json.object retained)) ≡ Some m → value_in_optional_data as_tree (option_map json_data there) ≡ Some found
    → as_module (json_data (json.object around.all)) ≡ Some (module_shape_with_tree found m)
module_whole depth old new there retained around m found e tree =
    let all = json_data (json.object around.all) in
    let some = json_data (json.object retained) in
    let same = λ (q : List ℕ) (h : q ≡ codes "tree" → ⊥). sym (at_other depth old new (codes "tree") there retained around q h) in
    let at_tree : optional_value_under_key as_tree (codes "tree") all ≡ Some found =
    ap (value_in_optional_data as_tree) (at_key depth old new (codes "tree") there retained around) ∙ tree in
    let text = λ (o : Option Data). option_and_then as_str (option_and_then none_if_null o) in
    module_same (required_value_under_key as_str (codes "specifier") all) (required_value_under_key as_str (codes "specifier") some)
    (required_value_under_key as_str (codes "kind") all)
    (required_value_under_key as_str (codes "kind") some)
    (required_value_under_key as_str (codes "text") all) (required_value_under_key as_str (codes "text") some)
    (optional_value_under_key as_tree (codes "tree") all)
    (Some found)
    (optional_value_under_key as_str (codes "types") all) (optional_value_under_key as_str (codes "types") some)
    (ap text (same (codes "specifier") (differ (codes "specifier") (codes "tree") refl))) (ap text
    (same (codes "kind") (differ (codes "kind") (codes "tree") refl))) (ap text (same (codes "text") (differ (codes "text") (codes "tree") refl))) at_tree
    (ap (λ o. read_if_present as_str (option_and_then none_if_null o)) (same (codes "types") (differ (codes "types") (codes "tree") refl)))
    ∙ module_with (required_value_under_key as_str (codes "specifier") some) (required_value_under_key as_str (codes "kind") some)
    (required_value_under_key as_str (codes "text")
    some) (optional_value_under_key as_tree (codes "tree") some)
    (optional_value_under_key as_str (codes "types") some) found m e

-- ---- a graph

abbrev graph_from : Option (List RawModuleView) → Option (List (List ℕ × List ℕ)) → Option (List (List ℕ × List ℕ × List ℕ)) → Option RawGraphView
graph_from modules redirects resolutions =
    option_and_then (λ modules. option_and_then
    (λ redirects. option_map (λ resolutions. record { modules = modules; redirects = redirects; resolutions = resolutions }) resolutions) redirects) modules

abbrev pub with_modules : List RawModuleView → RawGraphView → RawGraphView
with_modules modules g = record { modules = modules; redirects = g.redirects; resolutions = g.resolutions }

graph_with : (modules : Option (List RawModuleView)) (redirects : Option (List (List ℕ × List ℕ))) (resolutions : Option (List (List ℕ × List ℕ × List ℕ)))
    (found : List RawModuleView) (g : RawGraphView)
    → graph_from modules redirects resolutions ≡ Some g → graph_from (Some found) redirects resolutions ≡ Some (with_modules found g)
graph_with None redirects resolutions found g e = absurd (cc)
graph_with (Some ms) None resolutions found g e = absurd (cc)
graph_with (Some ms) (Some rs) None found g e = absurd (cc)
graph_with (Some ms) (Some rs) (Some ss) found g e =
    let start : RawGraphView = record { modules = ms; redirects = rs; resolutions = ss } in
    let is : start ≡ g = cc in
    ap (λ x. Some (with_modules found x)) is

pub graph_whole : (depth : ℕ) (old new : List Token) (there : Option json.Json) (retained : json.Members)
    (around : ReadsMemberApart depth old new (codes "modules") there retained) (g : RawGraphView) (found : List RawModuleView)
    → require_object graph_of_json_fields (json_data (json.object retained)) ≡ Some g → list_in_optional_data as_module (option_map json_data there)
    ≡ Some found
    → require_object graph_of_json_fields (json_data (json.object around.all)) ≡ Some (with_modules found g)
graph_whole depth old new there retained around g found e list =
    let all = json_data (json.object around.all) in
    let some = json_data (json.object retained) in
    let same = λ (q : List ℕ) (h : q ≡ codes "modules" → ⊥). sym (at_other depth old new (codes "modules") there retained around q h) in
    let modules : list_under_key as_module (codes "modules") all ≡ Some found =
    ap (list_in_optional_data as_module) (at_key depth old new (codes "modules") there retained around) ∙ list in
    ap (λ o. graph_from o (list_under_key as_redirect (codes "redirects") all) (list_under_key as_resolution (codes "resolutions") all)) modules
    ∙ ap (λ o. graph_from (Some found) o (list_under_key as_resolution (codes "resolutions") all)) (ap (list_in_optional_data as_redirect)
    (same (codes "redirects") (differ (codes "redirects") (codes "modules") refl)))
    ∙ ap (λ o. graph_from (Some found) (list_under_key as_redirect (codes "redirects") some) o) (ap (list_in_optional_data as_resolution)
    (same (codes "resolutions") (differ (codes "resolutions") (codes "modules") refl)))
    ∙ graph_with (list_under_key as_module (codes "modules") some) (list_under_key as_redirect (codes "redirects") some)
    (list_under_key as_resolution (codes "resolutions")
    some) found g e
