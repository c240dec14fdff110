-- Paths that are converted to specifiers, with the links whose next paths are being converted as a list, the innermost first.
use Rattle.std.proofs.Common.{◌≡◌, ℕ, ◌+◌, ◌<◌, List, [], ◌∷◌, ◌++◌, map, reverse, refl, sym, ◌∙◌, ap, subst, append_assoc, append-nil, arith, rules}
use Rattle.std.proofs.lemmas.List.{map-append, reverse-reverse}
use Rattle.symbols_root.specs.Roots.{RootView, specifier_in}
use Rattle.symbols_paths.specs.declared.definition.Definition.{Definition}
use Rattle.symbols_paths.specs.declared.definition_unresolved.DefinitionUnresolved.{DefinitionUnresolved}
use Rattle.symbols_paths.specs.declared.definition_path.DefinitionPathLink.{DefinitionPathLink}
use Rattle.symbols_paths.specs.declared.definition_path.DefinitionPathNode.{DefinitionPathNode}
use Rattle.symbols_paths.specs.declared.definition_path.DefinitionPathNode.TheVariants as node
use Rattle.symbols_paths.specs.declared.definition_path.DefinitionPathNodeResolved.TheVariants as resolved
use Rattle.symbols_paths.specs.PathTrees.{LinkHead, PathTree, PathForest, definition, unresolved, leaf, link, no_trees, more_trees}
use Rattle.symbols_paths.specs.Views.{definition_by_specifier, unresolved_entry_view}
use Rattle.symbols_paths.specs.Views.{strings_view, forest_of_trees, path_by_specifier, paths_by_specifier, modules_of_path, modules_of_paths, AreModulesStored}
use Rattle.symbols_queries.specs.declared.paths_by_specifier.DefinitionBySpecifier.{DefinitionBySpecifier}
use Rattle.symbols_queries.specs.declared.paths_by_specifier.UnresolvedBySpecifier.{UnresolvedBySpecifier}
use Rattle.symbols_queries.specs.declared.paths_by_specifier.OpenLink.{OpenLink}
use Rattle.symbols_queries.specs.declared.paths_by_specifier.PathLinkBySpecifier.{PathLinkBySpecifier}
use Rattle.symbols_queries.specs.declared.paths_by_specifier.PathBySpecifier.{PathBySpecifier, the_lemmas}
use Rattle.symbols_queries.specs.declared.paths_by_specifier.PathBySpecifier.TheVariants as path
use Rattle.symbols_queries.specs.Queries.{definition_by_specifier_view, unresolved_by_specifier_view, decl_with_specifier, path_tree_view, path_forest_view}
use Rattle.symbols_queries.proofs.Known.{joined_first, joined_rest, link_next}
use Rattle.symbols_queries.proofs.NodeTrees.{link_named, definition_named, unresolved_named}
use Rattle.symbols_paths.proofs.DropOrder.{whole, whole_append, whole_reverse, popped_first}
use Rattle.symbols_paths.proofs.DropPaths.{weight_of_path, weight_of_link}

abbrev pub head_of : OpenLink → LinkHead
head_of l = record {
  symbol = record { specifier = l.«module».now; number = l.symbol };
  decl = decl_with_specifier l.«module».now l.decl;
  parts = strings_view l.parts.items;
}

-- the trees, if the links are closed one after another above those at hand
abbrev pub closed_links : RootView → List OpenLink → List PathTree → List PathTree
closed_links root [] ts = ts
closed_links root (l ∷ ls) ts =
    closed_links root ls (map path_tree_view l.before.items ++ link (head_of l) (forest_of_trees ts) ∷ map (path_by_specifier root) (reverse l.rest.items))

abbrev pub AreLinksKnown : RootView → List OpenLink → Type 0
AreLinksKnown root [] = Unit {0}
AreLinksKnown root (l ∷ ls) = AreModulesStored root (modules_of_paths (reverse l.rest.items)) × AreLinksKnown root ls

-- the invariant: the paths converted so far, and `rest` of those left below the innermost link
pub record AreConverting (root : RootView) (named : List PathBySpecifier) (rest : List DefinitionPathNode) (links : List OpenLink)
    (all : List DefinitionPathNode) : Type 0 where
  pub view : closed_links root links (map path_tree_view named ++ map (path_by_specifier root) rest) ≡ map (path_by_specifier root) all
  pub known : AreModulesStored root (modules_of_paths rest)
  pub links_known : AreLinksKnown root links

definition_tree : (x : DefinitionBySpecifier) → path_tree_view (path.Definition x) ≡ leaf (definition (definition_by_specifier_view x))
definition_tree x = search (rules, the_lemmas)

unresolved_tree : (x : UnresolvedBySpecifier) → path_tree_view (path.Unresolved x) ≡ leaf (unresolved (unresolved_by_specifier_view x))
unresolved_tree x = search (rules, the_lemmas)

-- a path that is no link is converted
pub converted_next : {root : RootView} {named further : List PathBySpecifier} {rest all : List DefinitionPathNode} {links : List OpenLink}
    (x : DefinitionPathNode) (y : PathBySpecifier) → AreConverting root named (x ∷ rest) links all → further ≡ named ++ y ∷ []
    → path_tree_view y ≡ path_by_specifier root x → AreConverting root further rest links all
converted_next {root = root} {named = named} {rest = rest} {links = links} x y is put same = record {
  view = ap (closed_links root links) (ap (λ ys. map path_tree_view ys ++ map (path_by_specifier root) rest) put
      ∙ (ap (λ ts. ts ++ map (path_by_specifier root) rest) (map-append path_tree_view named (y ∷ []))
      ∙ (append_assoc (map path_tree_view named) (path_tree_view y ∷ []) (map (path_by_specifier root) rest)
      ∙ ap (λ t. map path_tree_view named ++ t ∷ map (path_by_specifier root) rest) same)))
      ∙ is.view;
  known = joined_rest root modules_of_path (x ∷ rest) x rest refl is.known;
  links_known = is.links_known;
}

-- a link is opened
pub converted_opened : {root : RootView} {named : List PathBySpecifier} {rest all : List DefinitionPathNode} {links : List OpenLink}
    (x : DefinitionPathNode) (l : DefinitionPathLink) (outer : OpenLink) → x ≡ node.Resolved (resolved.Link l)
    → outer.«module».now ≡ specifier_in root l.«module» → outer.symbol ≡ l.symbol → outer.decl ≡ l.symbol_decl → outer.parts ≡ l.parts
    → outer.before.items ≡ named → reverse outer.rest.items ≡ rest
    → AreConverting root named (x ∷ rest) links all → AreConverting root [] l.next.items (outer ∷ links) all
converted_opened {root = root} {named = named} {rest = rest} {links = links} x l outer x_is module_is symbol_is decl_is parts_is before_is rest_is is = record {
  view = (λ i. closed_links root links (map path_tree_view (before_is i) ++ link (record {
    symbol = record { specifier = module_is i; number = symbol_is i };
    decl = decl_with_specifier (module_is i) (decl_is i);
    parts = strings_view (parts_is i).items;
  }) (paths_by_specifier root l.next.items) ∷ map (path_by_specifier root) (rest_is i)))
      ∙ (ap (λ t. closed_links root links (map path_tree_view named ++ t ∷ map (path_by_specifier root) rest))
      (sym (ap (path_by_specifier root) x_is ∙ link_named root l)) ∙ is.view);
  known = link_next root x l x_is (joined_first root modules_of_path (x ∷ rest) x rest refl is.known);
  links_known = (
    subst (λ ys. AreModulesStored root (modules_of_paths ys)) (sym rest_is) (joined_rest root modules_of_path (x ∷ rest) x rest refl is.known),
    is.links_known,
  );
}

-- a definition, and an unresolved end
pub definition_view : (root : RootView) (x : DefinitionPathNode) (d : Definition) (named : DefinitionBySpecifier)
    → x ≡ node.Resolved (resolved.Definition d) → definition_by_specifier_view named ≡ definition_by_specifier root d
    → path_tree_view (path.Definition named) ≡ path_by_specifier root x
definition_view root x d named x_is same = definition_tree named ∙ (ap (λ v. leaf (definition v)) same
    ∙ sym (ap (path_by_specifier root) x_is ∙ definition_named root d))

pub unresolved_view : (root : RootView) (x : DefinitionPathNode) (u : DefinitionUnresolved) (named : UnresolvedBySpecifier)
    → x ≡ node.Unresolved u → unresolved_by_specifier_view named ≡ unresolved_entry_view root u
    → path_tree_view (path.Unresolved named) ≡ path_by_specifier root x
unresolved_view root x u named x_is same = unresolved_tree named ∙ (ap (λ v. leaf (unresolved v)) same
    ∙ sym (ap (path_by_specifier root) x_is ∙ unresolved_named root u))

-- a forest of two trees is not one of one tree, and a forest without trees none of some
not_two : (s t : PathTree) (f : PathForest) (u : PathTree) → more_trees s (more_trees t f) ≡ more_trees u no_trees → ⊥
not_two s t f u is = cc

link_view : (x : PathLinkBySpecifier) → path_tree_view (path.Link x) ≡ link (record {
  symbol = record { specifier = x.«module».now; number = x.symbol };
  decl = decl_with_specifier x.«module».now x.decl;
  parts = strings_view x.parts.items;
}) (path_forest_view x.next.items)
link_view x = search (rules, the_lemmas)

-- the innermost link is closed
pub converted_closed : {root : RootView} {named further : List PathBySpecifier} {rest all : List DefinitionPathNode} {links : List OpenLink}
    (outer : OpenLink) (x : PathLinkBySpecifier) → AreConverting root named rest (outer ∷ links) all → rest ≡ []
    → x.«module».now ≡ outer.«module».now → x.symbol ≡ outer.symbol → x.decl ≡ outer.decl → x.parts ≡ outer.parts → x.next.items ≡ named
    → further ≡ outer.before.items ++ path.Link x ∷ [] → AreConverting root further (reverse outer.rest.items) links all
converted_closed {root = root} {named = named} {rest = rest} {links = links} outer x is over module_is symbol_is decl_is parts_is next_is put = record {
  view =
      let after = map (path_by_specifier root) (reverse outer.rest.items) in
      ap (closed_links root links) (ap (λ ys. map path_tree_view ys ++ after) put
      ∙ (ap (λ ts. ts ++ after) (map-append path_tree_view outer.before.items (path.Link x ∷ []))
      ∙ (append_assoc (map path_tree_view outer.before.items) (path_tree_view (path.Link x) ∷ []) after
      ∙ ap (λ t. map path_tree_view outer.before.items ++ t ∷ after) (link_view x ∙ ((λ i. link (record {
        symbol = record { specifier = module_is i; number = symbol_is i };
        decl = decl_with_specifier (module_is i) (decl_is i);
        parts = strings_view (parts_is i).items;
      }) (forest_of_trees (map path_tree_view (next_is i)))) ∙ ap (λ ts. link (head_of outer) (forest_of_trees ts))
      (sym (append-nil (map path_tree_view named)) ∙ ap (λ ys. map path_tree_view named ++ map (path_by_specifier root) ys) (sym over)))))))
      ∙ is.view;
  known = is.links_known.0;
  links_known = is.links_known.1;
}

pub converted_last : {root : RootView} {named : List PathBySpecifier} {rest all : List DefinitionPathNode} {links : List OpenLink}
    → AreConverting root named rest links all → rest ≡ [] → links ≡ [] → path_forest_view named ≡ paths_by_specifier root all
converted_last {root = root} {named = named} is over closed = ap forest_of_trees (sym (append-nil (map path_tree_view named))
    ∙ ((λ i. closed_links root (sym closed i) (map path_tree_view named ++ map (path_by_specifier root) (sym over i))) ∙ is.view))

-- ---- the measure: the paths left, those after the open links included

abbrev pub links_weight : List OpenLink → ℕ
links_weight [] = 0
links_weight (l ∷ ls) = 1 + whole weight_of_path l.rest.items + links_weight ls

-- ---- the turns of the loop, whose stacks have the next item last

pub converting_begun : (root : RootView) (named : List PathBySpecifier) (rest all : List DefinitionPathNode) (links : List OpenLink) → named ≡ []
    → rest ≡ reverse all → links ≡ [] → AreModulesStored root (modules_of_paths all) → AreConverting root named (reverse rest) (reverse links) all
converting_begun root named rest all links named_is rest_is links_are known =
    let reversed_twice : all ≡ reverse rest = sym (ap reverse rest_is ∙ reverse-reverse all) in
    subst (λ xs. AreConverting root xs (reverse rest) (reverse links) all) (sym named_is)
    (subst (λ xs. AreConverting root [] xs (reverse links) all) reversed_twice
    (subst (λ xs. AreConverting root [] all (reverse xs) all) (sym links_are) (record { view = refl; known = known; links_known = tt })))

pub converting_leaf : {root : RootView} {named further : List PathBySpecifier} {all : List DefinitionPathNode} {links : List OpenLink}
    (rest new : List DefinitionPathNode) (x : DefinitionPathNode) (y : PathBySpecifier)
    → rest ≡ new ++ x ∷ [] → further ≡ named ++ y ∷ [] → path_tree_view y ≡ path_by_specifier root x
    → AreConverting root named (reverse rest) links all → AreConverting root further (reverse new) links all
converting_leaf {root = root} {named = named} {all = all} {links = links} rest new x y rest_is put same is =
    converted_next x y (subst (λ xs. AreConverting root named xs links all) (popped_first rest new x rest_is) is) put same

-- the path taken off the stack is of a stored module
pub first_known : {root : RootView} {named : List PathBySpecifier} {all : List DefinitionPathNode} {links : List OpenLink}
    (rest new : List DefinitionPathNode) (x : DefinitionPathNode)
    → rest ≡ new ++ x ∷ [] → AreConverting root named (reverse rest) links all → AreModulesStored root (modules_of_path x)
first_known {root = root} {named = named} {all = all} {links = links} rest new x rest_is is =
    joined_first root modules_of_path (x ∷ reverse new) x (reverse new) refl
    (subst (λ xs. AreConverting root named xs links all) (popped_first rest new x rest_is) is).known

pub converting_link : {root : RootView} {named now : List PathBySpecifier} {all : List DefinitionPathNode}
    (rest new next : List DefinitionPathNode) (links more : List OpenLink) (x : DefinitionPathNode) (l : DefinitionPathLink) (outer : OpenLink)
    → rest ≡ new ++ x ∷ [] → x ≡ node.Resolved (resolved.Link l)
    → next ≡ reverse l.next.items → more ≡ links ++ outer ∷ [] → outer.«module».now ≡ specifier_in root l.«module» → outer.symbol ≡ l.symbol
    → outer.decl ≡ l.symbol_decl → outer.parts ≡ l.parts → outer.before.items ≡ named → outer.rest.items ≡ new → now ≡ []
    → AreConverting root named (reverse rest) (reverse links) all → AreConverting root now (reverse next) (reverse more) all
converting_link {root = root} {named = named} {all = all} rest new next links more x l outer
    rest_is x_is next_is more_is module_is symbol_is decl_is parts_is before_is after_is now_is is =
    subst (λ ys. AreConverting root ys (reverse next) (reverse more) all) (sym now_is)
    (subst (λ ys. AreConverting root [] ys (reverse more) all) (sym (ap reverse next_is ∙ reverse-reverse l.next.items))
    (subst (λ ls. AreConverting root [] l.next.items ls all) (sym (popped_first more links outer more_is))
    (converted_opened x l outer x_is module_is symbol_is decl_is parts_is before_is (ap reverse after_is)
    (subst (λ ys. AreConverting root named ys (reverse links) all) (popped_first rest new x rest_is) is))))

pub converting_close : {root : RootView} {named further : List PathBySpecifier} {all : List DefinitionPathNode} (rest : List DefinitionPathNode)
    (links new : List OpenLink) (outer : OpenLink) (x : PathLinkBySpecifier)
    → rest ≡ [] → links ≡ new ++ outer ∷ [] → x.«module».now ≡ outer.«module».now → x.symbol ≡ outer.symbol
    → x.decl ≡ outer.decl → x.parts ≡ outer.parts → x.next.items ≡ named → further ≡ outer.before.items ++ path.Link x ∷ []
    → AreConverting root named (reverse rest) (reverse links) all → AreConverting root further (reverse outer.rest.items) (reverse new) all
converting_close {root = root} {named = named} {all = all} rest links new outer x over links_are module_is symbol_is decl_is parts_is
    next_is put is =
    converted_closed outer x (subst (λ ls. AreConverting root named (reverse rest) ls all) (popped_first links new outer links_are) is)
    (ap reverse over) module_is symbol_is decl_is parts_is next_is put

pub link_smaller : (rest new next : List DefinitionPathNode) (links more : List OpenLink) (x : DefinitionPathNode) (l : DefinitionPathLink) (outer : OpenLink)
    → rest ≡ new ++ x ∷ [] → x ≡ node.Resolved (resolved.Link l) → next ≡ reverse l.next.items → more ≡ links ++ outer ∷ [] → outer.rest.items ≡ new
    → whole weight_of_path next + links_weight (reverse more) < whole weight_of_path rest + links_weight (reverse links)
link_smaller rest new next links more x l outer rest_is x_is next_is more_is after_is =
    omega (
      arith,
      ap (whole weight_of_path) rest_is,
      whole_append weight_of_path new (x ∷ []),
      ap (λ y. (weight_of_path y).1) x_is,
      ap (λ w. w.1) (weight_of_link l),
      ap (whole weight_of_path) next_is,
      whole_reverse weight_of_path l.next.items,
      ap links_weight (popped_first more links outer more_is),
      ap (whole weight_of_path) after_is,
    )

pub close_smaller : (rest : List DefinitionPathNode) (links new : List OpenLink) (outer : OpenLink) → links ≡ new ++ outer ∷ []
    → whole weight_of_path outer.rest.items + links_weight (reverse new) < whole weight_of_path rest + links_weight (reverse links)
close_smaller rest links new outer links_are = omega (arith, ap links_weight (popped_first links new outer links_are))

-- one path is converted to one path
pub only_one : (root : RootView) (named new : List PathBySpecifier) (y : PathBySpecifier) (x : DefinitionPathNode)
    → path_forest_view named ≡ paths_by_specifier root (x ∷ []) → named ≡ new ++ y ∷ [] → path_tree_view y ≡ path_by_specifier root x
only_one root named [] y x is named_is = ap first_tree (sym (ap path_forest_view named_is) ∙ is)
  where
    first_tree : PathForest → PathTree
    first_tree no_trees = path_tree_view y
    first_tree (more_trees t f) = t
only_one root named (z ∷ []) y x is named_is =
    absurd (not_two (path_tree_view z) (path_tree_view y) no_trees (path_by_specifier root x) (sym (ap path_forest_view named_is) ∙ is))
only_one root named (z ∷ u ∷ new) y x is named_is =
    absurd (not_two (path_tree_view z) (path_tree_view u) (path_forest_view (new ++ y ∷ [])) (path_by_specifier root x)
    (sym (ap path_forest_view named_is) ∙ is))

pub not_none : (root : RootView) (named : List PathBySpecifier) (x : DefinitionPathNode) → path_forest_view named ≡ paths_by_specifier root (x ∷ [])
    → named ≡ [] → ⊥
not_none root [] x is e = cc
not_none root (y ∷ named) x is e = cc
