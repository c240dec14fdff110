-- The views of paths, and the loop that writes them.
use Rattle.std.proofs.Common.{◌≡◌, ℕ, ◌+◌, ◌<◌, List, [], ◌∷◌, ◌++◌, map, reverse, sym, ◌∙◌, ap, append_assoc}
use Rattle.std.proofs.Common.{append-nil, string_bytes, arith, rules}
use Rattle.std.proofs.lemmas.List.{reverse-append}
use Rattle.json.specs.Token.{Token}
use Rattle.json.specs.Written.{Written}
use Rattle.symbols_paths.specs.PathTrees.{definition, unresolved, PathTree, PathForest, leaf, link, no_trees, more_trees}
use Rattle.symbols_paths.specs.Views.{strings_view}
use Rattle.symbols_queries.specs.declared.paths_by_specifier.DefinitionBySpecifier.{DefinitionBySpecifier}
use Rattle.symbols_queries.specs.declared.paths_by_specifier.UnresolvedBySpecifier.{UnresolvedBySpecifier}
use Rattle.symbols_queries.specs.declared.paths_by_specifier.PathLinkBySpecifier.{PathLinkBySpecifier}
use Rattle.symbols_queries.specs.declared.paths_by_specifier.PathBySpecifier.{PathBySpecifier, the_lemmas}
use Rattle.symbols_queries.specs.declared.paths_by_specifier.PathBySpecifier.TheVariants as path
use Rattle.symbols_queries.specs.Queries.{decl_with_specifier, definition_by_specifier_view, unresolved_by_specifier_view, path_tree_view, path_forest_view}
use Rattle.symbols_queries.specs.inner.AnswerViews.{path_link_view}
use Rattle.symq_core.specs.declared.write_paths.OpenLink.{OpenLink}
use Rattle.symq_core.specs.PathData.{link_members_after_next, path_tree_json, path_forest_json_items}
use Rattle.symq_core.specs.inner.JsonWriting.{AppendsTokens, tokens_of, remaining_member_tokens, remaining_item_tokens, link_tokens_up_to_next}

pub definition_is : (x : DefinitionBySpecifier) → path_tree_view (path.Definition x) ≡ leaf (definition (definition_by_specifier_view x))
definition_is x = search (rules, the_lemmas)

pub unresolved_is : (x : UnresolvedBySpecifier) → path_tree_view (path.Unresolved x) ≡ leaf (unresolved (unresolved_by_specifier_view x))
unresolved_is x = search (rules, the_lemmas)

pub link_is_tree : (x : PathLinkBySpecifier) → path_link_view x ≡ link (record {
  symbol = record { specifier = x.«module».now; number = x.symbol };
  decl = decl_with_specifier x.«module».now x.decl;
  parts = strings_view x.parts.items;
}) (path_forest_view x.next.items)
link_is_tree x = search (rules, the_lemmas)

pub path_is : (x : PathLinkBySpecifier) → path_tree_view (path.Link x) ≡ path_link_view x
path_is x = search (rules, the_lemmas)

abbrev mutual
  pub weight : PathTree → ℕ
  weight (leaf x) = 1
  weight (link head next) = 2 + weights next

  pub weights : PathForest → ℕ
  weights no_trees = 0
  weights (more_trees t f) = weight t + weights f

abbrev pub weight_of : PathBySpecifier → ℕ
weight_of x = weight (path_tree_view x)

abbrev pub weights_of : List PathBySpecifier → ℕ
weights_of paths = weights (path_forest_view paths)

-- ---- the open links, the innermost first

abbrev pub item_tokens : List PathBySpecifier → List Token
item_tokens paths = remaining_item_tokens (path_forest_json_items (path_forest_view paths))

-- what is to be written of a link after its next paths
abbrev pub tokens_after_next : PathLinkBySpecifier → List Token
tokens_after_next x = remaining_member_tokens (link_members_after_next (map string_bytes x.parts.items) x.symbol)

-- what is still to be written of open links
abbrev pub tokens_left : List OpenLink → List Token
tokens_left [] = []
tokens_left (outer ∷ links) = item_tokens outer.rest.now ++ (tokens_after_next outer.link.now ++ tokens_left links)

abbrev pub links_weight : List OpenLink → ℕ
links_weight [] = 0
links_weight (outer ∷ links) = 1 + weights_of outer.rest.now + links_weight links

abbrev pub link_tokens : PathLinkBySpecifier → List Token
link_tokens x = tokens_of (path_tree_json (path_link_view x))

abbrev pub front_tokens : PathLinkBySpecifier → List Token
front_tokens x = link_tokens_up_to_next x.«module».now (decl_with_specifier x.«module».now x.decl)

-- the tokens of a link are its front, its next paths, and what is after them
link_parts : (x : PathLinkBySpecifier) (following : List Token)
    → front_tokens x ++ (item_tokens x.next.items ++ (tokens_after_next x ++ following)) ≡ link_tokens x ++ following
link_parts x following =
    sym (append_assoc (front_tokens x ++ item_tokens x.next.items) (tokens_after_next x) following
    ∙ append_assoc (front_tokens x) (item_tokens x.next.items) (tokens_after_next x ++ following))
    ∙ ap (λ t. tokens_of (path_tree_json t) ++ following) (sym (link_is_tree x))

-- the invariant: what was written, and what is still to be, of all that was to be written
pub record IsWriting (begun now : Written) (links : List OpenLink) (all : List Token) : Type 0 where
  pub before : now.before ≡ begun.before
  pub tokens : now.tokens ++ tokens_left (reverse links) ≡ begun.tokens ++ all

-- the open links, the innermost first, after one is put on them
pushed : (links more : List OpenLink) (outer : OpenLink) → more ≡ links ++ outer ∷ [] → reverse more ≡ outer ∷ reverse links
pushed links more outer is = ap reverse is ∙ reverse-append links (outer ∷ [])

pub writing_begun : {begun now : Written} {links none : List OpenLink} (x : PathLinkBySpecifier) (outer : OpenLink) → none ≡ [] → links ≡ none ++ outer ∷ []
    → outer.link.now ≡ x → outer.rest.now ≡ x.next.items → AppendsTokens begun now (front_tokens x) → IsWriting begun now links (link_tokens x)
writing_begun {begun = begun} {links = links} {none = none} x outer none_is links_are link_is rest_is added = record {
  before = added.before;
  tokens = (λ i. added.tokens i ++ tokens_left ((pushed none links outer links_are ∙ ap (λ ls. outer ∷ reverse ls) none_is) i))
      ∙ ((λ i. (begun.tokens ++ front_tokens x) ++ (item_tokens (rest_is i) ++ (tokens_after_next (link_is i) ++ [])))
      ∙ (append_assoc begun.tokens (front_tokens x) (item_tokens x.next.items ++ (tokens_after_next x ++ []))
      ∙ ap (λ ts. begun.tokens ++ ts) (link_parts x [] ∙ append-nil (link_tokens x))));
}

-- the invariant at the innermost open link
at_innermost : {begun now : Written} {all : List Token} (links new : List OpenLink) (outer : OpenLink) → links ≡ new ++ outer ∷ []
    → IsWriting begun now links all
    → now.tokens ++ (item_tokens outer.rest.now ++ (tokens_after_next outer.link.now ++ tokens_left (reverse new))) ≡ begun.tokens ++ all
at_innermost {now = now} links new outer links_are is = (λ i. now.tokens ++ tokens_left (sym (pushed new links outer links_are) i)) ∙ is.tokens

-- a next path of the innermost link is written
pub writing_next : {begun now later : Written} {all : List Token} (links new more : List OpenLink) (outer further : OpenLink) (x : PathBySpecifier)
    → links ≡ new ++ outer ∷ [] → more ≡ new ++ further ∷ [] → further.link.now ≡ outer.link.now → outer.rest.now ≡ x ∷ further.rest.now
    → AppendsTokens now later (tokens_of (path_tree_json (path_tree_view x))) → IsWriting begun now links all → IsWriting begun later more all
writing_next {begun = begun} {now = now} {later = later} links new more outer further x links_are more_are link_is rest_is added is = record {
  before = added.before ∙ is.before;
  tokens =
      let here = tokens_of (path_tree_json (path_tree_view x)) in
      let items = item_tokens further.rest.now in
      let after = tokens_after_next outer.link.now ++ tokens_left (reverse new) in
      (λ i. added.tokens i ++ tokens_left (pushed new more further more_are i))
      ∙ ((λ i. (now.tokens ++ here) ++ (items ++ (tokens_after_next (link_is i) ++ tokens_left (reverse new))))
      ∙ (append_assoc now.tokens here (items ++ after)
      ∙ (ap (λ ts. now.tokens ++ ts) (sym (append_assoc here items after))
      ∙ ((λ i. now.tokens ++ (item_tokens (sym rest_is i) ++ after)) ∙ at_innermost links new outer links_are is))));
}

-- a next path of the innermost link is opened
pub writing_opened : {begun now later : Written} {all : List Token} (links new mid more : List OpenLink) (outer further inner : OpenLink)
    (x : PathLinkBySpecifier)
    → links ≡ new ++ outer ∷ [] → mid ≡ new ++ further ∷ [] → more ≡ mid ++ inner ∷ [] → further.link.now ≡ outer.link.now
    → outer.rest.now ≡ path.Link x ∷ further.rest.now → inner.link.now ≡ x → inner.rest.now ≡ x.next.items → AppendsTokens now later (front_tokens x)
    → IsWriting begun now links all → IsWriting begun later more all
writing_opened {begun = begun} {now = now} {later = later} links new mid more outer further inner x links_are mid_are more_are link_is rest_is inner_is all_left
    added is = record {
      before = added.before ∙ is.before;
      tokens =
          let here = tokens_of (path_tree_json (path_tree_view (path.Link x))) in
          let items = item_tokens further.rest.now in
          let after = tokens_after_next outer.link.now ++ tokens_left (reverse new) in
          (λ i. added.tokens i ++ tokens_left ((pushed mid more inner more_are ∙ ap (λ ls. inner ∷ ls) (pushed new mid further mid_are)) i))
          ∙ ((λ i. (now.tokens ++ front_tokens x) ++ (item_tokens (all_left i) ++ (tokens_after_next (inner_is i)
          ++ (items ++ (tokens_after_next (link_is i) ++ tokens_left (reverse new))))))
          ∙ (append_assoc now.tokens (front_tokens x) (item_tokens x.next.items ++ (tokens_after_next x ++ (items ++ after)))
          ∙ (ap (λ ts. now.tokens ++ ts) (link_parts x (items ++ after))
          ∙ ((λ i. now.tokens ++ (tokens_of (path_tree_json (sym (path_is x) i)) ++ (items ++ after)))
          ∙ (ap (λ ts. now.tokens ++ ts) (sym (append_assoc here items after))
          ∙ ((λ i. now.tokens ++ (item_tokens (sym rest_is i) ++ after)) ∙ at_innermost links new outer links_are is))))));
    }

-- no link is open
pub writing_last : {begun now : Written} {all : List Token} (links : List OpenLink) → links ≡ [] → IsWriting begun now links all
    → AppendsTokens begun now all
writing_last {now = now} links none is = record {
  before = is.before;
  tokens = sym (append-nil now.tokens) ∙ ((λ i. now.tokens ++ tokens_left (reverse (sym none i))) ∙ is.tokens);
}

-- ---- the measure

pub link_smaller : (links new mid more : List OpenLink) (outer further inner : OpenLink) (x : PathLinkBySpecifier) → links ≡ new ++ outer ∷ []
    → mid ≡ new ++ further ∷ [] → more ≡ mid ++ inner ∷ [] → outer.rest.now ≡ path.Link x ∷ further.rest.now → inner.rest.now ≡ x.next.items
    → links_weight (reverse more) < links_weight (reverse links)
link_smaller links new mid more outer further inner x links_are mid_are more_are rest_is all_left =
    let here : weight_of (path.Link x) ≡ 2 + weights_of x.next.items = ap weight (path_is x ∙ link_is_tree x) in
    omega (
      arith,
      ap links_weight (pushed new links outer links_are),
      ap links_weight (pushed new mid further mid_are),
      ap links_weight (pushed mid more inner more_are),
      ap weights_of rest_is,
      ap weights_of all_left,
      here,
    )
