-- A list of modules that is read piece by piece has the values of its pieces.
use Rattle.std.proofs.Common.{◌≡◌, ◌⊎◌, inl, inr, ℕ, ◌<◌, List, [], ◌∷◌, ◌++◌, length, map, Bool, true, false, ◌&&◌, Option, Some, None, option_map}
use Rattle.std.proofs.Common.{option_and_then, Ok, codes, refl, sym, ap, ap₂, subst, ◌∙◌, arith, lit<, length-append, append_assoc, append-nil, IsUtf8}
use Rattle.std.proofs.lemmas.List.{map-append}
use Rattle.std.proofs.lemmas.Str.{IsUtf8-append}
use Rattle.json.specs.Token as token
use Rattle.json.specs.Token.{Token}
use Rattle.json.specs.Text.{content}
use Rattle.json.specs.Lex.{tokens, lex, punctuate}
use Rattle.json.specs.Json.{Json, null, boolean, number, string, array, object, Items, no_items, item, Members, no_members, member, after_end_array, value}
use Rattle.json.specs.Tree.{json_tokens, items_tokens, members_tokens}
use Rattle.json.proofs.Nesting.{value-depth}
use Rattle.json.proofs.Printed.Trees.{value-json_tokens}
use Rattle.json.proofs.Printed.Utf8.{IsUtf8-are_ascii}
use Rattle.json.proofs.Unique.Spelling.{value-json_tokens_back}
use Rattle.serde_json.specs.Data.{Data}
use Rattle.symbols_ast.specs.declared.graph.raw.RawModule.{RawModule}
use Rattle.symq_reader.specs.JsonData.{json_data, json_items_data}
use Rattle.symq_reader.specs.inner.JsonData.{json_has_whole_numbers, json_items_have_whole_numbers}
use Rattle.symq_reader.specs.GraphText.{as_module, raw_module_view, RawModuleView, RawGraphView, require_object, graph_of_json_fields, read_outcome_of_bytes}
use Rattle.symq_reader.specs.inner.Streams.{items_joined, ConsumesItems, ReadsItems, ReadsMembers, SkipsToKey, list_in_optional_data}
use Rattle.symq_reader.specs.inner.Pieces.{graph_text_opening, IsPieceCut, tokens_of_values, ConsumesValues, AreModulesAppended, ConsumesModule, ReadsPiece}
use Rattle.symq_reader.specs.inner.Pieces.{ReadsPieces, ReadsModulesToEnd}
use Rattle.symq_reader.specs.UnderKeys.{read_each_item}
use Rattle.symq_reader.proofs.CutTexts.{NoBad, tokens_later, tokens_cut}
use Rattle.symq_reader.proofs.Parts.{with_modules, graph_whole}
use Rattle.symq_reader.proofs.Streamed.{list_read, object_read, among_one}
use Rattle.symq_reader.proofs.ConsumedTokens.{both, took_item, took_no_items, took_none, item_fits, item_of_form}
use Rattle.symq_reader.proofs.Texts.{text_outcome}

-- ---- the tokens of values

spelled_more : (done : Items) (j : Json) → tokens_of_values (items_joined done (item j no_items)) ≡ tokens_of_values done ++ json_tokens j
spelled_more no_items j = append-nil (json_tokens j)
spelled_more (item i done) j = ap (λ ts. json_tokens i ++ ts) (spelled_more done j) ∙ sym (append_assoc (json_tokens i) (tokens_of_values done) (json_tokens j))

-- no value begins with a closing bracket
no_end : (j : Json) (rest : List Token) → after_end_array (json_tokens j ++ rest) ≡ None
no_end null rest = refl
no_end (boolean b) rest = refl
no_end (number s) rest = refl
no_end (string s) rest = refl
no_end (array js) rest = refl
no_end (object ms) rest = refl

no_bad_on : (ts us : List Token) → NoBad ts → NoBad us → NoBad (ts ++ us)
no_bad_on [] us h k = k
no_bad_on (t ∷ ts) us h k = (h.0, no_bad_on ts us h.1 k)

mutual
  value_good : (j : Json) → NoBad (json_tokens j)
  value_good null = (refl, tt)
  value_good (boolean b) = (refl, tt)
  value_good (number s) = (refl, tt)
  value_good (string s) = (refl, tt)
  value_good (array js) = (refl, items_good js)
  value_good (object ms) = (refl, members_good ms)

  items_good : (js : Items) → NoBad (items_tokens js)
  items_good no_items = (refl, tt)
  items_good (item j js) = no_bad_on (json_tokens j) (items_tokens js) (value_good j) (items_good js)

  members_good : (ms : Members) → NoBad (members_tokens ms)
  members_good no_members = (refl, tt)
  members_good (member k j ms) = (refl, no_bad_on (json_tokens j) (members_tokens ms) (value_good j) (members_good ms))

spelled_good : (values : Items) → NoBad (tokens_of_values values)
spelled_good no_items = tt
spelled_good (item j values) = no_bad_on (json_tokens j) (tokens_of_values values) (value_good j) (spelled_good values)

-- ---- one more value

pub took_no_values : (ts : List Token) → ConsumesValues ts no_items ts
took_no_values ts = record { spell = refl; on = λ rest. took_no_items 125 rest }

pub took_value : (old ts r : List Token) (done : Items) (j : Json) → ConsumesValues old done ts → value 125 ts ≡ Some (j, r)
    → ConsumesValues old (items_joined done (item j no_items)) r
took_value old ts r done j took is = record {
  spell =
      took.spell
      ∙ ap (λ us. tokens_of_values done ++ us) (value-json_tokens_back 125 ts r j is)
      ∙ sym (append_assoc (tokens_of_values done) (json_tokens j) r)
      ∙ ap (λ us. us ++ r) (sym (spelled_more done j));
  on = λ rest.
      (let text = json_tokens j ++ rest in
      let one = took_item 125 (tokens_of_values done ++ text) text rest done j (took.on text) (no_end j rest)
      (value-json_tokens j 125 rest (value-depth 125 ts r j is)) in
      let same = sym (append_assoc (tokens_of_values done) (json_tokens j) rest) ∙ ap (λ us. us ++ rest) (sym (spelled_more done j)) in
      subst (λ us. ConsumesItems 125 us (items_joined done (item j no_items)) rest) same one);
}

pub none_more : (before : List RawModule) → AreModulesAppended no_items before before
none_more before = record { fit = refl; modules = []; pushed = sym (append-nil before); are = refl }

pub one_more : (old new : List Token) (done : Items) (before mid after : List RawModule) (took : ConsumesModule old new mid after)
    → AreModulesAppended done before mid
    → AreModulesAppended (items_joined done (item took.reads.at no_items)) before after
one_more old new done before mid after took more =
    let m = took.one in
    record {
      fit = item_fits done took.reads.at more.fit took.reads.fit;
      modules = more.modules ++ m ∷ [];
      pushed = took.pushed ∙ ap (λ ms. ms ++ m ∷ []) more.pushed ∙ append_assoc before more.modules (m ∷ []);
      are = item_of_form as_module done took.reads.at (map raw_module_view more.modules) (raw_module_view m) more.are took.reads.is
          ∙ ap Some (sym (map-append raw_module_view more.modules (m ∷ [])));
    }

-- ---- values after values

joined_on : (a b c : Items) → items_joined (items_joined a b) c ≡ items_joined a (items_joined b c)
joined_on no_items b c = refl
joined_on (item j a) b c = ap (item j) (joined_on a b c)

took_joined : (old mid new : List Token) (a b : Items) → ConsumesItems 125 old a mid → ConsumesItems 125 mid b new
    → ConsumesItems 125 old (items_joined a b) new
took_joined old mid new a b first second = record {
  on = λ js rest h. first.on (items_joined b js) rest (second.on js rest h) ∙ ap (λ vs. Some (vs, rest)) (sym (joined_on a b js));
}

apart : (a b : Bool) → (a && b) ≡ true → (a ≡ true) × (b ≡ true)
apart true b e = (refl, e)
apart false b e = absurd (cc)

joined_fit : (a b : Items) → json_items_have_whole_numbers a ≡ true → json_items_have_whole_numbers b ≡ true → json_items_have_whole_numbers (items_joined a b)
    ≡ true
joined_fit no_items b h k = k
joined_fit (item j a) b h k = let p = apart (json_has_whole_numbers j) (json_items_have_whole_numbers a) h
    in both (json_has_whole_numbers j) (json_items_have_whole_numbers (items_joined a b)) p.0 (joined_fit a b p.1 k)

first_then : {S : Type 0} (o : Option S) (front back : Option (List S)) (xs ys : List S) → ((zs : List S) → front ≡ Some zs → back ≡ Some (zs ++ ys))
    → option_and_then (λ z. option_map (λ zs. z ∷ zs) front) o ≡ Some xs → option_and_then (λ z. option_map (λ zs. z ∷ zs) back) o ≡ Some (xs ++ ys)
first_then None front back xs ys more e = absurd (cc)
first_then (Some z) None back xs ys more e = absurd (cc)
first_then (Some z) (Some zs) back xs ys more e =
    let is : z ∷ zs ≡ xs = cc in ap (option_map (λ us. z ∷ us)) (more zs refl) ∙ ap (λ us. Some (us ++ ys)) is

joined_form : {S : Type 0} (form : Data → Option S) (a b : Items) (xs ys : List S) → read_each_item form (json_items_data a) ≡ Some xs
    → read_each_item form (json_items_data b) ≡ Some ys → read_each_item form (json_items_data (items_joined a b)) ≡ Some (xs ++ ys)
joined_form form no_items b xs ys e f = let none : [] ≡ xs = cc in f ∙ ap (λ us. Some (us ++ ys)) none
joined_form form (item j a) b xs ys e f =
    first_then (form (json_data j)) (read_each_item form (json_items_data a)) (read_each_item form (json_items_data (items_joined a b))) xs ys
    (λ zs h. joined_form form a b zs ys h f) e

pub more_joined : (a b : Items) (before mid after : List RawModule) → AreModulesAppended a before mid → AreModulesAppended b mid after
    → AreModulesAppended (items_joined a b) before after
more_joined a b before mid after first second = record {
  fit = joined_fit a b first.fit second.fit;
  modules = first.modules ++ second.modules;
  pushed = second.pushed ∙ ap (λ ms. ms ++ second.modules) first.pushed ∙ append_assoc before first.modules second.modules;
  are = joined_form as_module a b (map raw_module_view first.modules) (map raw_module_view second.modules) first.are second.are
      ∙ ap Some (sym (map-append raw_module_view first.modules second.modules));
}

-- ---- a text and its pieces

gap_passed : (gap back : List ℕ) → (gap ≡ []) ⊎ (gap ≡ 10 ∷ []) → tokens_later (gap ++ 123 ∷ back) ≡ tokens (123 ∷ back)
unfolding lex punctuate
gap_passed gap back (inl e) = ap (λ g. tokens_later (g ++ 123 ∷ back)) e
gap_passed gap back (inr e) = ap (λ g. tokens_later (g ++ 123 ∷ back)) e

-- the values of a piece precede those of the rest
piece_before : (text piece rest : List ℕ) (values : Items) → IsPieceCut text piece rest → ConsumesValues (tokens piece) values []
    → ConsumesItems 125 (tokens text) values (tokens rest)
piece_before text piece rest values cut took =
    let whole : text ≡ cut.front ++ 125 ∷ 44 ∷ (cut.gap ++ rest) =
    cut.joined ∙ ap (λ p. p ++ 44 ∷ (cut.gap ++ rest)) cut.ends ∙ append_assoc cut.front (125 ∷ []) (44 ∷ (cut.gap ++ rest)) in
    let piece_is : tokens (cut.front ++ 125 ∷ []) ≡ tokens_of_values values = ap tokens (sym cut.ends) ∙ took.spell ∙ append-nil (tokens_of_values values) in
    let good = subst NoBad (sym piece_is) (spelled_good values) in
    let later : tokens_later (cut.gap ++ rest) ≡ tokens rest =
    ap (λ r. tokens_later (cut.gap ++ r)) cut.begins ∙ gap_passed cut.gap cut.back cut.is_gap ∙ ap tokens (sym cut.begins) in
    let is : tokens text ≡ tokens_of_values values ++ tokens rest = ap tokens whole ∙ tokens_cut cut.front (cut.gap ++ rest) good
    ∙ ap₂ (λ a b. a ++ b) piece_is later in
    subst (λ ts. ConsumesItems 125 ts values (tokens rest)) (sym is) (took.on (tokens rest))

gap_utf8 : (gap : List ℕ) → (gap ≡ []) ⊎ (gap ≡ 10 ∷ []) → IsUtf8 (44 ∷ gap)
gap_utf8 gap (inl e) = subst (λ g. IsUtf8 (44 ∷ g)) (sym e) (IsUtf8-are_ascii (44 ∷ []) refl)
gap_utf8 gap (inr e) = subst (λ g. IsUtf8 (44 ∷ g)) (sym e) (IsUtf8-are_ascii (44 ∷ 10 ∷ []) refl)

pub no_pieces : (text : List ℕ) (before : List RawModule) → ReadsPieces text text before before
no_pieces text before =
    record { front = []; split = refl; utf8 = IsUtf8-are_ascii [] refl; values = no_items; took = took_no_items 125 (tokens text); more = none_more before }

pub more_pieces : (text rest piece tail : List ℕ) (before mid after : List RawModule) → ReadsPieces text rest before mid → IsPieceCut rest piece tail
    → ReadsPiece piece mid after → ReadsPieces text tail before after
more_pieces text rest piece tail before mid after so_far cut reads =
    let comma = 44 ∷ cut.gap in
    record {
      front = so_far.front ++ (piece ++ comma);
      split =
          so_far.split
          ∙ ap (λ t. so_far.front ++ t) (cut.joined ∙ sym (append_assoc piece comma tail))
          ∙ sym (append_assoc so_far.front (piece ++ comma) tail);
      utf8 = IsUtf8-append so_far.front (piece ++ comma) so_far.utf8 (IsUtf8-append piece comma reads.utf8 (gap_utf8 cut.gap cut.is_gap));
      values = items_joined so_far.values reads.values;
      took = took_joined (tokens text) (tokens rest) (tokens tail) so_far.values reads.values so_far.took
          (piece_before rest piece tail reads.values cut reads.took);
      more = more_joined so_far.values reads.values before mid after so_far.more reads.more;
    }

pub cut_shorter : (text piece rest : List ℕ) → IsPieceCut text piece rest → length rest < length text
cut_shorter text piece rest cut = omega (arith, ap length cut.joined, length-append piece (44 ∷ (cut.gap ++ rest)), length-append cut.gap rest)

-- ---- a list of modules

pub more_items : (old new : List Token) (after : List RawModule) → ReadsModulesToEnd old new [] after
    → ReadsItems 125 old new as_module (map raw_module_view after)
more_items old new after reads =
    record {
      all = reads.values;
      read = reads.read;
      fit = reads.more.fit;
      are = reads.more.are ∙ ap (λ ms. Some (map raw_module_view ms))
          (sym reads.more.pushed);
    }

pub whole_list : (text rest : List ℕ) (new : List Token) (mid after : List RawModule) → ReadsPieces text rest [] mid
    → ReadsModulesToEnd (tokens rest) new mid after
    → ReadsModulesToEnd (tokens text) new [] after
whole_list text rest new mid after pieces last = record {
  values = items_joined pieces.values last.values;
  read = pieces.took.on last.values new last.read;
  more = more_joined pieces.values last.values [] mid after pieces.more last.more;
}

pub opened : (list : List ℕ) → tokens (graph_text_opening ++ list) ≡ token.begin_object ∷ token.key (codes "modules") ∷ token.begin_array ∷ tokens list
unfolding lex punctuate content
opened list = refl

-- a graph whose first member is its modules
graph_members : (old s new : List Token) (after : Members) (found : List RawModuleView) (g : RawGraphView) → ReadsItems 125 old s as_module found
    → SkipsToKey 126 s (codes "modules") false new after → require_object graph_of_json_fields (json_data (object after)) ≡ Some g
    → ReadsMembers 126 (token.key (codes "modules") ∷ token.begin_array ∷ old) new (require_object graph_of_json_fields) (with_modules found g)
graph_members old s new after found g list passed is =
    let key = codes "modules" in
    let tail = token.begin_array ∷ old in
    let start = token.key key ∷ tail in
    let reads = list_read as_module 126 125 tail old s found (lit< tt) refl refl list in
    let found_key : SkipsToKey 126 start key true tail no_members =
    record { key_tokens = start; took = took_none 126 start; next = refl; fit = refl; none = refl } in
    let a = among_one (list_in_optional_data as_module) 126 start tail s new key true false no_members no_members no_members after after found refl found_key
    refl refl reads
    refl passed refl in
    record { all = a.1.all; read = a.1.read; fit = a.1.fit; is = graph_whole 126 start new a.0 after a.1 g found is a.2 }

pub pieces_outcome : (list rest : List ℕ) (s new : List Token) (after : Members) (mid found : List RawModule) (g : RawGraphView) → ReadsPieces list rest [] mid
    → IsUtf8 rest → ReadsModulesToEnd (tokens rest) s mid found → SkipsToKey 126 s (codes "modules") false new after
    → require_object graph_of_json_fields (json_data (object after)) ≡ Some g → new ≡ []
    → read_outcome_of_bytes (graph_text_opening ++ list) ≡ Ok (with_modules (map raw_module_view found) g)
pieces_outcome list rest s new after mid found g pieces utf8 last passed is over =
    let text = graph_text_opening ++ list in
    let items = more_items (tokens list) s found (whole_list list rest s mid found pieces last) in
    let members = graph_members (tokens list) s new after (map raw_module_view found) g items passed is in
    let shape = with_modules (map raw_module_view found) g in
    let reads = object_read (require_object graph_of_json_fields) 127 126 (tokens text) (token.key (codes "modules") ∷ token.begin_array
    ∷ tokens list) new shape
    (lit< tt)
    refl (opened list) members in
    let list_utf8 = subst IsUtf8 (sym pieces.split) (IsUtf8-append pieces.front rest pieces.utf8 utf8) in
    text_outcome text text (tokens text) new shape (IsUtf8-append graph_text_opening list (IsUtf8-are_ascii graph_text_opening refl) list_utf8) refl refl over
    reads
