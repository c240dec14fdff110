-- Values, lists and members that the fast path reads token by token.
use Rattle.std.proofs.Common.{◌≡◌, ◌<◌, ℕ, List, [], ◌∷◌, ◌++◌, length, map, Bool, true, false, cond, Option, Some, None}
use Rattle.std.proofs.Common.{option_map, option_and_then, is_some, bytes_eq, Bor, refl, sym, ap, ◌∙◌, true≢false, lit<, arith}
use Rattle.std.proofs.lemmas.Slice.Eq.{bytes_eq-Decides}
use Rattle.json.specs.Token.{Token}
use Rattle.json.specs.Json as json
use Rattle.json.specs.Json.{Json, parse_map, after_end_array, members, value}
use Rattle.json.proofs.Grammar.{value_is, value-begin_array, value-begin_object}
use Rattle.serde_json.specs.Data.{Num, unsigned, negative, float, Data, number, string, array, Items, no_items, item, Members, no_members, put}
use Rattle.serde_json.specs.Find.{as_u64, get_member}
use Rattle.serde_json.specs.Read.{number_of}
use Rattle.serde_json.proofs.Views.{get_member-put, get_member-put_other}
use Rattle.symq_reader.specs.declared.entries.Entry.{Entry}
use Rattle.symq_reader.specs.GraphText.{as_range}
use Rattle.symq_reader.specs.inner.Objects.{whole_number, whole_numbers, fast_path_value_data, put_entries}
use Rattle.symq_reader.specs.JsonData.{number_or_minus_one, json_data, json_items_data, json_members_data}
use Rattle.symq_reader.specs.inner.JsonData.{json_has_whole_numbers, json_items_have_whole_numbers, json_members_have_whole_numbers}
use Rattle.symq_reader.specs.inner.Streams.{members_joined, ReadsValue, ReadsItems}
use Rattle.symq_reader.specs.UnderKeys.{read_each_item, as_identifier}
use Rattle.symq_reader.proofs.ConsumedTokens.{took_no_items, took_item, took_all_items, both}

-- ---- single values

pub scalar_read : (depth : ℕ) (old new : List Token) (t : Token) (j : Json) → old ≡ t ∷ new → value depth (t ∷ new) ≡ Some (j, new) → json_has_whole_numbers j
    ≡ true
    → ReadsValue depth old new (λ d. Some d) (json_data j)
scalar_read depth old new t j begins is fit = record { at = j; read = ap (value depth) begins ∙ is; fit = fit; is = refl }

unsigned_from : (m : Num) (n : ℕ) → as_u64 m ≡ Some n → m ≡ unsigned n
unsigned_from (unsigned k) n e = let h : k ≡ n = cc in ap unsigned h
unsigned_from (negative z) n e = absurd (cc)
unsigned_from (float x) n e = absurd (cc)

pub whole_read : (depth : ℕ) (old new : List Token) (s : List ℕ) (n : ℕ) → old ≡ Token.number s ∷ new → as_u64 (number_or_minus_one (number_of s)) ≡ Some n
    → ReadsValue depth old new (λ d. Some d) (whole_number n)
whole_read depth old new s n begins is = record {
  at = json.number s;
  read = ap (value depth) begins ∙ value_is depth (Token.number s ∷ new);
  fit = ap is_some is;
  is = ap (λ m. Some (number m)) (unsigned_from (number_or_minus_one (number_of s)) n is);
}

pub text_read : (depth : ℕ) (old new : List Token) (s : List ℕ) → old ≡ Token.string s ∷ new → ReadsValue depth old new (λ d. Some d) (string s)
text_read depth old new s begins = scalar_read depth old new (Token.string s) (json.string s) begins (value_is depth (Token.string s ∷ new)) refl

-- ---- lists

no_end : (depth : ℕ) (ts : List Token) (x : Json × List Token) → value depth ts ≡ Some x → after_end_array ts ≡ None
no_end depth [] x e = refl
no_end depth (Token.begin_object ∷ ts) x e = refl
no_end depth (Token.end_object ∷ ts) x e = refl
no_end depth (Token.begin_array ∷ ts) x e = refl
no_end depth (Token.end_array ∷ ts) x e = let never : None ≡ Some x = sym (value_is depth (Token.end_array ∷ ts)) ∙ e in absurd (cc)
no_end depth (Token.key s ∷ ts) x e = refl
no_end depth (Token.string s ∷ ts) x e = refl
no_end depth (Token.number s ∷ ts) x e = refl
no_end depth (Token.boolean b ∷ ts) x e = refl
no_end depth (Token.null ∷ ts) x e = refl
no_end depth (Token.bad ∷ ts) x e = refl

pub none_read : {X : Type 0} (form : Data → Option X) (depth : ℕ) (old new : List Token) → after_end_array old ≡ Some new → ReadsItems depth old new form []
none_read form depth old new ends = record {
  all = json.no_items;
  read = took_all_items depth old old new json.no_items (took_no_items depth old) ends;
  fit = refl;
  are = refl;
}

pub first_read : {X : Type 0} (form : Data → Option X) (depth : ℕ) (old mid new : List Token) (x : X) (xs : List X) → ReadsValue depth old mid form x
    → ReadsItems depth mid new form xs → ReadsItems depth old new form (x ∷ xs)
first_read form depth old mid new x xs first more =
    let going = no_end depth old (first.at, mid) first.read in
    let took = took_item depth old old mid json.no_items first.at (took_no_items depth old) going first.read in
    record {
      all = json.item first.at more.all;
      read = took.on more.all new more.read;
      fit = both (json_has_whole_numbers first.at) (json_items_have_whole_numbers more.all) first.fit more.fit;
      are = ap (option_and_then (λ y. option_map (λ ys. y ∷ ys) (read_each_item form (json_items_data more.all)))) first.is
          ∙ ap (option_map (λ ys. x ∷ ys)) more.are;
    }

abbrev listed : List Data → Items
listed [] = no_items
listed (d ∷ ds) = item d (listed ds)

under_first : (d : Data) (o : Option (List Data)) (ds : Items) (xs : List Data) → ((ys : List Data) → o ≡ Some ys → ds ≡ listed ys)
    → option_map (λ ys. d ∷ ys) o ≡ Some xs → item d ds ≡ listed xs
under_first d None ds xs same e = absurd (cc)
under_first d (Some ys) ds xs same e = let is : d ∷ ys ≡ xs = cc in ap (item d) (same ys refl) ∙ ap listed is

listed_from : (ds : Items) (xs : List Data) → read_each_item (λ d. Some d) ds ≡ Some xs → ds ≡ listed xs
listed_from no_items xs e = let is : [] ≡ xs = cc in ap listed is
listed_from (item d ds) xs e = under_first d (read_each_item (λ x. Some x) ds) ds xs (listed_from ds) e

array_read : (rest new : List Token) (xs : List Data) → ReadsItems 120 rest new (λ d. Some d) xs
    → ReadsValue 121 (Token.begin_array ∷ rest) new (λ d. Some d) (array (listed xs))
array_read rest new xs h = record {
  at = json.array h.all;
  read = value-begin_array 121 rest (lit< tt) ∙ ap (parse_map json.array) h.read;
  fit = h.fit;
  is = ap (λ ds. Some (array ds)) (listed_from (json_items_data h.all) xs h.are);
}

listed_wholes : (ns : List ℕ) → listed (map whole_number ns) ≡ whole_numbers ns
listed_wholes [] = refl
listed_wholes (n ∷ ns) = ap (item (whole_number n)) (listed_wholes ns)

pub wholes_read : (rest new : List Token) (ns found : List ℕ) → found ≡ ns → ReadsItems 120 rest new (λ d. Some d) (map whole_number ns)
    → ReadsValue 121 (Token.begin_array ∷ rest) new (λ d. Some d) (array (whole_numbers found))
wholes_read rest new ns found same h =
    let read = array_read rest new (map whole_number ns) h in
    record {
      at = read.at;
      read = read.read;
      fit = read.fit;
      is = read.is ∙ ap (λ ds. Some (array ds)) (listed_wholes ns ∙ ap whole_numbers (sym same));
    }

pub name_read : (mid end new : List Token) (s : List ℕ) (n : ℕ) → ReadsValue 120 mid end (λ d. Some d) (whole_number n) → after_end_array end ≡ Some new
    → ReadsValue 121 (Token.begin_array ∷ Token.string s ∷ mid) new (λ d. Some d) (array (item (string s) (item (whole_number n) no_items)))
name_read mid end new s n tail ends =
    array_read (Token.string s ∷ mid) new (string s ∷ whole_number n ∷ [])
    (first_read (λ d. Some d) 120 (Token.string s ∷ mid) mid new (string s) (whole_number n ∷ []) (text_read 120 (Token.string s ∷ mid) mid s refl)
    (first_read (λ d. Some d) 120 mid end new (whole_number n) [] tail (none_read (λ d. Some d) 120 end new ends)))

-- a list of whole numbers is no name with a scope
pub no_identifier : (ns : List ℕ) → as_identifier (array (whole_numbers ns)) ≡ None
no_identifier [] = refl
no_identifier (a ∷ []) = refl
no_identifier (a ∷ b ∷ []) = refl
no_identifier (a ∷ b ∷ c ∷ ns) = refl

-- a list of more or fewer than two is no range
pub fewer_than_two : (ns : List ℕ) → length ns < 2 → as_range (array (whole_numbers ns)) ≡ None
fewer_than_two [] h = refl
fewer_than_two (a ∷ []) h = refl
fewer_than_two (a ∷ b ∷ ns) h = absurd (omega arith)

pub more_than_two : (ns : List ℕ) → 2 < length ns → as_range (array (whole_numbers ns)) ≡ None
more_than_two [] h = refl
more_than_two (a ∷ []) h = refl
more_than_two (a ∷ b ∷ []) h = absurd (omega arith)
more_than_two (a ∷ b ∷ c ∷ ns) h = refl

-- ---- members

pub members_read : (rest new : List Token) (all retained : json.Members) → retained ≡ all → members (value 120) (length rest) rest ≡ Some (all, new)
    → json_members_have_whole_numbers all ≡ true
    → ReadsValue 121 (Token.begin_object ∷ rest) new (λ d. Some d) (json_data (json.object retained))
members_read rest new all retained same read fit = record {
  at = json.object all;
  read = value-begin_object 121 rest (lit< tt) ∙ ap (parse_map json.object) read;
  fit = fit;
  is = ap (λ ms. Some (json_data (json.object ms))) (sym same);
}

unescaped_more : (done : json.Members) (k : List ℕ) (j : Json) (found : Members)
    → json_members_data (members_joined done (json.member k j json.no_members)) found ≡ put k (json_data j) (json_members_data done found)
unescaped_more json.no_members k j found = refl
unescaped_more (json.member l i done) k j found = unescaped_more done k j (put l (json_data i) found)

entries_more : (retained : List (Bor (List ℕ) × Entry)) (k : Bor (List ℕ)) (e : Entry) (found : Members)
    → put_entries (retained ++ (k, e) ∷ []) found ≡ put k.now (fast_path_value_data e) (put_entries retained found)
entries_more [] k e found = refl
entries_more (m ∷ retained) k e found = entries_more retained k e (put m.0.now (fast_path_value_data m.1) found)

pub entries_round : (done : json.Members) (retained after : List (Bor (List ℕ) × Entry)) (k : Bor (List ℕ)) (e : Entry) (j : Json)
    → json_members_data done no_members ≡ put_entries retained no_members → Some (json_data j) ≡ Some (fast_path_value_data e) → after ≡ retained ++ (k, e) ∷ []
    → json_members_data (members_joined done (json.member k.now j json.no_members)) no_members ≡ put_entries after no_members
entries_round done retained after k e j same is pushed =
    let here : json_data j ≡ fast_path_value_data e = cc in
    unescaped_more done k.now j no_members
    ∙ ap (put k.now (json_data j)) same
    ∙ ap (λ d. put k.now d (put_entries retained no_members)) here
    ∙ sym (entries_more retained k e no_members)
    ∙ ap (λ es. put_entries es no_members) (sym pushed)

put_under : (b : Bool) (q k : List ℕ) (d : Data) (ms : Members) → bytes_eq k q ≡ b → get_member q (put k d ms) ≡ cond b (Some d) (get_member q ms)
put_under true q k d ms e = let same : k ≡ q = (bytes_eq-Decides k q).0 e in ap (λ x. get_member x (put k d ms)) (sym same) ∙ get_member-put k d ms
put_under false q k d ms e = get_member-put_other q k d ms (λ h. true≢false (sym ((bytes_eq-Decides k q).1 (sym h)) ∙ e))

-- the last entry with a key is the one that is found
pub last_entry : (q : List ℕ) (retained : List (Bor (List ℕ) × Entry)) (m : Bor (List ℕ) × Entry)
    → get_member q (put_entries (retained ++ m ∷ []) no_members)
    ≡ cond (bytes_eq m.0.now q) (Some (fast_path_value_data m.1)) (get_member q (put_entries retained no_members))
last_entry q retained m =
    ap (get_member q) (entries_more retained m.0 m.1 no_members)
    ∙ put_under (bytes_eq m.0.now q) q m.0.now (fast_path_value_data m.1) (put_entries retained no_members) refl

-- ---- what is read of a value whose data are known

pub formed : {X : Type 0} (form : Data → Option X) (depth : ℕ) (old new : List Token) (d : Data) (x : X) → ReadsValue depth old new (λ e. Some e) d
    → form d ≡ Some x → ReadsValue depth old new form x
formed form depth old new d x h is =
    let same : json_data h.at ≡ d = let e = h.is in cc in
    record {
      at = h.at;
      read = h.read;
      fit = h.fit;
      is = ap form same ∙ is;
    }
