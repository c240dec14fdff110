-- Look-up by key in a JSON value is look-up in its data.
use Rattle.std.proofs.Common.{◌≡◌, ℕ, List, Bool, true, false, cond, Option, Some, None, option_map, bytes_eq, refl, sym, ap, ◌∙◌, true≢false}
use Rattle.std.proofs.lemmas.Slice.Eq.{bytes_eq-Decides}
use Rattle.json.specs.Json as json
use Rattle.json.specs.Find as found
use Rattle.serde_json.specs.Data.{Data, Members, no_members, put}
use Rattle.serde_json.specs.Find.{get, get_member}
use Rattle.serde_json.proofs.Views.{get_member-put, get_member-put_other}
use Rattle.symq_reader.specs.JsonData.{json_data, json_members_data}

abbrev or_earlier : Option json.Json → Option Data → Option Data
or_earlier None earlier = earlier
or_earlier (Some j) earlier = Some (json_data j)

put_at : (b : Bool) (q k : List ℕ) (j : json.Json) (ms : Members) → bytes_eq k q ≡ b
    → get_member q (put k (json_data j) ms) ≡ or_earlier (cond b (Some j) None) (get_member q ms)
put_at true q k j ms e = let same : k ≡ q = (bytes_eq-Decides k q).0 e in
    ap (λ x. get_member x (put k (json_data j) ms)) (sym same) ∙ get_member-put k (json_data j) ms
put_at false q k j ms e = get_member-put_other q k (json_data j) ms (λ h. true≢false (sym ((bytes_eq-Decides k q).1 (sym h)) ∙ e))

later : (last first : Option json.Json) (earlier : Option Data) → or_earlier last (or_earlier first earlier) ≡ or_earlier (found.later_or last first) earlier
later None first earlier = refl
later (Some j) first earlier = refl

member_of : (q : List ℕ) (ms : json.Members) (before : Members)
    → get_member q (json_members_data ms before) ≡ or_earlier (found.get_member q ms) (get_member q before)
member_of q json.no_members before = refl
member_of q (json.member k j ms) before =
    member_of q ms (put k (json_data j) before)
    ∙ ap (or_earlier (found.get_member q ms)) (put_at (bytes_eq k q) q k j before refl)
    ∙ later (found.get_member q ms) (cond (bytes_eq k q) (Some j) None) (get_member q before)

or_none : (o : Option json.Json) → or_earlier o None ≡ option_map json_data o
or_none None = refl
or_none (Some j) = refl

pub get_of_unescaped : (q : List ℕ) (j : json.Json) → get q (json_data j) ≡ option_map json_data (found.get q j)
get_of_unescaped q json.null = refl
get_of_unescaped q (json.boolean b) = refl
get_of_unescaped q (json.number s) = refl
get_of_unescaped q (json.string s) = refl
get_of_unescaped q (json.array js) = refl
get_of_unescaped q (json.object ms) = member_of q ms no_members ∙ or_none (found.get_member q ms)
