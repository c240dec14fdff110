-- From the value of a text, as `json` reads it, to the outcome.
use Rattle.std.proofs.Common.{◌≡◌, ℕ, List, [], Bool, Option, None, Some, option_and_then, Result, Ok, Err, refl, sym, ap, subst, ◌∙◌, true, false}
use Rattle.std.specs.Prelude.{IfSome}
use Rattle.std.proofs.lemmas.Str.{is_utf8-from_IsUtf8}
use Rattle.std.specs.Str.{IsUtf8}
use Rattle.json.specs.Token.{Token}
use Rattle.json.specs.Lex.{tokens}
use Rattle.json.specs.Json.{Json, if_last, value}
use Rattle.serde_json.specs.Data.{Data}
use Rattle.serde_json.specs.Read.{of_json, read}
use Rattle.symbols_ast.specs.declared.graph.raw.RawGraph.{RawGraph}
use Rattle.symq_reader.specs.declared.faults.FormatFault.{FormatFault}
use Rattle.symq_reader.specs.declared.faults.FormatFault.TheVariants.{BadForm}
use Rattle.symq_reader.specs.GraphText.{RawGraphView, raw_graph_view, require_object, graph_of_json_fields, raw_graph_of_json, read_outcome_of_bytes}
use Rattle.symq_reader.specs.GraphText.{read_outcome_of_json}
use Rattle.symq_reader.specs.GraphText.{ok_or_fault, json_of_bytes, IsReadOutcome}
use Rattle.symq_reader.specs.Lists.{has_no_object_and_whole_numbers}
use Rattle.symq_reader.specs.Numbers.{has_whole_numbers}
use Rattle.symq_reader.specs.JsonData.{json_data}
use Rattle.symq_reader.specs.inner.JsonData.{json_has_whole_numbers}
use Rattle.symq_reader.specs.inner.Reading.{IsReadResult}
use Rattle.symq_reader.specs.inner.Streams.{ReadsValue}
use Rattle.symq_reader.proofs.Outcomes.{json_of_bytes-read, read_outcome_of_json-read}
use Rattle.symq_reader.proofs.NeedsNoEscape.{of_json-fits, has_whole_numbers-fits, unescaped-of_json, fits-lists}

-- how `serde_json` reads a whole text
pub read_whole : (bytes text : List ℕ) (j : Json) → text ≡ bytes → value 127 (tokens text) ≡ Some (j, []) → read bytes ≡ of_json j
read_whole bytes text j same all =
    ap (λ t. option_and_then of_json (option_and_then (λ p. if_last p.0 p.1) (value 127 (tokens t)))) (sym same)
    ∙ ap (λ o. option_and_then of_json (option_and_then (λ p. if_last p.0 p.1) o)) all

pub text_outcome : (bytes text : List ℕ) (old new : List Token) (g : RawGraphView) → IsUtf8 bytes → text ≡ bytes → old ≡ tokens text → new ≡ []
    → ReadsValue 127 old new (require_object graph_of_json_fields) g → read_outcome_of_bytes bytes ≡ Ok g
text_outcome bytes text old new g utf8 same begins over reads =
    let j = reads.at in
    let all : value 127 (tokens text) ≡ Some (j, []) = ap (value 127) (sym begins) ∙ reads.read ∙ ap (λ r. Some (j, r)) over in
    let found : read bytes ≡ Some (json_data j) = read_whole bytes text j same all ∙ of_json-fits j reads.fit in
    let graph : raw_graph_of_json (json_data j) ≡ Some g = rw (has_whole_numbers-fits j reads.fit) reads.is in
    ap read_outcome_of_json (json_of_bytes-read bytes (json_data j) utf8 found) ∙ ap (ok_or_fault BadForm) graph

json_of_bytes-text : (bytes : List ℕ) → IsUtf8 bytes → json_of_bytes bytes ≡ read bytes
unfolding json_of_bytes
json_of_bytes-text bytes utf8 = rw (is_utf8-from_IsUtf8 bytes utf8) refl

whole_graph : (d : Data) → has_whole_numbers d ≡ true → require_object graph_of_json_fields d ≡ raw_graph_of_json d
whole_graph d whole = rw whole refl

-- the outcome of a text that is read again by `serde_json` and whose numbers are whole
pub again_outcome : (bytes text : List ℕ) (j : Json) (d : Data) (r : Result RawGraph FormatFault) → IsUtf8 bytes → text ≡ bytes
    → value 127 (tokens text) ≡ Some (j, []) → json_of_bytes bytes ≡ Some d → has_whole_numbers d ≡ true
    → IsReadResult raw_graph_view r (require_object graph_of_json_fields (json_data j)) → IsReadOutcome r (read_outcome_of_bytes bytes)
again_outcome bytes text j d r utf8 same all is whole gives =
    let read_is : of_json j ≡ Some d = sym (read_whole bytes text j same all) ∙ sym (json_of_bytes-text bytes utf8) ∙ is in
    let graph : require_object graph_of_json_fields (json_data j) ≡ raw_graph_of_json d = ap (require_object graph_of_json_fields)
    (unescaped-of_json j d read_is)
    ∙ whole_graph d whole in
    let found : IsReadResult raw_graph_view r (raw_graph_of_json d) = subst (λ (o : Option RawGraphView). IsReadResult raw_graph_view r o) graph gives in
    subst (λ (o : Option Data). IsReadOutcome r (read_outcome_of_json o)) (sym is) (read_outcome_of_json-read r d found)

-- the outcome of a text whose numbers are all whole
pub fitting_outcome : (bytes text : List ℕ) (j : Json) (r : Result RawGraph FormatFault) → IsUtf8 bytes → text ≡ bytes → value 127 (tokens text) ≡ Some (j, [])
    → json_has_whole_numbers j ≡ true → IsReadResult raw_graph_view r (require_object graph_of_json_fields (json_data j))
    → IsReadOutcome r (read_outcome_of_bytes bytes)
fitting_outcome bytes text j r utf8 same all fit gives =
    let found : read bytes ≡ Some (json_data j) = read_whole bytes text j same all ∙ of_json-fits j fit in
    again_outcome bytes text j (json_data j) r utf8 same all (json_of_bytes-read bytes (json_data j) utf8 found) (has_whole_numbers-fits j fit) gives

pub no_graph : (d : Data) → has_whole_numbers d ≡ false → read_outcome_of_json (Some d) ≡ Err BadForm
no_graph d broken = rw broken refl

-- ---- a value of lists, strings and whole numbers

pub fitting_value : (bytes text : List ℕ) (j : Json) → IsUtf8 bytes → text ≡ bytes → value 127 (tokens text) ≡ Some (j, []) → json_has_whole_numbers j ≡ true
    → json_of_bytes bytes ≡ Some (json_data j)
fitting_value bytes text j utf8 same all fit = json_of_bytes-read bytes (json_data j) utf8 (read_whole bytes text j same all ∙ of_json-fits j fit)

not_lists : (j : Json) (b : Bool) → has_no_object_and_whole_numbers (json_data j) ≡ b → json_has_whole_numbers j ≡ false
    → has_no_object_and_whole_numbers (json_data j) ≡ false
not_lists j true e misfits = absurd (let fit : true ≡ false = sym (fits-lists j e) ∙ misfits in cc)
not_lists j false e misfits = e

misfit_data : (j : Json) (o : Option Data) → of_json j ≡ o → json_has_whole_numbers j ≡ false → IfSome o (λ d. has_no_object_and_whole_numbers d ≡ false)
misfit_data j None e misfits = tt
misfit_data j (Some d) e misfits = ap has_no_object_and_whole_numbers (sym (unescaped-of_json j d e)) ∙ not_lists j _ refl misfits

pub misfitting_value : (bytes text : List ℕ) (j : Json) → IsUtf8 bytes → text ≡ bytes → value 127 (tokens text) ≡ Some (j, []) → json_has_whole_numbers j
    ≡ false
    → IfSome (json_of_bytes bytes) (λ d. has_no_object_and_whole_numbers d ≡ false)
misfitting_value bytes text j utf8 same all misfits =
    let same_read : json_of_bytes bytes ≡ of_json j = json_of_bytes-text bytes utf8 ∙ read_whole bytes text j same all in
    subst (λ (o : Option Data). IfSome o (λ d. has_no_object_and_whole_numbers d ≡ false)) (sym same_read) (misfit_data j (of_json j) refl misfits)

pub no_value : (bytes : List ℕ) → json_of_bytes bytes ≡ None → IfSome (json_of_bytes bytes) (λ d. has_no_object_and_whole_numbers d ≡ false)
no_value bytes none = rw none tt
