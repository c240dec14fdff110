-- From the result of the JSON reader to the outcome.
use Rattle.std.proofs.Common.{◌≡◌, ℕ, List, Bool, true, false, cond, None, Some, Result, Ok, Err, refl, ap}
use Rattle.std.proofs.lemmas.Str.{IsUtf8-from_is_utf8, is_utf8-from_IsUtf8}
use Rattle.std.specs.Str.{IsUtf8, is_utf8}
use Rattle.serde_json.specs.Data.{Data}
use Rattle.serde_json.specs.Read.{read}
use Rattle.symbols_ast.specs.declared.graph.raw.RawGraph.{RawGraph}
use Rattle.symq_reader.specs.declared.faults.FormatFault.{FormatFault}
use Rattle.symq_reader.specs.declared.faults.FormatFault.TheVariants.{OutOfMemory, NotJson, BadForm}
use Rattle.symq_reader.specs.inner.Reading.{IsReadResult}
use Rattle.symq_reader.specs.GraphText.{json_of_bytes, raw_graph_of_json, raw_graph_view, read_outcome_of_json, ok_or_fault, IsReadOutcome}

-- the value that is read from a text is the value of its bytes
pub json_of_bytes-read : (bytes : List ℕ) (d : Data) → IsUtf8 bytes → read bytes ≡ Some d → json_of_bytes bytes ≡ Some d
unfolding json_of_bytes
json_of_bytes-read bytes d text is = rw (is_utf8-from_IsUtf8 bytes text) is

none_if : (bytes : List ℕ) (b : Bool) → is_utf8 bytes ≡ b → (IsUtf8 bytes → read bytes ≡ None) → cond b (read bytes) None ≡ None
none_if bytes true text refused = refused (IsUtf8-from_is_utf8 bytes text)
none_if bytes false text refused = refl

-- bytes have no value if their text is refused
pub json_of_bytes-refused : (bytes : List ℕ) → (IsUtf8 bytes → read bytes ≡ None) → json_of_bytes bytes ≡ None
unfolding json_of_bytes
json_of_bytes-refused bytes refused = none_if bytes _ refl refused

-- the graph of the value, or its fault, is the outcome
pub read_outcome_of_json-read : (r : Result RawGraph FormatFault) (d : Data) → IsReadResult raw_graph_view r (raw_graph_of_json d)
    → IsReadOutcome r (read_outcome_of_json (Some d))
read_outcome_of_json-read (Ok graph) d is = ap (ok_or_fault BadForm) is
read_outcome_of_json-read (Err OutOfMemory) d is = tt
read_outcome_of_json-read (Err NotJson) d is = absurd is
read_outcome_of_json-read (Err BadForm) d is = ap (ok_or_fault BadForm) is
