-- A list with too few or too many items for the form of a query is no query.
use Rattle.std.proofs.Common.{◌≡◌, ◌<◌, List, [], ◌∷◌, length, None, refl, arith}
use Rattle.json.specs.declared.value.Value.{Value}
use Rattle.symq_reader.specs.JsonData.{items_data}
use Rattle.symq_core.specs.ReferenceForms.{read_id_reference, read_qualified_reference, read_import_reference, keyword_and_items}
use Rattle.symq_core.specs.Queries.{two_strings_and_items, second_after_inputs, read_resolve_question}
use Rattle.symq_core.specs.inner.TailItems.{tail_items}

pub two_short : {A : Type 0} (values : List (Value A)) → length values < 2 → two_strings_and_items (items_data values) ≡ None
two_short [] h = refl
two_short (a ∷ []) h = refl
two_short (a ∷ b ∷ values) h = absurd (omega arith)

pub tail_long : {A : Type 0} (values : List (Value A)) → 2 < length values → tail_items (items_data values) ≡ None
tail_long [] h = absurd (omega arith)
tail_long (a ∷ []) h = absurd (omega arith)
tail_long (a ∷ b ∷ []) h = absurd (omega arith)
tail_long (a ∷ b ∷ c ∷ values) h = refl

pub id_short : {A : Type 0} (values : List (Value A)) → length values < 2 → read_id_reference (items_data values) ≡ None
id_short [] h = refl
id_short (a ∷ []) h = refl
id_short (a ∷ b ∷ values) h = absurd (omega arith)

pub id_long : {A : Type 0} (values : List (Value A)) → 2 < length values → read_id_reference (items_data values) ≡ None
id_long [] h = refl
id_long (a ∷ []) h = refl
id_long (a ∷ b ∷ []) h = absurd (omega arith)
id_long (a ∷ b ∷ c ∷ values) h = refl

pub qualified_short : {A : Type 0} (values : List (Value A)) → length values < 3 → read_qualified_reference (items_data values) ≡ None
qualified_short [] h = refl
qualified_short (a ∷ []) h = refl
qualified_short (a ∷ b ∷ []) h = refl
qualified_short (a ∷ b ∷ c ∷ values) h = absurd (omega arith)

pub qualified_long : {A : Type 0} (values : List (Value A)) → 3 < length values → read_qualified_reference (items_data values) ≡ None
qualified_long [] h = refl
qualified_long (a ∷ []) h = refl
qualified_long (a ∷ b ∷ []) h = refl
qualified_long (a ∷ b ∷ c ∷ []) h = absurd (omega arith)
qualified_long (a ∷ b ∷ c ∷ d ∷ values) h = refl

pub import_short : {A : Type 0} (values : List (Value A)) → length values < 2 → read_import_reference (items_data values) ≡ None
import_short [] h = refl
import_short (a ∷ []) h = refl
import_short (a ∷ b ∷ values) h = absurd (omega arith)

pub import_long : {A : Type 0} (values : List (Value A)) → 2 < length values → read_import_reference (items_data values) ≡ None
import_long [] h = refl
import_long (a ∷ []) h = refl
import_long (a ∷ b ∷ []) h = absurd (omega arith)
import_long (a ∷ b ∷ c ∷ values) h = refl

pub resolve_short : {A : Type 0} (values : List (Value A)) → length values < 1 → read_resolve_question (items_data values) ≡ None
resolve_short [] h = refl
resolve_short (a ∷ values) h = absurd (omega arith)

pub resolve_long : {A : Type 0} (values : List (Value A)) → 1 < length values → read_resolve_question (items_data values) ≡ None
resolve_long [] h = refl
resolve_long (a ∷ []) h = absurd (omega arith)
resolve_long (a ∷ b ∷ values) h = refl

pub keyword_short : {A : Type 0} (values : List (Value A)) → length values < 1 → keyword_and_items (items_data values) ≡ None
keyword_short [] h = refl
keyword_short (a ∷ values) h = absurd (omega arith)

pub inputs_short : {A : Type 0} (values : List (Value A)) → length values < 2 → second_after_inputs (items_data values) ≡ None
inputs_short [] h = refl
inputs_short (a ∷ []) h = refl
inputs_short (a ∷ b ∷ values) h = absurd (omega arith)

pub inputs_long : {A : Type 0} (values : List (Value A)) → 2 < length values → second_after_inputs (items_data values) ≡ None
inputs_long [] h = refl
inputs_long (a ∷ []) h = refl
inputs_long (a ∷ b ∷ []) h = absurd (omega arith)
inputs_long (a ∷ b ∷ c ∷ values) h = refl
