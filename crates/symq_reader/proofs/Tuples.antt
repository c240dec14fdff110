-- A list that is no pair or no triple.
use Rattle.std.proofs.Common.{◌≡◌, ◌<◌, List, [], ◌∷◌, length, None, refl, arith}
use Rattle.std.specs.declared.alloc.Global.{Global}
use Rattle.json.specs.Value.{items_view}
use Rattle.json.specs.declared.value.Value.{Value}
use Rattle.symq_reader.specs.JsonData.{json_items_data}
use Rattle.symq_reader.specs.UnderKeys.{two_items, three_items}

pub fewer_than_two : (vs : List (Value Global)) → length vs < 2 → two_items (json_items_data (items_view vs)) ≡ None
fewer_than_two [] h = refl
fewer_than_two (a ∷ []) h = refl
fewer_than_two (a ∷ b ∷ vs) h = absurd (omega arith)

pub more_than_two : (vs : List (Value Global)) → 2 < length vs → two_items (json_items_data (items_view vs)) ≡ None
more_than_two [] h = refl
more_than_two (a ∷ []) h = refl
more_than_two (a ∷ b ∷ []) h = absurd (omega arith)
more_than_two (a ∷ b ∷ c ∷ vs) h = refl

pub fewer_than_three : (vs : List (Value Global)) → length vs < 3 → three_items (json_items_data (items_view vs)) ≡ None
fewer_than_three [] h = refl
fewer_than_three (a ∷ []) h = refl
fewer_than_three (a ∷ b ∷ []) h = refl
fewer_than_three (a ∷ b ∷ c ∷ vs) h = absurd (omega arith)

pub more_than_three : (vs : List (Value Global)) → 3 < length vs → three_items (json_items_data (items_view vs)) ≡ None
more_than_three [] h = refl
more_than_three (a ∷ []) h = refl
more_than_three (a ∷ b ∷ []) h = refl
more_than_three (a ∷ b ∷ c ∷ []) h = absurd (omega arith)
more_than_three (a ∷ b ∷ c ∷ d ∷ vs) h = refl
