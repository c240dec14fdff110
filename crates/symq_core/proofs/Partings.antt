-- Items of which one is no string.
use Rattle.std.proofs.Common.{◌≡◌, ◌<◌, ℕ, suc, List, ◌∷◌, ◌++◌, length, get_or, drop, Option, None, option_map, refl, sym, ap, ◌∙◌}
use Rattle.std.proofs.Math.Seq.{drop-cons}
use Rattle.std.specs.declared.alloc.Global.{Global}
use Rattle.json.specs.declared.value.Value.{Value}
use Rattle.serde_json.specs.Find.{as_str}
use Rattle.symq_reader.specs.JsonData.{value_data, items_data}
use Rattle.symq_reader.specs.UnderKeys.{read_each_item}

pub no_text : (front : List (List ℕ)) (v : Value Global) (vs : List (Value Global)) (i : ℕ) (all : Option (List (List ℕ))) → i < length vs → v ≡ get_or vs i v
    → as_str (value_data v) ≡ None
    → option_map (λ rest. front ++ rest) (read_each_item as_str (items_data (drop i vs))) ≡ all → None ≡ all
no_text front v vs i all less is none before =
    let here : drop i vs ≡ v ∷ drop (suc i) vs = drop-cons vs i v less ∙ ap (λ x. x ∷ drop (suc i) vs) (sym is) in
    let nothing : option_map (λ rest. front ++ rest) (read_each_item as_str (items_data (v ∷ drop (suc i) vs))) ≡ None = rw none refl in
    sym nothing ∙ sym (ap (λ xs. option_map (λ rest. front ++ rest) (read_each_item as_str (items_data xs))) here) ∙ before
