-- One round of a loop over the items of a list.
use Rattle.std.proofs.Common.{◌≡◌, ◌<◌, ◌+◌, ℕ, suc, List, [], ◌∷◌, ◌++◌, length, get_or, drop, map, Option}
use Rattle.std.proofs.Common.{Some, None, option_map, option_and_then, refl, sym, ap, ◌∙◌, add-one, append_assoc}
use Rattle.std.proofs.Math.Seq.{drop-cons}
use Rattle.std.proofs.lemmas.List.{map-append}
use Rattle.std.specs.declared.alloc.Global.{Global}
use Rattle.json.specs.Value.{items_view}
use Rattle.json.specs.declared.value.Value.{Value}
use Rattle.serde_json.specs.Data.{Data}
use Rattle.symq_reader.specs.JsonData.{value_data, json_items_data}
use Rattle.symq_reader.specs.UnderKeys.{read_each_item}

cons_drop : {A : Type 0} (xs : List A) (i : ℕ) (v : A) → i < length xs → v ≡ get_or xs i v → drop i xs ≡ v ∷ drop (i + 1) xs
cons_drop xs i v less is = rw (add-one i) (drop-cons xs i v less ∙ ap (λ x. x ∷ drop (suc i) xs) (sym is))

tail : {S : Type 0} (front : List S) (x : S) (o : Option (List S))
    → option_map (λ rest. (front ++ x ∷ []) ++ rest) o ≡ option_map (λ rest. front ++ rest) (option_map (λ xs. x ∷ xs) o)
tail front x None = refl
tail front x (Some xs) = ap Some (append_assoc front (x ∷ []) xs)

pub each_round : {S T : Type 0} (form : Data → Option S) (shape : T
    → S) (done after : List T) (x : T) (v : Value Global) (vs : List (Value Global)) (i : ℕ) (all : Option (List S)) → i < length vs → v ≡ get_or vs i v
    → form (value_data v) ≡ Some (shape x) → after ≡ done ++ x ∷ []
    → option_map (λ rest. map shape done ++ rest) (read_each_item form (json_items_data (items_view (drop i vs)))) ≡ all
    → option_map (λ rest. map shape after ++ rest) (read_each_item form (json_items_data (items_view (drop (i + 1) vs)))) ≡ all
each_round form shape done after x v vs i all less is read pushed before =
    let rest = read_each_item form (json_items_data (items_view (drop (i + 1) vs))) in
    let here = cons_drop vs i v less is in
    ap (λ xs. option_map (λ rest. map shape xs ++ rest) rest) pushed
    ∙ ap (λ xs. option_map (λ rest. xs ++ rest) rest) (map-append shape done (x ∷ []))
    ∙ tail (map shape done) (shape x) rest
    ∙ ap (λ o. option_map (λ rest. map shape done ++ rest) (option_and_then (λ y. option_map (λ xs. y ∷ xs) rest) o)) (sym read)
    ∙ ap (λ xs. option_map (λ rest. map shape done ++ rest) (read_each_item form (json_items_data (items_view xs)))) (sym here)
    ∙ before
