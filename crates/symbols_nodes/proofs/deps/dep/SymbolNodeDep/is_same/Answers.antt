use Rattle.std.proofs.Common.{◌≡◌, ℕ, Bool, ◌&&◌, List, [], ◌∷◌, map, refl, ap, Global}
use Rattle.std.specs.Bool.{Decides}
use Rattle.std.specs.Cmp.Lexicographic.{pointwise}
use Rattle.std.specs.Cow.{cow_str_bytes}
use Rattle.std.specs.declared.borrow.CowStr.{CowStr}
use Rattle.std.proofs.lemmas.Bool.Decides.{Decides-and, Decides-at, Decides-like, Decides-eqb}
use Rattle.std.proofs.lemmas.Slice.Eq.{bytes_eq-Decides}
use Rattle.symbols_ast.specs.Ids.{IdView, id_view, is_same_id}
use Rattle.symbols_ast.specs.declared.tree.arena.Id.{Id}
use Rattle.symbols_nodes.specs.declared.deps.dep.SymbolNodeDep.{SymbolNodeDep}
use Rattle.symbols_nodes.specs.declared.deps.dep.SymbolNodeDep.TheVariants as Dep
use Rattle.symbols_nodes.specs.References.{reference_view, id, qualified_id, import_type}
use Rattle.symbols_nodes.specs.contracts.deps.dep.SymbolNodeDepPartialEq.TheImpl.{ghosts}
use Rattle.symbols_nodes.proofs.deps.dep.SymbolNodeDep.is_same.Goals as goal

same_names : (x y : Id) → Decides (is_same_id (id_view x) (id_view y)) (id_view x ≡ id_view y)
same_names x y =
    let a = id_view x in
    let b = id_view y in
    Decides-like (is_same_id a b) (λ (h : (a.name ≡ b.name) × (a.scope ≡ b.scope)). λ i. record { name = h.0 i; scope = h.1 i })
    (λ h. (ap (λ (v : IdView). v.name) h, ap (λ (v : IdView). v.scope) h)) (Decides-and _ _ (bytes_eq-Decides a.name b.name) (Decides-eqb a.scope b.scope))

both_same : (x y : List ℕ) (xs ys : List (List ℕ)) → x ∷ xs ≡ y ∷ ys → (x ≡ y) × (xs ≡ ys)
both_same x y xs ys e = (cc, cc)

same_id_and_parts : (a b : IdView) (ps qs : List (List ℕ)) → qualified_id a ps ≡ qualified_id b qs → (a ≡ b) × (ps ≡ qs)
same_id_and_parts a b ps qs e = (cc, cc)

same_text_and_parts : (a b : List ℕ) (ps qs : List (List ℕ)) → import_type a ps ≡ import_type b qs → (a ≡ b) × (ps ≡ qs)
same_text_and_parts a b ps qs e = (cc, cc)

same_name : (a b : IdView) → id a ≡ id b → a ≡ b
same_name a b e = cc

same_parts : (E : CowStr Global → CowStr Global → Bool) → ((a b : CowStr Global) → Decides (E a b) (cow_str_bytes a ≡ cow_str_bytes b))
    → (xs ys : List (CowStr Global)) → Decides (pointwise E xs ys) (map cow_str_bytes xs ≡ map cow_str_bytes ys)
same_parts E each [] [] = (λ _. refl, λ _. refl)
same_parts E each [] (y ∷ ys) = (λ t. absurd cc, λ s. absurd cc)
same_parts E each (x ∷ xs) [] = (λ t. absurd cc, λ s. absurd cc)
same_parts E each (x ∷ xs) (y ∷ ys) = Decides-like (E x y && pointwise E xs ys)
    (λ (h : (cow_str_bytes x ≡ cow_str_bytes y) × (map cow_str_bytes xs ≡ map cow_str_bytes ys)). λ i. h.0 i ∷ h.1 i)
    (both_same (cow_str_bytes x) (cow_str_bytes y) (map cow_str_bytes xs) (map cow_str_bytes ys)) (Decides-and _ _ (each x y) (same_parts E each xs ys))

by : (a b : SymbolNodeDep) (r : Bool) → r ≡ ghosts.eq a b → Decides r (reference_view a ≡ reference_view b)
by (Dep.Id x) (Dep.Id y) r e = Decides-like r (λ h. ap id h) (same_name (id_view x.now) (id_view y.now)) (Decides-at r _ e (same_names x.now y.now))
by (Dep.QualifiedId x xs) (Dep.QualifiedId y ys) r e =
    let d : Decides (ghosts.eq (Dep.QualifiedId x xs) (Dep.QualifiedId y ys)) ((id_view x.now ≡ id_view y.now) × (map cow_str_bytes xs.items
    ≡ map cow_str_bytes ys.items)) =
    Decides-and _ _ (same_names x.now y.now) (same_parts _ (λ a b. bytes_eq-Decides (cow_str_bytes a) (cow_str_bytes b)) xs.items ys.items) in
    Decides-like r (λ h. λ i. qualified_id (h.0 i) (h.1 i))
    (same_id_and_parts (id_view x.now) (id_view y.now) (map cow_str_bytes xs.items) (map cow_str_bytes ys.items)) (Decides-at r _ e d)
by (Dep.ImportType x xs) (Dep.ImportType y ys) r e =
    let d : Decides (ghosts.eq (Dep.ImportType x xs) (Dep.ImportType y ys)) ((x.now ≡ y.now) × (map cow_str_bytes xs.items ≡ map cow_str_bytes ys.items)) =
    Decides-and _ _ (bytes_eq-Decides x.now y.now) (same_parts _ (λ a b. bytes_eq-Decides (cow_str_bytes a) (cow_str_bytes b)) xs.items ys.items) in
    Decides-like r (λ h. λ i. import_type (h.0 i) (h.1 i)) (same_text_and_parts x.now y.now (map cow_str_bytes xs.items) (map cow_str_bytes ys.items))
    (Decides-at r _ e d)
by (Dep.Id x) (Dep.QualifiedId y ys) r e = (λ t. absurd cc, λ s. absurd cc)
by (Dep.Id x) (Dep.ImportType y ys) r e = (λ t. absurd cc, λ s. absurd cc)
by (Dep.QualifiedId x xs) (Dep.Id y) r e = (λ t. absurd cc, λ s. absurd cc)
by (Dep.QualifiedId x xs) (Dep.ImportType y ys) r e = (λ t. absurd cc, λ s. absurd cc)
by (Dep.ImportType x xs) (Dep.Id y) r e = (λ t. absurd cc, λ s. absurd cc)
by (Dep.ImportType x xs) (Dep.QualifiedId y ys) r e = (λ t. absurd cc, λ s. absurd cc)

pub returns-clause-same : goal.returns-clause-same
returns-clause-same c = by c.args.self.now c.args.other.now c.eq.result c.eq.ensures
