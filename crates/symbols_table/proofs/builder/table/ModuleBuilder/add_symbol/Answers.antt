use Rattle.std.proofs.Common.{◌≡◌, List, refl, ap, ◌∙◌, ◌++◌, [], ◌∷◌, arith}
use Rattle.symbols_table.specs.DeclViews.{decl_view}
use Rattle.symbols_table.proofs.OneChange.{made}
use Rattle.symbols_table.proofs.Views.{pushed_decl}
use Rattle.symbols_table.proofs.builder.table.ModuleBuilder.add_symbol.Goals as goal

-- Pushing to equal lists gives equal lists.
after_same : {A : Type 0} {old same new : List A} (x : A) → new ≡ same ++ x ∷ [] → same ≡ old → new ≡ old ++ x ∷ []
after_same {A} {old} {same} {new} x pushed is = pushed ∙ ap (λ (xs : List A). xs ++ x ∷ []) is

pub returns-clause-table : goal.returns-clause-table
returns-clause-table c = λ changes is.
    let number = c.len-2.ensures ∙ c.args.self.now.symbols.ok.0 in
    made c.args.self.now _ changes c.args.parent (decl_view c.args.decl) (record { 0 = c.len-2.result }) _ is (after_same _ c.push_reserved.ensures.items
    c.in_ok-reserve.ensures.items) number refl refl refl refl refl (omega arith) (rw number c.requires) refl refl refl
    (pushed_decl [] _ c.args.decl c.with_overloads.result _ c.from_buf-decls.ensures.items c.with_overloads.ensures refl) c.new.ensures
