-- The first fault of a module that is put, from the steps of its check.
use Rattle.std.proofs.Common.{◌≢◌, ℕ, ◌<◌, ◌≤◌, ◌^◌, ⊎_elim, List, length, refl, arith}
use Rattle.std.specs.Prelude.{string_bytes}
use Rattle.symbols_ast.specs.declared.graph.faults.GraphFault.{GraphFault}
use Rattle.symbols_ast.specs.declared.graph.faults.GraphFault.TheVariants as fault
use Rattle.symbols_ast.specs.Graph.{ModuleView, IsCheckedContent}
use Rattle.symbols_graph.specs.GraphFaults.{IsFaultTriedBefore, redirect_sources}
use Rattle.symbols_graph.specs.PutModules.{modules_with_put_module, IsPutFaultAt, IsFaultlessPut, IsFirstPutFault}
use Rattle.symbols_graph.specs.inner.CheckSteps.{HasNoRepeat}
use Rattle.symbols_graph.specs.inner.PutSteps.{IsFirstRepeatedText, IsFaultOfModuleTree}
use Rattle.symbols_graph.proofs.TreeRefusal.{good_content}

module _ (modules : List ModuleView) (m : ModuleView) (resolved : List (List ℕ × List ℕ)) where
  -- No fault is tried before too many modules.
  pub refused_by_count : 2 ^ 32 ≤ length (modules_with_put_module m modules) → IsFirstPutFault modules m resolved fault.TooManyModules
  refused_by_count many =
      (0, many, λ i f earlier occurs. ⊎_elim (λ lower. absurd (omega (arith, lower))) (λ same. absurd (omega (arith, same.1))) earlier)

  module _ (few : length (modules_with_put_module m modules) < 2 ^ 32) where
    -- The first repeated specifier text is the first fault.
    pub refused_by_texts : (f : GraphFault) → IsFirstRepeatedText m.specifier resolved f → f ≢ fault.OutOfMemory → IsFirstPutFault modules m resolved f
    refused_by_texts fault.OutOfMemory is some = absurd (some refl)
    refused_by_texts fault.TooManyModules is some = absurd is
    refused_by_texts (fault.DuplicateSpecifier s) is some = absurd is
    refused_by_texts (fault.DuplicateRedirect s) is some = absurd is
    refused_by_texts (fault.RedirectToRedirect s) is some = absurd is
    refused_by_texts (fault.DuplicateResolution r t) is some = (is.1.0, (is.0, is.1.1), before)
      where
        before : (i : ℕ) (f : GraphFault) → IsFaultTriedBefore i f is.1.0 (fault.DuplicateResolution r t) → IsPutFaultAt modules m resolved i f → ⊥
        before i fault.OutOfMemory earlier occurs = occurs
        before i fault.TooManyModules earlier occurs = omega (arith, few, occurs)
        before i (fault.DuplicateSpecifier s) earlier occurs = occurs
        before i (fault.DuplicateRedirect s) earlier occurs = occurs
        before i (fault.RedirectToRedirect s) earlier occurs = occurs
        before i (fault.DuplicateResolution q u) earlier occurs =
            ⊎_elim (λ lower. omega (arith, lower)) (λ same. is.1.2 i (string_bytes u) same.1 occurs.1) earlier
        before i (fault.Tree s found) earlier occurs = ⊎_elim (λ lower. omega (arith, lower)) (λ same. omega (arith, same.0)) earlier
    refused_by_texts (fault.Tree s found) is some = absurd is

    module _ (distinct : HasNoRepeat (redirect_sources resolved)) where
      -- The fault of the tree is the first, if no specifier text is repeated.
      pub refused_by_tree : (f : GraphFault) → IsFaultOfModuleTree m f → f ≢ fault.OutOfMemory → IsFirstPutFault modules m resolved f
      refused_by_tree fault.OutOfMemory is some = absurd (some refl)
      refused_by_tree fault.TooManyModules is some = absurd is
      refused_by_tree (fault.DuplicateSpecifier s) is some = absurd is
      refused_by_tree (fault.DuplicateRedirect s) is some = absurd is
      refused_by_tree (fault.RedirectToRedirect s) is some = absurd is
      refused_by_tree (fault.DuplicateResolution r t) is some = absurd is
      refused_by_tree (fault.Tree s found) is some = (0, is, before)
        where
          before : (i : ℕ) (f : GraphFault) → IsFaultTriedBefore i f 0 (fault.Tree s found) → IsPutFaultAt modules m resolved i f → ⊥
          before i fault.OutOfMemory earlier occurs = occurs
          before i fault.TooManyModules earlier occurs = omega (arith, few, occurs)
          before i (fault.DuplicateSpecifier x) earlier occurs = occurs
          before i (fault.DuplicateRedirect x) earlier occurs = occurs
          before i (fault.RedirectToRedirect x) earlier occurs = occurs
          before i (fault.DuplicateResolution q u) earlier occurs = distinct i (string_bytes u) occurs.1
          before i (fault.Tree x y) earlier occurs = ⊎_elim (λ lower. omega (arith, lower)) (λ same. omega (arith, same.1)) earlier

      -- A module with a checked tree has no fault then.
      pub accepted_put : IsCheckedContent m.content → IsFaultlessPut modules m resolved
      accepted_put checked i fault.OutOfMemory occurs = occurs
      accepted_put checked i fault.TooManyModules occurs = omega (arith, few, occurs)
      accepted_put checked i (fault.DuplicateSpecifier s) occurs = occurs
      accepted_put checked i (fault.DuplicateRedirect s) occurs = occurs
      accepted_put checked i (fault.RedirectToRedirect s) occurs = occurs
      accepted_put checked i (fault.DuplicateResolution r t) occurs = distinct i (string_bytes t) occurs.1
      accepted_put checked i (fault.Tree s found) occurs = good_content m.content found checked occurs.1
