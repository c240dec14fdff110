use Rattle.std.proofs.Common.{◌+◌, drop, ap, ◌∙◌}
use Rattle.std.specs.Rc.{rc_slice_items}
use Rattle.symbols_paths.specs.Views.{strings_view}
use Rattle.symbols_paths.proofs.SharedParts.{drop_one_more}
use Rattle.symbols_paths.proofs.shared_parts.SharedParts.after_first_part.Goals as goal

pub returns : goal.returns
returns c =
    let parts = c.args.self.now in
    ap (λ list. drop (parts.first + 1) (strings_view list)) c.in_ok-clone.ensures.cases ∙ drop_one_more parts.first (strings_view (rc_slice_items parts.list))
