use Rattle.std.proofs.Common.{◌∙◌}
use Rattle.symbols_exports.proofs.ShadowedChains.{other_put}
use Rattle.symbols_exports.proofs.shadowed.push_later_chain.Goals as goal

pub returns-clause-put : goal.returns-clause-put
returns-clause-put c = other_put c.args.index c.args.chain c.reserve_chain_lists.new.shadowed.items c.index_mut.result.now c.push.new.self
    c.in_ok-reserve_chain_lists.ensures.room c.index_mut.ensures.value c.in_ok-push.ensures.items ∙ c.in_ok-reserve_chain_lists.ensures.same c.args.chain
