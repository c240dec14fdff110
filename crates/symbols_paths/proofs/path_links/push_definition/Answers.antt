use Rattle.symbols_paths.proofs.path_links.push_definition.Goals as goal

pub returns : goal.returns
returns c = (c.definition_path-builder.result, c.in_ok-add_builder.ensures, c.definition_path-builder.ensures.view, c.definition_path-builder.ensures.stored)
