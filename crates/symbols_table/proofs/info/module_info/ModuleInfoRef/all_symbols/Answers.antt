use Rattle.symbols_table.proofs.info.module_info.ModuleInfoRef.all_symbols.Goals as goal

pub returns-in-Json-clause-lawful : goal.returns-in-Json-clause-lawful
returns-in-Json-clause-lawful c = rw (c.in-Json.is, c.deref.ensures.value) c.in-Json.json.now.lawful

pub returns-in-Esm-clause-lawful : goal.returns-in-Esm-clause-lawful
returns-in-Esm-clause-lawful c = rw (c.in-Esm.is, c.deref-in-Esm.ensures.value) c.in-Esm.esm.now.lawful
