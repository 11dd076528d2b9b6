use Rattle.rewrite_modules.proofs.Interface.{interface, table_kept}
use Rattle.rewrite_modules.proofs.laws.interface_is_kept.Goals as goal

pub returns-clause-interface : goal.returns-clause-interface
returns-clause-interface c = interface

pub returns-clause-table : goal.returns-clause-table
returns-clause-table c = table_kept
