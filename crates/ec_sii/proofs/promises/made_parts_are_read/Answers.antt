use Rattle.ec_sii.proofs.PartLemmas.{pdo_entry_read, pdo_read, sync_manager_read, text_read}
use Rattle.ec_sii.proofs.promises.made_parts_are_read.Goals as goal

pub returns-clause-text : goal.returns-clause-text
returns-clause-text c = text_read

pub returns-clause-sync_manager : goal.returns-clause-sync_manager
returns-clause-sync_manager c = sync_manager_read

pub returns-clause-pdo : goal.returns-clause-pdo
returns-clause-pdo c = pdo_read

pub returns-clause-entry : goal.returns-clause-entry
returns-clause-entry c = pdo_entry_read
