use Rattle.ec_app.specs.declared.sdo.Sdo.TheVariants.{Upload, Download}
use Rattle.ec_services.specs.Transfer.{downloaded_by, uploaded_by}
use Rattle.ec_over_ring.proofs.Laws.{call_over_ring, has_slave}
use Rattle.ec_over_ring.proofs.recovery.calls_over_a_ring.Goals as goal

pub returns-clause-upload : goal.returns-clause-upload
returns-clause-upload c = λ peer peer_later index sub limit r before behind s result later.
    call_over_ring peer peer_later (Upload index sub) limit uploaded_by r before behind s result later

pub returns-clause-download : goal.returns-clause-download
returns-clause-download c = λ peer peer_later index sub value limit r before behind s result later.
    call_over_ring peer peer_later (Download index sub value) limit downloaded_by r before behind s result
    later

pub returns-clause-ready : goal.returns-clause-ready
returns-clause-ready c = λ peer r before behind s. has_slave peer r before s behind
