use Rattle.std.proofs.Common.{ap, sym, subst, ◌∙◌}
use Rattle.ec_app.specs.Sdo.{sdo_bytes, IsProper}
use Rattle.ec_app.proofs.SdoLemmas.{sdo_bytes-sdo_of, IsProper-sdo_of}
use Rattle.ec_app.proofs.sdo.Sdo.read.Goals as goal

pub returns-clause-written_back : goal.returns-clause-written_back
returns-clause-written_back c =
    ap sdo_bytes c.decoded.ensures ∙ sdo_bytes-sdo_of c.args.bytes.now c.told-bytes c.fits-bytes

pub returns-clause-proper : goal.returns-clause-proper
returns-clause-proper c = subst IsProper (sym c.decoded.ensures) (IsProper-sdo_of c.args.bytes.now)
