-- Each of 257 links is up, and those past them count as up.
use Rattle.ec_ring.proofs.LinkLemmas.{up-of-replicate}
use Rattle.ec_ring.proofs.links.Links.new.Goals as goal

pub returns : goal.returns
returns c k = up-of-replicate 257 k
