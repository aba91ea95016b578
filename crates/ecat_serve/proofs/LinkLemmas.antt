-- Slaves that tell of their links leave the links as they are.
use Rattle.std.proofs.Common.{◌≡◌, ◌∙◌, ap, sym, List, length}
use Rattle.ec_app.specs.State.{SlaveState}
use Rattle.ec_applications.proofs.Laws.{told_links}
use Rattle.ec_ring.specs.Ring.{RingState}
use Rattle.ec_ring.specs.declared.links.Links.{Links}
use Rattle.ecat_serve.specs.Bench.{with_links}
use Rattle.ecat_serve.specs.State.{ServedState, linked, serves_link}

-- the same line with this ring
abbrev pub with_ring : ServedState → RingState → ServedState
with_ring s ring = record s { ring = ring }

pub linked_links : (s : ServedState) → (linked s).ring.links ≡ s.ring.links
linked_links s = told_links (serves_link s) (length s.ring.slaves) s.ring

-- a ring of the same slaves, of which these are the links once they have told them, is the one with these
pub linked_put : (s later : ServedState) (ring : RingState) → ring.slaves ≡ s.ring.slaves
    → later ≡ linked (with_ring s ring) → later ≡ linked (with_links s later.ring.links)
linked_put s later ring slaves is =
    let links : later.ring.links ≡ ring.links =
    ap (λ (t : ServedState). t.ring.links) is ∙ linked_links (with_ring s ring) in
    let as_put : ring ≡ record s.ring { links = later.ring.links } =
    ap (λ (them : List SlaveState). record ring { slaves = them }) slaves
    ∙ ap (λ (them : Links). record s.ring { links = them }) (sym links) in
    is ∙ ap (λ (r : RingState). linked (with_ring s r)) as_put
