-- The links under which frames walk are those that are told.
use Rattle.std.proofs.Common.{◌≡◌, ◌∙◌, ap, subst, sym, length}
use Rattle.ec_applications.proofs.Laws.{told_same}
use Rattle.ec_ring.specs.Links.{is_up}
use Rattle.ecat_serve.specs.Answering.{AreServed}
use Rattle.ecat_serve.specs.State.{ServedState, linked, serves_link}
use Rattle.ecat_serve.proofs.LinkLemmas.{with_ring}
use Rattle.ecat_serve.proofs.served.Served.tell_links.Goals as goal

pub returns : goal.returns
returns c =
    let before : ServedState = record {
      ring = c.self.inside.ring;
      applications = c.self.inside.applications;
      peer_a = c.self.inside.peer_a;
      peer_b = c.self.inside.peer_b;
      to_lose_a = c.self.inside.to_lose_a;
      to_lose_b = c.self.inside.to_lose_b;
    } in
    let served : AreServed before c.links-links.result =
    subst (λ (s : ServedState). AreServed s c.links-links.result) (sym c.self.view_is)
    c.links-links.ensures in
    subst (λ (s : ServedState). with_ring before c.tell_each.new.ring ≡ linked s) c.self.view_is
    (ap (with_ring before) (c.tell_each.ensures
    ∙ told_same (is_up c.links-links.result) (serves_link before) served
    (length before.ring.slaves) before.ring))
