-- The link is put, and stays so once the slaves have told it.
use Rattle.std.proofs.Common.{◌≡◌, ◌∙◌, ap, subst, ℕ}
use Rattle.ec_ring.specs.Links.{is_up}
use Rattle.ec_ring.specs.declared.links.Links.{Links}
use Rattle.ecat_serve.specs.Bench.{with_links}
use Rattle.ecat_serve.specs.State.{ServedState, linked}
use Rattle.ecat_serve.proofs.LinkLemmas.{linked_links, linked_put, with_ring}
use Rattle.ecat_serve.proofs.served.Served.put_link.Goals as goal

-- the line before
abbrev before : goal.After-tell_links → ServedState
before c = record {
  ring = c.self.inside.ring;
  applications = c.self.inside.applications;
  peer_a = c.self.inside.peer_a;
  peer_b = c.self.inside.peer_b;
  to_lose_a = c.self.inside.to_lose_a;
  to_lose_b = c.self.inside.to_lose_b;
}

-- and once the link is put
abbrev put : goal.After-tell_links → ServedState
put c = with_ring (before c) c.set_link.new.self

pub returns-clause-at : goal.returns-clause-at
returns-clause-at c =
    ap (λ (s : ServedState). is_up s.ring.links c.args.k) c.tell_links.ensures
    ∙ ap (λ (links : Links). is_up links c.args.k) (linked_links (put c))
    ∙ c.set_link.ensures.at

pub returns-clause-others : goal.returns-clause-others
returns-clause-others c = λ (j : ℕ) apart.
    ap (λ (s : ServedState). is_up s.ring.links j) c.tell_links.ensures
    ∙ ap (λ (links : Links). is_up links j) (linked_links (put c))
    ∙ c.set_link.ensures.others j apart
    ∙ ap (λ (s : ServedState). is_up s.ring.links j) c.self.view_is

pub returns-clause-stays : goal.returns-clause-stays
returns-clause-stays c =
    subst (λ (s : ServedState). c.tell_links.new.self ≡ linked (with_links s c.tell_links.new.self.ring.links))
    c.self.view_is
    (linked_put (before c) c.tell_links.new.self c.set_link.new.self c.set_link.ensures.slaves c.tell_links.ensures)
