-- Both links are put, and stay so once the slaves have told them.
use Rattle.std.proofs.Common.{◌≡◌, ◌≢◌, ◌∙◌, ◌+◌, ap, subst, sym, arith, ℕ, length}
use Rattle.ec_ring.specs.Links.{is_up}
use Rattle.ec_ring.specs.declared.links.Links.{Links}
use Rattle.ecat_serve.specs.Bench.{with_links}
use Rattle.ecat_serve.specs.State.{ServedState, linked}
use Rattle.ecat_serve.proofs.LinkLemmas.{linked_links, linked_put, with_ring}
use Rattle.ecat_serve.proofs.served.Served.put_links.Goals as goal

-- the line before
abbrev before : goal.After-tell_links → ServedState
before c = record {
  ring = c.self.inside.ring;
  applications = c.self.inside.applications;
  peer_a = c.self.inside.peer_a;
  peer_b = c.self.inside.peer_b;
  to_lose_a = c.self.inside.to_lose_a;
  to_lose_b = c.self.inside.to_lose_b;
}

-- and once both are put
abbrev put : goal.After-tell_links → ServedState
put c = with_ring (before c) c.set_link-2.new.self

-- what slaves tell leaves a link
told : (c : goal.After-tell_links) (k : ℕ)
    → is_up c.tell_links.new.self.ring.links k ≡ is_up c.set_link-2.new.self.links k
told c k =
    ap (λ (s : ServedState). is_up s.ring.links k) c.tell_links.ensures
    ∙ ap (λ (links : Links). is_up links k) (linked_links (put c))

pub returns : goal.returns
returns c = record {
  on_line = c.requires;
  ahead =
      told c c.args.place
      ∙ c.set_link-2.ensures.others c.args.place (λ is. omega (arith, is))
      ∙ c.set_link.ensures.at;
  behind = told c (c.args.place + 1) ∙ c.set_link-2.ensures.at;
  others = λ (k : ℕ) first second.
      told c k ∙ c.set_link-2.ensures.others k second ∙ c.set_link.ensures.others k first
      ∙ ap (λ (s : ServedState). is_up s.ring.links k) c.self.view_is;
  stays =
      subst (λ (s : ServedState). c.tell_links.new.self ≡ linked (with_links s c.tell_links.new.self.ring.links))
      c.self.view_is
      (linked_put (before c) c.tell_links.new.self c.set_link-2.new.self
      (c.set_link-2.ensures.slaves ∙ c.set_link.ensures.slaves) c.tell_links.ensures);
}
