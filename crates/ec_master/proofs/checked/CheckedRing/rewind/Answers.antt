-- What is accepted is accepted rewound, and the same is expected of it.
use Rattle.std.proofs.Common.{◌∙◌, ℕ, ap, sym, subst, List, take}
use Rattle.std.proofs.lemmas.List.{length-map}
use Rattle.ec_map.specs.Item.{ItemRecord}
use Rattle.ec_master.specs.Checked.{IsChecked}
use Rattle.ec_master.specs.Work.{rewound}
use Rattle.ec_master.proofs.checked.CheckedRing.rewind.Goals as goal

pub invariant_of-self : goal.invariant_of-self
invariant_of-self c =
    let items : List ItemRecord = c.self.inside.work in
    let expected : List ℕ = c.self.inside.expected in
    subst (λ (later : List ItemRecord). IsChecked c.self.inside.ring later expected) (sym c.rewind.ensures)
    (record {
      accepted = c.checked_then_rewound.ensures.rewound _ _ c.self.invariant.accepted;
      expects = ap (λ (n : ℕ). take n expected) (length-map items rewound) ∙ c.self.invariant.expects
          ∙ sym (c.checked_then_rewound.ensures.expected_rewound c.self.inside.ring.slaves items c.are_items.ensures.items);
    })
