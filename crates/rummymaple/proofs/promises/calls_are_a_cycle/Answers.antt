use Rattle.std.proofs.Common.{◌≡◌, ◌<◌, ℕ, ◌∙◌, sym, map}
use Rattle.std.proofs.lemmas.List.{length-map}
use Rattle.ec_map.specs.Item.{ItemRecord}
use Rattle.ec_master.specs.Rounds.{round_counter}
use Rattle.rummymaple.specs.Items.{asked}
use Rattle.rummymaple.specs.declared.item.Item.{Item}
use Rattle.rummymaple.proofs.CallLemmas.{calls-told}
use Rattle.rummymaple.proofs.CycleLemmas.{calls-cycle, each-of_map}
use Rattle.rummymaple.proofs.promises.calls_are_a_cycle.Goals as goal

pub returns-clause-cycle : goal.returns-clause-cycle
returns-clause-cycle c = calls-cycle

pub returns-clause-says : goal.returns-clause-says
returns-clause-says c items image came joined are calls good =
    c.frames_suffice.ensures.says _ _ _ _ _ are (calls-cycle items image came joined calls good)

pub returns-clause-says_moving : goal.returns-clause-says_moving
returns-clause-says_moving c items image came joined are calls good =
    c.good_at_one_moment.ensures.over_ports _ _ _ _ _ are (calls-cycle items image came joined calls good)

pub returns-clause-this_round : goal.returns-clause-this_round
returns-clause-this_round c k items image came joined calls good begun few recent =
    c.frames_suffice.ensures.this_round k (map (asked image) items) (map (λ i. i.expected) items) _ _
    (each-of_map (λ (r : ItemRecord). r.counter ≡ round_counter k) (asked image) items begun)
    (length-map items (λ (i : Item). i.expected) ∙ sym (length-map items (asked image)))
    (each-of_map (λ (e : ℕ). e < 4096) (λ (i : Item). i.expected) items few) recent
    (calls-cycle items image came joined calls good)

pub returns-clause-told : goal.returns-clause-told
returns-clause-told c form items later image packets bytes calls =
    let told = calls-told form image items 0 packets bytes later c.one_spelling.ensures calls in
    (told.came, told.joined, told.given, told.spelt, told.calls, told.good, told.asks)
