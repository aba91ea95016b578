-- The definitions, computed on a line of three slaves: whom a write by place means, what each slave went
-- through, and which slaves the copies pass where link 1 is down.
use Rattle.std.proofs.Common.{◌≡◌, true, false, [], ◌∷◌, refl, arith}
use Rattle.std.specs.List.{range_with_len}
use Rattle.ec_app.specs.Slave.{step}
use Rattle.ec_app.specs.State.{SlaveState}
use Rattle.ec_ring.specs.Links.{SomeDown, first_down, last_down}
use Rattle.ec_ring.specs.Reach.{back, front}
use Rattle.ec_ring.specs.declared.links.Links.{Links}
use Rattle.ec_services.specs.Stations.{adp_of_place}
use Rattle.ec_over_ring.specs.Stations.{assigned, assigned_from, steps, with_station}

-- the first slave finds the ADP 0 at once, the second one after it was counted once, the third one twice
first_adp : adp_of_place 0 ≡ 0
first_adp = refl

second_adp : adp_of_place 1 ≡ 65535
second_adp = refl

third_adp : adp_of_place 2 ≡ 65534
third_adp = refl

-- four trips: the broadcast, and a write for each place; so each slave took four steps, the first one with
-- its address from the second step on, the second one from the third, the third one with the last
three_assigned : (x y z : SlaveState) → assigned 4097 (x ∷ y ∷ z ∷ [])
    ≡ step (step (step (with_station 4097 (step x))))
    ∷ step (step (with_station 4098 (step (step y))))
    ∷ step (with_station 4099 (step (step (step z))))
    ∷ []
unfolding assigned_from steps
three_assigned x y z = refl

three_addresses : range_with_len 4097 3 ≡ 4097 ∷ 4098 ∷ 4099 ∷ []
three_addresses = refl

-- link 1 alone is down: copy A passes the first slave, and copy B the others
abbrev broken : Links
broken = record { up = true ∷ false ∷ true ∷ true ∷ [] }

is_down : SomeDown broken 3
is_down = (1, omega arith, refl)

copy_a : front broken 3 ≡ 1
unfolding first_down
copy_a = refl

copy_b : back broken 3 ≡ 1
unfolding last_down
copy_b = refl
