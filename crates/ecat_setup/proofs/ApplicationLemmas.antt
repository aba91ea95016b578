-- Which EEPROM is given for a place, and those of the devices so far.
use Rattle.std.proofs.Common.{◌≡◌, ◌≢◌, ◌<◌, ◌+◌, ℕ, zero, suc, Bool, true, false, cond, List, [], ◌∷◌, ◌++◌}
use Rattle.std.proofs.Common.{Option, Some, length, map, drop, get_or, refl, sym, ap, subst, ◌∙◌, arith}
use Rattle.std.proofs.Common.{append_assoc, drop-cons}
use Rattle.std.proofs.lemmas.Bool.Decides.{nat_tests}
use Rattle.std.proofs.lemmas.List.{drop_more, map-append}
use Rattle.std.proofs.lemmas.List.Elements.{All-push, All-same}
use Rattle.std.proofs.lemmas.Option.{slice_get-get_or}
use Rattle.std.specs.List.{All, remove}
use Rattle.std.specs.Prelude.{find, slice_get, IfSome, MatchBool, MatchOption}
use Rattle.ec_applications.specs.declared.eeproms.PlacedEeprom.{PlacedEeprom}
use Rattle.ecat_scene.specs.Scene.{SlaveRecord, slave_record}
use Rattle.ecat_scene.specs.declared.scene.SceneSlave.{SceneSlave}
use Rattle.ecat_setup.specs.Applications.{IsOwn, IsPlaced, devices_from, given_at, is_for}
use Rattle.ecat_setup.specs.Devices.{IsEepromOf, is_device}

-- ---- what is given for a place

-- where none of the first ones passes and the next does, it is the one that is found
pub found_next : {X : Type 0} (p : X → Bool) (xs : List X) (n : ℕ) (d : X) → n < length xs
    → find p xs ≡ find p (drop n xs) → p (get_or xs n d) ≡ true → find p xs ≡ slice_get xs n
found_next p xs n d inside before is =
    before ∙ ap (find p) (drop-cons xs n d inside)
    ∙ ap (λ b. cond b (Some (get_or xs n d)) (find p (drop (suc n) xs))) is
    ∙ sym (slice_get-get_or xs n d inside)

same_some : {X : Type 0} (x y : X) → Some x ≡ Some y → x ≡ y
same_some x y e = cc

-- what is found passes
pub found_passes : {X : Type 0} (p : X → Bool) (xs : List X) (x : X) → find p xs ≡ Some x → p x ≡ true
found_passes p [] x h = absurd (cc)
found_passes p (y ∷ ys) x h =
    (elim (p y) as (λ b. p y ≡ b → cond b (Some y) (find p ys) ≡ Some x → p x ≡ true) [
      | true ↦ λ is found. ap p (sym (same_some y x found)) ∙ is
      | false ↦ λ is found. found_passes p ys x found
    ])
    refl h

-- without one that does not pass what is found stays
find-remove : {X : Type 0} (q : X → Bool) (xs : List X) (n : ℕ) (d : X) → n < length xs
    → q (get_or xs n d) ≡ false → find q (remove xs n) ≡ find q xs
find-remove q [] n d inside not = absurd (omega arith)
find-remove q (x ∷ xs) zero d inside not = rw not refl
find-remove q (x ∷ xs) (suc n) d inside not =
    ap (cond (q x) (Some x)) (find-remove q xs n d (omega arith) not)

-- so without the one of a place each other place has what it had
pub others_left : (xs : List PlacedEeprom) (n place other : ℕ) (d : PlacedEeprom) → other ≢ place
    → n < length xs → given_at xs place ≡ slice_get xs n → given_at (remove xs n) other ≡ given_at xs other
others_left xs n place other d differs inside at =
    let passes : is_for place (get_or xs n d) ≡ true =
    found_passes (is_for place) xs (get_or xs n d) (at ∙ slice_get-get_or xs n d inside) in
    let not : is_for other (get_or xs n d) ≡ false = grind (arith, nat_tests, passes, differs) in
    find-remove (is_for other) xs n d inside not

-- ---- those of the devices so far

-- each of them is placed with one more
pub own_more : (given left : List PlacedEeprom) (slaves : List SlaveRecord) (place : ℕ) (s : SlaveRecord)
    (old new : List PlacedEeprom) (b : Bool) → slice_get slaves place ≡ Some s
    → given_at left place ≡ given_at given place
    → MatchBool b ((eeprom : List ℕ) × IsOwn left place s eeprom
    × (new ≡ old ++ record { place = place; eeprom = eeprom } ∷ [])) (new ≡ old)
    → All (IsPlaced given slaves) old → All (IsPlaced given slaves) new
own_more given left slaves place s old new true at same added before =
    let own : IsOwn given place s added.0 =
    subst (λ g. MatchOption g (IsEepromOf place s added.0) (λ one. added.0 ≡ one.eeprom)) same added.1 in
    let one : PlacedEeprom = record { place = place; eeprom = added.0 } in
    let placed : IsPlaced given slaves one =
    subst (λ (o : Option SlaveRecord). IfSome o (λ t. IsOwn given place t added.0)) (sym at) own in
    All-same (IsPlaced given slaves) new (old ++ one ∷ []) added.2
    (All-push (IsPlaced given slaves) old one before placed)
own_more given left slaves place s old new false at same added before =
    All-same (IsPlaced given slaves) new old added before

-- and their places are those of the devices
places_more : (left : List PlacedEeprom) (place : ℕ) (s : SlaveRecord) (rest : List ℕ)
    (old new : List PlacedEeprom) (b : Bool)
    → MatchBool b ((eeprom : List ℕ) × IsOwn left place s eeprom
    × (new ≡ old ++ record { place = place; eeprom = eeprom } ∷ [])) (new ≡ old)
    → map (λ one. one.place) new ++ rest ≡ map (λ one. one.place) old ++ (cond b (place ∷ []) [] ++ rest)
places_more left place s rest old new true added =
    let one : PlacedEeprom = record { place = place; eeprom = added.0 } in
    ap (λ (all : List PlacedEeprom). map (λ o. o.place) all ++ rest) added.2
    ∙ ap (λ (all : List ℕ). all ++ rest) (map-append (λ (o : PlacedEeprom). o.place) old (one ∷ []))
    ∙ append_assoc (map (λ o. o.place) old) (place ∷ []) rest
places_more left place s rest old new false added =
    ap (λ (all : List PlacedEeprom). map (λ o. o.place) all ++ rest) added

pub devices_more : (left : List PlacedEeprom) (described : List SceneSlave) (place : ℕ) (x : SceneSlave)
    (old new : List PlacedEeprom) (all : List ℕ) → place < length described → x ≡ get_or described place x
    → MatchBool (is_device (slave_record x).kind)
    ((eeprom : List ℕ) × IsOwn left place (slave_record x) eeprom
    × (new ≡ old ++ record { place = place; eeprom = eeprom } ∷ [])) (new ≡ old)
    → map (λ one. one.place) old ++ devices_from place (map slave_record (drop place described)) ≡ all
    → map (λ one. one.place) new ++ devices_from (place + 1) (map slave_record (drop (place + 1) described))
    ≡ all
devices_more left described place x old new all inside is added before =
    let behind : List SceneSlave = drop (place + 1) described in
    let next : drop place described ≡ x ∷ behind =
    drop_more described place x inside ∙ ap (λ (y : SceneSlave). y ∷ behind) (sym is) in
    places_more left place (slave_record x) (devices_from (place + 1) (map slave_record behind)) old new
    (is_device (slave_record x).kind) added
    ∙ sym (ap (λ (ds : List SceneSlave). map (λ (o : PlacedEeprom). o.place) old
    ++ devices_from place (map slave_record ds)) next)
    ∙ before
