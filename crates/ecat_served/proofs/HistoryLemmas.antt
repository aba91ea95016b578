-- Histories: which moves and passages they come to, whatever quiet packets lie between.
use Rattle.std.specs.Prelude.{◌≡◌, ◌⊎◌, List, [], ◌∷◌, ◌++◌, None, Some}
use Rattle.std.proofs.Common.{sym, subst, inl, inr}
use Rattle.ec_esc.specs.State.{ControllerState}
use Rattle.ecat_served.specs.History.{AllHaveMoved, AreControllers, IsHistory, Packet, walk_of}
use Rattle.ecat_served.specs.Trips.{AreOfTrip, IsQuiet}
use Rattle.ecat_served.proofs.MovedLemmas.{all_moved-refl, all_moved-trans}

-- ---- histories end to end

-- slaves that move before a history move before its first packet
pub moved_before : (line next later : List ControllerState) (ps : List Packet) → AllHaveMoved line next
    → IsHistory next ps later → IsHistory line ps later
moved_before line next later [] moved is = all_moved-trans line next later moved is
moved_before line next later (p ∷ ps) moved is =
    (all_moved-trans line next p.met moved is.0, is.1, is.2)

pub joined_histories : (line between later : List ControllerState) (ps qs : List Packet)
    → IsHistory line ps between → IsHistory between qs later → IsHistory line (ps ++ qs) later
joined_histories line between later [] qs one two = moved_before line between later qs one two
joined_histories line between later (p ∷ ps) qs one two =
    (one.0, one.1, joined_histories (walk_of p).line between later ps qs one.2 two)

-- a history can be cut behind any packet
pub cut_history : (line later : List ControllerState) (ps qs : List Packet) → IsHistory line (ps ++ qs) later
    → (between : List ControllerState) × IsHistory line ps between × IsHistory between qs later
cut_history line later [] qs is = (line, all_moved-refl line, is)
cut_history line later (p ∷ ps) qs is =
    let rest = cut_history (walk_of p).line later ps qs is.2 in (rest.0, (is.0, is.1, rest.1), rest.2)

-- a packet that leaves the line as it was is quiet
pub unmoved_quiet : (p : Packet) → (walk_of p).line ≡ p.met → IsQuiet p
unmoved_quiet p same =
    subst (λ (l : List ControllerState). AllHaveMoved p.met l) (sym same) (all_moved-refl p.met)

-- ---- what the packets of a trip come to

-- one packet passed
pub record Passes (line : List ControllerState) (p : Packet) (later : List ControllerState) : Type 0 where
  pub before : AllHaveMoved line p.met
  pub controllers : AreControllers p.met
  pub behind : AllHaveMoved (walk_of p).line later

-- two packets passed, one after the other
pub record PassBoth (line : List ControllerState) (p q : Packet) (later : List ControllerState) : Type 0 where
  pub before : AllHaveMoved line p.met
  pub controllers : AreControllers p.met
  pub rest : Passes (walk_of p).line q later

-- what moved at first moved before the packets
sooner : (line next later : List ControllerState) (p : Packet) → AllHaveMoved line next → Passes next p later
    → Passes line p later
sooner line next later p moved is = record {
  before = all_moved-trans line next p.met moved is.before;
  controllers = is.controllers;
  behind = is.behind;
}

both_sooner : (line next later : List ControllerState) (p q : Packet) → AllHaveMoved line next
    → PassBoth next p q later → PassBoth line p q later
both_sooner line next later p q moved is = record {
  before = all_moved-trans line next p.met moved is.before;
  controllers = is.controllers;
  rest = is.rest;
}

none_is : {P : Type 0} (p : Packet) → None ≡ Some p → P
none_is p is = absurd (let no : None ≡ Some p = is in cc)

some_is : (p q : Packet) → Some q ≡ Some p → p ≡ q
some_is p q is = cc

-- no copy came
pub no_copy : (line later : List ControllerState) (ps : List Packet) → IsHistory line ps later
    → AreOfTrip None None ps → AllHaveMoved line later
no_copy line later [] is are = is
no_copy line later (p ∷ ps) is (inl quiet) =
    all_moved-trans line p.met later is.0
    (all_moved-trans p.met (walk_of p).line later quiet.0 (no_copy (walk_of p).line later ps is.2 quiet.1))
no_copy line later (p ∷ ps) is (inr (inl a)) = none_is p a.0
no_copy line later (p ∷ ps) is (inr (inr b)) = none_is p b.0

-- copy A came alone
pub copy_a_alone : (line later : List ControllerState) (a : Packet) (ps : List Packet)
    → IsHistory line ps later → AreOfTrip (Some a) None ps → Passes line a later
copy_a_alone line later a [] is are = none_is a (sym are.0)
copy_a_alone line later a (p ∷ ps) is (inl quiet) =
    sooner line (walk_of p).line later a (all_moved-trans line p.met (walk_of p).line is.0 quiet.0)
    (copy_a_alone (walk_of p).line later a ps is.2 quiet.1)
copy_a_alone line later a (p ∷ ps) is (inr (inl here)) =
    subst (λ (q : Packet). Passes line q later) (some_is p a here.0)
    (record {
      before = is.0;
      controllers = is.1;
      behind = no_copy (walk_of p).line later ps is.2 here.1;
    })
copy_a_alone line later a (p ∷ ps) is (inr (inr b)) = none_is p b.0

-- copy B came alone
pub copy_b_alone : (line later : List ControllerState) (b : Packet) (ps : List Packet)
    → IsHistory line ps later → AreOfTrip None (Some b) ps → Passes line b later
copy_b_alone line later b [] is are = none_is b (sym are.1)
copy_b_alone line later b (p ∷ ps) is (inl quiet) =
    sooner line (walk_of p).line later b (all_moved-trans line p.met (walk_of p).line is.0 quiet.0)
    (copy_b_alone (walk_of p).line later b ps is.2 quiet.1)
copy_b_alone line later b (p ∷ ps) is (inr (inl a)) = none_is p a.0
copy_b_alone line later b (p ∷ ps) is (inr (inr here)) =
    subst (λ (q : Packet). Passes line q later) (some_is p b here.0)
    (record {
      before = is.0;
      controllers = is.1;
      behind = no_copy (walk_of p).line later ps is.2 here.1;
    })

-- both came, in either order
pub both_came : (line later : List ControllerState) (a b : Packet) (ps : List Packet)
    → IsHistory line ps later → AreOfTrip (Some a) (Some b) ps
    → PassBoth line a b later ⊎ PassBoth line b a later
both_came line later a b [] is are = none_is a (sym are.0)
both_came line later a b (p ∷ ps) is (inl quiet) =
    let next : List ControllerState = (walk_of p).line in
    let moved : AllHaveMoved line next = all_moved-trans line p.met next is.0 quiet.0 in
    elim (both_came next later a b ps is.2 quiet.1) [
      | inl both ↦ inl (both_sooner line next later a b moved both)
      | inr both ↦ inr (both_sooner line next later b a moved both)
    ]
both_came line later a b (p ∷ ps) is (inr (inl here)) =
    inl (subst (λ (q : Packet). PassBoth line q b later) (some_is p a here.0)
    (record {
      before = is.0;
      controllers = is.1;
      rest = copy_b_alone (walk_of p).line later b ps is.2 here.1;
    }))
both_came line later a b (p ∷ ps) is (inr (inr here)) =
    inr (subst (λ (q : Packet). PassBoth line q a later) (some_is p b here.0)
    (record {
      before = is.0;
      controllers = is.1;
      rest = copy_a_alone (walk_of p).line later a ps is.2 here.1;
    }))
