-- Controllers that are alike: what a pass leaves is alike, and alike lines are fit, apart and count the same.
use Rattle.std.proofs.Common.{◌≡◌, ℕ, zero, suc, List, [], ◌∷◌, ◌++◌, take, drop, length, map}
use Rattle.std.proofs.Common.{Option, sym, subst, ◌∙◌, ap, refl, arith}
use Rattle.std.specs.List.{AllByRecursion, sum_by}
use Rattle.std.proofs.lemmas.List.{take-append-drop}
use Rattle.std.proofs.lemmas.List.Sums.{sum_by-cons}
use Rattle.ec_regs.proofs.Laws.{each-map}
use Rattle.ec_regs.specs.declared.sync_man.SyncMan.{SyncMan}
use Rattle.ec_wire.specs.Datagram.{DatagramRecord}
use Rattle.ec_esc.specs.State.{ControllerState, IsController}
use Rattle.ec_esc.specs.Pass.{pass, frame_pass}
use Rattle.ec_esc.specs.Writing.{is_shown_anew}
use Rattle.ec_line.specs.Accepted.{Accepts, AcceptsAll}
use Rattle.ec_line.specs.After.{Entry, after}
use Rattle.ec_line.specs.Answered.{AnsweredFrame}
use Rattle.ec_line.specs.Claims.{gain}
use Rattle.ec_line.specs.Fit.{IsFitAlone, AreApart, AllApart, IsFitLine}
use Rattle.ec_line.specs.Mapping.{without_status, mapping_of, mapping}
use Rattle.ec_line.specs.Moving.{IsAlike, AllAlike, HasMoved}
use Rattle.ec_line.specs.Request.{Request, OnWay}
use Rattle.ec_line.specs.Steady.{SameSteady}
use Rattle.ec_line.specs.Trip.{line_pass, front_pass, back_pass}
use Rattle.ec_line.proofs.AcceptedLemmas.{after_pass}
use Rattle.ec_line.proofs.SteadyLemmas.{managers_last, fmmus_last, station_lasts, taken_lasts, gain_lasts, reads_last, writes_last}
use Rattle.ec_line.proofs.SteadyLemmas.{fit_lasts, accepts_lasts, after_steady, after_controller}
use Rattle.ec_line.proofs.StepLemmas.{step}

-- ---- alike

pub alike-refl : (x : ControllerState) → IsAlike x x
alike-refl x = record {
  mapping = refl;
  fit = λ fit. fit;
  station = refl;
  reads = λ l p pair. pair;
  writes = λ l p pair. pair;
  accepts = λ r accepts. accepts;
  gains = λ r accepts. refl;
  takes = λ r accepts. refl;
  shows = λ f a. refl;
}

pub alike-trans : (x y z : ControllerState) → IsAlike x y → IsAlike y z → IsAlike x z
alike-trans x y z one two = record {
  mapping = two.mapping ∙ one.mapping;
  fit = λ fit. two.fit (one.fit fit);
  station = two.station ∙ one.station;
  reads = λ l p pair. one.reads l p (two.reads l p pair);
  writes = λ l p pair. one.writes l p (two.writes l p pair);
  accepts = λ r accepts. two.accepts r (one.accepts r accepts);
  gains = λ r accepts. two.gains r (one.accepts r accepts) ∙ one.gains r accepts;
  takes = λ r accepts. two.takes r (one.accepts r accepts) ∙ one.takes r accepts;
  shows = λ f a. two.shows f a ∙ one.shows f a;
}

-- the same steady bytes have one mapping
pub mapping_steady : (x y : ControllerState) → IsController x → SameSteady x y → mapping_of y ≡ mapping_of x
unfolding mapping_of
mapping_steady x y was same =
    let station = station_lasts x y was same in
    let fmmus = fmmus_last x y was same in
    let managers = managers_last x y was same in
    (λ i. record {
      station = station i;
      fmmus = fmmus i;
      sync_managers = map without_status (managers i);
    })

-- and make controllers alike
pub alike_steady : (x y : ControllerState) → IsController x → IsController y → SameSteady x y → IsAlike x y
alike_steady x y was controller same = record {
  mapping = mapping_steady x y was same;
  fit = λ fit. fit_lasts x y fit controller same;
  station = station_lasts x y was same;
  reads = λ l p pair. reads_last x y l p was same pair;
  writes = λ l p pair. writes_last x y l p was same pair;
  accepts = λ r accepts. accepts_lasts r x y was same accepts;
  gains = λ r accepts. gain_lasts r x y was same;
  takes = λ r accepts. taken_lasts r x y was same;
  shows = λ f a. ap (λ (ms : List SyncMan). is_shown_anew f ms ms a) (managers_last x y was same);
}

-- an application that does nothing
pub moved-refl : (x : ControllerState) → HasMoved x x
moved-refl x = record { alike = alike-refl x; shown = refl; kept = λ r p i accepts takes. refl }

-- and one that moves twice has moved
pub moved-trans : (x y z : ControllerState) → HasMoved x y → HasMoved y z → HasMoved x z
moved-trans x y z one two = record {
  alike = alike-trans x y z one.alike two.alike;
  shown = two.shown ∙ one.shown;
  kept = λ r p i accepts takes.
      two.kept r p i (one.alike.accepts r accepts)
      (ap (λ (f : ℕ → Option ℕ). f p) (one.alike.takes r accepts) ∙ takes)
      ∙ one.kept r p i accepts takes;
}

-- ---- what a pass leaves

-- each datagram of a frame is one of its entry's request, on its way
unfoldable pub AllOnWay : List Entry → List DatagramRecord → Type 0
AllOnWay [] [] = Unit {0}
AllOnWay (e ∷ es) (d ∷ ds) = OnWay e.request d × AllOnWay es ds
AllOnWay _ _ = ⊥

pub on_way_answered : (es : List Entry) (xs : List ControllerState) (ds : List DatagramRecord)
    → AnsweredFrame es xs ds → AllOnWay es ds
unfolding AllOnWay
on_way_answered [] xs [] answered = tt
on_way_answered [] xs (d ∷ ds) answered = absurd answered
on_way_answered (e ∷ es) xs [] answered = absurd answered
on_way_answered (e ∷ es) xs (d ∷ ds) answered = (answered.0.way, on_way_answered es xs ds answered.1)

-- behind a controller each is still
on_way_passed : (es : List Entry) (c : ControllerState) (ds : List DatagramRecord) → AllOnWay es ds
    → AllOnWay es (frame_pass c ds).frame
unfolding AllOnWay frame_pass
on_way_passed [] c [] way = tt
on_way_passed [] c (d ∷ ds) way = absurd way
on_way_passed (e ∷ es) c [] way = absurd way
on_way_passed (e ∷ es) c (d ∷ ds) way =
    ((step e.request c d way.0).way, on_way_passed es (pass c d).state ds way.1)

-- an alike controller accepts the same entries
pub all_accepted : (es : List Entry) (x y : ControllerState) → IsAlike x y → AcceptsAll es x → AcceptsAll es y
all_accepted es x y alike all =
    each-map (λ e. Accepts e.request x) (λ e. Accepts e.request y) es (λ e one. alike.accepts e.request one) all

-- a controller that a frame passes is left alike, whatever data came
pub alike_frame : (es : List Entry) (c : ControllerState) (ds : List DatagramRecord) → IsController c
    → AcceptsAll es c → AllOnWay es ds → IsController (frame_pass c ds).state × IsAlike c (frame_pass c ds).state
unfolding AllOnWay frame_pass
alike_frame [] c [] controller accepts way = (controller, alike-refl c)
alike_frame [] c (d ∷ ds) controller accepts way = absurd way
alike_frame (e ∷ es) c [] controller accepts way = absurd way
alike_frame (e ∷ es) c (d ∷ ds) controller accepts way =
    let r = e.request in
    let next : ControllerState = (pass c d).state in
    let left : next ≡ after r d.payload c = after_pass r c d controller accepts.0 way.0 in
    let after_is : IsController (after r d.payload c) = after_controller r d.payload c controller in
    let first : IsAlike c next =
    subst (λ (z : ControllerState). IsAlike c z) (sym left)
    (alike_steady c (after r d.payload c) controller after_is
    (after_steady r d.payload c controller accepts.0)) in
    let rest = alike_frame es next ds (subst IsController (sym left) after_is)
    (all_accepted es c next first accepts.1) way.1 in
    (rest.0, alike-trans c next (frame_pass next ds).state first rest.1)

-- ---- a slave that two copies pass

-- a controller that is left so is alike, if it is one that accepts the entries
pub record IsLeftAlike (es : List Entry) (x y : ControllerState) : Type 0 where
  pub left : IsFitAlone x → AcceptsAll es x → IsAlike x y

unfoldable pub AllLeftAlike : List Entry → List ControllerState → List ControllerState → Type 0
AllLeftAlike es [] [] = Unit {0}
AllLeftAlike es (x ∷ xs) (y ∷ ys) = IsLeftAlike es x y × AllLeftAlike es xs ys
AllLeftAlike es _ _ = ⊥

left-refl : (es : List Entry) (xs : List ControllerState) → AllLeftAlike es xs xs
unfolding AllLeftAlike
left-refl es [] = tt
left-refl es (x ∷ xs) = (record { left = λ fit accepts. alike-refl x }, left-refl es xs)

left-append : (es : List Entry) (xs ys zs ws : List ControllerState) → AllLeftAlike es xs ys
    → AllLeftAlike es zs ws → AllLeftAlike es (xs ++ zs) (ys ++ ws)
unfolding AllLeftAlike
left-append es [] [] zs ws front back = back
left-append es [] (y ∷ ys) zs ws front back = absurd front
left-append es (x ∷ xs) [] zs ws front back = absurd front
left-append es (x ∷ xs) (y ∷ ys) zs ws front back = (front.0, left-append es xs ys zs ws front.1 back)

-- a line behind a copy
left_line : (es : List Entry) (xs : List ControllerState) (ds : List DatagramRecord) → AllOnWay es ds
    → AllLeftAlike es xs (line_pass xs ds).line
unfolding AllLeftAlike line_pass
left_line es [] ds way = tt
left_line es (x ∷ xs) ds way = (
  record { left = λ fit accepts. (alike_frame es x ds fit.controller accepts way).1 },
  left_line es xs (frame_pass x ds).frame (on_way_passed es x ds way),
)

pub left_front : (es : List Entry) (n : ℕ) (xs : List ControllerState) (ds : List DatagramRecord)
    → AllOnWay es ds → AllLeftAlike es xs (front_pass n xs ds).line
left_front es n xs ds way =
    subst (λ (l : List ControllerState). AllLeftAlike es l (front_pass n xs ds).line) (take-append-drop n xs)
    (left-append es (take n xs) (line_pass (take n xs) ds).line (drop n xs) (drop n xs)
    (left_line es (take n xs) ds way) (left-refl es (drop n xs)))

pub left_back : (es : List Entry) (n : ℕ) (xs : List ControllerState) (ds : List DatagramRecord)
    → AllOnWay es ds → AllLeftAlike es xs (back_pass n xs ds).line
left_back es n xs ds way =
    subst (λ (l : List ControllerState). AllLeftAlike es l (back_pass n xs ds).line) (take-append-drop n xs)
    (left-append es (take n xs) (take n xs) (drop n xs) (line_pass (drop n xs) ds).line
    (left-refl es (take n xs)) (left_line es (drop n xs) ds way))

-- a slave moves, is passed, moves, is passed and moves: each of its states is alike to the first
pub record TwiceAlike (x p q r s z : ControllerState) : Type 0 where
  pub first : IsAlike x p
  pub first_left : IsAlike x q
  pub second : IsAlike x r
  pub second_left : IsAlike x s
  pub later : IsAlike x z

pub twice_alike : (es : List Entry) (x p q r s z : ControllerState) → IsFitAlone x → AcceptsAll es x
    → HasMoved x p × HasMoved q r × HasMoved s z → IsLeftAlike es p q → IsLeftAlike es r s
    → TwiceAlike x p q r s z
twice_alike es x p q r s z fit accepts moves one two =
    let first : IsAlike x p = moves.0.alike in
    let first_left : IsAlike x q =
    alike-trans x p q first (one.left (first.fit fit) (all_accepted es x p first accepts)) in
    let second : IsAlike x r = alike-trans x q r first_left moves.1.alike in
    let second_left : IsAlike x s =
    alike-trans x r s second (two.left (second.fit fit) (all_accepted es x r second accepts)) in
    record {
      first = first;
      first_left = first_left;
      second = second;
      second_left = second_left;
      later = alike-trans x s z second_left moves.2.alike;
    }

-- ---- alike lines

pub all_alike-refl : (xs : List ControllerState) → AllAlike xs xs
all_alike-refl [] = tt
all_alike-refl (x ∷ xs) = (alike-refl x, all_alike-refl xs)

pub alike-take : (n : ℕ) (xs ys : List ControllerState) → AllAlike xs ys → AllAlike (take n xs) (take n ys)
alike-take zero xs ys alike = tt
alike-take (suc n) [] [] alike = tt
alike-take (suc n) [] (y ∷ ys) alike = absurd alike
alike-take (suc n) (x ∷ xs) [] alike = absurd alike
alike-take (suc n) (x ∷ xs) (y ∷ ys) alike = (alike.0, alike-take n xs ys alike.1)

pub alike-drop : (n : ℕ) (xs ys : List ControllerState) → AllAlike xs ys → AllAlike (drop n xs) (drop n ys)
alike-drop zero xs ys alike = alike
alike-drop (suc n) [] [] alike = tt
alike-drop (suc n) [] (y ∷ ys) alike = absurd alike
alike-drop (suc n) (x ∷ xs) [] alike = absurd alike
alike-drop (suc n) (x ∷ xs) (y ∷ ys) alike = alike-drop n xs ys alike.1

pub alike-length : (xs ys : List ControllerState) → AllAlike xs ys → length ys ≡ length xs
alike-length [] [] alike = refl
alike-length [] (y ∷ ys) alike = absurd alike
alike-length (x ∷ xs) [] alike = absurd alike
alike-length (x ∷ xs) (y ∷ ys) alike = ap suc (alike-length xs ys alike.1)

-- alike lines have one mapping
pub mapping_alike : (xs ys : List ControllerState) → AllAlike xs ys → mapping ys ≡ mapping xs
mapping_alike [] [] alike = refl
mapping_alike [] (y ∷ ys) alike = absurd alike
mapping_alike (x ∷ xs) [] alike = absurd alike
mapping_alike (x ∷ xs) (y ∷ ys) alike = (λ i. alike.0.mapping i ∷ mapping_alike xs ys alike.1 i)

-- members that are apart stay so
apart_alike : (x y u v : ControllerState) → IsAlike x u → IsAlike y v → AreApart x y → AreApart u v
apart_alike x y u v one two apart = record {
  stations = λ same. apart.stations (sym one.station ∙ same ∙ two.station);
  both_read = λ l p q first second. apart.both_read l p q (one.reads l p first) (two.reads l q second);
  read_and_written = λ l p q first second.
      apart.read_and_written l p q (one.reads l p first) (two.writes l q second);
  written_and_read = λ l p q first second.
      apart.written_and_read l p q (one.writes l p first) (two.reads l q second);
}

one_apart : (x u : ControllerState) (ys vs : List ControllerState) → IsAlike x u → AllAlike ys vs
    → AllByRecursion (λ y. AreApart x y) ys → AllByRecursion (λ v. AreApart u v) vs
one_apart x u [] [] one alike apart = tt
one_apart x u [] (v ∷ vs) one alike apart = absurd alike
one_apart x u (y ∷ ys) [] one alike apart = absurd alike
one_apart x u (y ∷ ys) (v ∷ vs) one alike apart =
    (apart_alike x y u v one alike.0 apart.0, one_apart x u ys vs one alike.1 apart.1)

apart_line : (xs ys : List ControllerState) → AllAlike xs ys → AllApart xs → AllApart ys
apart_line [] [] alike apart = tt
apart_line [] (y ∷ ys) alike apart = absurd alike
apart_line (x ∷ xs) [] alike apart = absurd alike
apart_line (x ∷ xs) (y ∷ ys) alike apart =
    (one_apart x y xs ys alike.0 alike.1 apart.0, apart_line xs ys alike.1 apart.1)

alone_line : (xs ys : List ControllerState) → AllAlike xs ys → AllByRecursion IsFitAlone xs
    → AllByRecursion IsFitAlone ys
alone_line [] [] alike alone = tt
alone_line [] (y ∷ ys) alike alone = absurd alike
alone_line (x ∷ xs) [] alike alone = absurd alike
alone_line (x ∷ xs) (y ∷ ys) alike alone = (alike.0.fit alone.0, alone_line xs ys alike.1 alone.1)

-- a line that is alike to a fit one is fit
pub fit_line : (xs ys : List ControllerState) → AllAlike xs ys → IsFitLine xs → IsFitLine ys
fit_line xs ys alike fit =
    record { alone = alone_line xs ys alike fit.alone; apart = apart_line xs ys alike fit.apart }

-- and accepts the same
pub accepts_line : (es : List Entry) (xs ys : List ControllerState) → AllAlike xs ys
    → AllByRecursion (AcceptsAll es) xs → AllByRecursion (AcceptsAll es) ys
accepts_line es [] [] alike all = tt
accepts_line es [] (y ∷ ys) alike all = absurd alike
accepts_line es (x ∷ xs) [] alike all = absurd alike
accepts_line es (x ∷ xs) (y ∷ ys) alike all =
    (all_accepted es x y alike.0 all.0, accepts_line es xs ys alike.1 all.1)

-- and counts the same
pub sum_alike : (r : Request) (xs ys : List ControllerState) → AllAlike xs ys → AllByRecursion (Accepts r) xs
    → sum_by (gain r) ys ≡ sum_by (gain r) xs
sum_alike r [] [] alike all = refl
sum_alike r [] (y ∷ ys) alike all = absurd alike
sum_alike r (x ∷ xs) [] alike all = absurd alike
sum_alike r (x ∷ xs) (y ∷ ys) alike all =
    omega (
      arith,
      sum_by-cons (gain r) x xs,
      sum_by-cons (gain r) y ys,
      alike.0.gains r all.0,
      sum_alike r xs ys alike.1 all.1,
    )

pub all_alike-trans : (xs ys zs : List ControllerState) → AllAlike xs ys → AllAlike ys zs → AllAlike xs zs
all_alike-trans [] [] [] one two = tt
all_alike-trans [] [] (z ∷ zs) one two = absurd two
all_alike-trans [] (y ∷ ys) zs one two = absurd one
all_alike-trans (x ∷ xs) [] zs one two = absurd one
all_alike-trans (x ∷ xs) (y ∷ ys) [] one two = absurd two
all_alike-trans (x ∷ xs) (y ∷ ys) (z ∷ zs) one two =
    (alike-trans x y z one.0 two.0, all_alike-trans xs ys zs one.1 two.1)
